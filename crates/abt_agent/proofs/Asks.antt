-- Who is asked for a link.
use Rattle.std.proofs.Common.{◌≡◌, ℕ, ◌+◌, ◌<◌, Bool, true, false, cond, not, ◌&&◌, ◌||◌, ◌==◌, List, [], ◌∷◌, ◌++◌, filter, take, get_or, length, nat_lt, refl, sym, ap, ◌∙◌, arith}
use Rattle.std.specs.List.{list_any}
use Rattle.std.proofs.Math.Bool.{and_comm}
use Rattle.std.proofs.lemmas.Bool.{and_from, and_parts, both_ways, lt-ltb, ltb-true}
use Rattle.std.proofs.lemmas.List.{map-append, take_more}
use Rattle.std.proofs.lemmas.List.Elements.{filter-append}
use Rattle.dcsp_defs.specs.declared.nogood.Pair.{Pair}
use Rattle.dcsp_defs.specs.Pairs.{IsRising as PairsRise}
use Rattle.dcsp_defs.specs.Words.{In, below}
use Rattle.dcsp_defs.specs.Csp.{names}
use Rattle.abt_defs.specs.Agents.{is_among, AddLink}
use Rattle.abt_defs.specs.Steps.{is_named, to_each}
use Rattle.abt_marks.specs.Links.{is_unlinked}
use Rattle.abt_agent.specs.Asks.{unlinked_names}
use Rattle.abt_marks.specs.Marks.{has_mark}
use Rattle.abt_agent.proofs.Causes.{any-map}
use Rattle.abt_agent.proofs.Proper.{names_rise}
use Rattle.abt_parts.proofs.Members.{list_any-In, among_In, among-filter, In-filtered}
use Rattle.abt_parts.proofs.Insertion.{part_rises}
use Rattle.abt_agent.proofs.Rising.{filter_is}

-- those that the pairs name are the agents that the definitions ask
pub asked_is : (linked : List Bool) (me : ℕ) (pairs : List Pair) → length linked ≡ me → PairsRise pairs
    → filter (λ k. is_named k pairs && not (has_mark linked k)) (below me) ≡ unlinked_names linked pairs
asked_is linked me pairs size up =
    filter_is (λ k. is_named k pairs && not (has_mark linked k)) (unlinked_names linked pairs) me (part_rises (is_unlinked linked) (names pairs) (names_rise pairs up)) inside same
  where
    inside : (v : ℕ) → In v (unlinked_names linked pairs) → v < me
    inside v i =
        let unlinked = (In-filtered (is_unlinked linked) v (names pairs) i).0 in
        let less = ltb-true v (length linked) (and_parts (nat_lt v (length linked)) (not (has_mark linked v)) unlinked).0 in
        omega arith

    same : (v : ℕ) → v < me → (is_named v pairs && not (has_mark linked v)) ≡ is_among v (unlinked_names linked pairs)
    same v l =
        let low : nat_lt v (length linked) ≡ true = lt-ltb v (length linked) (omega arith) in
        and_comm (is_named v pairs) (not (has_mark linked v))
        ∙ ap (λ b. (b && not (has_mark linked v)) && is_named v pairs) (sym low)
        ∙ ap (λ b. is_unlinked linked v && b) (sym (any-map (λ x. v == x) (λ (y : Pair). y.var) pairs))
        ∙ sym (among-filter (is_unlinked linked) v (names pairs))

one_asked : (linked : List Bool) (y : Pair) → to_each AddLink (unlinked_names linked (y ∷ [])) ≡ cond (is_unlinked linked y.var) ((y.var, AddLink) ∷ []) []
one_asked linked y = by_test (is_unlinked linked y.var)
  where
    by_test : (b : Bool) → to_each AddLink (cond b (y.var ∷ []) []) ≡ cond b ((y.var, AddLink) ∷ []) []
    by_test true = refl
    by_test false = refl

-- one pair more
pub asked_more : (linked : List Bool) (pairs : List Pair) (k : ℕ) (d : Pair) → k < length pairs
    → to_each AddLink (unlinked_names linked (take (k + 1) pairs)) ≡ to_each AddLink (unlinked_names linked (take k pairs)) ++ cond (is_unlinked linked (get_or pairs k d).var) (((get_or pairs k d).var, AddLink) ∷ []) []
asked_more linked pairs k d within =
    let y = get_or pairs k d in
    ap (λ z. to_each AddLink (unlinked_names linked z)) (take_more pairs k d within)
    ∙ ap (λ z. to_each AddLink (filter (is_unlinked linked) z)) (map-append (λ (z : Pair). z.var) (take k pairs) (y ∷ []))
    ∙ ap (to_each AddLink) (filter-append (is_unlinked linked) (names (take k pairs)) (names (y ∷ [])))
    ∙ map-append (λ (j : ℕ). (j, AddLink)) (unlinked_names linked (take k pairs)) (unlinked_names linked (y ∷ []))
    ∙ ap (λ z. to_each AddLink (unlinked_names linked (take k pairs)) ++ z) (one_asked linked y)

-- where none that the pairs name is unlinked, none is asked
pub none_asked : (linked : List Bool) (ks : List ℕ) → list_any (is_unlinked linked) ks ≡ false → filter (is_unlinked linked) ks ≡ []
none_asked linked [] e = refl
none_asked linked (k ∷ ks) e = by_test (is_unlinked linked k) e (none_asked linked ks)
  where
    by_test : (b : Bool) → (b || list_any (is_unlinked linked) ks) ≡ false → (list_any (is_unlinked linked) ks ≡ false → filter (is_unlinked linked) ks ≡ []) → cond b (k ∷ filter (is_unlinked linked) ks) (filter (is_unlinked linked) ks) ≡ []
    by_test true clash later = absurd cc
    by_test false rest later = later rest

-- and none is marked anew
pub none_marked : (linked : List Bool) (me : ℕ) (pairs : List Pair) → length linked ≡ me → list_any (is_unlinked linked) (names pairs) ≡ false
    → (k : ℕ) → has_mark linked k ≡ (has_mark linked k || (nat_lt k me && is_named k pairs))
none_marked linked me pairs size none k = by_tests (has_mark linked k) (nat_lt k me) (is_named k pairs) (λ marked low named.
    let there = among_In k (names pairs) (any-map (λ x. k == x) (λ (y : Pair). y.var) pairs ∙ named) in
    let low_here : nat_lt k (length linked) ≡ true = ap (nat_lt k) size ∙ low in
    let unlinked = and_from (nat_lt k (length linked)) (not (has_mark linked k)) low_here (ap not marked) in
    both_ways (list_any (is_unlinked linked) (names pairs)) none (list_any-In (is_unlinked linked) k (names pairs) there unlinked))
  where
    by_tests : (marked low named : Bool) → (marked ≡ false → low ≡ true → named ≡ true → ⊥) → marked ≡ (marked || (low && named))
    by_tests true low named h = refl
    by_tests false false named h = refl
    by_tests false true false h = refl
    by_tests false true true h = absurd (h refl refl refl)
