-- What agents are told of others are values of the domains.
use Rattle.std.proofs.Common.{◌≡◌, ◌∙◌, ℕ, zero, suc, ◌%◌, ◌≤◌, Bool, true, false, not, cond, inl, inr, List, [], ◌∷◌, ◌++◌, length, map, filter, slice_get, Option, Some, None, ℤ, refl, sym, ap, subst, arith}
use Rattle.std.specs.Prelude.{◌==◌, flat_map, if◌then◌else◌}
use Rattle.std.specs.List.{list_any}
use Rattle.std.specs.Ordering.{int_eq}
use Rattle.std.proofs.lemmas.Bool.Decides.{eqb_tells, Decides-eqb, Decides-int_eq}
use Rattle.std.proofs.lemmas.List.{map-append}
use Rattle.dcsp_defs.specs.declared.nogood.Pair.{Pair}
use Rattle.dcsp_defs.specs.Words.{In, below}
use Rattle.dcsp_defs.specs.Csp.{Csp, IsCsp, count, domain}
use Rattle.dcsp_defs.specs.Derivation.{IsKnownPair}
use Rattle.dcsp_defs.proofs.Lists.{filter-from, list_any-In, and_both, and_left, and_right, In-split}
use Rattle.abt_defs.specs.Agents.{Message, Tell, Refuse, AddLink}
use Rattle.abt_defs.specs.Network.{Network, deliver, ready, run, start}
use Rattle.abt_defs.specs.Events.{Act, acts, acts_at, choice_acts, head_acts, later_acts, start_acts}
use Rattle.abt_defs.specs.Measures.{acts_by, told, told_by, told_in, is_pair, once, learned_pairs, learned}
use Rattle.law_agent.proofs.Facts.{Fine}
use Rattle.law_agent.proofs.Sounds.{sounds}
use Rattle.law_runs.specs.Starts.{first_act, settled_in}
use Rattle.law_runs.proofs.ActsGoing.{run-more}
use Rattle.law_runs.proofs.Starting.{starts_in_order}
use Rattle.law_subjects.specs.Learning.{LearnedFew}

-- ---- different values of a list are no more than the list

abbrev AreDifferent : List ℤ → Type 0
AreDifferent [] = Unit {0}
AreDifferent (x ∷ xs) = (In x xs → ⊥) × AreDifferent xs

-- a list without one of its values, and one shorter
record Without (x : ℤ) (ys : List ℤ) : Type 0 where
  left : List ℤ
  shorter : length ys ≡ suc (length left)
  others : (z : ℤ) → In z ys → (z ≡ x → ⊥) → In z left

without : (x : ℤ) (ys : List ℤ) → In x ys → Without x ys
without x [] i = absurd i
without x (y ∷ ys) (inl same) = record { left = ys; shorter = refl; others = λ z j other. elim j [ inl is ↦ absurd (other (is ∙ sym same)) | inr there ↦ there ] }
without x (y ∷ ys) (inr i) =
    let rest = without x ys i in
    record {
      left = y ∷ rest.left;
      shorter = ap suc rest.shorter;
      others = λ z j other. elim j [ inl is ↦ inl is | inr there ↦ inr (rest.others z there other) ];
    }

different_fit : (xs ys : List ℤ) → AreDifferent xs → ((x : ℤ) → In x xs → In x ys) → length xs ≤ length ys
different_fit [] ys d inside = omega arith
different_fit (x ∷ xs) ys d inside =
    let rest = without x ys (inside x (inl refl)) in
    let fits = different_fit xs rest.left d.1 (λ z i. rest.others z (inside z (inr i)) (λ same. d.0 (subst (λ (w : ℤ). In w xs) same i))) in
    let shorter = rest.shorter in
    omega (arith, fits, shorter)

-- ---- each pair once

same_pair : (x y : Pair) → is_pair x y ≡ true → (x.var ≡ y.var) × (x.value ≡ y.value)
same_pair x y e = ((Decides-eqb x.var y.var).0 (and_left (x.var == y.var) (int_eq x.value y.value) e), (Decides-int_eq x.value y.value).0 (and_right (x.var == y.var) (int_eq x.value y.value) e))

is_same_pair : (x y : Pair) → x.var ≡ y.var → x.value ≡ y.value → is_pair x y ≡ true
is_same_pair x y e f = and_both (x.var == y.var) (int_eq x.value y.value) ((Decides-eqb x.var y.var).1 e) ((Decides-int_eq x.value y.value).1 f)

-- the values that the pairs give one variable
abbrev values_of : ℕ → List Pair → List ℤ
values_of k pairs = map (λ (y : Pair). y.value) (filter (λ (y : Pair). y.var == k) pairs)

-- a value of the variable is in one of the pairs
value_from : (k : ℕ) (pairs : List Pair) (v : ℤ) → In v (values_of k pairs) → (y : Pair) × In y pairs × (y.var ≡ k) × (y.value ≡ v)
value_from k [] v i = absurd i
value_from k (y ∷ pairs) v i = elim (eqb_tells y.var k) [
  | inl t ↦
      let here : values_of k (y ∷ pairs) ≡ y.value ∷ values_of k pairs = ap (λ (b : Bool). map (λ (z : Pair). z.value) (cond b (y ∷ filter (λ (z : Pair). z.var == k) pairs) (filter (λ (z : Pair). z.var == k) pairs))) t.0 in
      elim (subst (λ (z : List ℤ). In v z) here i) [
        | inl same ↦ (y, inl refl, t.1, sym same)
        | inr there ↦ let r = value_from k pairs v there in (r.0, inr r.1, r.2, r.3)
      ]
  | inr t ↦
      let gone : values_of k (y ∷ pairs) ≡ values_of k pairs = ap (λ (b : Bool). map (λ (z : Pair). z.value) (cond b (y ∷ filter (λ (z : Pair). z.var == k) pairs) (filter (λ (z : Pair). z.var == k) pairs))) t.0 in
      let r = value_from k pairs v (subst (λ (z : List ℤ). In v z) gone i) in (r.0, inr r.1, r.2, r.3)
]

values_join : (k : ℕ) (xs ys : List Pair) → values_of k (xs ++ ys) ≡ values_of k xs ++ values_of k ys
values_join k [] ys = refl
values_join k (x ∷ xs) ys = elim (eqb_tells x.var k) [
  | inl t ↦ rw t.0 (ap (λ z. x.value ∷ z) (values_join k xs ys))
  | inr t ↦ rw t.0 (values_join k xs ys)
]

different_join : (xs : List ℤ) (v : ℤ) → AreDifferent xs → (In v xs → ⊥) → AreDifferent (xs ++ v ∷ [])
different_join [] v d new = (λ i. i, tt)
different_join (x ∷ xs) v d new = (
  λ i. elim (In-split x xs (v ∷ []) i) [ inl there ↦ d.0 there | inr last ↦ elim last [ inl same ↦ new (inl (sym same)) | inr none ↦ none ] ],
  different_join xs v d.1 (λ i. new (inr i)),
)

-- what holds of the pairs so far: each is known, and no value of a variable comes twice
record Fits (p : Csp) (pairs : List Pair) : Type 0 where
  known : (y : Pair) → In y pairs → IsKnownPair p y
  different : (k : ℕ) → AreDifferent (values_of k pairs)

one_more : (p : Csp) (pairs : List Pair) (x : Pair) → Fits p pairs → IsKnownPair p x → list_any (is_pair x) pairs ≡ false → Fits p (pairs ++ x ∷ [])
one_more p pairs x h known new = record {
  known = λ y i. elim (In-split y pairs (x ∷ []) i) [ inl there ↦ h.known y there | inr last ↦ elim last [ inl same ↦ subst (IsKnownPair p) (sym same) known | inr none ↦ absurd none ] ];
  different = λ k. elim (eqb_tells x.var k) [
    | inl t ↦
        let added : values_of k (x ∷ []) ≡ x.value ∷ [] = rw t.0 refl in
        let absent : In x.value (values_of k pairs) → ⊥ = λ i.
        let r = value_from k pairs x.value i in
        let yes : false ≡ true = sym new ∙ list_any-In (is_pair x) r.0 pairs r.1 (is_same_pair x r.0 (t.1 ∙ sym r.2) (sym r.3)) in cc
        in
        subst AreDifferent (sym (values_join k pairs (x ∷ []) ∙ ap (λ z. values_of k pairs ++ z) added)) (different_join (values_of k pairs) x.value (h.different k) absent)
    | inr t ↦
        let none : values_of k (x ∷ []) ≡ [] = rw t.0 refl in
        subst AreDifferent (sym (values_join k pairs (x ∷ []) ∙ ap (λ z. values_of k pairs ++ z) none ∙ nothing (values_of k pairs))) (h.different k)
  ];
}
  where
    nothing : (zs : List ℤ) → zs ++ [] ≡ zs
    nothing [] = refl
    nothing (z ∷ zs) = ap (λ w. z ∷ w) (nothing zs)

once_fits : (p : Csp) (pairs came : List Pair) → Fits p pairs → ((y : Pair) → In y came → IsKnownPair p y) → Fits p (once pairs came)
once_fits p pairs [] h known = h
once_fits p pairs (x ∷ came) h known = by_test (list_any (is_pair x) pairs) refl (once_fits p pairs came h (λ y i. known y (inr i))) (λ new. once_fits p (pairs ++ x ∷ []) came (one_more p pairs x h (known x (inl refl)) new) (λ y i. known y (inr i)))
  where
    by_test : (b : Bool) → list_any (is_pair x) pairs ≡ b → Fits p (once pairs came) → (list_any (is_pair x) pairs ≡ false → Fits p (once (pairs ++ x ∷ []) came)) → Fits p (once (if list_any (is_pair x) pairs then pairs else pairs ++ x ∷ []) came)
    by_test true e old new = rw e old
    by_test false e old new = rw e (new e)

-- ---- what comes in a run

module _ (p : Csp) where
  -- what came in this act tells values of the domains
  abbrev TellsKnown : Act → Type 0
  TellsKnown a = (y : Pair) → In y (told_in a.came) → IsKnownPair p y

  abbrev AllTell : List Act → Type 0
  AllTell xs = (a : Act) → In a xs → TellsKnown a

  tells_fine : (k j : ℕ) (m : Message) → Fine p k j m → (y : Pair) → In y (told_by k m) → IsKnownPair p y
  tells_fine k j (Tell s) fine y (inl same) = subst (IsKnownPair p) (sym same) (record { variable = fine.0; value = fine.1 })
  tells_fine k j (Tell s) fine y (inr none) = absurd none
  tells_fine k j (Refuse step pairs) fine y i = fine.in_domains y i
  tells_fine k j AddLink fine y i = absurd i

  tells_start : AllTell (start_acts p)
  tells_start a i =
      let s = starts_in_order p in
      none (settled_in (count p) (start p).steps) (subst (λ (z : List Act). In a z) s.acts i)
    where
      none : (n : ℕ) → In a (map (first_act p) (below n)) → TellsKnown a
      none zero i = absurd i
      none (suc n) i = elim (In-split a (map (first_act p) (below n)) (first_act p n ∷ []) (subst (λ (z : List Act). In a z) (map-append (first_act p) (below n) (n ∷ [])) i)) [
        | inl before ↦ none n before
        | inr last ↦ elim last [ inl same ↦ λ y j. absurd (subst (λ (z : Act). In y (told_in z.came)) same j) | inr nothing ↦ absurd nothing ]
      ]

  module _ (ok : IsCsp p) where
    tells_later : (cs pre : List ℕ) → AllTell (later_acts p cs (run p pre (start p)))
    tells_later [] pre = λ a i. absurd i
    tells_later (c ∷ cs) pre = by_test (tells_later cs (pre ++ c ∷ [])) (run p pre (start p)).refuted refl
      where
        net : Network
        net = run p pre (start p)

        here : net.refuted ≡ false → AllTell (choice_acts p c net)
        here alive = by_pair (slice_get (ready p net) (c % length (ready p net)))
          where
            by_list : (x : ℕ × ℕ) (ms : List Message) → net.links x.0 x.1 ≡ ms → AllTell (head_acts p x.0 x.1 ms net)
            by_list x [] e a i = absurd i
            by_list x (m ∷ rest) e a (inl same) = λ y j.
                tells_fine x.0 x.1 m (((sounds p ok pre).kept alive).fine x.0 x.1 m (subst (λ (z : List Message). In m z) (sym e) (inl refl))) y
                (subst (λ (z : Act). In y (told_in z.came)) same j)
            by_list x (m ∷ rest) e a (inr none) = absurd none

            by_pair : (o : Option (ℕ × ℕ)) → AllTell (acts_at p o net)
            by_pair None = λ a i. absurd i
            by_pair (Some x) = by_list x (net.links x.0 x.1) refl

        by_test : AllTell (later_acts p cs (run p (pre ++ c ∷ []) (start p))) → (b : Bool) → net.refuted ≡ b → AllTell (cond b [] (choice_acts p c net ++ later_acts p cs (deliver p c net)))
        by_test rest true e = λ a i. absurd i
        by_test rest false e = λ a i. elim (In-split a (choice_acts p c net) (later_acts p cs (deliver p c net)) i) [
          | inl now ↦ here e a now
          | inr after ↦ rest a (subst (λ (n : Network). In a (later_acts p cs n)) (sym (run-more p pre c (start p) e)) after)
        ]

    tells_all : (choices : List ℕ) → AllTell (acts p choices)
    tells_all choices a i = elim (In-split a (start_acts p) (later_acts p choices (start p)) i) [
      | inl first ↦ tells_start a first
      | inr later ↦ tells_later choices [] a later
    ]

    told_known : (xs : List Act) → AllTell xs → (y : Pair) → In y (flat_map told xs) → IsKnownPair p y
    told_known [] all y i = absurd i
    told_known (a ∷ xs) all y i = elim (In-split y (told a) (flat_map told xs) (subst (λ (z : List Pair). In y z) (flat_first a xs) i)) [
      | inl here ↦ all a (inl refl) y (filter-from (λ (z : Pair). not (z.var == a.agent)) y (told_in a.came) here).0
      | inr there ↦ told_known xs (λ b j. all b (inr j)) y there
    ]
      where
        flat_first : (a : Act) (xs : List Act) → flat_map told (a ∷ xs) ≡ told a ++ flat_map told xs
        flat_first a xs = refl

    learned_fits : (choices : List ℕ) (i : ℕ) → Fits p (learned_pairs (acts p choices) i)
    learned_fits choices i =
        once_fits p [] (flat_map told (acts_by i (acts p choices))) (record { known = λ y j. absurd j; different = λ k. tt })
        (told_known (acts_by i (acts p choices)) (λ a j. tells_all choices a (filter-from (λ (z : Act). z.agent == i) a (acts p choices) j).0))

pub learned_few : (p : Csp) → LearnedFew p
learned_few p ok choices i k =
    let pairs = learned_pairs (acts p choices) i in
    let fits = learned_fits p ok choices i in
    let few = different_fit (values_of k pairs) (domain p k) (fits.different k) (λ v j.
    let r = value_from k pairs v j in
    subst (λ (z : ℤ). In z (domain p k)) r.3 (subst (λ n. In r.0.value (domain p n)) r.2 (fits.known r.0 r.1).value))
    in
    let many : length (values_of k pairs) ≡ learned (acts p choices) i k = counted (filter (λ (y : Pair). y.var == k) pairs) in
    omega (arith, few, many)
  where
    counted : (ys : List Pair) → length (map (λ (y : Pair). y.value) ys) ≡ length ys
    counted [] = refl
    counted (y ∷ ys) = ap suc (counted ys)
