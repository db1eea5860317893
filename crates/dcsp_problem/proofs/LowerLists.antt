-- The later owners over each variable, as the code collects them.
use Rattle.std.proofs.Common.{◌≡◌, ℕ, zero, suc, ◌+◌, ◌<◌, ◌≤◌, Bool, true, false, ◌&&◌, ◌||◌, List, [], ◌∷◌, ◌++◌, map, filter, length, get_or, set, take, refl, sym, ap, ◌∙◌, arith, inl, inr, subst}
use Rattle.std.specs.Prelude.{All, IfSome, ◌==◌, ◌↔◌, nat_lt, Option, Some, None}
use Rattle.std.specs.List.{list_any}
use Rattle.std.proofs.lemmas.Bool.Decides.{Decides-eqb, nat_tests, eqb_tells}
use Rattle.std.proofs.lemmas.List.{map-append, take_more, take_all, get_or-set_same, get_or-set_other, length-set, get_or_default}
use Rattle.std.proofs.lemmas.List.Folds.{list_any-append}
use Rattle.std.proofs.lemmas.List.Elements.{All-contains}
use Rattle.dcsp_defs.specs.Words.{In, IsRising, below, is_number}
use Rattle.dcsp_defs.proofs.Lists.{In-filter, below-In, list_any-In, In-list_any, and_left}
use Rattle.dcsp_rule.specs.declared.rule.Rule.{Rule}
use Rattle.dcsp_rule.specs.Rules.{scope_of}
use Rattle.dcsp_rule.specs.Problems.{Contents, constraint_of, csp_of}
use Rattle.dcsp_problem.specs.Owners.{last_of}
use Rattle.dcsp_problem.specs.Lower.{is_among, set_below, joins, lower_owners, ends_after, lower_among, Adds}
use Rattle.dcsp_problem.proofs.OwnerLists.{map_below, get_or-map_below}
use Rattle.dcsp_problem.proofs.Reading.{last_inside}
use Rattle.dcsp_problem.proofs.RisingNumbers.{In-get_or, In-filter_below, rising-filter_below, same_members, Contains-In}

-- ---- sets

among : (x : ℕ) (xs : List ℕ) → In x xs → is_among x xs ≡ true
among x xs i = list_any-In (λ y. x == y) x xs i ((Decides-eqb x x).1 refl)

from_among : (x : ℕ) (xs : List ℕ) → is_among x xs ≡ true → In x xs
from_among x xs h =
    let found = In-list_any (λ y. x == y) xs h in
    subst (λ (z : ℕ). In z xs) (sym ((Decides-eqb x found.0).0 found.2)) found.1

-- sorted numbers without repeats are the set
pub set_is : (n : ℕ) (numbers left : List ℕ) → All (λ x. x < n) numbers → IsRising left → ((v : ℕ) → In v left ↔ In v numbers) → left ≡ set_below n numbers
set_is n numbers left inside up same =
    same_members left (set_below n numbers) up
    (rising-filter_below (λ x. is_among x numbers) n)
    (λ v i. let there = (same v).0 i in
    In-filter (λ x. is_among x numbers) v (below n) (below-In n v (All-contains (λ x. x < n) numbers v inside (Contains-In numbers v there))) (among v numbers there))
    (λ v i. (same v).1 (from_among v numbers (In-filter_below (λ x. is_among x numbers) n v i).1))

-- ---- what is added

pub adds_none : (test : ℕ → ℕ → Bool) (lists : List (List ℕ)) → ((v j : ℕ) → test v j ≡ false) → Adds test lists lists
adds_none test lists none = record { many = refl; each = λ v j l. or_none (is_among j (get_or lists v [])) (test v j) (none v j) } where
  or_none : (a b : Bool) → b ≡ false → a ≡ (a || b)
  or_none true b e = refl
  or_none false b e = sym e

pub adds_then : (t u w : ℕ → ℕ → Bool) (a b c : List (List ℕ)) → ((v j : ℕ) → (t v j || u v j) ≡ w v j) → Adds t a b → Adds u b c → Adds w a c
adds_then t u w a b c same first second = record {
  many = second.many ∙ first.many;
  each = λ v j l.
      second.each v j (let e = first.many in omega arith)
      ∙ ap (λ z. z || u v j) (first.each v j l)
      ∙ or_assoc (is_among j (get_or a v [])) (t v j) (u v j)
      ∙ ap (λ z. is_among j (get_or a v []) || z) (same v j);
} where
  or_assoc : (x y z : Bool) → ((x || y) || z) ≡ (x || (y || z))
  or_assoc true y z = refl
  or_assoc false y z = refl

-- a number at the end of one list
pub adds_one : (lists : List (List ℕ)) (var owner : ℕ) → var < length lists → var < owner
    → Adds (λ other number. (owner == number) && (nat_lt other number && (other == var))) lists (set lists var (get_or lists var [] ++ owner ∷ []))
adds_one lists var owner there before = record {
  many = length-set lists var _;
  each = λ v j l. elim (eqb_tells v var) [
    | inl t ↦ here v j t.1 t.0
    | inr t ↦ elsewhere v j t.1 t.0
  ];
} where
  test : (v j : ℕ) → v ≡ var → ((j == owner) || false) ≡ ((owner == j) && (nat_lt v j && (v == var)))
  test v j e = grind (arith, nat_tests)

  here : (v j : ℕ) → v ≡ var → (v == var) ≡ true → is_among j (get_or (set lists var (get_or lists var [] ++ owner ∷ [])) v []) ≡ (is_among j (get_or lists v []) || ((owner == j) && (nat_lt v j && (v == var))))
  here v j e t =
      let at : get_or (set lists var (get_or lists var [] ++ owner ∷ [])) v [] ≡ get_or lists v [] ++ owner ∷ [] =
      ap (λ z. get_or (set lists var (get_or lists var [] ++ owner ∷ [])) z []) e ∙ get_or-set_same lists var _ [] there ∙ ap (λ z. get_or lists z [] ++ owner ∷ []) (sym e) in
      ap (is_among j) at ∙ list_any-append (λ x. j == x) (get_or lists v []) (owner ∷ []) ∙ ap (λ z. is_among j (get_or lists v []) || z) (test v j e)

  or_none : (a b c : Bool) → a ≡ (a || (b && (c && false)))
  or_none true b c = refl
  or_none false true true = refl
  or_none false true false = refl
  or_none false false c = refl

  elsewhere : (v j : ℕ) → (v ≡ var → ⊥) → (v == var) ≡ false → is_among j (get_or (set lists var (get_or lists var [] ++ owner ∷ [])) v []) ≡ (is_among j (get_or lists v []) || ((owner == j) && (nat_lt v j && (v == var))))
  elsewhere v j differ t =
      ap (is_among j) (get_or-set_other lists var v _ [] differ)
      ∙ or_none (is_among j (get_or lists v [])) (owner == j) (nat_lt v j)
      ∙ ap (λ z. is_among j (get_or lists v []) || ((owner == j) && (nat_lt v j && z))) (sym t)

-- one more variable
pub adds_var : (owner : ℕ) (vars : List ℕ) (i d : ℕ) (a b c : List (List ℕ)) → i < length vars
    → Adds (λ v j. (owner == j) && (nat_lt v j && is_among v (take i vars))) a b
    → Adds (λ v j. (owner == j) && (nat_lt v j && (v == get_or vars i d))) b c
    → Adds (λ v j. (owner == j) && (nat_lt v j && is_among v (take (i + 1) vars))) a c
adds_var owner vars i d a b c l =
    adds_then _ _ _ a b c (λ v j. apart (owner == j) (nat_lt v j) (is_among v (take i vars)) (v == get_or vars i d) ∙ ap (λ z. (owner == j) && (nat_lt v j && z)) (sym (more v)))
  where
    apart : (x y m n : Bool) → ((x && (y && m)) || (x && (y && n))) ≡ (x && (y && (m || n)))
    apart true true m n = refl
    apart true false m n = refl
    apart false y m n = refl

    or_false : (x y : Bool) → (x || (y || false)) ≡ (x || y)
    or_false true y = refl
    or_false false true = refl
    or_false false false = refl

    more : (v : ℕ) → is_among v (take (i + 1) vars) ≡ (is_among v (take i vars) || (v == get_or vars i d))
    more v = ap (is_among v) (take_more vars i d l) ∙ list_any-append (λ x. v == x) (take i vars) (get_or vars i d ∷ []) ∙ or_false (is_among v (take i vars)) (v == get_or vars i d)

-- one more scope
pub adds_scope : (scopes : List (List ℕ)) (i : ℕ) (d : List ℕ) (a b c : List (List ℕ)) → i < length scopes
    → Adds (λ v j. list_any (λ (s : List ℕ). ends_after s v j) (take i scopes)) a b
    → Adds (ends_after (get_or scopes i d)) b c
    → Adds (λ v j. list_any (λ (s : List ℕ). ends_after s v j) (take (i + 1) scopes)) a c
adds_scope scopes i d a b c l =
    adds_then _ _ _ a b c (λ v j. sym (
    ap (list_any (λ (s : List ℕ). ends_after s v j)) (take_more scopes i d l)
    ∙ list_any-append (λ (s : List ℕ). ends_after s v j) (take i scopes) (get_or scopes i d ∷ [])
    ∙ or_false (list_any (λ (s : List ℕ). ends_after s v j) (take i scopes)) (ends_after (get_or scopes i d) v j)))
  where
    or_false : (x y : Bool) → (x || (y || false)) ≡ (x || y)
    or_false true y = refl
    or_false false true = refl
    or_false false false = refl

-- ---- all lists

-- what was added are last variables of scopes
pub lists_inside : (scopes lists : List (List ℕ)) (n : ℕ) (empty : List (List ℕ)) → length empty ≡ n → ((v : ℕ) → v < n → get_or empty v [] ≡ [])
    → Adds (λ v j. list_any (λ (s : List ℕ). ends_after s v j) scopes) empty lists → All (λ s. All (λ v. v < n) s) scopes → All (λ list. All (λ x. x < n) list) lists
lists_inside scopes lists n empty size none adds all = λ v d l k e m.
    let many = adds.many in
    let same : get_or lists v d ≡ get_or lists v [] = get_or_default lists v d [] l in
    let j = get_or (get_or lists v d) k e in
    let there : is_among j (get_or lists v []) ≡ true = among j (get_or lists v []) (subst (In j) same (In-get_or (get_or lists v d) k e m)) in
    let test : list_any (λ (s : List ℕ). ends_after s v j) scopes ≡ true =
    sym (adds.each v j (omega arith) ∙ ap (λ (z : List ℕ). is_among j z || list_any (λ (s : List ℕ). ends_after s v j) scopes) (none v (omega arith))) ∙ there in
    let found = In-list_any (λ (s : List ℕ). ends_after s v j) scopes test in
    by_last (last_of found.0) j (and_left (is_number (last_of found.0) j) _ found.2)
    (last_inside n found.0 (All-contains (λ s. All (λ w. w < n) s) scopes found.0 all (Contains-In scopes found.0 found.1)))
  where
    by_last : (o : Option ℕ) (j : ℕ) → is_number o j ≡ true → IfSome o (λ w. w < n) → j < n
    by_last None j e h = cc
    by_last (Some w) j e h = subst (λ (z : ℕ). z < n) ((Decides-eqb w j).0 e) h

map_to : {X : Type 0} → (f : List ℕ → X) (g : ℕ → X) (lists : List (List ℕ)) (n : ℕ) → n ≤ length lists → ((v : ℕ) → v < n → f (get_or lists v []) ≡ g v) → map f (take n lists) ≡ map g (below n)
map_to f g lists zero l h = refl
map_to {X} f g lists (suc n) l h =
    ap (λ (z : ℕ). map f (take z lists)) (let e : suc n ≡ n + 1 = omega arith in e)
    ∙ ap (map f) (take_more lists n [] (omega arith))
    ∙ map-append f (take n lists) (get_or lists n [] ∷ [])
    ∙ ap (λ (z : List X). z ++ f (get_or lists n []) ∷ []) (map_to f g lists n (omega arith) (λ v b. h v (omega arith)))
    ∙ ap (λ (z : X). map g (below n) ++ z ∷ []) (h n (omega arith))
    ∙ sym (map-append g (below n) (n ∷ []))

-- the sets of lists to which the last variables were added
pub sets_are : (scopes lists : List (List ℕ)) (n : ℕ) (empty : List (List ℕ)) → length empty ≡ n → ((v : ℕ) → v < n → get_or empty v [] ≡ [])
    → Adds (λ v j. list_any (λ (s : List ℕ). ends_after s v j) scopes) empty lists → map (set_below n) lists ≡ map (lower_among scopes n) (below n)
sets_are scopes lists n empty size none adds =
    let long : length lists ≡ n = adds.many ∙ size in
    ap (map (set_below n)) (sym (take_all n lists (omega arith)))
    ∙ map_to (set_below n) (lower_among scopes n) lists n (omega arith) (λ v l.
    ap (λ (q : ℕ → Bool). filter q (below n)) (λ x j. (adds.each v j (omega arith) ∙ ap (λ (z : List ℕ). is_among j z || list_any (λ (s : List ℕ). ends_after s v j) scopes) (none v l)) x))

-- ---- what the definitions say

any_later : (n v j : ℕ) (rules : List Rule) → list_any (λ (s : List ℕ). ends_after s v j) (map (scope_of n) rules) ≡ (nat_lt v j && list_any (joins j v) (map (constraint_of n) rules))
any_later n v j [] = none (nat_lt v j) where
  none : (b : Bool) → false ≡ (b && false)
  none true = refl
  none false = refl
any_later n v j (r ∷ rs) =
    ap (λ z. ends_after (scope_of n r) v j || z) (any_later n v j rs)
    ∙ apart (is_number (last_of (scope_of n r)) j) (nat_lt v j) (is_among v (scope_of n r)) (list_any (joins j v) (map (constraint_of n) rs))
  where
    apart : (a b c d : Bool) → ((a && (b && c)) || (b && d)) ≡ (b && ((a && c) || d))
    apart true true c d = refl
    apart true false c d = refl
    apart false true c d = refl
    apart false false c d = refl

pub lower_is : (p : Contents) (v : ℕ) → lower_among (map (scope_of (length p.domains)) p.rules) (length p.domains) v ≡ lower_owners (csp_of p) v
lower_is p v = ap (λ (q : ℕ → Bool). filter q (below (length p.domains))) (λ x j. any_later (length p.domains) v j p.rules x)

pub lower_lists_are : (p : Contents) (scopes lists : List (List ℕ)) → scopes ≡ map (scope_of (length p.domains)) p.rules → lists ≡ map (lower_among scopes (length p.domains)) (below (length p.domains))
    → lists ≡ map (lower_owners (csp_of p)) (below (length p.domains))
lower_lists_are p scopes lists is made =
    made ∙ ap (λ z. map (lower_among z (length p.domains)) (below (length p.domains))) is ∙ map_below _ _ (length p.domains) (λ v l. lower_is p v)

-- the list of one variable
pub lower_at : (p : Contents) (lists : List (List ℕ)) (v : ℕ) (d : List ℕ) → lists ≡ map (lower_owners (csp_of p)) (below (length p.domains)) → v < length p.domains → get_or lists v d ≡ lower_owners (csp_of p) v
lower_at p lists v d is l = ap (λ z. get_or z v d) is ∙ get_or-map_below (lower_owners (csp_of p)) (length p.domains) v d l

-- a variable's later owners are variables of the problem
pub lower_inside : (p : Contents) (v : ℕ) → (j : ℕ) → In j (lower_owners (csp_of p) v) → j < length p.domains
lower_inside p v j i = (In-filter_below (λ o. nat_lt v o && list_any (joins o v) (csp_of p).constraints) (length p.domains) j i).0
