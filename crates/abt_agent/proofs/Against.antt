-- The nogood that is kept against a value.
use Rattle.std.proofs.Common.{◌≡◌, ℕ, ◌+◌, ◌-◌, ◌≤◌, Bool, true, false, cond, List, [], ◌∷◌, get_or, length, slice_get, int_eq, Some, ℤ, is_some, refl, sym, ap, ◌∙◌, arith, inl, inr}
use Rattle.std.specs.List.{count_by, position_from}
use Rattle.std.specs.Option.{option_map}
use Rattle.std.proofs.lemmas.Bool.{eq-eqb}
use Rattle.std.proofs.lemmas.Cmp.{int_eq_equiv}
use Rattle.std.proofs.lemmas.List.Folds.{list_all_at}
use Rattle.std.proofs.lemmas.List.Sums.{sum_by-cons}
use Rattle.std.proofs.lemmas.Option.{slice_get-get_or}
use Rattle.dcsp_defs.specs.declared.nogood.Pair.{Pair}
use Rattle.dcsp_defs.specs.Words.{In, is_value}
use Rattle.dcsp_defs.specs.Csp.{PartialAssignment, agrees, with_value}
use Rattle.abt_parts.specs.declared.recorded.Recorded.{Recorded}
use Rattle.abt_parts.specs.Stores.{is_against, lowest_value}
use Rattle.abt_reason.specs.Kept.{IsOwn}
use Rattle.abt_agent.specs.declared.search.Cause.TheVariants.{KeptNogood}
use Rattle.abt_agent.specs.Causes.{first_kept, first_against}

module _ (me : ℕ) (v : ℤ) (known : PartialAssignment) where
  abbrev under : PartialAssignment
  under = with_value me v known

  count_more : (x : Recorded) (xs : List Recorded) → count_by (is_against v) (x ∷ xs) ≡ cond (is_against v x) 1 0 + count_by (is_against v) xs
  count_more x xs = sum_by-cons (λ y. cond (is_against v y) 1 0) x xs

  -- a nogood whose lowest pair gives the agent another value does not agree
  not_agrees : (pairs : List Pair) → option_map (λ (pair : Pair). pair.var) (slice_get pairs (length pairs - 1)) ≡ Some me → is_value (lowest_value pairs) v ≡ false → agrees under pairs ≡ false
  not_agrees [] own other = cc
  not_agrees (p ∷ ps) own other =
      let lowest = get_or (p ∷ ps) (length (p ∷ ps) - 1) p in
      let there = slice_get-get_or (p ∷ ps) (length (p ∷ ps) - 1) p (omega arith) in
      let some : Some lowest.var ≡ Some me = ap (option_map (λ (pair : Pair). pair.var)) (sym there) ∙ own in
      let mine : lowest.var ≡ me = cc in
      let differs : int_eq lowest.value v ≡ false = ap (λ o. is_value (option_map (λ (pair : Pair). pair.value) o) v) (sym there) ∙ other in
      let fails : is_value (under lowest.var) lowest.value ≡ false =
      ap (λ b. is_value (cond b (Some v) (known lowest.var)) lowest.value) (eq-eqb lowest.var me mine) ∙ int_eq_equiv.symm v lowest.value ∙ differs in
      list_all_at (λ (y : Pair). is_value (under y.var) y.value) (p ∷ ps) (length (p ∷ ps) - 1) p (omega arith) fails

  -- where a nogood agrees, one is against the value
  one_against : (k : ℕ) (xs : List Recorded) → ((x : Recorded) → In x xs → IsOwn me x) → is_some (first_kept under k xs) ≡ true → 1 ≤ count_by (is_against v) xs
  one_against k [] own e = cc
  one_against k (x ∷ xs) own e =
      by_tests (is_against v x) (agrees under x.nogood) refl refl e (λ f. one_against (k + 1) xs (λ y i. own y (inr i)) f)
    where
      by_tests : (a b : Bool) → is_against v x ≡ a → agrees under x.nogood ≡ b → is_some (cond b (Some (KeptNogood k)) (first_kept under (k + 1) xs)) ≡ true
          → (is_some (first_kept under (k + 1) xs) ≡ true → 1 ≤ count_by (is_against v) xs) → 1 ≤ count_by (is_against v) (x ∷ xs)
      by_tests true b f g e later = let one : ◌≡◌ {A = ℕ} (cond (is_against v x) 1 0) 1 = ap (λ z. cond z 1 0) f in omega (arith, count_more x xs, one)
      by_tests false true f g e later = let not_own : true ≡ false = sym g ∙ not_agrees x.nogood (own x (inl refl)) f in absurd cc
      by_tests false false f g e later = omega (arith, count_more x xs, later e)

  -- where a nogood agrees, it is the one that is against the value
  pub against_is : (k : ℕ) (xs : List Recorded) → ((x : Recorded) → In x xs → IsOwn me x) → count_by (is_against v) xs ≤ 1 → is_some (first_kept under k xs) ≡ true → first_against v k xs ≡ first_kept under k xs
  against_is k [] own once e = refl
  against_is k (x ∷ xs) own once e =
      ap (λ b. cond b (Some (KeptNogood k)) (first_against v (k + 1) xs)) refl
      ∙ by_tests (is_against v x) (agrees under x.nogood) refl refl e (λ l f. against_is (k + 1) xs (λ y i. own y (inr i)) l f) (λ f. one_against (k + 1) xs (λ y i. own y (inr i)) f)
    where
      by_tests : (a b : Bool) → is_against v x ≡ a → agrees under x.nogood ≡ b → is_some (cond b (Some (KeptNogood k)) (first_kept under (k + 1) xs)) ≡ true
          → (count_by (is_against v) xs ≤ 1 → is_some (first_kept under (k + 1) xs) ≡ true → first_against v (k + 1) xs ≡ first_kept under (k + 1) xs)
          → (is_some (first_kept under (k + 1) xs) ≡ true → 1 ≤ count_by (is_against v) xs)
          → cond a (Some (KeptNogood k)) (first_against v (k + 1) xs) ≡ cond b (Some (KeptNogood k)) (first_kept under (k + 1) xs)
      by_tests true true f g e later some = refl
      by_tests true false f g e later some =
          let one : ◌≡◌ {A = ℕ} (cond (is_against v x) 1 0) 1 = ap (λ z. cond z 1 0) f in
          absurd (omega (arith, count_more x xs, one, some e, once))
      by_tests false true f g e later some = let not_own : true ≡ false = sym g ∙ not_agrees x.nogood (own x (inl refl)) f in absurd cc
      by_tests false false f g e later some = later (omega (arith, count_more x xs, once)) e

-- the search finds what stands at the first place
pub against_placed : (v : ℤ) (k : ℕ) (xs : List Recorded) → option_map (λ place. KeptNogood place) (position_from (is_against v) k xs) ≡ first_against v k xs
against_placed v k [] = refl
against_placed v k (x ∷ xs) = by_test (is_against v x) (against_placed v (k + 1) xs) where
  by_test : (b : Bool) → option_map (λ place. KeptNogood place) (position_from (is_against v) (k + 1) xs) ≡ first_against v (k + 1) xs
      → option_map (λ place. KeptNogood place) (cond b (Some k) (position_from (is_against v) (k + 1) xs)) ≡ cond b (Some (KeptNogood k)) (first_against v (k + 1) xs)
  by_test true e = refl
  by_test false e = e
