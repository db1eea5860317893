-- What a binary search finds in a rising list of pairs.
use Rattle.std.proofs.Common.{◌≡◌, ◌≢◌, ℕ, zero, suc, ◌+◌, ◌-◌, ◌<◌, ◌≤◌, List, [], ◌∷◌, length, get_or, drop, Some, None, Result, Ok, Err, refl, sym, ap, ◌∙◌, arith, inl, inr}
use Rattle.std.specs.Prelude.{IfSome, IsNone}
use Rattle.std.specs.Result.{result_ok}
use Rattle.std.specs.List.Sorted.{IsSearchInRange, IsBinarySearchResult, IsNonDecreasingBy}
use Rattle.std.specs.Ordering.{nat_cmp, ordering_index}
use Rattle.std.proofs.lemmas.Cmp.{ranked}
use Rattle.std.proofs.lemmas.List.Sorted.{IsNonDecreasingBy-from_default}
use Rattle.std.proofs.lemmas.Bool.Decides.{nat_tests}
use Rattle.std.proofs.lemmas.Bool.{cases_lt}
use Rattle.dcsp_defs.specs.declared.nogood.Pair.{Pair}
use Rattle.dcsp_defs.specs.Pairs.{no_pair, var_at, IsRising, value_at}
use Rattle.dcsp_defs.specs.Places.{IsPlaceOf}
use Rattle.dcsp_defs.proofs.PairsLemmas.{value_at-from_drop, value_at-drop_here}
use Rattle.dcsp_defs.proofs.Determined.{value_at-other}

-- a later pair's variable is above an earlier one's
rises : (ps : List Pair) → IsRising ps → (i n : ℕ) → i + n + 1 < length ps → var_at ps i < var_at ps (i + n + 1)
rises ps up i zero h = let e : i + 0 + 1 ≡ i + 1 = omega arith in rw e (up i (omega arith))
rises ps up i (suc n) h =
    let e : i + suc n + 1 ≡ (i + n + 1) + 1 = omega arith in
    let next = up (i + n + 1) (omega arith) in
    let before = rises ps up i n (omega arith) in
    rw e (omega arith)

pub rises_between : (ps : List Pair) → IsRising ps → (i j : ℕ) → i < j → j < length ps → var_at ps i < var_at ps j
rises_between ps up i j lt within = let e : i + (j - i - 1) + 1 ≡ j = omega arith in rw e at (rises ps up i (j - i - 1) (rw e within))

-- a variable that no pair names has no value
pub value_at-absent : (ps : List Pair) (v : ℕ) → ((k : ℕ) → k < length ps → var_at ps k ≢ v) → value_at ps v ≡ None
value_at-absent [] v absent = refl
value_at-absent (p ∷ ps) v absent =
    value_at-other p ps v (λ e. absent 0 (omega arith) (sym e)) ∙ value_at-absent ps v (λ k h. absent (suc k) (omega arith))

module _ (ps : List Pair) (up : IsRising ps) (v : ℕ) where
  -- the comparisons with v rise along the list, as a binary search asks
  comparisons_rise : IsNonDecreasingBy (λ (p : Pair). ordering_index (nat_cmp p.var v)) ps
  comparisons_rise = IsNonDecreasingBy-from_default (λ (p : Pair). ordering_index (nat_cmp p.var v)) ps no_pair (λ i j le within.
      let rise : var_at ps i ≤ var_at ps j = grind (arith, rises_between ps up i j, λ (same : i ≡ j). ap (var_at ps) same) in
      grind (arith, nat_tests))

  pub searched : (r : Result ℕ ℕ) → IsSearchInRange r (length ps) → IsBinarySearchResult (λ (p : Pair). nat_cmp p.var v) ps r → record { found : IfSome (result_ok r) (IsPlaceOf ps v); absent : IsNone (result_ok r) → value_at ps v ≡ None }
  searched (Ok at) within equal = record { found = record { within = within; names = ranked _ v _ (sym (equal no_pair)) }; absent = λ none. absurd cc }
  searched (Err at) within parted = record {
    found = tt;
    absent = λ none. value_at-absent ps v (λ k h same. elim (cases_lt k at) [
      | inl before ↦ omega (arith, ranked _ v _ (sym ((parted comparisons_rise).0 k no_pair (omega arith) before)), same)
      | inr after ↦ omega (arith, ranked _ v _ (sym ((parted comparisons_rise).1 k no_pair after h)), same)
    ]);
  }

-- the value at a variable's place
pub value_at-place : (ps : List Pair) (v place : ℕ) → IsRising ps → IsPlaceOf ps v place → value_at ps v ≡ Some (get_or ps place no_pair).value
value_at-place ps v place up at =
    value_at-from_drop place ps v _ up (omega (arith, at.within)) (ap (λ n. value_at (drop place ps) n) (sym at.names) ∙ value_at-drop_here ps place at.within)
