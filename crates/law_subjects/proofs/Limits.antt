-- Counts within the limits of a problem refuse nothing.
use Rattle.std.proofs.Common.{◌≡◌, ℕ, zero, suc, ◌+◌, ◌≤◌, ◌-◌, max, false, refl, sym, ⊎_elim, List, [], ◌∷◌, ◌++◌, length, sum_by, None, ap, ◌∙◌, arith}
use Rattle.std.specs.Prelude.{ℤ, pos, neg_ℤ, ◌+ℤ◌, ◌-ℤ◌, nat_lt, unsigned_abs}
use Rattle.std.specs.Option.{option_map}
use Rattle.std.proofs.lemmas.Int.{ints}
use Rattle.std.proofs.lemmas.Bool.{cases_lt}
use Rattle.std.proofs.lemmas.Bool.Decides.{nat_tests}
use Rattle.dcsp_domain.specs.Ranges.{at_least_zero, count_between, numbers_from, numbers_between}
use Rattle.dcsp_domain.proofs.RangeLaws.{length-numbers_from}
use Rattle.dcsp_meaning.specs.declared.linear.TheConstants.{WIDEST}
use Rattle.dcsp_common.specs.declared.limits.Which.TheVariants.{Variables, DomainValues}
use Rattle.dcsp_rule.specs.declared.rule.Rule.{Rule}
use Rattle.dcsp_common.specs.Limits.{most}
use Rattle.dcsp_problem.specs.Limits.{first_past, limit_of, rule_counts, variable_refusal, rule_refusal}
use Rattle.dcsp_rule.specs.Widths.{greatest_among, rule_width}
use Rattle.dcsp_rule.specs.Problems.{Contents}
use Rattle.dcsp_problem.proofs.Counts.{past_later}

pub within_test : (m n : ℕ) → n ≤ m → nat_lt m n ≡ false
within_test m n h = grind (arith, nat_tests)

pub count_is : (k : ℕ) → count_between (pos 1) (pos k) ≡ k
count_is k = let e : (pos k -ℤ pos 1) +ℤ pos 1 ≡ pos k = omega (arith, ints) in ap at_least_zero e

none_below : (n : ℕ) → at_least_zero (neg_ℤ (pos n)) ≡ 0
none_below zero = refl
none_below (suc n) = refl

pub count_from : (low k : ℕ) → count_between (pos low) (pos k) ≡ suc k - low
count_from low k = ⊎_elim
    (λ over.
    let e : (pos k -ℤ pos low) +ℤ pos 1 ≡ neg_ℤ (pos (low - suc k)) = omega (arith, ints, over) in
    let none : suc k - low ≡ 0 = omega (arith, over) in
    ap at_least_zero e ∙ none_below (low - suc k) ∙ sym none)
    (λ within. let e : (pos k -ℤ pos low) +ℤ pos 1 ≡ pos (suc k - low) = omega (arith, ints, within) in ap at_least_zero e)
    (cases_lt (suc k) low)

pub length_between : (low k : ℕ) → length (numbers_between (pos low) (pos k)) ≡ suc k - low
length_between low k = length-numbers_from (pos low) (count_between (pos low) (pos k)) ∙ count_from low k

-- a further variable
pub free_variable : (p : Contents) (domain : List ℤ) → length p.domains + 1 ≤ 4096 → sum_by length p.domains + length domain ≤ 1048576 → variable_refusal p domain ≡ None
free_variable p domain few values =
    let room : sum_by length p.domains + length domain ≤ most DomainValues = values in
    ap (option_map limit_of) (
    past_later Variables (length p.domains + 1) ((DomainValues, sum_by length p.domains + length domain) ∷ []) few
    ∙ past_later DomainValues (sum_by length p.domains + length domain) [] room)

-- a further rule that is narrow, whose lists are short
pub free_rule : (p : Contents) (rule : Rule) → rule_width p.domains rule ≤ WIDEST → first_past (rule_counts p rule) ≡ None → rule_refusal p rule ≡ None
free_rule p rule narrow short = rw (within_test WIDEST (rule_width p.domains rule) narrow) (ap (option_map limit_of) short)

-- the greatest of the values from low to k
greatest_more : (xs : List ℤ) (v : ℤ) → greatest_among (xs ++ v ∷ []) ≡ max (greatest_among xs) (unsigned_abs v)
greatest_more [] v = grind arith
greatest_more (x ∷ xs) v = let ih = greatest_more xs v in rw ih (grind arith)

greatest_last : (low n : ℕ) → greatest_among (numbers_from (pos low) n) ≤ low + n → greatest_among (numbers_from (pos low) (suc n)) ≤ low + n
greatest_last low n ih =
    let last : unsigned_abs (pos low +ℤ pos n) ≡ low + n = ap unsigned_abs (let e : pos low +ℤ pos n ≡ pos (low + n) = omega (arith, ints) in e) in
    rw (greatest_more (numbers_from (pos low) n) (pos low +ℤ pos n), last) (omega (arith, ih))

greatest_from : (low n : ℕ) → greatest_among (numbers_from (pos low) n) ≤ low + n
greatest_from low zero = omega arith
greatest_from low (suc n) = let h = greatest_last low n (greatest_from low n) in omega (arith, h)

greatest_counted : (low n k : ℕ) → n ≡ suc k - low → greatest_among (numbers_from (pos low) n) ≤ k
greatest_counted low zero k e = omega arith
greatest_counted low (suc n) k e = let h = greatest_last low n (greatest_from low n) in omega (arith, h, e)

pub greatest_between : (low k : ℕ) → greatest_among (numbers_between (pos low) (pos k)) ≤ k
greatest_between low k = greatest_counted low (count_between (pos low) (pos k)) k (count_from low k)
