-- Pairs without a link, counted by the upper agent of each.
use Rattle.std.proofs.Common.{◌≡◌, ℕ, zero, suc, ◌+◌, ◌-◌, ◌<◌, ◌≤◌, Bool, true, false, cond, not, ◌&&◌, ◌==◌, [], ◌∷◌, filter, length, refl, sym, ap, ◌∙◌, arith, inl, inr}
use Rattle.std.specs.Prelude.{nat_lt}
use Rattle.std.specs.List.{list_any}
use Rattle.std.proofs.lemmas.Bool.{cases_lt}
use Rattle.std.proofs.lemmas.Bool.Decides.{nat_tests}
use Rattle.std.proofs.lemmas.List.{length-append}
use Rattle.std.proofs.lemmas.List.Elements.{filter-append}
use Rattle.dcsp_defs.specs.Words.{below, sum_below}
use Rattle.dcsp_defs.specs.Csp.{Csp, count}
use Rattle.dcsp_problem.specs.Lower.{joins, lower_owners}
use Rattle.abt_defs.specs.Agents.{shares}
use Rattle.abt_defs.specs.Bound.{unlinked_pairs}

-- ---- sums

same_sum : (f g : ℕ → ℕ) (n : ℕ) → ((i : ℕ) → i < n → f i ≡ g i) → sum_below f n ≡ sum_below g n
same_sum f g zero h = refl
same_sum f g (suc n) h = let rest = same_sum f g n (λ i l. h i (omega arith)) in let last = h n (omega arith) in omega arith

zero_sum : (n : ℕ) → sum_below (λ i. 0) n ≡ 0
zero_sum zero = refl
zero_sum (suc n) = let rest = zero_sum n in omega arith

add_sums : (f g : ℕ → ℕ) (n : ℕ) → sum_below (λ i. f i + g i) n ≡ sum_below f n + sum_below g n
add_sums f g zero = refl
add_sums f g (suc n) = let rest = add_sums f g n in omega arith

-- the order of two sums plays no part
swap_sums : (f : ℕ → ℕ → ℕ) (m n : ℕ) → sum_below (λ i. sum_below (λ k. f i k) n) m ≡ sum_below (λ k. sum_below (λ i. f i k) m) n
swap_sums f zero n = sym (zero_sum n)
swap_sums f (suc m) n =
    let rest = swap_sums f m n in
    let apart = add_sums (λ k. sum_below (λ i. f i k) m) (λ k. f m k) n in
    omega arith

-- ---- pairs

-- 1 for a pair without a link, k the upper agent
abbrev one_pair : Csp → ℕ → ℕ → ℕ
one_pair p i k = cond (nat_lt k i) (cond (shares p i k) 0 1) 0

above_test : (m n : ℕ) → m < n → nat_lt m n ≡ true
above_test m n h = grind (arith, nat_tests)

within_test : (m n : ℕ) → n ≤ m → nat_lt m n ≡ false
within_test m n h = grind (arith, nat_tests)

apart_test : (m n : ℕ) → m < n → (m == n) ≡ false
apart_test m n h = grind (arith, nat_tests)

-- those above i count nothing
cut_sum : (p : Csp) (i n : ℕ) → i ≤ n → sum_below (one_pair p i) n ≡ sum_below (λ k. cond (shares p i k) 0 1) i
cut_sum p zero zero l = refl
cut_sum p (suc i) zero l = absurd (omega arith)
cut_sum p i (suc n) l = elim (cases_lt n i) [
  | inl last ↦
      let same : i ≡ suc n = omega arith in
      same_sum (one_pair p i) (λ k. cond (shares p i k) 0 1) (suc n) (λ k b. ap (λ z. cond z (cond (shares p i k) 0 1) 0) (above_test k i (omega arith)))
      ∙ ap (λ z. sum_below (λ k. cond (shares p i k) 0 1) z) (sym same)
  | inr past ↦
      let rest = cut_sum p i n past in
      let none : one_pair p i n ≡ 0 = ap (λ z. cond z (cond (shares p i n) 0 1) 0) (within_test n i past) in
      omega arith
]

-- of the agents after k those that share with it and those that do not
abbrev is_lower : Csp → ℕ → ℕ → Bool
is_lower p k i = nat_lt k i && list_any (joins i k) p.constraints

one_more : (p : Csp) (k i : ℕ) → one_pair p i k + length (filter (is_lower p k) (i ∷ [])) ≡ suc i - (k + 1) - (i - (k + 1))
one_more p k i = elim (cases_lt k i) [
  | inl after ↦
      let t = above_test k i after in
      let d = apart_test k i after in
      let n : suc i - (k + 1) - (i - (k + 1)) ≡ 1 = omega arith in
      ap (λ z. cond z (cond (not (k == i) && list_any (joins i k) p.constraints) 0 1) 0 + length (cond (z && list_any (joins i k) p.constraints) (i ∷ []) [])) t
      ∙ ap (λ z. cond (not z && list_any (joins i k) p.constraints) 0 1 + length (cond (list_any (joins i k) p.constraints) (i ∷ []) [])) d
      ∙ both (list_any (joins i k) p.constraints)
      ∙ sym n
  | inr past ↦
      let t = within_test k i past in
      let n : suc i - (k + 1) - (i - (k + 1)) ≡ 0 = omega arith in
      ap (λ z. cond z (cond (not (k == i) && list_any (joins i k) p.constraints) 0 1) 0 + length (cond (z && list_any (joins i k) p.constraints) (i ∷ []) [])) t
      ∙ sym n
] where
  both : (b : Bool) → cond b 0 1 + length (cond b (i ∷ []) []) ≡ 1
  both true = refl
  both false = refl

all_lower : (p : Csp) (k n : ℕ) → sum_below (λ i. one_pair p i k) n + length (filter (is_lower p k) (below n)) ≡ n - (k + 1)
all_lower p k zero = let none : 0 - (k + 1) ≡ 0 = omega arith in sym none
all_lower p k (suc n) =
    let rest = all_lower p k n in
    let last = one_more p k n in
    let split = ap (length {A = ℕ}) (filter-append (is_lower p k) (below n) (n ∷ [])) ∙ length-append (filter (is_lower p k) (below n)) (filter (is_lower p k) (n ∷ [])) in
    omega arith

-- the lower agents without a link to k
pub unlinked_lower : (p : Csp) (k : ℕ) → sum_below (λ i. one_pair p i k) (count p) + length (lower_owners p k) ≡ count p - (k + 1)
unlinked_lower p k = all_lower p k (count p)

pub few_lower : (p : Csp) (k : ℕ) → length (lower_owners p k) ≤ count p - (k + 1)
few_lower p k = let all = unlinked_lower p k in omega arith

-- the lower agents without a link to k, as they are counted
abbrev pub counted_lower : Csp → ℕ → ℕ
counted_lower p k = count p - 1 - k - length (lower_owners p k)

pub unlinked_is : (p : Csp) → sum_below (counted_lower p) (count p) ≡ unlinked_pairs p
unlinked_is p =
    same_sum (counted_lower p) (λ k. sum_below (λ i. one_pair p i k) (count p)) (count p) (λ k l. let all = unlinked_lower p k in omega arith)
    ∙ sym (swap_sums (one_pair p) (count p) (count p))
    ∙ same_sum (λ i. sum_below (one_pair p i) (count p)) (λ i. sum_below (λ k. cond (shares p i k) 0 1) i) (count p) (λ i l. cut_sum p i (count p) (omega arith))
