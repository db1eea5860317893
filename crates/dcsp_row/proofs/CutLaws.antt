-- Sets of numbers, and comparisons by them.
use Rattle.std.proofs.Common.{◌≡◌, ◌≢◌, ℕ, zero, suc, nat_lt, neg_ℤ, Option, None, ◌+◌, ◌-◌, ◌<◌, ◌≤◌, Bool, true, false, not, ◌&&◌, List, length, ℤ, pos, negsuc, ◌+ℤ◌, ◌-ℤ◌, ◌*ℤ◌, Some, refl, sym, ap, ◌∙◌, arith, inl, inr}
use Rattle.std.specs.Prelude.{int_le, int_lt, ◌<ℤ◌, ◌≤ℤ◌, unwrap_or}
use Rattle.std.specs.Ordering.{int_eq}
use Rattle.std.proofs.lemmas.Bool.{cases_eq, cases_lt}
use Rattle.std.proofs.lemmas.Bool.Decides.{Decides-int_eq, nat_tests}
use Rattle.std.proofs.lemmas.Int.{ints}
use Rattle.std.proofs.Math.IntN.{zero-*ℤ, suc_ℤ-*ℤ, *ℤ-negsuc, *ℤ_comm}
use Rattle.std.proofs.lemmas.List.Folds.{list_any_at}
use Rattle.dcsp_domain.specs.Sets.{IsRising, has}
use Rattle.dcsp_row.specs.declared.cut.Cut.{Cut}
use Rattle.dcsp_meaning.specs.declared.linear.Rel.{Rel}
use Rattle.dcsp_meaning.specs.declared.linear.Rel.TheVariants.{Equal, Differ, AtMost}
use Rattle.dcsp_meaning.specs.Sums.{stands}
use Rattle.dcsp_meaning.specs.Words.{is_one, same}
use Rattle.dcsp_rule.specs.Rules.{is_told}
use Rattle.dcsp_row.specs.declared.line.LinearSum.{LinearSum}
use Rattle.dcsp_row.specs.Lines.{line_at, own_part}
use Rattle.dcsp_row.specs.Cuts.{is_in}
use Rattle.dcsp_row.specs.Rows.{own_at}

same_either : (a b : ℤ) → int_eq a b ≡ int_eq b a
same_either a b = grind (arith, ints)

at_most_next : (x b : ℤ) → int_lt x (b +ℤ pos 1) ≡ int_le x b
at_most_next x b = grind (arith, ints)

not_above : (x b : ℤ) → int_lt x b ≡ not (int_le b x)
not_above x b = grind (arith, ints)

not_below : (x b : ℤ) → int_lt x (b +ℤ pos 1) ≡ not (int_lt b x)
not_below x b = grind (arith, ints)

-- a term is brought to the other side
added_once : (rel : Rel) (base product total : ℤ) → stands rel product (total -ℤ base) ≡ stands rel (base +ℤ product) total
added_once Equal base product total = grind (arith, ints)
added_once Differ base product total = grind (arith, ints)
added_once AtMost base product total = grind (arith, ints)

taken_once : (rel : Rel) (base product total : ℤ) → stands rel (base -ℤ total) product ≡ stands rel (base +ℤ neg_ℤ product) total
taken_once Equal base product total = grind (arith, ints)
taken_once Differ base product total = grind (arith, ints)
taken_once AtMost base product total = grind (arith, ints)

-- a product grows with its factor
grows : (n : ℕ) (x y : ℤ) → x ≤ℤ y → (pos n *ℤ x) ≤ℤ (pos n *ℤ y)
grows zero x y l = let a = zero-*ℤ x in let b = zero-*ℤ y in omega (arith, ints, a, b)
grows (suc n) x y l =
    let a : pos (suc n) *ℤ x ≡ (pos n *ℤ x) +ℤ x = suc_ℤ-*ℤ (pos n) x in
    let b : pos (suc n) *ℤ y ≡ (pos n *ℤ y) +ℤ y = suc_ℤ-*ℤ (pos n) y in
    let before = grows n x y l in
    omega (arith, ints, a, b, before)

pub rises : (n : ℕ) → 0 < n → (x y : ℤ) → x <ℤ y → (pos n *ℤ x) <ℤ (pos n *ℤ y)
rises zero some x y l = absurd (omega arith)
rises (suc n) some x y l =
    let a : pos (suc n) *ℤ x ≡ (pos n *ℤ x) +ℤ x = suc_ℤ-*ℤ (pos n) x in
    let b : pos (suc n) *ℤ y ≡ (pos n *ℤ y) +ℤ y = suc_ℤ-*ℤ (pos n) y in
    let before = grows n x y (omega (arith, ints, l)) in
    omega (arith, ints, a, b, before, l)

pub once : (x : ℤ) → pos 1 *ℤ x ≡ x
once x = let a : pos 1 *ℤ x ≡ (pos 0 *ℤ x) +ℤ x = suc_ℤ-*ℤ (pos 0) x in let b = zero-*ℤ x in omega (arith, ints, a, b)

turned_product : (n : ℕ) (x : ℤ) → neg_ℤ (pos n) *ℤ x ≡ neg_ℤ (pos n *ℤ x)
turned_product zero x = let none = zero-*ℤ x in omega (arith, ints, none)
turned_product (suc n) x = *ℤ_comm (negsuc n) x ∙ *ℤ-negsuc x n ∙ ap neg_ℤ (*ℤ_comm x (pos (suc n)))

below_is_less : (x y bound : ℤ) → x <ℤ y → int_lt y bound ≡ true → int_lt x bound ≡ true
below_is_less x y bound l e = grind (arith, ints)

above_is_more : (x y bound : ℤ) → x <ℤ y → int_lt x bound ≡ false → int_lt y bound ≡ false
above_is_more x y bound l e = grind (arith, ints)

-- values by what rises with them
module _ (g : ℤ → ℤ) (up_by : (x y : ℤ) → x <ℤ y → g x <ℤ g y) (values : List ℤ) (up : IsRising values) where
  -- up to a value below the bound all are
  pub below_all : (middle : ℕ) → middle < length values → (bound : ℤ) → int_lt (g (own_at values middle)) bound ≡ true → (k : ℕ) → k < middle + 1 → int_lt (g (own_at values k)) bound ≡ true
  below_all middle within bound here k l = elim (cases_eq k middle) [
    | inl same ↦ ap (λ n. int_lt (g (own_at values n)) bound) same ∙ here
    | inr apart ↦ below_is_less (g (own_at values k)) (g (own_at values middle)) bound (up_by (own_at values k) (own_at values middle) (up k middle (pos 0) (omega (arith, l, apart)) within)) here
  ]

  -- and from one on that is not none is
  pub above_all : (middle : ℕ) → (bound : ℤ) → int_lt (g (own_at values middle)) bound ≡ false → (k : ℕ) → middle ≤ k → k < length values → int_lt (g (own_at values k)) bound ≡ false
  above_all middle bound here k l within = elim (cases_eq k middle) [
    | inl same ↦ ap (λ n. int_lt (g (own_at values n)) bound) same ∙ here
    | inr apart ↦ above_is_more (g (own_at values middle)) (g (own_at values k)) bound (up_by (own_at values middle) (own_at values k) (up middle k (pos 0) (omega (arith, l, apart)) within)) here
  ]

-- none is, where the first is not
pub none_below : (values : List ℤ) → IsRising values → (bound : ℤ) → int_lt (own_at values 0) bound ≡ false → (k : ℕ) → k < length values → int_lt (own_at values k) bound ≡ nat_lt k 0
none_below values up bound first k l = above_all (λ x. x) (λ x y m. m) values up 0 bound first k (omega arith) l ∙ grind (arith, nat_tests)

-- all are, where the last is
pub all_below : (values : List ℤ) → IsRising values → (bound : ℤ) (count : ℕ) → 0 < count → count ≡ length values → int_lt (own_at values (count - 1)) bound ≡ true → (k : ℕ) → k < length values → int_lt (own_at values k) bound ≡ nat_lt k count
all_below values up bound count some all last k l =
    let within : count - 1 < length values = omega (arith, some, all) in
    let before : k < count - 1 + 1 = omega (arith, l, all) in
    let below : k < count = omega (arith, l, all) in
    below_all (λ x. x) (λ x y m. m) values up (count - 1) within bound last k before ∙ grind (arith, nat_tests)

not_itself : (x bound : ℤ) → x ≡ bound → int_lt x bound ≡ false
not_itself x bound e = grind (arith, ints, e)

less_than : (x y bound : ℤ) → x <ℤ y → y ≡ bound → int_lt x bound ≡ true
less_than x y bound l e = grind (arith, ints, l, e)

-- those before the bound itself are
pub before_bound : (values : List ℤ) → IsRising values → (bound : ℤ) (count : ℕ) → count < length values → own_at values count ≡ bound → (k : ℕ) → k < length values → int_lt (own_at values k) bound ≡ nat_lt k count
before_bound values up bound count within is k l = elim (cases_lt k count) [
  | inl before ↦ less_than (own_at values k) (own_at values count) bound (up k count (pos 0) before within) is ∙ grind (arith, nat_tests)
  | inr past ↦ above_all (λ x. x) (λ x y m. m) values up count bound (not_itself (own_at values count) bound is) k past l ∙ grind (arith, nat_tests)
]

below_differs : (x number : ℤ) → int_lt x number ≡ true → int_eq x number ≡ false
below_differs x number below = grind (arith, ints)

above_differs : (x y number : ℤ) → x <ℤ y → int_lt x number ≡ false → int_eq y number ≡ false
above_differs x y number l e = grind (arith, ints)

same_is : (x number : ℤ) → x ≡ number → int_eq x number ≡ true
same_is x number e = grind (arith, ints)

apart_differs : (x number : ℤ) → x ≢ number → int_eq x number ≡ false
apart_differs x number apart = by_test (int_eq x number) refl where
  by_test : (b : Bool) → int_eq x number ≡ b → b ≡ false
  by_test true t = absurd (apart ((Decides-int_eq x number).0 t))
  by_test false f = refl

-- values of which so many have a product below a number
module _ (factor : ℕ) (some : 0 < factor) (values : List ℤ) (up : IsRising values) (number : ℤ) (from : ℕ)
    (count : (k : ℕ) → k < length values → int_lt (pos factor *ℤ own_at values k) number ≡ nat_lt k from) where
  abbrev pub product_at : ℕ → ℤ
  product_at k = pos factor *ℤ own_at values k

  before_it : (k : ℕ) → k < length values → k < from → int_eq (product_at k) number ≡ false
  before_it k l before = below_differs (product_at k) number (count k l ∙ grind (arith, nat_tests))

  after_it : (k : ℕ) → k < length values → from < k → int_eq (product_at k) number ≡ false
  after_it k l past =
      let first : int_lt (product_at from) number ≡ false = count from (omega (arith, l, past)) ∙ grind (arith, nat_tests) in
      above_differs (product_at from) (product_at k) number (rises factor some (own_at values from) (own_at values k) (up from k (pos 0) past l)) first

  -- the next value's is the number itself
  pub only_there : product_at from ≡ number → (k : ℕ) → k < length values → (nat_lt k (from + 1) && not (nat_lt k from)) ≡ int_eq (product_at k) number
  only_there there k l = elim (cases_lt k from) [
    | inl before ↦ let none : (nat_lt k (from + 1) && not (nat_lt k from)) ≡ false = grind (arith, nat_tests) in none ∙ sym (before_it k l before)
    | inr past ↦ elim (cases_eq k from) [
      | inl same ↦ let one : (nat_lt k (from + 1) && not (nat_lt k from)) ≡ true = grind (arith, nat_tests) in
          one ∙ sym (ap (λ n. int_eq (product_at n) number) same ∙ same_is (product_at from) number there)
      | inr apart ↦ let none : (nat_lt k (from + 1) && not (nat_lt k from)) ≡ false = grind (arith, nat_tests) in none ∙ sym (after_it k l (omega (arith, past, apart)))
    ]
  ]

  -- it is not, or there is no next value
  pub nowhere : (from < length values → product_at from ≢ number) → (k : ℕ) → k < length values → false ≡ int_eq (product_at k) number
  nowhere missed k l = elim (cases_lt k from) [
    | inl before ↦ sym (before_it k l before)
    | inr past ↦ elim (cases_eq k from) [
      | inl same ↦ sym (ap (λ n. int_eq (product_at n) number) same ∙ apart_differs (product_at from) number (missed (omega (arith, l, same))))
      | inr apart ↦ sym (after_it k l (omega (arith, past, apart)))
    ]
  ]

-- the value at a place is a number
pub only_value : (values : List ℤ) → IsRising values → (number : ℤ) (from : ℕ) → from < length values → own_at values from ≡ number → (k : ℕ) → k < length values → (nat_lt k (from + 1) && not (nat_lt k from)) ≡ int_eq (own_at values k) number
only_value values up number from within is k l =
    only_there 1 (omega arith) values up number from (λ j m. ap (λ z. int_lt z number) (once (own_at values j)) ∙ before_bound values up number from within is j m) (once (own_at values from) ∙ is) k l
    ∙ ap (λ z. int_eq z number) (once (own_at values k))

-- no value is the number
pub no_value : (values : List ℤ) (number : ℤ) → has values number ≡ false → (k : ℕ) → k < length values → int_eq (own_at values k) number ≡ false
no_value values number none k l = by_test (int_eq (own_at values k) number) refl where
  by_test : (b : Bool) → int_eq (own_at values k) number ≡ b → b ≡ false
  by_test true t = sym (list_any_at (int_eq number) values k (pos 0) l (same_either number (own_at values k) ∙ t)) ∙ none
  by_test false f = refl

-- the product with the open variable, which is none where it is no term
own_product : (own : Option ℤ) (x : ℤ) → own_part own x ≡ unwrap_or own (pos 0) *ℤ x
own_product None x = sym (zero-*ℤ x)
own_product (Some coef) x = refl

-- a sum to which so many times the open variable is added, or from which it is taken away so often
module _ (rel : Rel) (line : LinearSum) (total rest coef : ℤ) (cut : Cut) (factor : ℕ) (own : unwrap_or line.own (pos 0) ≡ coef) where
  pub added_off : coef ≡ pos factor → rest ≡ total -ℤ line.base → ((y : ℤ) → is_in cut y ≡ not (stands rel y rest)) → (x : ℤ) → is_in cut (pos factor *ℤ x) ≡ not (stands rel (line_at line x) total)
  added_off times is h x =
      let y = pos factor *ℤ x in
      h y ∙ ap (λ r. not (stands rel y r)) is ∙ ap not (added_once rel line.base y total)
      ∙ sym (ap (λ z. not (stands rel (line.base +ℤ z) total)) (own_product line.own x ∙ ap (λ c. c *ℤ x) (own ∙ times)))

  pub taken_off : coef ≡ neg_ℤ (pos factor) → rest ≡ line.base -ℤ total → ((y : ℤ) → is_in cut y ≡ not (stands rel rest y)) → (x : ℤ) → is_in cut (pos factor *ℤ x) ≡ not (stands rel (line_at line x) total)
  taken_off times is h x =
      let y = pos factor *ℤ x in
      h y ∙ ap (λ r. not (stands rel r y)) is ∙ ap not (taken_once rel line.base y total)
      ∙ sym (ap (λ z. not (stands rel (line.base +ℤ z) total)) (own_product line.own x ∙ ap (λ c. c *ℤ x) (own ∙ times) ∙ turned_product factor x))

-- a sum in which the coefficient is told
pub told_coef : (rel : Rel) (line : LinearSum) (total coef : ℤ) → unwrap_or line.own (pos 0) ≡ coef → (x : ℤ) → not (stands rel (line.base +ℤ (coef *ℤ x)) total) ≡ not (stands rel (line_at line x) total)
told_coef rel line total coef own x = sym (ap (λ z. not (stands rel (line.base +ℤ z) total)) (own_product line.own x ∙ ap (λ c. c *ℤ x) own))

-- a sum without it
pub none_off : (rel : Rel) (line : LinearSum) (total : ℤ) → unwrap_or line.own (pos 0) ≡ pos 0 → (x : ℤ) → stands rel line.base total ≡ stands rel (line_at line x) total
none_off rel line total own x =
    let product : own_part line.own x ≡ pos 0 = own_product line.own x ∙ ap (λ c. c *ℤ x) own ∙ zero-*ℤ x in
    let whole : line.base +ℤ own_part line.own x ≡ line.base = omega (arith, ints, product) in
    ap (λ z. stands rel z total) (sym whole)

-- a sum that is told to be false
pub told_false : (holds : Bool) (truth : ℤ) → truth ≢ pos 1 → not (not holds) ≡ not (is_told (Some truth) holds)
told_false holds truth ne = by_test (is_one truth) refl where
  by_test : (b : Bool) → is_one truth ≡ b → not (not holds) ≡ not (same holds (is_one truth))
  by_test true t = absurd (ne ((Decides-int_eq truth (pos 1)).0 t))
  by_test false f = by_truth holds ∙ sym (ap (λ b. not (same holds b)) f) where
    by_truth : (h : Bool) → not (not h) ≡ not (same h false)
    by_truth true = refl
    by_truth false = refl
