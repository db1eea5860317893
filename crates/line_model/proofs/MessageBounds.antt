-- The bound is never below what the first agents count.
use Rattle.std.proofs.Common.{◌≡◌, ℕ, zero, suc, ◌+◌, ◌-◌, ◌*◌, ◌<◌, ◌≤◌, length, refl, sym, ◌∙◌, arith, inl, inr, ◌⊎◌, rules}
use Rattle.std.specs.Prelude.{Option, Some, None}
use Rattle.std.specs.Option.{SomeIff}
use Rattle.std.proofs.Math.Nat.{one-le-mul}
use Rattle.std.proofs.lemmas.Nat.{mul-le}
use Rattle.dcsp_defs.specs.Words.{sum_below}
use Rattle.dcsp_defs.specs.Csp.{Csp, domain, count}
use Rattle.abt_defs.specs.Bound.{product_below, message_bound}
use Rattle.line_model.specs.PartialBounds.{counted, bound_below}

pub product_some : (p : Csp) (i : ℕ) → 1 ≤ product_below p i
product_some p zero = omega arith
product_some p (suc i) = one-le-mul (product_some p i) (omega arith)

-- later agents only add
pub more_below : (p : Csp) (i n : ℕ) → i ≤ n → bound_below p i ≤ bound_below p n
more_below p i zero l = let same : i ≡ 0 = omega arith in rw same (omega arith)
more_below p i (suc n) l =
    let split : (i ≤ n) ⊎ (i ≡ suc n) = search rules in
    elim split [
      | inl before ↦ let rest = more_below p i n before in omega arith
      | inr same ↦ rw same (omega arith)
    ]

pub bound_above : (p : Csp) (i : ℕ) → i < count p → bound_below p i + counted p i ≤ message_bound p
bound_above p i l = let later = more_below p (suc i) (count p) (omega arith) in omega arith

-- the next product is at most what the agents before it count, and 1
product_counts : (p : Csp) (i : ℕ) → i < count p → product_below p i ≤ 1 + sum_below (counted p) i
product_counts p zero l = omega arith
product_counts p (suc i) l =
    let before = product_counts p i (omega arith) in
    let some = product_some p i in
    let size = length (domain p i) in
    let lower = count p - 1 - i in
    let once : size * product_below p i ≤ lower * size * product_below p i = mul-le size (product_below p i) (lower * size) (product_below p i) (let e = mul-le 1 size lower size (omega arith) (omega arith) in omega arith) (omega arith) in
    omega arith

-- where the bound is below a limit, each product is
pub product_fits : (p : Csp) (i limit : ℕ) → i < count p → 2 ≤ limit → message_bound p < limit → product_below p i < limit
product_fits p i limit l some fits =
    let first = product_counts p i l in
    let all = bound_above p i l in
    omega arith

-- what one agent counts, from its parts
pub counted_is : (p : Csp) (i lower size product : ℕ) → lower ≡ count p - 1 - i → size ≡ length (domain p i) → product ≡ product_below p i → lower * size * product + (product - 1) ≡ counted p i
counted_is p i lower size product e f g = rw (e, f, g) refl

-- what a number that may be there tells
pub none_is : (o : Option ℕ) (P : Type 0) (v : ℕ) → o ≡ None → (P → ⊥) → SomeIff o P v
none_is None P v e h = h
none_is (Some x) P v e h = cc

pub none_tells : (o : Option ℕ) (P : Type 0) (v : ℕ) → o ≡ None → SomeIff o P v → P → ⊥
none_tells None P v e h = h
none_tells (Some x) P v e h = cc

pub some_tells : (o : Option ℕ) (x : ℕ) (P : Type 0) (v : ℕ) → o ≡ Some x → SomeIff o P v → P × (x ≡ v)
some_tells None x P v e h = cc
some_tells (Some y) x P v e h = let same : y ≡ x = cc in (h.0, sym same ∙ h.1)
