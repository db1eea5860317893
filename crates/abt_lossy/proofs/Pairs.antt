-- PairCounts of pairs after one of them changed.
use Rattle.std.proofs.Common.{◌≡◌, ◌≢◌, ℕ, ◌+◌, true, false, cond, ◌&&◌, inl, inr, Option, Some, ◌==◌, refl, sym, ap, ◌∙◌, arith}
use Rattle.std.specs.Ordering.{nat_cmp, ordering_then, is_eq}
use Rattle.std.specs.declared.cmp.Ordering.TheVariants.{Equal}
use Rattle.std.proofs.lemmas.Bool.Decides.{nat_tests, eqb_tells}
use Rattle.law_runs.specs.Worlds.{raised}
use Rattle.abt_lossy.specs.declared.counts.PairCounts.{PairCounts}
use Rattle.abt_lossy.specs.Carries.{pair_cmp}

same_eq : (x y : ℕ) → is_eq (nat_cmp x y) ≡ (y == x)
same_eq x y = grind (arith, nat_tests)

both_eq : (x y a b : ℕ) → is_eq (ordering_then (nat_cmp x a) (nat_cmp y b)) ≡ (a == x && b == y)
both_eq x y a b = elim (eqb_tells a x) [
  | inl t ↦ let e : nat_cmp x a ≡ Equal = (let f : a ≡ x = t.1 in grind (arith, nat_tests)) in rw (t.0, e) (same_eq y b)
  | inr t ↦ rw t.0 (apart x a y b t.1)
]
  where
    apart : (x a y b : ℕ) → a ≢ x → is_eq (ordering_then (nat_cmp x a) (nat_cmp y b)) ≡ false
    apart x a y b ne = grind (arith, nat_tests)

pub at_pair : (k i a b : ℕ) → is_eq (pair_cmp (k, i) (a, b)) ≡ (a == k && b == i)
at_pair k i a b = both_eq k i a b

pub raised_at : (f : ℕ → ℕ → ℕ) (k i a b : ℕ) → raised f k i a b ≡ cond (a == k && b == i) (f k i + 1) (f a b)
raised_at f k i a b = elim (eqb_tells a k) [
  | inl t ↦ rw t.0 (elim (eqb_tells b i) [
    | inl u ↦ rw u.0 refl
    | inr u ↦ rw u.0 (ap (λ z. f z b) (sym t.1))
  ])
  | inr t ↦ rw t.0 refl
]

-- what is read at each pair, once one pair has counts of which one has risen
pub read_after : (read : Option PairCounts → ℕ) (old : ℕ → ℕ → Option PairCounts) (k i : ℕ) (more : PairCounts) → read (Some more) ≡ read (old k i) + 1 → (a b : ℕ)
    → read (cond (is_eq (pair_cmp (k, i) (a, b))) (Some more) (old a b)) ≡ raised (λ x y. read (old x y)) k i a b
read_after read old k i more e a b =
    ap (λ c. read (cond c (Some more) (old a b))) (at_pair k i a b)
    ∙ (elim (a == k && b == i) as (λ c. read (cond c (Some more) (old a b)) ≡ cond c (read (old k i) + 1) (read (old a b))) [ true ↦ e | false ↦ refl ])
    ∙ sym (raised_at (λ x y. read (old x y)) k i a b)

pub same_after : (read : Option PairCounts → ℕ) (old : ℕ → ℕ → Option PairCounts) (k i : ℕ) (more : PairCounts) → read (Some more) ≡ read (old k i) → (a b : ℕ)
    → read (cond (is_eq (pair_cmp (k, i) (a, b))) (Some more) (old a b)) ≡ read (old a b)
same_after read old k i more e a b = ap (λ c. read (cond c (Some more) (old a b))) (at_pair k i a b) ∙ (elim (eqb_tells a k) [
  | inl t ↦ elim (eqb_tells b i) [
    | inl u ↦ rw (t.0, u.0) (e ∙ ap (λ z. read (old z i)) (sym t.1) ∙ ap (λ z. read (old a z)) (sym u.1))
    | inr u ↦ rw (t.0, u.0) refl
  ]
  | inr t ↦ rw t.0 refl
])
