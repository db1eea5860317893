-- Numbers that are missing in a list, and orders that begin with it.
use Rattle.std.proofs.Common.{◌≡◌, ◌≢◌, ℕ, zero, suc, ◌+◌, ◌-◌, ◌<◌, ◌≤◌, not, ◌⊎◌, List, [], ◌∷◌, ◌++◌, length, inl, inr, sym, ap, subst, append_assoc, arith}
use Rattle.std.specs.Prelude.{◌==◌}
use Rattle.std.proofs.lemmas.Bool.Decides.{eqb_tells}
use Rattle.std.proofs.lemmas.List.{append-nil, length_push}
use Rattle.dcsp_defs.specs.Words.{In}
use Rattle.dcsp_defs.proofs.Lists.{In-split, In-filter}
use Rattle.dcsp_order.specs.Orders.{IsDistinct, IsOrder}
use Rattle.dcsp_order.proofs.Places.{without, distinct_without, distinct_fits}
use Rattle.dcsp_order.proofs.Counts.{length_without}

-- numbers below n, none of them twice
pub record AreSome (n : ℕ) (order : List ℕ) : Type 0 where
  pub inside : (number : ℕ) → In number order → number < n
  pub once : IsDistinct order

pub in_or_not : (k : ℕ) (order : List ℕ) → In k order ⊎ (In k order → ⊥)
in_or_not k [] = inr (λ i. i)
in_or_not k (x ∷ xs) = elim (eqb_tells k x) [
  | inl t ↦ inl (inl t.1)
  | inr t ↦ elim (in_or_not k xs) [
    | inl i ↦ inl (inr i)
    | inr none ↦ inr (λ i. elim i [ inl e ↦ t.1 e | inr j ↦ none j ])
  ]
]

-- a number below m is missing, or none is
look : (m : ℕ) (order : List ℕ) → ((k : ℕ) × (k < m) × (In k order → ⊥)) ⊎ ((k : ℕ) → k < m → In k order)
look zero order = inr (λ k l. absurd (omega (arith, l)))
look (suc m) order = elim (look m order) [
  | inl found ↦ inl (found.0, omega (arith, found.1), found.2)
  | inr all ↦ elim (in_or_not m order) [
    | inl here ↦ inr (λ k l. elim (eqb_tells k m) [
      | inl t ↦ subst (λ (z : ℕ). In z order) (sym t.1) here
      | inr t ↦ all k (omega (arith, l, t.1))
    ])
    | inr none ↦ inl (m, omega arith, none)
  ]
]

kept : (n k : ℕ) (order : List ℕ) → In k order → k ≢ n → In k (without n order)
kept n k order i other = In-filter (λ j. not (j == n)) k order i (elim (eqb_tells k n) [ inl t ↦ absurd (other t.1) | inr t ↦ ap not t.0 ])

-- a list with all numbers below n has as many at least
as_many : (n : ℕ) (order : List ℕ) → IsDistinct order → ((k : ℕ) → k < n → In k order) → n ≤ length order
as_many zero order once all = omega arith
as_many (suc n) order once all =
    let less = length_without n order once (all n (omega arith)) in
    let rest = as_many n (without n order) (distinct_without n order once) (λ k l. kept n k order (all k (omega (arith, l))) (λ e. absurd (omega (arith, e, l)))) in
    omega (arith, less, rest)

-- where there are fewer than n, one is missing
pub missing : (n : ℕ) (order : List ℕ) → AreSome n order → length order < n → (k : ℕ) × (k < n) × (In k order → ⊥)
missing n order some few = elim (look n order) [
  | inl found ↦ found
  | inr all ↦ absurd (let most = as_many n order some.once all in omega (arith, most, few))
]

pub distinct_push : (k : ℕ) (order : List ℕ) → IsDistinct order → (In k order → ⊥) → IsDistinct (order ++ k ∷ [])
distinct_push k [] once none = (λ i. i, tt)
distinct_push k (x ∷ xs) once none = (
  λ i. elim (In-split x xs (k ∷ []) i) [ inl j ↦ once.0 j | inr j ↦ elim j [ inl e ↦ none (inl (sym e)) | inr z ↦ z ] ],
  distinct_push k xs once.1 (λ i. none (inr i)),
)

-- one number more
pub some_push : (n k : ℕ) (order : List ℕ) → AreSome n order → k < n → (In k order → ⊥) → AreSome n (order ++ k ∷ [])
some_push n k order some low none = record {
  inside = λ j i. elim (In-split j order (k ∷ []) i) [ inl h ↦ some.inside j h | inr h ↦ elim h [ inl e ↦ subst (λ (z : ℕ). z < n) (sym e) low | inr z ↦ absurd z ] ];
  once = distinct_push k order some.once none;
}

complete : (more n : ℕ) (order : List ℕ) → AreSome n order → length order + more ≡ n → (rest : List ℕ) × IsOrder n (order ++ rest)
complete zero n order some e =
    ([], subst (IsOrder n) (sym (append-nil order)) (record { whole = omega (arith, e); inside = some.inside; once = some.once }))
complete (suc more) n order some e =
    let one = missing n order some (omega (arith, e)) in
    let longer = length_push order one.0 in
    let c = complete more n (order ++ one.0 ∷ []) (some_push n one.0 order some one.1 one.2) (omega (arith, e, longer)) in
    (one.0 ∷ c.0, subst (IsOrder n) (append_assoc order (one.0 ∷ []) c.0) c.1)

-- some order begins with the numbers
pub begins_order : (n : ℕ) (order : List ℕ) → AreSome n order → (rest : List ℕ) × IsOrder n (order ++ rest)
begins_order n order some =
    let fits = distinct_fits n order some.once some.inside in
    complete (n - length order) n order some (omega (arith, fits))
