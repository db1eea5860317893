-- No pair stands twice among those whose list is not empty, so its number is its place.
use Rattle.std.proofs.Common.{◌≡◌, ℕ, zero, suc, Bool, true, false, cond, not, ◌&&◌, inl, inr, List, [], ◌∷◌, ◌++◌, map, filter, flat_map, slice_get, Some, ◌==◌, refl, sym, ap, ◌∙◌, subst, arith}
use Rattle.std.proofs.lemmas.Bool.Decides.{nat_tests}
use Rattle.dcsp_defs.specs.Words.{In, below}
use Rattle.dcsp_defs.specs.Csp.{Csp, count}
use Rattle.dcsp_defs.proofs.Lists.{In-split, In-below, filter-from, get-In, and_left, and_right, and_both}
use Rattle.abt_defs.specs.Network.{pairs, ready, is_empty}
use Rattle.law_agent.proofs.Runs.{In-pairs}
use Rattle.law_runs.specs.LossyRuns.{NumbersArePlaces}
use Rattle.law_runs.proofs.PacketLists.{first_place}

-- no item stands twice
abbrev Distinct : {X : Type 0} → List X → Type 0
Distinct [] = Unit {0}
Distinct (x ∷ xs) = (In x xs → ⊥) × Distinct xs

one_place : {X : Type 0} → (xs : List X) (a b : ℕ) (x : X) → Distinct xs → slice_get xs a ≡ Some x → slice_get xs b ≡ Some x → a ≡ b
one_place [] a b x d g h = cc
one_place (y ∷ ys) zero zero x d g h = refl
one_place (y ∷ ys) zero (suc b) x d g h = let e : y ≡ x = cc in absurd (d.0 (subst (λ z. In z ys) (sym e) (get-In ys b x h)))
one_place (y ∷ ys) (suc a) zero x d g h = let e : y ≡ x = cc in absurd (d.0 (subst (λ z. In z ys) (sym e) (get-In ys a x g)))
one_place (y ∷ ys) (suc a) (suc b) x d g h = ap suc (one_place ys a b x d.1 g h)

distinct_filter : {X : Type 0} → (q : X → Bool) (xs : List X) → Distinct xs → Distinct (filter q xs)
distinct_filter q [] d = tt
distinct_filter q (x ∷ xs) d = elim (q x) as (λ b. Distinct (cond b (x ∷ filter q xs) (filter q xs))) [
  | true ↦ (λ u. d.0 (filter-from q x xs u).0, distinct_filter q xs d.1)
  | false ↦ distinct_filter q xs d.1
]

distinct_append : {X : Type 0} → (xs ys : List X) → Distinct xs → Distinct ys → ((x : X) → In x xs → In x ys → ⊥) → Distinct (xs ++ ys)
distinct_append [] ys d e apart = e
distinct_append (x ∷ xs) ys d e apart =
    (λ u. elim (In-split x xs ys u) [ inl v ↦ d.0 v | inr v ↦ apart x (inl refl) v ], distinct_append xs ys d.1 e (λ z u v. apart z (inr u) v))

distinct_below : (n : ℕ) → Distinct (below n)
distinct_below zero = tt
distinct_below (suc n) = distinct_append (below n) (n ∷ []) (distinct_below n) (λ u. absurd u, tt) (λ x u v. elim v [ inl e ↦ (let l = In-below n x u in absurd (omega arith)) | inr w ↦ absurd w ])

in_row : (k : ℕ) (x : ℕ × ℕ) (ys : List ℕ) → In x (map (λ i. (k, i)) ys) → (x.0 ≡ k) × In x.1 ys
in_row k x [] u = absurd u
in_row k x (y ∷ ys) (inl e) = (ap (λ (z : ℕ × ℕ). z.0) e, inl (ap (λ (z : ℕ × ℕ). z.1) e))
in_row k x (y ∷ ys) (inr u) = let r = in_row k x ys u in (r.0, inr r.1)

distinct_row : (k : ℕ) (ys : List ℕ) → Distinct ys → Distinct {X = ℕ × ℕ} (map (λ i. (k, i)) ys)
distinct_row k [] d = tt
distinct_row k (y ∷ ys) d = (λ u. d.0 (in_row k (k, y) ys u).1, distinct_row k ys d.1)

distinct_rows : (n : ℕ) (ks : List ℕ) → Distinct ks → Distinct {X = ℕ × ℕ} (flat_map (λ k. map (λ i. (k, i)) (below n)) ks)
distinct_rows n [] d = tt
distinct_rows n (k ∷ ks) d =
    distinct_append (map (λ i. (k, i)) (below n)) (flat_map (λ k. map (λ i. (k, i)) (below n)) ks) (distinct_row k (below n) (distinct_below n)) (distinct_rows n ks d.1)
    (λ x u v. d.0 (subst (λ z. In z ks) (in_row k x (below n) u).0 (In-pairs n x ks v).1))

pub numbers_are_places : (p : Csp) → NumbersArePlaces p
numbers_are_places p net place k i here =
    let once : Distinct (ready p net) = distinct_filter (λ (x : ℕ × ℕ). not (is_empty (net.links x.0 x.1))) (pairs (count p)) (distinct_rows (count p) (below (count p)) (distinct_below (count p))) in
    let test : ℕ × ℕ → Bool = λ x. k == x.0 && i == x.1 in
    let first = first_place test (k, i) (ready p net) (get-In (ready p net) place (k, i) here) (and_both (k == k) (i == i) (grind (arith, nat_tests)) (grind (arith, nat_tests))) in
    let sender : k ≡ first.1.0 = alike k first.1.0 (and_left _ _ first.4) in
    let receiver : i ≡ first.1.1 = alike i first.1.1 (and_right _ _ first.4) in
    let same : first.1 ≡ (k, i) = λ z. (sym sender z, sym receiver z) in
    first.2 ∙ ap Some (one_place (ready p net) first.0 place (k, i) once (first.3 ∙ ap Some same) here)
  where
    alike : (x y : ℕ) → (x == y) ≡ true → x ≡ y
    alike x y h = grind (arith, nat_tests)
