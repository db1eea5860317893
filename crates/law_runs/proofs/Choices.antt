-- Every order of deliveries is a list of choices.
use Rattle.std.proofs.Common.{◌≡◌, ℕ, zero, suc, ◌+◌, ◌*◌, ◌<◌, ◌≤◌, ◌%◌, Bool, true, false, cond, not, inl, inr, List, [], ◌∷◌, ◌++◌, map, flat_map, filter, length, slice_get, Option, Some, refl, sym, ap, ◌∙◌, subst, length-append, arith}
use Rattle.std.proofs.Math.Nat.{mod-eq_of_lt}
use Rattle.dcsp_defs.specs.Words.{In, below}
use Rattle.dcsp_defs.specs.Csp.{Csp, count}
use Rattle.dcsp_defs.proofs.Lists.{In-left, In-right, In-map, In-filter, below-In}
use Rattle.abt_defs.specs.Network.{Network, ready, deliver, deliver_at, run, start, is_empty, pairs}
use Rattle.law_runs.specs.Orders.{CanDeliver, IsOrder, follow, AreBelowPairs, OrdersAreChoices}

-- an item stands at some place
place_of : {X : Type 0} → (x : X) (xs : List X) → In x xs → (n : ℕ) × (n < length xs) × (slice_get xs n ≡ Some x)
place_of x [] h = absurd h
place_of x (y ∷ ys) (inl e) = (0, omega arith, ap Some (sym e))
place_of x (y ∷ ys) (inr h) = let r = place_of x ys h in (suc r.0, omega (arith, r.1), r.2)

In-flat_map : {X Y : Type 0} → (f : X → List Y) (x : X) (y : Y) (xs : List X) → In x xs → In y (f x) → In y (flat_map f xs)
In-flat_map f x y [] h u = absurd h
In-flat_map {X = X} f x y (z ∷ zs) (inl e) u = In-left y (f z) (flat_map f zs) (let P : X → Type 0 = λ w. In y (f w) in subst P e u)
In-flat_map f x y (z ∷ zs) (inr h) u = In-right y (f z) (flat_map f zs) (In-flat_map f x y zs h u)

-- a pair that can deliver is among the nonempty ones
is_ready : (p : Csp) (pair : ℕ × ℕ) (net : Network) → CanDeliver p pair net → In pair (ready p net)
is_ready p pair net h =
    In-filter (λ (x : ℕ × ℕ). not (is_empty (net.links x.0 x.1))) pair (pairs (count p))
    (In-flat_map (λ k. map (λ i. (k, i)) (below (count p))) pair.0 pair (below (count p)) (below-In (count p) pair.0 h.sender) (In-map (λ i. (pair.0, i)) pair.1 (below (count p)) (below-In (count p) pair.1 h.receiver)))
    (ap not h.waiting)

-- how many lists there are
length_below : (n : ℕ) → length (below n) ≡ n
length_below zero = refl
length_below (suc n) = let rest = length_below n in let all = length-append (below n) (n ∷ []) in omega (arith, rest, all)

length_row : (k : ℕ) (ks : List ℕ) → length {A = ℕ × ℕ} (map (λ (i : ℕ). (k, i)) ks) ≡ length ks
length_row k [] = refl
length_row k (i ∷ ks) = ap suc (length_row k ks)

abbrev row : ℕ → ℕ → List (ℕ × ℕ)
row n k = map (λ (i : ℕ). (k, i)) (below n)

row_lengths : (n : ℕ) (ks : List ℕ) → length (flat_map (row n) ks) ≡ length ks * n
row_lengths n [] = omega arith
row_lengths n (k ∷ ks) =
    let first : length (row n k) ≡ n = length_row k (below n) ∙ length_below n in
    let rest = row_lengths n ks in
    let all : length (row n k ++ flat_map (row n) ks) ≡ length (row n k) + length (flat_map (row n) ks) = length-append (row n k) (flat_map (row n) ks) in
    omega (arith, all, first, rest)

filter_length : {X : Type 0} (q : X → Bool) (xs : List X) → length (filter q xs) ≤ length xs
filter_length q [] = omega arith
filter_length q (x ∷ xs) =
    let rest = filter_length q xs in elim (q x) as (λ b. length (cond b (x ∷ filter q xs) (filter q xs)) ≤ length (x ∷ xs)) [ true ↦ omega (arith, rest) | false ↦ omega (arith, rest) ]

pub few_ready : (p : Csp) (net : Network) → length (ready p net) ≤ count p * count p
few_ready p net =
    let all = row_lengths (count p) (below (count p)) in
    let n = length_below (count p) in
    let kept = filter_length (λ (x : ℕ × ℕ). not (is_empty (net.links x.0 x.1))) (pairs (count p)) in
    let same : length (below (count p)) * count p ≡ count p * count p = ap (λ m. m * count p) n in
    omega (arith, all, same, kept)

-- the choice that delivers from the pair
choice_for : (p : Csp) (pair : ℕ × ℕ) (net : Network) → CanDeliver p pair net → (c : ℕ) × (c < count p * count p) × (deliver p c net ≡ deliver_at p (Some pair) net)
choice_for p pair net h =
    let r = place_of pair (ready p net) (is_ready p pair net h) in
    let few = few_ready p net in
    let small : r.0 % length (ready p net) ≡ r.0 = mod-eq_of_lt r.1 in
    (r.0, omega (arith, few, r.1), ap (λ (o : Option (ℕ × ℕ)). deliver_at p o net) (ap (slice_get (ready p net)) small ∙ r.2))

choices_for : (p : Csp) (order : List (ℕ × ℕ)) (net : Network) → IsOrder p order net → (choices : List ℕ) × (length choices ≡ length order) × AreBelowPairs p choices × (run p choices net ≡ follow p order net)
choices_for p [] net h = ([], refl, tt, refl)
choices_for p (pair ∷ order) net h =
    let c = choice_for p pair net h.0 in
    let r = choices_for p order (deliver_at p (Some pair) net) h.1 in
    let goes : run p (c.0 ∷ r.0) net ≡ run p r.0 (deliver p c.0 net) = ap (λ b. cond b net (run p r.0 (deliver p c.0 net))) h.0.open_still in
    (c.0 ∷ r.0, ap suc r.1, (c.1, r.2), goes ∙ ap (run p r.0) c.2 ∙ r.3)

pub orders_are_choices : (p : Csp) → OrdersAreChoices p
orders_are_choices p order h = choices_for p order (start p) h
