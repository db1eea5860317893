-- The agents that a nogood names, by their own numbers.
use Rattle.std.proofs.Common.{◌≡◌, ◌∙◌, ℕ, suc, true, false, cond, ◌||◌, List, [], ◌∷◌, ◌++◌, ◌==◌, filter, map, Some, is_some, refl, ap}
use Rattle.std.proofs.lemmas.List.{map-append}
use Rattle.std.proofs.lemmas.List.Elements.{filter-append}
use Rattle.dcsp_defs.specs.declared.nogood.Pair.{Pair}
use Rattle.dcsp_defs.specs.Pairs.{value_at}
use Rattle.dcsp_defs.specs.Words.{below}
use Rattle.abt_defs.specs.Agents.{Stamped, View, is_among}
use Rattle.abt_parts.specs.Messages.{with_stamps}
use Rattle.dcsp_order.specs.Orders.{place_of}
use Rattle.abt_story.specs.Looking.{known_at}

-- those with the first numbers
abbrev pub first_named : List ℕ → List ℕ → ℕ → List ℕ
first_named order agents n = filter (λ k. is_among k agents) (map (place_of order) (below n))

-- one number more
pub one_named : (order agents : List ℕ) (n : ℕ) → first_named order agents (suc n) ≡ first_named order agents n ++ cond (is_among (place_of order n) agents) (place_of order n ∷ []) []
one_named order agents n =
    ap (filter (λ k. is_among k agents)) (map-append (place_of order) (below n) (n ∷ []))
    ∙ filter-append (λ k. is_among k agents) (map (place_of order) (below n)) (place_of order n ∷ [])

-- a nogood names those to which it gives a value
pub named_where : (pairs : List Pair) (k : ℕ) → is_among k (map (λ (y : Pair). y.var) pairs) ≡ is_some (value_at pairs k)
named_where [] k = refl
named_where (y ∷ pairs) k = elim (k == y.var) as (λ b. (b || is_among k (map (λ (z : Pair). z.var) pairs)) ≡ is_some (cond b (Some y.value) (value_at pairs k))) [ true ↦ refl | false ↦ named_where pairs k ]

-- its agents, as it is in a message
pub agents_of : (pairs : List Pair) (stamps : List ℕ) → map (λ (y : Pair). y.var) pairs ≡ map (λ (y : ℕ × Stamped). y.0) (with_stamps pairs stamps)
agents_of [] stamps = refl
agents_of (y ∷ ys) [] = ap (λ l. y.var ∷ l) (agents_of ys [])
agents_of (y ∷ ys) (s ∷ ss) = ap (λ l. y.var ∷ l) (agents_of ys ss)

-- what a view has of them
pub each_known : (view : View) (pairs : List Pair) → map (λ (y : Pair). known_at view y.var) pairs ≡ map (known_at view) (map (λ (y : Pair). y.var) pairs)
each_known view [] = refl
each_known view (y ∷ ys) = ap (λ l. known_at view y.var ∷ l) (each_known view ys)
