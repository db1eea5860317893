-- The numbers that a record holds.
use Rattle.std.proofs.Common.{◌≡◌, ℕ, ◌-◌, ◌*◌, ◌^◌, ◌<◌, ◌≤◌, ◌%◌, true, false, cond, List, [], ◌∷◌, length, is_some, refl, mul-le-mul_right, arith}
use Rattle.std.specs.List.{AllByRecursion}
use Rattle.std.proofs.Math.Nat.{mod-lt}
use Rattle.dcsp_defs.specs.Csp.{Csp, count}
use Rattle.abt_defs.specs.Network.{Network, ready, deliver, start, is_empty}
use Rattle.abt_defs.specs.Runs.{stop, stopped, with_delivery, delivery, go, whole}
use Rattle.law_runs.proofs.Choices.{few_ready}
use Rattle.law_subjects.specs.Recording.{NumbersAreSmall}
use Rattle.law_subjects.proofs.Starving.{goes_on}

some_there : {X : Type 0} (xs : List X) → is_empty xs ≡ false → 0 < length xs
some_there [] h = cc
some_there (x ∷ xs) h = omega arith

-- each number is below the number of lists, and so below that of pairs
numbers_from : (p : Csp) (most : ℕ) (choices : List ℕ) (net : Network) → AllByRecursion (λ number. number < count p * count p) (go p most choices net).numbers
numbers_from p most [] net = tt
numbers_from p most (c ∷ cs) net =
    let rest = numbers_from p (most - 1) cs (deliver p c net) in
    let few = few_ready p net in
    (elim (is_some (stop p most net)) as (λ s. is_some (stop p most net) ≡ s
    → AllByRecursion (λ number. number < count p * count p) (cond s (stopped p most (c ∷ cs) net) (with_delivery (c % length (ready p net)) (delivery p c net) (go p (most - 1) cs (deliver p c net)))).numbers) [
      | true ↦ λ is. tt
      | false ↦ λ is. let some = some_there (ready p net) (goes_on p most net is).1 in let small = mod-lt c some in (omega (arith, few, small), rest)
    ]) refl

below_all : (m : ℕ) (xs : List ℕ) → m ≤ 2 ^ 24 → AllByRecursion (λ number. number < m) xs → AllByRecursion (λ number. number < 2 ^ 24) xs
below_all m [] few h = tt
below_all m (x ∷ xs) few h = (omega (arith, few, h.0), below_all m xs few h.1)

pub numbers_are_small : (p : Csp) → NumbersAreSmall p
numbers_are_small p few most choices =
    let n = count p in
    let square : n * n ≤ 4096 * n = mul-le-mul_right n few in
    below_all (n * n) (whole p most choices).numbers (omega (arith, square, few)) (numbers_from p most choices (start p))
