-- Places of agents, of the problem that is run.
use Rattle.std.proofs.Common.{◌≡◌, ◌∙◌, ℕ, ◌<◌, List, length, Option, Some, None, Result, sym, subst, arith}
use Rattle.std.specs.Prelude.{IfSome}
use Rattle.std.proofs.lemmas.List.{length-map}
use Rattle.dcsp_rule.specs.Problems.{Contents}
use Rattle.dcsp_order.specs.Orders.{IsOrder}
use Rattle.dcsp_order.specs.Told.{ordered, place_told, IsOrderFor}
use Rattle.dcsp_order.proofs.Places.{low_place}
use Rattle.dcsp_script.specs.declared.stop.Stop.{Stop}
use Rattle.dcsp_script.specs.Scripts.{World}
use Rattle.dcsp_script.specs.Ways.{Wrote}
use Rattle.line_measure.specs.MeasurePromise.{measure_script, survey_script}

-- an order of the problem's variables is one of those of the problem under it
pub still_order : (order : Option (List ℕ)) (p : Contents) → IsOrderFor order p → IsOrderFor order (ordered order p)
still_order None p is = tt
still_order (Some numbers) p is = let whole = is.whole in subst (λ n. IsOrder n numbers) (sym whole ∙ sym (length-map numbers _)) is

-- a number of a variable is one of the order
pub among : (order : Option (List ℕ)) (p : Contents) (number : ℕ) → IsOrderFor order p → number < length p.domains → IfSome order (λ numbers. number < length numbers)
among None p number is l = tt
among (Some numbers) p number is l = let whole = is.whole in omega (arith, whole, l)

-- and an agent stands at its place
pub agent_there : (order : Option (List ℕ)) (p : Contents) (number : ℕ) → IsOrderFor order p → number < length p.domains → place_told order number < length p.domains
agent_there None p number is l = l
agent_there (Some numbers) p number is l = low_place (length p.domains) numbers is number l

-- ---- what is put of the problem that is run

-- the measures, by what the order and the problem are
pub measured_as : {T : Type 0} {a b : World} {r : Result T Stop} (order o : Option (List ℕ)) (run q : Contents) (choices : List ℕ) → order ≡ o → run ≡ q → Wrote (measure_script order run choices) a b r → Wrote (measure_script o q choices) a b r
measured_as order o run q choices e f w = rw (sym e, sym f) w

-- the lines of a survey
pub surveyed_as : {T : Type 0} {a b : World} {r : Result T Stop} (run q : Contents) (from count : ℕ) → run ≡ q → Wrote (survey_script run from count) a b r → Wrote (survey_script q from count) a b r
surveyed_as run q from count f w = rw (sym f) w
