use Rattle.std.proofs.Common.{◌≡◌, true, take}
use Rattle.std.specs.Prelude.{is_some}
use Rattle.std.specs.List.{list_all}
use Rattle.dcsp_problem.proofs.problem.Problem.knows_scope.Given as goal

abbrev pub invariant-loop-var : goal.invariant-loop-var
invariant-loop-var g l = list_all (λ v. is_some (g.L.Lookup.values l.lookup v)) (take l.var-index l.scope) ≡ true
