use Rattle.std.proofs.Common.{◌==◌, ◌&&◌, take}
use Rattle.std.specs.Prelude.{nat_lt}
use Rattle.dcsp_problem.specs.Lower.{is_among, Adds}
use Rattle.dcsp_problem.proofs.lower.push_owners.Given as goal

abbrev pub invariant-loop-var : goal.invariant-loop-var
invariant-loop-var l = Adds (λ var number. (l.owner == number) && (nat_lt var number && is_among var (take l.var-index l.vars))) l.initial.owners.items l.owners.items
