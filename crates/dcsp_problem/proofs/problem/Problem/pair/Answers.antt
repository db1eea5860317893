use Rattle.std.proofs.Common.{subst, sym}
use Rattle.std.specs.Prelude.{IsSome, Option}
use Rattle.dcsp_rule.specs.declared.pair.BinaryRule.{BinaryRule}
use Rattle.dcsp_problem.proofs.problem.Problem.pair.Goals as goal

pub returns-clause-summed : goal.returns-clause-summed
returns-clause-summed c = λ v w small. subst (λ (o : Option BinaryRule). IsSome o) (sym c.pair.ensures) (c.form.ensures.form.summed v w small)
