use Rattle.std.proofs.Common.{◌∙◌}
use Rattle.dcsp_rule.specs.Lent.{lent_rule}
use Rattle.cnf_front.proofs.FormulaLaws.{clause_added}
use Rattle.cnf_front.proofs.formula.formula_of.Goals as goal

pub loop-number-preserved : goal.loop-number-preserved
loop-number-preserved c =
    clause_added c.args.problem.now.rules c.loop-number.number (lent_rule c.rule.result) c.args.into.now c.loop-number.into c.push.new.self c.deref.result.now c.rule.ensures c.loop-number.invariant (c.deref.ensures.value ∙ c.in_ok-read_rule.ensures.clause) c.in_ok-push.ensures.ok
