use Rattle.std.proofs.Common.{◌+◌, arith, ap}
use Rattle.dcsp_rule.specs.Problems.{Contents}
use Rattle.dcsp_problem.proofs.Counts.{tallied_variable}
use Rattle.dcsp_problem.proofs.builder.ProblemBuilder.add_var.Goals as goal

pub invariant_of-self-2 : goal.invariant_of-self-2
invariant_of-self-2 c =
    let p : Contents = record { domains = c.self.inside.domains.items; rules = c.self.inside.rules; outputs = c.self.inside.outputs.items; aim = c.self.inside.aim } in
    rw c.in_ok-push.ensures.items (tallied_variable p c.args.domain c.self.inside.values c.self.inside.terms _ c.self.invariant (record { rising = c.len.ensures.rising; small = c.len.ensures.small }) (ap (λ n. c.self.inside.values + n) c.len.ensures.len) (omega (arith, c.len-number.ensures, c.in_ok-within.ensures.ok)) (omega (arith, c.in_ok-within-2.ensures.ok)))
