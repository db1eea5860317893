use Rattle.std.proofs.Common.{◌∙◌, inl, inr, sym, ap}
use Rattle.dcsp_rule.specs.Problems.{csp_of}
use Rattle.dcsp_order.specs.Turns.{weight_of}
use Rattle.dcsp_order.proofs.Sharing.{degree_is}
use Rattle.dcsp_order.proofs.by_rule.weight_of.Goals as goal

pub returns-in-Degree : goal.returns-in-Degree
returns-in-Degree c =
    let p = csp_of c.args.problem.now in
    let same = c.neighbours_of.ensures ∙ degree_is p c.vars.result c.args.shared.now c.args.var c.requires.shared c.vars.ensures.vars c.requires.var in
    elim c.in-Degree.is [
      | inl e ↦ same ∙ sym (ap (λ r. weight_of r p c.args.var) e)
      | inr e ↦ same ∙ sym (ap (λ r. weight_of r p c.args.var) e)
    ]
