use Rattle.std.proofs.Common.{◌≡◌, ◌∙◌, ap, option_copied, rules}
use Rattle.dcsp_rule.specs.Problems.{Contents, csp_of}
use Rattle.dcsp_order.specs.Told.{ordered}
use Rattle.abt_defs.specs.Bound.{message_bound}
use Rattle.line_model.specs.BoundReports.{in_128_bits}
use Rattle.line_model.proofs.Bounds.{fits_is}
use Rattle.line_model.proofs.bound.bound_under.Goals as goal

pub returns : goal.returns
returns c =
    let run : c.unwrap_or-run.result.now ≡ ordered (option_copied c.args.order) c.args.problem.now = search rules in
    fits_is _ _ c.message_bound.ensures ∙ ap (λ (p : Contents). in_128_bits (message_bound (csp_of p))) run
