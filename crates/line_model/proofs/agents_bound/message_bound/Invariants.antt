use Rattle.std.proofs.Common.{◌≡◌, ◌<◌, ◌^◌}
use Rattle.std.specs.Option.{SomeIff}
use Rattle.dcsp_rule.specs.Problems.{csp_of}
use Rattle.abt_defs.specs.Bound.{product_below}
use Rattle.line_model.specs.PartialBounds.{bound_below}
use Rattle.line_model.proofs.agents_bound.message_bound.Given as goal

abbrev pub invariant-loop-var : goal.invariant-loop-var
invariant-loop-var l = record {
  bound : l.bound ≡ bound_below (csp_of l.problem) l.var;
  small : l.bound < 2 ^ 128;
  product : SomeIff l.product (product_below (csp_of l.problem) l.var < 2 ^ 128) (product_below (csp_of l.problem) l.var);
}
