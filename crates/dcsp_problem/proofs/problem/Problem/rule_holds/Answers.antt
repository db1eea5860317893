use Rattle.std.proofs.Common.{◌∙◌, ap}
use Rattle.std.specs.Prelude.{not, slice_get}
use Rattle.std.proofs.Math.Bool.{not-not}
use Rattle.dcsp_defs.specs.Csp.{filled}
use Rattle.dcsp_rule.specs.Rules.{rule_truth}
use Rattle.dcsp_rule.specs.Problems.{csp_of, constraint_at, rule_at}
use Rattle.dcsp_problem.proofs.Reading.{truth_of_values}
use Rattle.dcsp_problem.proofs.Violations.{listed_are_in, listed_violates}
use Rattle.dcsp_problem.proofs.problem.Problem.rule_holds.Goals as goal

pub violated_within-requires-clause-domains : goal.violated_within-requires-clause-domains
violated_within-requires-clause-domains c = listed_are_in (csp_of c.args.self.now) c.args.values.now c.requires.as_many c.requires.in_domains

pub returns : goal.returns
returns c =
    let p = c.args.self.now in
    let rule = rule_at p c.args.rule in
    ap not (c.violated_within.ensures ∙ listed_violates (csp_of p) c.args.values.now c.requires.as_many c.requires.in_domains (constraint_at p c.args.rule) c.scope-scope.ensures.constraint)
    ∙ not-not (rule_truth rule (filled (slice_get c.args.values.now))) ∙ truth_of_values rule c.args.values.now
