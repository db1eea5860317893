use Rattle.dcsp_rule.specs.Problems.{csp_of}
use Rattle.abt_reason.proofs.Standing.{nothing_known}
use Rattle.agent_trials.proofs.reasons.drive_fresh.Goals as goal

pub drive-requires-clause-domains : goal.drive-requires-clause-domains
drive-requires-clause-domains g c = nothing_known (csp_of c.args.problem.now) _ c.blank-view.ensures.empty
