use Rattle.std.proofs.Common.{◌≡◌, length}
use Rattle.abt_defs.specs.Agents.{values_in}
use Rattle.abt_parts.specs.Views.{view_of}
use Rattle.dcsp_rule.specs.Problems.{csp_of, AreInDomains}
use Rattle.abt_reason.specs.Cached.{StandsFor}
use Rattle.agent_trials.proofs.reasons.drive.Given as goal

abbrev pub invariant-loop-number : goal.invariant-loop-number
invariant-loop-number g l =
    StandsFor l.reasons (values_in (view_of l.view)) l.store × AreInDomains (csp_of l.problem) (values_in (view_of l.view)) × (length l.view ≡ 2) × (l.reasons.problem ≡ l.problem)
    × (l.reasons.agent ≡ 2)
