use Rattle.std.proofs.Common.{◌≡◌}
use Rattle.abt_defs.specs.Agents.{values_in}
use Rattle.abt_parts.specs.Views.{view_of}
use Rattle.abt_reason.specs.Cached.{StandsFor}
use Rattle.agent_trials.proofs.reasons.record_each.Given as goal

abbrev pub invariant-loop-value : goal.invariant-loop-value
invariant-loop-value g l = StandsFor l.reasons (values_in (view_of l.view)) l.store × (l.reasons.problem ≡ l.initial.reasons.problem) × (l.reasons.agent ≡ l.initial.reasons.agent)
