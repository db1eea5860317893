use Rattle.std.proofs.Common.{refl, inl}
use Rattle.abt_defs.specs.Agents.{values_in}
use Rattle.abt_parts.specs.Views.{view_of}
use Rattle.dcsp_rule.specs.Problems.{csp_of}
use Rattle.abt_reason.proofs.Standing.{nothing_known}
use Rattle.agent_trials.proofs.reasons.look_again.Goals as goal

pub after_view-requires-clause-domains : goal.after_view-requires-clause-domains
after_view-requires-clause-domains c = nothing_known (csp_of c.loop-time.reasons.problem) _ c.requires.empty

pub after_view-requires-clause-stood : goal.after_view-requires-clause-stood
after_view-requires-clause-stood c =
    record { known_before = values_in (view_of c.args.view.now); items_before = c.args.store.now; stood = c.loop-time.invariant.0; others = λ k other. refl; left = inl refl }
