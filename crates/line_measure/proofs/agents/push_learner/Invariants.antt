use Rattle.std.proofs.Common.{◌≡◌, ◌++◌, ◌==◌, filter, length}
use Rattle.std.specs.List.{flat_map}
use Rattle.std.specs.Prelude.{option_copied}
use Rattle.dcsp_defs.specs.declared.nogood.Pair.{Pair}
use Rattle.dcsp_defs.specs.Words.{below}
use Rattle.dcsp_defs.specs.Csp.{domain}
use Rattle.dcsp_order.specs.Told.{place_told}
use Rattle.dcsp_rule.specs.Problems.{csp_of}
use Rattle.line_measure.specs.Texts.{learned_line}
use Rattle.line_measure.proofs.agents.push_learner.Given as goal

abbrev pub invariant-loop-owner : goal.invariant-loop-owner
invariant-loop-owner l =
    l.into.items ≡ l.initial.into.items
    ++ flat_map (λ k. learned_line l.number k (length (filter (λ (y : Pair). y.var == place_told (option_copied l.order) k) l.pairs)) (length (domain (csp_of l.problem) (place_told (option_copied l.order) k)))) (below l.owner)
