use Rattle.std.proofs.Common.{◌≡◌, ◌++◌}
use Rattle.std.specs.List.{flat_map}
use Rattle.std.specs.Prelude.{option_copied}
use Rattle.dcsp_defs.specs.Words.{below}
use Rattle.dcsp_order.specs.Told.{place_told}
use Rattle.dcsp_rule.specs.Problems.{csp_of}
use Rattle.abt_measure.specs.Learning.{pairs_at}
use Rattle.line_measure.specs.Texts.{learner_lines}
use Rattle.line_measure.proofs.agents.push_learned.Given as goal

abbrev pub invariant-loop-number : goal.invariant-loop-number
invariant-loop-number l =
    l.into.items ≡ l.initial.into.items ++ flat_map (λ i. learner_lines (option_copied l.order) (csp_of l.problem) i (pairs_at l.learned (place_told (option_copied l.order) i))) (below l.number)
