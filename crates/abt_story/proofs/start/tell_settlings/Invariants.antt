use Rattle.std.proofs.Common.{◌≡◌, ◌++◌}
use Rattle.std.specs.List.{flat_map}
use Rattle.std.specs.Prelude.{option_copied}
use Rattle.dcsp_defs.specs.Words.{below}
use Rattle.dcsp_rule.specs.Problems.{csp_of}
use Rattle.abt_story.specs.Looking.{first_text}
use Rattle.abt_story.proofs.start.tell_settlings.Given as goal

abbrev pub invariant-loop-agent : goal.invariant-loop-agent
invariant-loop-agent l = l.into.items ≡ l.initial.into.items ++ flat_map (first_text (option_copied l.model.order) (csp_of l.model.problem.now)) (below l.agent)
