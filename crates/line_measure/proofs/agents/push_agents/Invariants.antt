use Rattle.std.proofs.Common.{◌≡◌, ◌++◌}
use Rattle.std.specs.List.{flat_map}
use Rattle.std.specs.Prelude.{option_copied}
use Rattle.dcsp_defs.specs.Words.{below}
use Rattle.dcsp_order.specs.Told.{place_told}
use Rattle.abt_network.specs.Standing.{state_at}
use Rattle.abt_measure.specs.Counting.{row_at}
use Rattle.abt_measure.specs.Rows.{as_row}
use Rattle.line_measure.specs.Texts.{agent_line}
use Rattle.line_measure.proofs.agents.push_agents.Given as goal

abbrev pub invariant-loop-number : goal.invariant-loop-number
invariant-loop-number l =
    l.into.items ≡ l.initial.into.items ++ flat_map (λ i. agent_line i (as_row (row_at l.run.measures.rows (place_told (option_copied l.order) i))) (state_at l.run.network.agents (place_told (option_copied l.order) i)).stamp) (below l.number)
