use Rattle.std.proofs.Common.{◌≡◌, ◌≤◌, ◌-◌, length, filter}
use Rattle.std.specs.Prelude.{filter_map}
use Rattle.dcsp_defs.specs.Words.{below}
use Rattle.abt_parts.specs.Messages.{with_stamps}
use Rattle.abt_parts.specs.Views.{view_of}
use Rattle.abt_parts.specs.Outgoing.{ArePositive}
use Rattle.dcsp_row.specs.Walks.{IsOn}
use Rattle.abt_marks.specs.Marks.{has_mark}
use Rattle.abt_agent.specs.Causes.{told_of}
use Rattle.abt_agent.proofs.knowledge.Knowledge.gather.Given as goal

abbrev pub invariant-loop-agent : goal.invariant-loop-agent
invariant-loop-agent l = record {
  told : with_stamps l.pairs.items l.stamps.items ≡ filter_map (told_of (view_of l.self.view)) (filter (has_mark l.marks) (below l.walk.from));
  size : length l.stamps.items ≡ length l.pairs.items;
  positive : ArePositive l.stamps.items;
  within : l.walk.from ≤ length l.marks;
  on : IsOn l.marks l.walk;
}

abbrev pub decreases-loop-agent : goal.decreases-loop-agent
decreases-loop-agent l = length l.marks - l.walk.from
