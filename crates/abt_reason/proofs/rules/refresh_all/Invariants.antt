use Rattle.std.proofs.Common.{ℕ, ◌<◌}
use Rattle.abt_defs.specs.Agents.{values_in}
use Rattle.abt_parts.specs.Views.{view_of}
use Rattle.abt_reason.specs.Grids.{rows_of}
use Rattle.abt_reason.specs.Cached.{size_of, AreRows, IsRightAt, IsRoom}
use Rattle.abt_reason.proofs.rules.refresh_all.Given as goal

abbrev pub invariant-loop-place : goal.invariant-loop-place
invariant-loop-place l = record {
  room : IsRoom (size_of l.owner.problem.now l.owner.agent) l.room;
  rows : AreRows l.owner.problem.now l.owner.agent l.ruled_out.rows.items l.ruled_out.counts.items l.ruled_out.firsts.items;
  right : (place : ℕ) → place < l.place → IsRightAt l.owner.problem.now l.owner.agent (values_in (view_of l.owner.view.now)) (rows_of (size_of l.owner.problem.now l.owner.agent) l.ruled_out.rows.items) place;
}
