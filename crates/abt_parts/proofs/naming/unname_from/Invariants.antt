use Rattle.std.proofs.Common.{◌≤◌, ◌-◌, length, take}
use Rattle.abt_parts.specs.Index.{AreNamed, HaveRoomFrom}
use Rattle.abt_parts.proofs.naming.unname_from.Given as goal

abbrev pub invariant-loop-place : goal.invariant-loop-place
invariant-loop-place l = record {
  from : l.first ≤ l.place;
  within : l.place ≤ length l.items;
  named : AreNamed (take l.place l.items) l.lists.items;
  room : HaveRoomFrom l.place l.items l.lists.items;
}

abbrev pub decreases-loop-place : goal.decreases-loop-place
decreases-loop-place l = l.place - l.first
