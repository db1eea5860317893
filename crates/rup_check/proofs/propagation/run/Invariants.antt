use Rattle.std.proofs.Common.{◌≡◌, take, length, ◌-◌, ◌≤◌, List, ℕ}
use Rattle.rup_check.specs.Kept.{clauses_of}
use Rattle.rup_check.specs.Assignments.{IsAssignment}
use Rattle.rup_check.specs.Sets.{KeepsSound, Grows}
use Rattle.rup_check.specs.Watches.{IsState, IsClean, Extends}
use Rattle.rup_check.proofs.propagation.run.Given as goal

abbrev pub invariant-loop-head : goal.invariant-loop-head
invariant-loop-head l = record {
  assigned : IsAssignment l.assignment.marks.items l.assignment.trail.items;
  clean : IsClean l.assignment.marks.items;
  grows : Grows l.fn.assignment.marks.items l.assignment.marks.items;
  sound : KeepsSound (clauses_of l.known) l.fn.assignment.marks.items l.assignment.marks.items;
  trail : Extends l.fn.assignment.trail.items l.assignment.trail.items;
  refuted : l.watches.refuted ≡ l.fn.watches.refuted;
  head : l.head ≤ length l.assignment.trail.items;
  state : (units base : List ℕ) → IsState (clauses_of l.known) l.fn.watches.pairs.items l.fn.watches.lists.items units base l.fn.assignment.marks.items (take l.from l.fn.assignment.trail.items) → IsState (clauses_of l.known) l.watches.pairs.items l.watches.lists.items units base l.assignment.marks.items (take l.head l.assignment.trail.items);
}

abbrev pub decreases-loop-head : goal.decreases-loop-head
decreases-loop-head l = 8192 - l.head
