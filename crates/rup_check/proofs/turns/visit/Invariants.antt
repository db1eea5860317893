use Rattle.std.proofs.Common.{◌≡◌, ◌≤◌, List, ℕ, [], length, take, get_or}
use Rattle.rup_check.specs.Kept.{clauses_of}
use Rattle.rup_check.specs.Assignments.{IsAssignment}
use Rattle.rup_check.specs.Sets.{KeepsSound, Grows}
use Rattle.rup_check.specs.Watches.{IsState, IsWatch, IsClean, Extends}
use Rattle.rup_check.proofs.turns.visit.Given as goal

abbrev pub invariant-loop-left : goal.invariant-loop-left
invariant-loop-left l = record {
  assigned : IsAssignment l.assignment.marks.items l.assignment.trail.items;
  clean : IsClean l.assignment.marks.items;
  grows : Grows l.fn.assignment.marks.items l.assignment.marks.items;
  sound : KeepsSound (clauses_of l.known) l.fn.assignment.marks.items l.assignment.marks.items;
  trail : Extends l.fn.assignment.trail.items l.assignment.trail.items;
  refuted : l.watches.refuted ≡ l.fn.watches.refuted;
  within : l.left ≤ length l.list.items;
  out : get_or l.watches.lists.items l.literal [] ≡ [];
  watch : (units base done : List ℕ) → IsState (clauses_of l.known) l.fn.watches.pairs.items l.fn.watches.lists.items units base l.fn.assignment.marks.items done → IsWatch (clauses_of l.known) l.watches.pairs.items l.watches.lists.items units base l.list.items (take l.left l.list.items) l.literal l.assignment.marks.items done;
}

abbrev pub decreases-loop-left : goal.decreases-loop-left
decreases-loop-left l = l.left
