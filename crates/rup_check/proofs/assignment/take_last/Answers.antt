use Rattle.std.proofs.Common.{subst, ◌∷◌, ◌++◌, []}
use Rattle.rup_check.specs.Assignments.{IsAssignment}
use Rattle.rup_check.proofs.MarkLaws.{taken_out}
use Rattle.rup_check.proofs.assignment.take_last.Goals as goal

pub returns-in-Some-clause-assigned : goal.returns-in-Some-clause-assigned
returns-in-Some-clause-assigned c =
    let a : IsAssignment c.args.assignment.now.marks.items (c.pop.new.self.items ++ c.in-Some.literal ∷ []) = subst (λ z. IsAssignment c.args.assignment.now.marks.items z) c.in-Some.ensures.items c.requires.assigned in
    taken_out c.args.assignment.now.marks.items c.pop.new.self.items c.in-Some.literal a
