use Rattle.std.proofs.Common.{rules, ◌≡◌, ◌++◌, ◌∷◌, []}
use Rattle.rup_check.proofs.MarkLaws.{added_by}
use Rattle.rup_check.proofs.assignment.Assignment.add.Goals as goal

pub returns-clause-assigned : goal.returns-clause-assigned
returns-clause-assigned c =
    let e : c.push.new.self.items ≡ c.args.self.now.trail.items ++ c.args.literal ∷ [] = search rules in
    added_by c.args.self.now.marks.items c.args.self.now.trail.items c.push.new.self.items c.args.literal e c.requires.assigned c.requires.small c.requires.absent
