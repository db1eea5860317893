use Rattle.std.proofs.Common.{rules, ◌≡◌, false}
use Rattle.std.proofs.Math.ListN.{replicate}
use Rattle.rup_check.proofs.EndLaws.{fresh}
use Rattle.rup_check.proofs.assignment.Assignment.new.Goals as goal

pub returns-clause-assigned : goal.returns-clause-assigned
returns-clause-assigned c = let m : c.in_ok-marks.marks.items ≡ replicate 8192 false = search rules in fresh c.in_ok-marks.marks.items c.new.result.items m c.new.ensures.items
