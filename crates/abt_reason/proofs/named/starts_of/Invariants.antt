use Rattle.std.proofs.Common.{◌≡◌, length}
use Rattle.abt_reason.specs.Named.{AreStarts, BeginsAt}
use Rattle.abt_reason.proofs.named.starts_of.Given as goal

abbrev pub invariant-loop-var : goal.invariant-loop-var
invariant-loop-var l = (length l.starts.items ≡ l.var) × AreStarts l.namings l.starts.items × BeginsAt l.namings l.var l.start
