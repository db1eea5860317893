use Rattle.std.proofs.Common.{length, ◌+◌}
use Rattle.abt_words.proofs.said.+names_differ.Given as goal

abbrev pub decreases-names_differ : goal.decreases-names_differ
decreases-names_differ l = length l.values.now + length l.more.now
