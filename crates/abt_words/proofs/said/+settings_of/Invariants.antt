use Rattle.std.proofs.Common.{length}
use Rattle.abt_words.proofs.said.+settings_of.Given as goal

abbrev pub decreases-settings_of : goal.decreases-settings_of
decreases-settings_of l = length l.words.now
