use Rattle.std.proofs.Common.{length}
use Rattle.abt_words.proofs.value.+is_one_of.Given as goal

-- proposed from what the function passes where it calls itself
abbrev pub decreases-is_one_of : goal.decreases-is_one_of
decreases-is_one_of l = length l.words.now
