use Rattle.std.proofs.Common.{length}
use Rattle.abt_words.proofs.said.+is_new_name.Given as goal

abbrev pub decreases-is_new_name : goal.decreases-is_new_name
decreases-is_new_name l = length l.values.now
