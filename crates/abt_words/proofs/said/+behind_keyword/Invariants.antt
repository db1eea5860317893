use Rattle.std.proofs.Common.{length}
use Rattle.abt_words.proofs.said.+behind_keyword.Given as goal

abbrev pub decreases-behind_keyword : goal.decreases-behind_keyword
decreases-behind_keyword l = length l.keyword.now
