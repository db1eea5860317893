use Rattle.std.proofs.Common.{length}
use Rattle.fzn_model.proofs.output.+product.Given as goal

-- proposed from what the function passes where it calls itself
abbrev pub decreases-product : goal.decreases-product
decreases-product l = length l.ranges.now
