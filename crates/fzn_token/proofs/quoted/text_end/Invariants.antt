use Rattle.std.proofs.Common.{length, ◌-◌, ◌≤◌, ℕ}
use Rattle.fzn_token.specs.Quotes.{IsTextEnd}
use Rattle.fzn_token.proofs.quoted.text_end.Given as goal

abbrev pub invariant-loop-at : goal.invariant-loop-at
invariant-loop-at l = (l.at ≤ length l.text) × ((j : ℕ) → IsTextEnd l.text l.at j → IsTextEnd l.text l.from j) × ((j : ℕ) → IsTextEnd l.text l.from j → IsTextEnd l.text l.at j)

abbrev pub decreases-loop-at : goal.decreases-loop-at
decreases-loop-at l = length l.text - l.at
