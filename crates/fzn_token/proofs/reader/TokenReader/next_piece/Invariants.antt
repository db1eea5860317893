use Rattle.std.proofs.Common.{◌-◌, ◌≤◌, length}
use Rattle.fzn_token.specs.Reading.{IsOpenAt}
use Rattle.fzn_token.proofs.reader.TokenReader.next_piece.Given as goal

abbrev pub invariant-tokens : goal.invariant-tokens
invariant-tokens l = record {
  opens : IsOpenAt l.fn.self l.tokens.items l.at;
  within : l.at ≤ length l.fn.self.text.now;
}

abbrev pub decreases-tokens : goal.decreases-tokens
decreases-tokens l = length l.text - l.at
