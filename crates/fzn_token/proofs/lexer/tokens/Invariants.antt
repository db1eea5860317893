use Rattle.fzn_token.specs.Reading.{IsBehind, left}
use Rattle.fzn_token.proofs.lexer.tokens.Given as goal

abbrev pub invariant-loop-list : goal.invariant-loop-list
invariant-loop-list l = IsBehind l.text l.reader l.list

abbrev pub decreases-loop-list : goal.decreases-loop-list
decreases-loop-list l = left l.reader
