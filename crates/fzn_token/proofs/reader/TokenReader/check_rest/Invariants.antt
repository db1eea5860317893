use Rattle.std.proofs.Common.{List}
use Rattle.fzn_token.specs.declared.token.Token.{Token}
use Rattle.fzn_token.specs.Reading.{ReadsOn, left}
use Rattle.fzn_token.proofs.reader.TokenReader.check_rest.Given as goal

-- some tokens are read
abbrev pub invariant-loop-token : goal.invariant-loop-token
invariant-loop-token l = (us : List Token) × ReadsOn l.fn.self us l.self

abbrev pub decreases-loop-token : goal.decreases-loop-token
decreases-loop-token l = left l.self
