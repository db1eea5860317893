use Rattle.fzn_token.specs.Reading.{left}
use Rattle.fzn_model.specs.Reading.{gave}
use Rattle.fzn_model.proofs.Turns.{IsTakenTo}
use Rattle.fzn_model.proofs.in_turn.Taken.take_all.Given as goal

abbrev pub invariant-items : goal.invariant-items
invariant-items l = IsTakenTo l.text l.reader (gave l.self)

abbrev pub decreases-items : goal.decreases-items
decreases-items l = left l.reader
