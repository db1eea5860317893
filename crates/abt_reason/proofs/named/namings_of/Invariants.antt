use Rattle.abt_reason.specs.Named.{ListsScopes}
use Rattle.abt_reason.proofs.named.namings_of.Given as goal

abbrev pub invariant-loop-place : goal.invariant-loop-place
invariant-loop-place l = ListsScopes l.problem l.rules l.namings.items l.place
