use Rattle.std.proofs.Common.{length}
use Rattle.fzn_scope.proofs.LentSteps.{IsLeft}
use Rattle.fzn_scope.proofs.place.Context.put_atoms.Given as goal

abbrev pub invariant-atoms : goal.invariant-atoms
invariant-atoms l = IsLeft l.self.text.now l.self.names.now l.wanted l.tokens l.terms.items l.rest

abbrev pub decreases-atoms : goal.decreases-atoms
decreases-atoms l = length l.rest
