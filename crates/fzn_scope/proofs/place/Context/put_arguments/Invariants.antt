use Rattle.std.proofs.Common.{drop}
use Rattle.fzn_scope.specs.Arguments.{arguments_in}
use Rattle.fzn_scope.proofs.LentSteps.{AreArgumentsLeft}
use Rattle.fzn_scope.proofs.place.Context.put_arguments.Given as goal

abbrev pub invariant-loop-place : goal.invariant-loop-place
invariant-loop-place l = AreArgumentsLeft l.self.text.now l.self.names.now l.places l.arguments (arguments_in l.done) (drop l.place-index l.places) l.rest
