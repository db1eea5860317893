use Rattle.std.proofs.Common.{◌≡◌, map, take}
use Rattle.fzn_scope.specs.Rules.{constant_of}
use Rattle.fzn_scope.proofs.lists.put_constants.Given as goal

abbrev pub invariant-loop-term : goal.invariant-loop-term
invariant-loop-term l = l.values.items ≡ map constant_of (take l.term-index l.terms)
