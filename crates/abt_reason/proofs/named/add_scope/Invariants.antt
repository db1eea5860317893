use Rattle.std.proofs.Common.{◌≡◌, ◌++◌, map, take}
use Rattle.abt_reason.specs.Named.{naming}
use Rattle.abt_reason.proofs.named.add_scope.Given as goal

abbrev pub invariant-loop-var : goal.invariant-loop-var
invariant-loop-var l = l.namings.items ≡ l.initial.namings.items ++ map (naming l.place) (take l.var-index l.scope)
