use Rattle.std.proofs.Common.{◌≡◌, ℕ, map, take}
use Rattle.std.specs.Prelude.{All}
use Rattle.dcsp_problem.specs.Pieces.{pieces, AreCuts}
use Rattle.dcsp_rule.specs.Rules.{IsRuleOf, scope_of}
use Rattle.dcsp_problem.proofs.table.NumberTable.of_scopes.Given as goal

abbrev pub invariant-loop-place : goal.invariant-loop-place
invariant-loop-place l = record {
  cuts : AreCuts l.numbers.items l.places.items;
  made : (variables : ℕ) → All (IsRuleOf variables) l.rules → pieces l.numbers.items l.places.items ≡ map (scope_of variables) (take l.place l.rules);
}
