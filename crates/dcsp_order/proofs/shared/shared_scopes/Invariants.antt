use Rattle.std.proofs.Common.{◌≡◌, ◌<◌, ◌*◌, ℕ, length, take}
use Rattle.std.specs.List.{list_any}
use Rattle.dcsp_defs.specs.Csp.{Constraint}
use Rattle.dcsp_rule.specs.Problems.{csp_of}
use Rattle.dcsp_order.specs.Taken.{flag_at}
use Rattle.dcsp_order.specs.Shared.{is_in_rows}
use Rattle.dcsp_order.proofs.shared.shared_scopes.Given as goal

abbrev pub invariant-loop-rule : goal.invariant-loop-rule
invariant-loop-rule l = record {
  as_many : length l.flags.items ≡ l.width * l.width;
  each : (place : ℕ) → place < l.width * l.width → flag_at l.flags.items place ≡ list_any (λ (c : Constraint). is_in_rows l.width c.scope c.scope place) (take l.rule (csp_of l.problem).constraints);
}
