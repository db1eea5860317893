use Rattle.std.proofs.Common.{◌≡◌, ◌≤◌, take, filter, length, ℤ, ℕ}
use Rattle.dcsp_defs.specs.Csp.{with_value}
use Rattle.dcsp_rule.specs.Problems.{constraint_at}
use Rattle.dcsp_problem.specs.Index.{owned_rules}
use Rattle.abt_defs.specs.Agents.{values_in}
use Rattle.abt_defs.specs.Checks.{is_decided}
use Rattle.abt_parts.specs.Views.{view_of}
use Rattle.abt_agent.proofs.knowledge.Knowledge.decided_among.Given as goal

abbrev pub invariant-loop-place : goal.invariant-loop-place
invariant-loop-place l = record {
  few : l.count ≤ l.place;
  counted : (v : ℤ) → l.count ≡ length (filter (λ (rule : ℕ). is_decided (with_value l.self.me v (values_in (view_of l.self.view))) (constraint_at l.self.problem.now rule)) (take l.place (owned_rules l.self.problem.now l.self.me)));
}
