use Rattle.std.proofs.Common.{◌≡◌, ◌≤◌, ℕ, vec_capacity, vec_len, take, nat_lt, ◌||◌, ◌&&◌, length}
use Rattle.dcsp_defs.specs.Csp.{domain}
use Rattle.abt_defs.specs.Agents.{values_in}
use Rattle.dcsp_rule.specs.Problems.{csp_of}
use Rattle.abt_parts.specs.Views.{view_of}
use Rattle.abt_reason.specs.Cached.{IsValueRunFrom}
use Rattle.abt_marks.specs.Marks.{has_mark}
use Rattle.abt_agent.specs.Causes.{blames, causes_for, reasons_at}
use Rattle.abt_agent.proofs.knowledge.Knowledge.blame_runs.Given as goal

abbrev pub invariant-loop-place : goal.invariant-loop-place
invariant-loop-place l =
    let found = causes_for l.self.problem.now l.self.me (values_in (view_of l.self.view)) l.self.store (take l.place (domain (csp_of l.self.problem.now) l.self.me)) in record {
      reasons : l.reasons.items ≡ reasons_at l.self.problem.now l.self.store found;
      len : vec_len l.reasons ≤ l.place;
      room : length (domain (csp_of l.self.problem.now) l.self.me) ≤ vec_capacity l.reasons;
      run : IsValueRunFrom l.self.reasons l.place l.run;
      size : length l.marks ≡ length l.initial.marks;
      marks : (k : ℕ) → has_mark l.marks k ≡ (has_mark l.initial.marks k || (nat_lt k (length l.initial.marks) && blames l.self.problem.now l.self.store found k));
    }
