use Rattle.std.proofs.Common.{◌≡◌, ◌<◌, ℕ, ◌||◌, length, true}
use Rattle.ngd_rewrite.specs.Needed.{cites_rule}
use Rattle.ngd_rewrite.specs.Marks.{has_mark}
use Rattle.ngd_rewrite.proofs.rules.mark_cited.Given as goal

-- what is marked, with the rules that the reasons left cite, stays the same
abbrev pub invariant-loop-reason : goal.invariant-loop-reason
invariant-loop-reason l = record {
  as_many : length l.cited ≡ length l.fn.cited;
  there : (rule : ℕ) → cites_rule l.left rule ≡ true → rule < length l.fn.cited;
  marked : (rule : ℕ) → (has_mark l.cited rule || cites_rule l.left rule) ≡ (has_mark l.fn.cited rule || cites_rule l.fn.reasons rule);
}

abbrev pub decreases-loop-reason : goal.decreases-loop-reason
decreases-loop-reason l = length l.left
