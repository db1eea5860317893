use Rattle.std.proofs.Common.{◌≡◌, ℕ, length, take}
use Rattle.ngd_rewrite.specs.Needed.{is_cited}
use Rattle.ngd_rewrite.specs.Marks.{has_mark}
use Rattle.ngd_rewrite.proofs.rules.mark_all.Given as goal

abbrev pub invariant-loop-place : goal.invariant-loop-place
invariant-loop-place l = record {
  as_many : length l.cited ≡ length l.fn.cited;
  marked : (rule : ℕ) → has_mark l.cited rule ≡ is_cited (take l.place l.steps) rule;
}
