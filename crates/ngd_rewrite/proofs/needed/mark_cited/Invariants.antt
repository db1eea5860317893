use Rattle.std.proofs.Common.{◌≡◌, ℕ, ◌||◌, length, true}
use Rattle.ngd_rewrite.specs.Needed.{cites}
use Rattle.ngd_rewrite.specs.Marks.{is_marked, IsNumber}
use Rattle.ngd_rewrite.proofs.needed.mark_cited.Given as goal

-- what is marked, with what the reasons left cite, stays the same
abbrev pub invariant-loop-reason : goal.invariant-loop-reason
invariant-loop-reason l = record {
  as_many : length l.needed ≡ length l.fn.needed;
  there : (number : ℕ) → cites l.left number ≡ true → IsNumber (length l.fn.needed) number;
  marked : (number : ℕ) → (is_marked l.needed number || cites l.left number) ≡ (is_marked l.fn.needed number || cites l.fn.reasons number);
}

abbrev pub decreases-loop-reason : goal.decreases-loop-reason
decreases-loop-reason l = length l.left
