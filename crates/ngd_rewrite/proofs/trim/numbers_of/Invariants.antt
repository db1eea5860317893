use Rattle.std.proofs.Common.{◌≡◌, ◌≤◌, ℕ, length}
use Rattle.ngd_rewrite.specs.Needed.{count_to}
use Rattle.ngd_rewrite.specs.Marks.{is_marked, number_in}
use Rattle.ngd_rewrite.proofs.trim.numbers_of.Given as goal

-- the new number of each step so far
abbrev pub invariant-loop-mark : goal.invariant-loop-mark
invariant-loop-mark l = record {
  count : l.count ≡ count_to (is_marked l.marks) l.mark-index;
  as_many : length l.numbers.items ≡ l.mark-index;
  numbers : (number : ℕ) → number ≤ l.mark-index → number_in l.numbers.items number ≡ count_to (is_marked l.marks) number;
}
