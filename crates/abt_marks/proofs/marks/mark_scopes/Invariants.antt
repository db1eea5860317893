use Rattle.std.proofs.Common.{◌≡◌, ℕ, take, nat_lt, ◌||◌, ◌&&◌, length}
use Rattle.abt_marks.specs.Marks.{names_any}
use Rattle.abt_marks.specs.Marks.{has_mark}
use Rattle.abt_marks.proofs.marks.mark_scopes.Given as goal

abbrev pub invariant-loop-rule : goal.invariant-loop-rule
invariant-loop-rule l = record {
  size : length l.marks ≡ length l.initial.marks;
  marks : (k : ℕ) → has_mark l.marks k ≡ (has_mark l.initial.marks k || (nat_lt k (length l.initial.marks) && names_any l.problem k (take l.rule-index l.rules)));
}
