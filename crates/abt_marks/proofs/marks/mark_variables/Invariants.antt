use Rattle.std.proofs.Common.{◌≡◌, ℕ, take, nat_lt, ◌||◌, ◌&&◌, length}
use Rattle.abt_defs.specs.Agents.{is_among}
use Rattle.abt_marks.specs.Marks.{has_mark}
use Rattle.abt_marks.proofs.marks.mark_variables.Given as goal

abbrev pub invariant-loop-var : goal.invariant-loop-var
invariant-loop-var l = record {
  size : length l.marks ≡ length l.initial.marks;
  marks : (k : ℕ) → has_mark l.marks k ≡ (has_mark l.initial.marks k || (nat_lt k (length l.initial.marks) && is_among k (take l.var-index l.variables)));
}
