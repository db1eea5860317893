use Rattle.std.proofs.Common.{◌≡◌, ℕ, take, nat_lt, ◌||◌, ◌&&◌, length}
use Rattle.abt_defs.specs.Steps.{is_named}
use Rattle.abt_marks.specs.Marks.{has_mark}
use Rattle.abt_marks.proofs.marks.mark_pairs.Given as goal

abbrev pub invariant-loop-pair : goal.invariant-loop-pair
invariant-loop-pair l = record {
  size : length l.marks ≡ length l.initial.marks;
  marks : (k : ℕ) → has_mark l.marks k ≡ (has_mark l.initial.marks k || (nat_lt k (length l.initial.marks) && is_named k (take l.pair-index l.pairs)));
}
