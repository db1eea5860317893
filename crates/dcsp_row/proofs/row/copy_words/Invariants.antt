use Rattle.std.proofs.Common.{◌≡◌, ◌<◌, ℕ, length, get_or}
use Rattle.dcsp_row.proofs.row.copy_words.Given as goal

abbrev pub invariant-loop-block : goal.invariant-loop-block
invariant-loop-block l = (length l.words ≡ length l.initial.words) × ((j : ℕ) → j < l.block → get_or l.words j 0 ≡ get_or l.others j 0)
