use Rattle.std.proofs.Common.{◌≡◌, ◌*◌}
use Rattle.abt_links.specs.Marks.{rank, is_set}
use Rattle.abt_links.proofs.row.Row.rank.Given as goal

abbrev pub invariant-loop-place : goal.invariant-loop-place
invariant-loop-place l = l.before ≡ rank (is_set l.self-inside.words.items) (64 * l.place)
