use Rattle.std.proofs.Common.{ℕ, ◌<◌, List, map, slice_get, Some, ◌≡◌, string_bytes}
use Rattle.abt_words.specs.Rows.{Row, row_in}
use Rattle.abt_words.specs.Saying.{Value, Says}
use Rattle.abt_words.proofs.said.said_by.Given as goal

abbrev pub invariant-loop-row : goal.invariant-loop-row
invariant-loop-row l = (k : ℕ) → k < l.row-index → (row : Row) → slice_get (map row_in l.rows) k ≡ Some row → (values settings : List Value) → Says row (map string_bytes l.words) values settings → ⊥
