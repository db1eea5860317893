use Rattle.std.proofs.Common.{◌≡◌, ℕ, ◌+◌, ◌==◌, ◌||◌, false, take, length}
use Rattle.std.specs.Prelude.{slice_index_or}
use Rattle.std.specs.List.{list_any}
use Rattle.ngd_check.proofs.kept.mark_all.Given as goal

-- the places of the numbers so far are marked
abbrev pub invariant-loop-number : goal.invariant-loop-number
invariant-loop-number l = record {
  count : length l.marks ≡ length l.fn.marks;
  marked : (k : ℕ) → slice_index_or l.marks k false ≡ (list_any (λ number. k + 1 == number) (take l.number-index l.numbers) || slice_index_or l.fn.marks k false);
}
