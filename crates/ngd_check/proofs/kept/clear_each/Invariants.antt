use Rattle.std.proofs.Common.{◌≡◌, ℕ, ◌==◌, None, cond, take, length}
use Rattle.std.specs.List.{list_any}
use Rattle.ngd_check.specs.Places.{list_at}
use Rattle.ngd_check.proofs.kept.clear_each.Given as goal

-- the places of the numbers so far are empty
abbrev pub invariant-loop-number : goal.invariant-loop-number
invariant-loop-number l = record {
  steps : length l.lists ≡ length l.fn.lists;
  cleared : (number : ℕ) → list_at l.lists number ≡ cond (list_any (λ cleared. number == cleared) (take l.number-index l.numbers)) None (list_at l.fn.lists number);
}
