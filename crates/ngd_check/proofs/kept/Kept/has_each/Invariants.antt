use Rattle.std.proofs.Common.{◌≡◌, take, true, is_some}
use Rattle.std.specs.Prelude.{All}
use Rattle.ngd_check.specs.Progress.{kept_at}
use Rattle.ngd_check.proofs.kept.Kept.has_each.Given as goal

abbrev pub invariant-loop-number : goal.invariant-loop-number
invariant-loop-number l = All (λ number. is_some (kept_at l.self.nogoods number) ≡ true) (take l.number-index l.numbers)
