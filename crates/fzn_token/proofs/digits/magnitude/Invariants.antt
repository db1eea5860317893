use Rattle.std.proofs.Common.{take, ◌≡◌, ◌<◌, ◌^◌}
use Rattle.std.specs.Prelude.{slice_range}
use Rattle.std.specs.Str.Parse.{digits_value}
use Rattle.fzn_token.proofs.digits.magnitude.Given as goal

abbrev pub invariant-loop-b : goal.invariant-loop-b
invariant-loop-b l = (l.n < 2 ^ 64) × (l.n ≡ digits_value l.base (take l.b-index (slice_range l.text l.from l.to)))
