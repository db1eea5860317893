use Rattle.std.proofs.Common.{◌≡◌, ◌≤◌, length}
use Rattle.dcsp_common.specs.Reading.{digits_at}
use Rattle.ngd_log.proofs.field.digits_after.Given as goal

-- the number so far and the rest give what the first digit and all the bytes give
abbrev pub invariant-loop-rest : goal.invariant-loop-rest
invariant-loop-rest l = record {
  same : digits_at l.number l.rest ≡ digits_at l.fn.digit l.bytes;
  shorter : length l.rest ≤ length l.bytes;
}

abbrev pub decreases-loop-rest : goal.decreases-loop-rest
decreases-loop-rest l = length l.rest
