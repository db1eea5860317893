use Rattle.std.proofs.Common.{◌≡◌, ◌+◌, ◌++◌, take}
use Rattle.ngd_log.proofs.place.put_all.Given as goal

abbrev pub invariant-loop-byte : goal.invariant-loop-byte
invariant-loop-byte l = record {
  place : l.place ≡ l.fn.at + l.byte-index;
  text : take l.place l.room ≡ take l.fn.at l.fn.room ++ take l.byte-index l.bytes;
}
