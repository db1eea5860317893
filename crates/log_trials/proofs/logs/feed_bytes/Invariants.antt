use Rattle.std.proofs.Common.{◌≡◌}
use Rattle.log_trials.proofs.logs.feed_bytes.Given as goal

-- so many bytes were fed
abbrev pub invariant-loop-byte : goal.invariant-loop-byte
invariant-loop-byte g l = l.reader.fed ≡ l.byte-index
