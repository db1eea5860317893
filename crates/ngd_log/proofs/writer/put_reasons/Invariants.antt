use Rattle.std.proofs.Common.{◌≡◌, ◌≤◌, ◌+◌, ◌*◌, ◌++◌, take}
use Rattle.ngd_log.specs.StepText.{reasons_text}
use Rattle.ngd_log.proofs.writer.put_reasons.Given as goal

abbrev pub invariant-loop-reason : goal.invariant-loop-reason
invariant-loop-reason l = record {
  place : l.at ≤ l.initial.at + 24 * l.reason-index;
  text : take l.at l.room ≡ take l.initial.at l.initial.room ++ reasons_text (take l.reason-index l.reasons);
}
