use Rattle.std.proofs.Common.{length, ◌+◌, ◌-◌, ◌≤◌}
use Rattle.fzn_token.specs.Bytes.{is_name_byte, IsRun}
use Rattle.fzn_token.proofs.name.name_end.Given as goal

abbrev pub invariant-eights : goal.invariant-eights
invariant-eights l = IsRun is_name_byte l.text l.from l.at

abbrev pub decreases-eights : goal.decreases-eights
decreases-eights l = length l.text - l.at

-- the bytes before `past` are of names too
abbrev pub invariant-each : goal.invariant-each
invariant-each l = record {
  few : l.past ≤ 8;
  run : IsRun is_name_byte l.text l.from (l.at + l.past);
}

abbrev pub decreases-each : goal.decreases-each
decreases-each l = 8 - l.past

abbrev pub invariant-ones : goal.invariant-ones
invariant-ones l = IsRun is_name_byte l.text l.from l.at

abbrev pub decreases-ones : goal.decreases-ones
decreases-ones l = length l.text - l.at
