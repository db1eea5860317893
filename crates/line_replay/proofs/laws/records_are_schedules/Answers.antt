use Rattle.line_replay.proofs.Recording.{records_are_schedules}
use Rattle.line_replay.proofs.laws.records_are_schedules.Goals as goal

pub returns : goal.returns
returns c = records_are_schedules
