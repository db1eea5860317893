use Rattle.line_replay.proofs.Verdicts.{records_replay}
use Rattle.line_replay.proofs.laws.records_replay.Goals as goal

pub returns : goal.returns
returns c = records_replay
