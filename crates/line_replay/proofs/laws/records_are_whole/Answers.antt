use Rattle.line_replay.proofs.Recording.{records_are_whole}
use Rattle.line_replay.proofs.laws.records_are_whole.Goals as goal

pub returns : goal.returns
returns c = records_are_whole
