use Rattle.dcsp_gen.proofs.Ranges.{appended}
use Rattle.dcsp_gen.proofs.sensor_texts.push_rises.Goals as goal

pub returns : goal.returns
returns c = appended _ _ _ _ _ c.in_ok-push_rise.ensures c.in_ok-push_rise-2.ensures
