use Rattle.dcsp_gen.proofs.Ranges.{appended}
use Rattle.dcsp_gen.proofs.sensor_texts.push_slot.Goals as goal

pub returns : goal.returns
returns c = appended _ _ _ _ _ c.in_ok-push_domain.ensures c.in_ok-write.ensures.bytes
