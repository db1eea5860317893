use Rattle.std.proofs.Common.{arith, string_bytes}
use Rattle.dcsp_gen.specs.Lists.{lists_in}
use Rattle.dcsp_gen.specs.Sensors.{slot_lines}
use Rattle.dcsp_gen.proofs.Ranges.{one_more}
use Rattle.dcsp_gen.proofs.sensor_texts.push_slots.Goals as goal

pub loop-target-preserved : goal.loop-target-preserved
loop-target-preserved c = one_more (slot_lines (lists_in c.args.seen.now)) (string_bytes c.args.text.now) (string_bytes c.loop-target.text) _ c.loop-target.target (omega (arith, c.loop-target.auto.target)) c.loop-target.invariant c.in_ok-push_slots_of.ensures
