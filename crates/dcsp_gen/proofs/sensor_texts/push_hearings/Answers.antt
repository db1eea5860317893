use Rattle.std.proofs.Common.{string_bytes}
use Rattle.dcsp_gen.specs.Sensors.{hearing_line}
use Rattle.dcsp_gen.proofs.Ranges.{one_dropped}
use Rattle.dcsp_gen.proofs.sensor_texts.push_hearings.Goals as goal

pub loop-slots-preserved : goal.loop-slots-preserved
loop-slots-preserved c =
    one_dropped (hearing_line c.args.target c.args.rows.now) c.args.pairs.now c.loop-slots.slots-index (string_bytes c.loop-slots.text) _ _ c.loop-slots-test.true c.loop-slots.invariant c.in_ok-push_hearing.ensures
