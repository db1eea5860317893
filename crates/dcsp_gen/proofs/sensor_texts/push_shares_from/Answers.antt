use Rattle.std.proofs.Common.{arith, string_bytes, ◌≡◌, ◌-◌}
use Rattle.dcsp_gen.specs.Sensors.{share_line}
use Rattle.dcsp_gen.proofs.Ranges.{one_more}
use Rattle.dcsp_gen.proofs.sensor_texts.push_shares_from.Goals as goal

pub loop-other-preserved : goal.loop-other-preserved
loop-other-preserved c = one_more (share_line c.args.targets c.args.slot) (string_bytes c.args.text.now) (string_bytes c.loop-other.text) _ c.loop-other.other (omega (arith, c.loop-other.auto.other)) c.loop-other.invariant c.in_ok-push_share.ensures

pub returns : goal.returns
returns c =
    let all : c.loop-other.other - 1 ≡ 3 = omega (arith, c.loop-other-test.false, c.loop-other.auto.other) in
    rw all at c.loop-other.invariant
