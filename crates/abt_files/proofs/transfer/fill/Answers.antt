use Rattle.std.proofs.Common.{◌-◌, length, rules, sym, subst}
use Rattle.std.specs.Io.KnownBytes.{Consumes}
use Rattle.std.proofs.KnownBytes.{Consumes-trans}
use Rattle.abt_files.proofs.Filling.{more_in_front}
use Rattle.abt_files.proofs.transfer.fill.Goals as goal

pub loop-count-preserved : goal.loop-count-preserved
loop-count-preserved g c =
    let from = c.loop-count.count in
    let within = c.loop-count.invariant.0 in
    let joined = more_in_front from (length c.loop-count.room - from) c.in-Ok.more c.loop-count.room c.read.new.buf within c.in-Ok.ensures.bound.0 in
    (search rules, search rules, subst (Consumes _ _) (sym joined) (Consumes-trans _ _ _ _ _ c.loop-count.invariant.2 c.in-Ok.ensures.bytes.0))
