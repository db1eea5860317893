use Rattle.std.proofs.Common.{List, get_or, set, ap, ◌∙◌, arith}
use Rattle.dcsp_defs.specs.declared.Reason.{Reason}
use Rattle.dcsp_defs.specs.declared.Reason.TheVariants.{Rule}
use Rattle.ngd_rewrite.specs.Needed.{renumbered_reason}
use Rattle.ngd_rewrite.specs.Marks.{number_in}
use Rattle.ngd_rewrite.proofs.Choosing.{renumbered_more}
use Rattle.ngd_rewrite.proofs.trim.renumber.Goals as goal

pub loop-place-preserved : goal.loop-place-preserved
loop-place-preserved c =
    let f = renumbered_reason (number_in c.args.numbers.now) in
    let i = c.loop-place.place in
    let xs = c.args.reasons.now in
    ap (λ (r : Reason). set c.loop-place.reasons i r) c.renumbered.ensures
    ∙ (ap (λ (ys : List Reason). set ys i (f (get_or ys i (Rule 0)))) c.loop-place.invariant
    ∙ renumbered_more f xs i (Rule 0) (omega arith))
