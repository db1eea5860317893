use Rattle.std.proofs.Common.{List, take, sym, subst, arith}
use Rattle.std.specs.Prelude.{slice_index_or}
use Rattle.dcsp_defs.specs.declared.Reason.{Reason}
use Rattle.dcsp_defs.specs.declared.Reason.TheVariants.{Rule}
use Rattle.ngd_store.specs.Rests.{HasAdded}
use Rattle.ngd_store.proofs.Words.{added_more, take_more}
use Rattle.ngd_store.proofs.rests.put_reasons.Goals as goal

pub loop-reason-preserved : goal.loop-reason-preserved
loop-reason-preserved c =
    let i = c.loop-reason.reason-index in
    let reasons = c.args.reasons.now in
    subst (λ (rs : List Reason). HasAdded c.args.words.now.items c.put_reason.new.words.items rs) (sym (take_more reasons i (Rule 0) (omega arith)))
    (added_more c.args.words.now.items c.loop-reason.words.items c.put_reason.new.words.items (take i reasons) (slice_index_or reasons i (Rule 0)) c.loop-reason.invariant c.in_ok-put_reason.ensures.ok)
