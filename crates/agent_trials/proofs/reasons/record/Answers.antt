use Rattle.std.proofs.Common.{◌≡◌, Ok, Result, Err}
use Rattle.std.specs.Prelude.{OnOk}
use Rattle.abt_defs.specs.Agents.{values_in}
use Rattle.abt_parts.specs.Views.{view_of}
use Rattle.abt_reason.proofs.Standing.{stood_before_recording}
use Rattle.agent_trials.proofs.reasons.record.Goals as goal

on_ok : {A E : Type 0} (P : Type 0) (r : Result A E) (x : A) → OnOk r P → r ≡ Ok x → P
on_ok P (Ok y) x h e = h
on_ok P (Err y) x h e = cc

pub after_record-requires-clause-stood : goal.after_record-requires-clause-stood
after_record-requires-clause-stood g c =
    let known = values_in (view_of c.args.view.now) in
    let kept = on_ok _ c.keep.result c.expect-2.result c.keep.ensures.ok c.expect-2.ensures in
    stood_before_recording c.make_room.new.self known c.args.store.now c.keep.new.self _ (c.make_room.ensures.stands known c.args.store.now c.requires) kept
