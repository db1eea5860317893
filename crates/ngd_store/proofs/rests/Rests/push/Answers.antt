use Rattle.std.proofs.Common.{◌∷◌, ◌++◌, [], List, ap, ◌∙◌, arith}
use Rattle.std.proofs.lemmas.Result.{on_ok_weaker, on_err_weaker}
use Rattle.ngd_store.specs.Rests.{Rest, rests_in, AreEnds}
use Rattle.ngd_store.proofs.Rooms.{either}
use Rattle.ngd_store.proofs.Words.{put_ends, put_same, put_ends_more, put_more, front_of, on_err_always}
use Rattle.ngd_store.proofs.rests.Rests.push.Goals as goal

pub invariant_of-self : goal.invariant_of-self
invariant_of-self c =
    put_ends c.self.inside.words.items c.put_rest.new.words.items c.truncate.new.self.items c.self.inside.ends.items c.self.invariant
    (front_of c.self.inside.words.items c.truncate.new.self.items c.self.inside.ends.items c.deref.result.now c.len.result c.start_of-start.result c.truncate.ensures.items c.start_of-start.ensures c.deref.ensures.value (omega (arith, c.len.ensures))) c.put_rest.ensures.kept

pub returns-in_err-put_rest-clause-err : goal.returns-in_err-put_rest-clause-err
returns-in_err-put_rest-clause-err c = on_err_always c.from_residual.result (
    put_same c.self.inside.words.items c.put_rest.new.words.items c.truncate.new.self.items c.self.inside.ends.items c.self.invariant
    (front_of c.self.inside.words.items c.truncate.new.self.items c.self.inside.ends.items c.deref.result.now c.len.result c.start_of-start.result c.truncate.ensures.items c.start_of-start.ensures c.deref.ensures.value (omega (arith, c.len.ensures))) c.put_rest.ensures.kept
    ∙ c.self.view_is)

pub invariant_of-self-in_default : goal.invariant_of-self-in_default
invariant_of-self-in_default c =
    put_ends c.self.inside.words.items c.put_rest.new.words.items c.truncate.new.self.items c.self.inside.ends.items c.self.invariant
    (front_of c.self.inside.words.items c.truncate.new.self.items c.self.inside.ends.items c.deref.result.now c.len.result c.start_of-start.result c.truncate.ensures.items c.start_of-start.ensures c.deref.ensures.value (omega (arith, c.len.ensures))) c.put_rest.ensures.kept

pub returns-in_default-clause-err : goal.returns-in_default-clause-err
returns-in_default-clause-err c =
    put_same c.self.inside.words.items c.put_rest.new.words.items c.truncate.new.self.items c.self.inside.ends.items c.self.invariant
    (front_of c.self.inside.words.items c.truncate.new.self.items c.self.inside.ends.items c.deref.result.now c.len.result c.start_of-start.result c.truncate.ensures.items c.start_of-start.ensures c.deref.ensures.value (omega (arith, c.len.ensures))) c.put_rest.ensures.kept
    ∙ c.self.view_is

pub invariant_of-self-2 : goal.invariant_of-self-2
invariant_of-self-2 c =
    let ends = c.self.inside.ends.items in
    either c.push_end.result (AreEnds c.put_rest.new.words.items) c.push_end.new.ends.items (ends ++ c.in-Ok.end ∷ []) ends c.push_end.ensures.ok c.push_end.ensures.err
    (put_ends_more c.self.inside.words.items c.put_rest.new.words.items c.truncate.new.self.items c.self.inside.ends.items c.self.invariant
    (front_of c.self.inside.words.items c.truncate.new.self.items c.self.inside.ends.items c.deref.result.now c.len.result c.start_of-start.result c.truncate.ensures.items c.start_of-start.ensures c.deref.ensures.value (omega (arith, c.len.ensures))) c.put_rest.ensures.kept (record { variable = c.args.variable; reasons = c.args.reasons.now }) c.in_ok-put_rest.ensures.ok c.in-Ok.end (omega (arith, c.in-Ok.ensures.1, c.len-2.ensures)))
    (put_ends c.self.inside.words.items c.put_rest.new.words.items c.truncate.new.self.items c.self.inside.ends.items c.self.invariant
    (front_of c.self.inside.words.items c.truncate.new.self.items c.self.inside.ends.items c.deref.result.now c.len.result c.start_of-start.result c.truncate.ensures.items c.start_of-start.ensures c.deref.ensures.value (omega (arith, c.len.ensures))) c.put_rest.ensures.kept)

pub returns-clause-ok : goal.returns-clause-ok
returns-clause-ok c =
    let rest : Rest = record { variable = c.args.variable; reasons = c.args.reasons.now } in
    on_ok_weaker c.push_end.result (λ e. ap (rests_in c.put_rest.new.words.items) e ∙ (put_more c.self.inside.words.items c.put_rest.new.words.items c.truncate.new.self.items c.self.inside.ends.items c.self.invariant
    (front_of c.self.inside.words.items c.truncate.new.self.items c.self.inside.ends.items c.deref.result.now c.len.result c.start_of-start.result c.truncate.ensures.items c.start_of-start.ensures c.deref.ensures.value (omega (arith, c.len.ensures))) c.put_rest.ensures.kept (record { variable = c.args.variable; reasons = c.args.reasons.now }) c.in_ok-put_rest.ensures.ok c.in-Ok.end (omega (arith, c.in-Ok.ensures.1, c.len-2.ensures)) ∙ ap (λ (rests : List Rest). rests ++ rest ∷ []) c.self.view_is)) c.push_end.ensures.ok

pub returns-clause-err : goal.returns-clause-err
returns-clause-err c =
    on_err_weaker c.push_end.result (λ e. ap (rests_in c.put_rest.new.words.items) e ∙ (put_same c.self.inside.words.items c.put_rest.new.words.items c.truncate.new.self.items c.self.inside.ends.items c.self.invariant
    (front_of c.self.inside.words.items c.truncate.new.self.items c.self.inside.ends.items c.deref.result.now c.len.result c.start_of-start.result c.truncate.ensures.items c.start_of-start.ensures c.deref.ensures.value (omega (arith, c.len.ensures))) c.put_rest.ensures.kept ∙ c.self.view_is)) c.push_end.ensures.err
