use Rattle.std.proofs.Common.{List, subst, sym, ◌∙◌, Ok, Err}
use Rattle.std.proofs.lemmas.Result.{err_from_is_err_and}
use Rattle.fzn_token.specs.declared.token.Token.{Token}
use Rattle.fzn_item.specs.Items.{IsItem, GivesNext}
use Rattle.fzn_item.specs.Lent.{GivesConstraint, GivesLent}
use Rattle.fzn_model.specs.Reading.{gave}
use Rattle.fzn_model.proofs.Turns.{room_for_one, one_more, next_refused, next_unread, all_taken}
use Rattle.fzn_model.proofs.in_turn.Taken.take_all.Goals as goal

pub returns-in_err-next_piece-clause-err : goal.returns-in_err-next_piece-clause-err
returns-in_err-next_piece-clause-err c =
    let p = err_from_is_err_and c.from_residual.result c.from_residual.ensures.1 in
    rw (p.1, p.2) (next_refused c.args.text.now c.items.reader (gave c.items.self) _ c.items.invariant c.in_err-next_piece.ensures.takes)

pub take-requires-clause-stands : goal.take-requires-clause-stands
take-requires-clause-stands c =
    let gives = subst (λ n. GivesConstraint c.args.text.now c.deref.result.now (Ok n)) c.in-Ok-Some.field-0-is c.in-Ok-Some.ensures in
    (gives.0, gives.3)

pub take-requires-clause-room : goal.take-requires-clause-room
take-requires-clause-room c =
    let gives = subst (λ n. GivesConstraint c.args.text.now c.deref.result.now (Ok n)) c.in-Ok-Some.field-0-is c.in-Ok-Some.ensures in
    let one = subst (λ (us : List Token). IsItem c.args.text.now us gives.0 gives.1) c.deref.ensures.value gives.2 in
    room_for_one c.args.text.now c.items.reader c.next_piece.new.self (gave c.items.self) c.next_piece.new.tokens.items gives.0 gives.1 c.items.invariant c.in_ok-next_piece.ensures.takes one c.requires.short

pub items-preserved-in_ok-take-in-Ok-Some-14 : goal.items-preserved-in_ok-take-in-Ok-Some-14
items-preserved-in_ok-take-in-Ok-Some-14 c =
    let gives = subst (λ n. GivesConstraint c.args.text.now c.deref.result.now (Ok n)) c.in-Ok-Some.field-0-is c.in-Ok-Some.ensures in
    let one = subst (λ (us : List Token). IsItem c.args.text.now us gives.0 gives.1) c.deref.ensures.value gives.2 in
    let took = c.in_ok-take-in-Ok-Some.ensures in
    one_more c.args.text.now c.items.reader c.next_piece.new.self (gave c.items.self) (gave c.take.new.self) c.next_piece.new.tokens.items gives.0 gives.1 c.items.invariant c.in_ok-next_piece.ensures.takes c.in_ok-next_piece.ensures.ends one (took.is gives.0 gives.3) took.sound took.prints

pub take-done-requires-clause-stands : goal.take-done-requires-clause-stands
take-done-requires-clause-stands c =
    let gives = subst (λ n. GivesLent c.args.text.now c.deref-in-Ok-None.result.now (Ok n)) c.in-Ok-Some-next_lent.field-0-is c.in-Ok-Some-next_lent.ensures.gives in
    (gives.0, gives.2)

pub take-done-requires-clause-room : goal.take-done-requires-clause-room
take-done-requires-clause-room c =
    let gives = subst (λ n. GivesLent c.args.text.now c.deref-in-Ok-None.result.now (Ok n)) c.in-Ok-Some-next_lent.field-0-is c.in-Ok-Some-next_lent.ensures.gives in
    let one = subst (λ (us : List Token). IsItem c.args.text.now us gives.0 c.in-Ok-Some-next_lent._behind.now) c.deref-in-Ok-None.ensures.value gives.1 in
    room_for_one c.args.text.now c.items.reader c.next_piece.new.self (gave c.items.self) c.next_piece.new.tokens.items gives.0 c.in-Ok-Some-next_lent._behind.now c.items.invariant c.in_ok-next_piece.ensures.takes one c.requires.short

pub items-preserved : goal.items-preserved
items-preserved c =
    let gives = subst (λ n. GivesLent c.args.text.now c.deref-in-Ok-None.result.now (Ok n)) c.in-Ok-Some-next_lent.field-0-is c.in-Ok-Some-next_lent.ensures.gives in
    let one = subst (λ (us : List Token). IsItem c.args.text.now us gives.0 c.in-Ok-Some-next_lent._behind.now) c.deref-in-Ok-None.ensures.value gives.1 in
    let took = c.in_ok-done-in-Ok-Some-next_lent.ensures in
    one_more c.args.text.now c.items.reader c.next_piece.new.self (gave c.items.self) (gave c.take-done.new.self) c.next_piece.new.tokens.items gives.0 c.in-Ok-Some-next_lent._behind.now c.items.invariant c.in_ok-next_piece.ensures.takes c.in_ok-next_piece.ensures.ends one (took.is gives.0 gives.2) took.sound took.prints

pub returns-in-Err-clause-err : goal.returns-in-Err-clause-err
returns-in-Err-clause-err c =
    let unread = subst (λ (us : List Token). GivesNext c.args.text.now us (Err c.in-Err.error)) c.deref.ensures.value c.in-Err.ensures in
    next_unread c.args.text.now c.items.reader c.next_piece.new.self (gave c.items.self) c.next_piece.new.tokens.items c.in-Err.error c.unread-in-Err.result c.items.invariant c.in_ok-next_piece.ensures.takes c.in_ok-next_piece.ensures.ends unread c.unread-in-Err.ensures

pub returns-in-Err-next_lent-clause-err : goal.returns-in-Err-next_lent-clause-err
returns-in-Err-next_lent-clause-err c =
    let unread = subst (λ (us : List Token). GivesNext c.args.text.now us (Err c.in-Err-next_lent.error)) c.deref-in-Ok-None.ensures.value c.in-Err-next_lent.ensures.gives in
    next_unread c.args.text.now c.items.reader c.next_piece.new.self (gave c.items.self) c.next_piece.new.tokens.items c.in-Err-next_lent.error c.unread.result c.items.invariant c.in_ok-next_piece.ensures.takes c.in_ok-next_piece.ensures.ends unread c.unread.ensures

pub returns-in-Ok-None-next_lent-clause-ok : goal.returns-in-Ok-None-next_lent-clause-ok
returns-in-Ok-None-next_lent-clause-ok c =
    let gives = subst (λ n. GivesLent c.args.text.now c.deref-in-Ok-None.result.now (Ok n)) c.in-Ok-None-next_lent.field-0-is c.in-Ok-None-next_lent.ensures.gives in
    all_taken c.args.text.now c.items.reader c.next_piece.new.self (gave c.items.self) c.next_piece.new.tokens.items c.items.invariant c.in_ok-next_piece.ensures.takes c.in_ok-next_piece.ensures.ends (sym c.deref-in-Ok-None.ensures.value ∙ gives)
