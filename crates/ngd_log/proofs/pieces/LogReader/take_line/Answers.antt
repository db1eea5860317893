use Rattle.std.proofs.Common.{◌≡◌, Some, ap, subst, [], arith, refl}
use Rattle.std.specs.Prelude.{IfSome, List}
use Rattle.dcsp_defs.specs.declared.entry.Entry.{Entry}
use Rattle.ngd_log.specs.declared.log.LogError.{LogError}
use Rattle.ngd_log.specs.Pieces.{Kept, kept, refusal_of, TakesFront}
use Rattle.ngd_log.proofs.Fed.{open_memory, takes_front, takes_entry, takes_part, refusal_stays}
use Rattle.ngd_log.proofs.Standings.{heard}
use Rattle.ngd_log.proofs.pieces.LogReader.take_line.Goals as goal

pub returns-in-Some-clause-line : goal.returns-in-Some-clause-line
returns-in-Some-clause-line c = subst (λ (r : Kept). TakesFront r (kept c.take_entry.new.body) c.args.piece.now c.in-Some.rest.now) c.self.view_is
    (takes_entry (kept c.self.inside.body) (kept c.take_entry.new.body) c.args.piece.now c.in-Some.rest.now c.in-Some.ensures.front (open_memory c.take_entry.new.body.standing (c.in-Some.ensures.going refl)))

pub returns-in_err-memory-clause-counted : goal.returns-in_err-memory-clause-counted
returns-in_err-memory-clause-counted c =
    let f = (heard (kept c.self.inside.body) (kept c.take_entry.new.body) (kept c.take_part.new.body) c.args.piece.now [] [] (c.in_default.ensures.none refl) (c.take_part.ensures.feeds [])).fed in
    let e = ap (λ (r : Kept). r.fed) c.self.view_is in
    omega (arith, f, e)

pub returns-in_err-memory-clause-again : goal.returns-in_err-memory-clause-again
returns-in_err-memory-clause-again c = subst (λ (r : Kept). IfSome (refusal_of r.standing) (λ (error : LogError). refusal_of c.take_part.new.body.standing ≡ Some error)) c.self.view_is
    (refusal_stays (kept c.self.inside.body) (kept c.take_part.new.body) (refusal_of c.self.inside.body.standing) c.args.piece.now [] [] refl
    (heard (kept c.self.inside.body) (kept c.take_entry.new.body) (kept c.take_part.new.body) c.args.piece.now [] [] (c.in_default.ensures.none refl) (c.take_part.ensures.feeds [])))

pub returns-in_default-split_line-clause-part : goal.returns-in_default-split_line-clause-part
returns-in_default-split_line-clause-part c = subst (λ (r : Kept). TakesFront r (kept c.take_part.new.body) c.args.piece.now []) c.self.view_is
    (takes_part (kept c.self.inside.body) (kept c.take_part.new.body) c.args.piece.now c.take_part.ensures.lent
    (λ entries. heard (kept c.self.inside.body) (kept c.take_entry.new.body) (kept c.take_part.new.body) c.args.piece.now entries entries (c.in_default.ensures.none refl) (c.take_part.ensures.feeds entries)) c.in_ok-memory.ensures.ok)

pub returns-in_default-split_line-clause-counted : goal.returns-in_default-split_line-clause-counted
returns-in_default-split_line-clause-counted c =
    let f = (heard (kept c.self.inside.body) (kept c.take_entry.new.body) (kept c.take_part.new.body) c.args.piece.now [] [] (c.in_default.ensures.none refl) (c.take_part.ensures.feeds [])).fed in
    let e = ap (λ (r : Kept). r.fed) c.self.view_is in
    omega (arith, f, e)

pub returns-in_default-split_line-clause-again : goal.returns-in_default-split_line-clause-again
returns-in_default-split_line-clause-again c = subst (λ (r : Kept). IfSome (refusal_of r.standing) (λ (error : LogError). refusal_of c.take_part.new.body.standing ≡ Some error)) c.self.view_is
    (refusal_stays (kept c.self.inside.body) (kept c.take_part.new.body) (refusal_of c.self.inside.body.standing) c.args.piece.now [] [] refl
    (heard (kept c.self.inside.body) (kept c.take_entry.new.body) (kept c.take_part.new.body) c.args.piece.now [] [] (c.in_default.ensures.none refl) (c.take_part.ensures.feeds [])))

pub returns-clause-line : goal.returns-clause-line
returns-clause-line c = subst (λ (r : Kept). TakesFront r (kept c.take_line.new.body) c.args.piece.now c.in-Some-split_line.others.now) c.self.view_is
    (takes_front (kept c.self.inside.body) (kept c.take_line.new.body) c.args.piece.now c.in-Some-split_line.line.now c.in-Some-split_line.others.now c.in-Some-split_line.ensures.parts
    (heard (kept c.self.inside.body) (kept c.take_entry.new.body) (kept c.take_line.new.body) c.in-Some-split_line.line.now [] (kept c.take_line.new.body).lent (c.in_default.ensures.none refl) c.take_line.ensures.feeds) c.in_ok-memory-2.ensures.ok)
