use Rattle.std.proofs.Common.{◌≡◌, ◌++◌, List, ℕ, sym, subst}
use Rattle.ngd_log.specs.Pieces.{Kept, kept, refusal_of, IsFed}
use Rattle.ngd_log.specs.declared.log.LogError.TheVariants.{Line}
use Rattle.ngd_log.proofs.Fed.{tells_ok, told_err, open_memory, line_memory, feed_fed, feed_completes, fed_refused, refuses}
use Rattle.ngd_log.proofs.pieces.LogReader.feed.Goals as goal

-- the reader as it was, by its fields
before : (body now : Kept) (text : List ℕ) → body ≡ now → IsFed now text → IsFed body text
before body now text e h = subst (λ (r : Kept). IsFed r text) (sym e) h

pub returns-clause-fed : goal.returns-clause-fed
returns-clause-fed c = λ text h.
    feed_fed (kept c.self.inside.body) (kept c.take_piece.new.body) text c.args.piece.now c.args.into.now c.take_piece.new.into c.take_piece.ensures.feeds (before _ _ text c.self.view_is h)

pub returns-clause-entries : goal.returns-clause-entries
returns-clause-entries c = tells_ok (refusal_of c.take_piece.new.body.standing) c.answer.result _ c.answer.ensures (λ o text h.
    feed_completes (kept c.self.inside.body) (kept c.take_piece.new.body) text c.args.piece.now c.args.into.now c.take_piece.new.into c.take_piece.ensures.feeds
    (open_memory c.take_piece.new.body.standing o) (before _ _ text c.self.view_is h))

pub returns-clause-before_line : goal.returns-clause-before_line
returns-clause-before_line c = λ number e text h.
    feed_completes (kept c.self.inside.body) (kept c.take_piece.new.body) text c.args.piece.now c.args.into.now c.take_piece.new.into c.take_piece.ensures.feeds
    (line_memory c.take_piece.new.body.standing number (told_err c.take_piece.new.body.standing c.answer.result (Line number) c.answer.ensures e)) (before _ _ text c.self.view_is h)

pub returns-clause-line : goal.returns-clause-line
returns-clause-line c = λ number e text h.
    fed_refused (kept c.take_piece.new.body) (text ++ c.args.piece.now) number (told_err c.take_piece.new.body.standing c.answer.result (Line number) c.answer.ensures e)
    (feed_fed (kept c.self.inside.body) (kept c.take_piece.new.body) text c.args.piece.now c.args.into.now c.take_piece.new.into c.take_piece.ensures.feeds (before _ _ text c.self.view_is h))

pub returns-clause-refuses : goal.returns-clause-refuses
returns-clause-refuses c = λ number text h bad.
    let fed = feed_fed (kept c.self.inside.body) (kept c.take_piece.new.body) text c.args.piece.now c.args.into.now c.take_piece.new.into c.take_piece.ensures.feeds (before _ _ text c.self.view_is h) in
    refuses c.take_piece.new.body.standing c.answer.result c.take_piece.new.body.part.items (text ++ c.args.piece.now) fed.entries number c.answer.ensures fed.leads bad
