use Rattle.std.proofs.Common.{◌≡◌, ℕ, ◌+◌, ◌≤◌, List, ◌++◌, length, take, Vec, get_or, Global, Result, Ok, Err, IsOk, inl, inr, sym, ap, subst, ◌∙◌, arith}
use Rattle.std.specs.Prelude.{IsErrOf}
use Rattle.std.proofs.lemmas.List.{take_all}
use Rattle.dcsp_defs.specs.declared.entry.Entry.{Entry as AnEntry}
use Rattle.ngd_log.specs.declared.log.LogError.{LogError}
use Rattle.ngd_log.specs.declared.log.LogError.TheVariants.{Line, Memory}
use Rattle.ngd_log.specs.EntryTexts.{IsLogOfEntries}
use Rattle.ngd_log.specs.Pieces.{Kept, joined}
use Rattle.ngd_log.proofs.EntryLaws.{entries_or_bad_line}
use Rattle.ngd_log.proofs.Fed.{HasRead, read_more}
use Rattle.ngd_log.proofs.Joined.{joined_more, joined_room}
use Rattle.ngd_log.proofs.pieces.read_pieces.Goals as goal

-- the same error of another type
line_of : {T S : Type 0} (r : Result T LogError) (error e : LogError) → r ≡ Err error → IsErrOf {T = S} (Err error) e → r ≡ Err e
line_of r error e is h = let k : error ≡ e = cc in is ∙ ap Err k

-- the same answer
as_error : {T S : Type 0} (r : Result T LogError) (error e : LogError) → r ≡ Err error → r ≡ Err e → IsErrOf {T = S} (Err error) e
as_error r error e is h = let k : error ≡ e = (let f = sym is ∙ h in cc) in ap Err k

-- an error is no success
no_ok : {T : Type 0} (r : Result T LogError) (error : LogError) → r ≡ Err error → IsOk r → ⊥
no_ok (Ok x) error e h = absurd cc
no_ok (Err f) error e h = absurd cc

-- a success is no error
no_err : {T : Type 0} (r : Result T LogError) (x : T) (error : LogError) → r ≡ Ok x → r ≡ Err error → ⊥
no_err r x error e f = let g = sym e ∙ f in cc

-- all pieces were read
all_read : {Z : Type 0} (reader : Kept) (entries : List AnEntry) (pieces : List (Vec ℕ Z)) (n : ℕ) → length pieces ≤ n → HasRead reader entries (joined (take n pieces)) → HasRead reader entries (joined pieces)
all_read reader entries pieces n le h = subst (λ (ps : List (Vec ℕ _)). HasRead reader entries (joined ps)) (take_all n pieces le) h

pub feed-told-requires : goal.feed-told-requires
feed-told-requires c =
    let fed = c.loop-piece.invariant.fed.fed in
    let piece : length c.deref.result.now ≡ length (get_or c.args.pieces.now c.loop-piece.piece-index c.piece-item.result).items = ap length c.deref.ensures.value ∙ ap (λ (v : Vec ℕ Global). length v.items) c.piece-item.is in
    let room = joined_room c.args.pieces.now c.loop-piece.piece-index c.piece-item.result c.loop-piece-test.true in
    let most = c.requires in
    omega (arith, fed, piece, room, most)

pub loop-piece-preserved : goal.loop-piece-preserved
loop-piece-preserved c =
    let l = c.loop-piece in
    let told = c.feed-told.ensures in
    let text = joined (take l.piece-index c.args.pieces.now) in
    let more : text ++ c.deref.result.now ≡ joined (take (l.piece-index + 1) c.args.pieces.now) =
    ap (λ (p : List ℕ). text ++ p) (c.deref.ensures.value ∙ ap (λ (v : Vec ℕ Global). v.items) c.piece-item.is) ∙ sym (joined_more c.args.pieces.now l.piece-index c.piece-item.result c.loop-piece-test.true) in
    subst (λ (t : List ℕ). HasRead c.feed-told.new.self c.feed-told.new.into t) more
    (read_more l.reader c.feed-told.new.self c.feed-told.result text c.deref.result.now l.entries c.feed-told.new.into l.invariant (told.fed text l.invariant.fed) told.stands told.again told.entries told.before_line)

pub returns-in-Ok-clause-log : goal.returns-in-Ok-clause-log
returns-in-Ok-clause-log c =
    let text = joined c.args.pieces.now in
    let h = all_read c.loop-piece.reader c.loop-piece.entries c.args.pieces.now c.loop-piece.piece-index (omega arith) c.loop-piece.invariant in
    subst (λ (es : List AnEntry). IsLogOfEntries text es) (sym (h.good (λ e. no_err c.finish.result _ Memory c.in-Ok.is (c.finish.ensures.memory.1 e)))) (c.in-Ok.ensures.log text h.fed)

pub returns-in-Ok-clause-refuses : goal.returns-in-Ok-clause-refuses
returns-in-Ok-clause-refuses c = λ number bad.
    let text = joined c.args.pieces.now in
    let h = all_read c.loop-piece.reader c.loop-piece.entries c.args.pieces.now c.loop-piece.piece-index (omega arith) c.loop-piece.invariant in
    absurd ((entries_or_bad_line text).not_both _ number (c.in-Ok.ensures.log text h.fed) bad)

pub returns-clause-line : goal.returns-clause-line
returns-clause-line c = λ number e.
    let h = all_read c.loop-piece.reader c.loop-piece.entries c.args.pieces.now c.loop-piece.piece-index (omega arith) c.loop-piece.invariant in
    c.finish.ensures.line number (line_of c.finish.result c.in-Err.error (Line number) c.in-Err.is e) (joined c.args.pieces.now) h.fed

pub returns-clause-accepts : goal.returns-clause-accepts
returns-clause-accepts c = λ entries is.
    let h = all_read c.loop-piece.reader c.loop-piece.entries c.args.pieces.now c.loop-piece.piece-index (omega arith) c.loop-piece.invariant in
    elim (c.finish.ensures.accepts (joined c.args.pieces.now) entries h.fed is) [
      | inl ok ↦ absurd (no_ok c.finish.result c.in-Err.error c.in-Err.is ok)
      | inr m ↦ inr (as_error c.finish.result c.in-Err.error Memory c.in-Err.is m)
    ]

pub returns-clause-refuses : goal.returns-clause-refuses
returns-clause-refuses c = λ number bad.
    let h = all_read c.loop-piece.reader c.loop-piece.entries c.args.pieces.now c.loop-piece.piece-index (omega arith) c.loop-piece.invariant in
    elim (c.finish.ensures.refuses (joined c.args.pieces.now) number h.fed bad) [
      | inl l ↦ inl (as_error c.finish.result c.in-Err.error (Line number) c.in-Err.is l)
      | inr m ↦ inr (as_error c.finish.result c.in-Err.error Memory c.in-Err.is m)
    ]
