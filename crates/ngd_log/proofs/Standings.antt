-- Where a reader stands after a line and after a piece.
use Rattle.std.proofs.Common.{◌≡◌, ◌≢◌, ℕ, ◌+◌, ◌<◌, ◌≤◌, List, [], ◌∷◌, ◌++◌, length, Some, None, inl, inr, refl, sym, ap, subst, ◌∙◌, append_assoc, arith}
use Rattle.std.specs.Prelude.{codes}
use Rattle.std.specs.List.{AllByRecursion, concat}
use Rattle.std.proofs.lemmas.List.{append-nil, length-append, length_push}
use Rattle.std.proofs.lemmas.List.Folds.{concat-append}
use Rattle.dcsp_defs.specs.declared.entry.Entry.{Entry}
use Rattle.dcsp_defs.specs.declared.entry.Entry.TheVariants.{Step as A_step, Delete}
use Rattle.ngd_log.specs.declared.log.LogError.{LogError}
use Rattle.ngd_log.specs.declared.log.LogError.TheVariants.{Line, Memory}
use Rattle.ngd_log.specs.declared.standing.Version.{Version}
use Rattle.ngd_log.specs.declared.standing.Place.{Place}
use Rattle.ngd_log.specs.declared.standing.Standing.{Standing}
use Rattle.ngd_log.specs.declared.standing.Standing.TheVariants.{Start, Inside, Ended, Refused}
use Rattle.ngd_log.specs.Lines.{HasNoLineFeed, IsLine}
use Rattle.ngd_log.specs.Entries.{steps_of}
use Rattle.ngd_log.specs.declared.standing.EntryKind.{EntryKind}
use Rattle.ngd_log.specs.declared.standing.EntryKind.TheVariants as kinds
use Rattle.ngd_log.specs.declared.reader.Gathered.{Gathered}
use Rattle.ngd_log.specs.EntryTexts.{next_number, entry_line, head, entries_text, IsEntryLine, IsWritableEntry}
use Rattle.ngd_log.specs.Lent.{entry_in, RisesIn}
use Rattle.ngd_log.specs.EntryReading.{entry_front, entry_of, version_of}
use Rattle.ngd_log.specs.Pieces.{Kept, unheard, open_text, IsEnded, IsStuck, Stands, IsPart, IsAt, IsWithin, IsNextPlace, IsSound, IsLentAlone, Feeds, FeedsFront, Follows}
use Rattle.ngd_log.proofs.LogLines.{tail}
use Rattle.ngd_log.proofs.LineFeeds.{both}
use Rattle.ngd_log.proofs.EntryLines.{no_entries, HaveText-push, steps_of-append, front_lines, entry_takes, entry_front_takes, entry_again, entry_line-IsLine}
use Rattle.ngd_log.proofs.EntryBad.{front_lines-push}

-- ---- a refusal stays

-- the text goes on
pub stuck_more : (text : List ℕ) (entries : List Entry) (number : ℕ) (more : List ℕ) → IsStuck text entries number → IsStuck (text ++ more) entries number
stuck_more text entries number more (inl h) =
    inl (record { line = h.line; more = h.more ++ more; same = ap (λ (t : List ℕ). t ++ more) h.same ∙ append_assoc h.line h.more more; whole = h.whole; no_head = h.no_head; none = h.none; numbered = h.numbered })
stuck_more text entries number more (inr (inl h)) =
    inr (inl (record {
      version = h.version;
      writable = h.writable;
      line = h.line;
      more = h.more ++ more;
      same = ap (λ (t : List ℕ). t ++ more) h.same ∙ append_assoc (open_text h.version entries) (h.line ++ h.more) more ∙ ap (λ (t : List ℕ). open_text h.version entries ++ t) (append_assoc h.line h.more more);
      whole = h.whole;
      no_entry = h.no_entry;
      no_end = h.no_end;
      numbered = h.numbered;
    }))
stuck_more text entries number more (inr (inr h)) =
    inr (inr (record {
      version = h.version;
      writable = h.writable;
      more = h.more ++ more;
      some = (let s = h.some in let l = length-append h.more more in omega arith);
      same = ap (λ (t : List ℕ). t ++ more) h.same ∙ append_assoc (entries_text h.version entries) h.more more;
      numbered = h.numbered;
    }))

-- with any refusal
pub refused_more : (error : LogError) (text : List ℕ) (entries : List Entry) (more : List ℕ) → Stands (Refused error) text entries → Stands (Refused error) (text ++ more) entries
refused_more (Line number) text entries more h = stuck_more text entries number more h
refused_more Memory text entries more h = tt

-- ---- after a line

-- nothing is appended
nothing : (old new : Standing) (line : List ℕ) (xs : List Entry) → ((text : List ℕ) (entries : List Entry) → Stands old text entries → Stands new (text ++ line) entries) → Follows old new line xs xs
nothing old new line xs f = record {
  appended = [];
  same = sym (append-nil xs);
  stands = λ text entries h. subst (λ (es : List Entry). Stands new (text ++ line) es) (sym (append-nil entries)) (f text entries h);
}

-- the head
pub after_head : (v : Version) (place : Place) (line : List ℕ) (xs : List Entry) → line ≡ head v → place ≡ record { version = v; step = 1; line = 2 } → Follows Start (Inside place) line xs xs
after_head v place line xs e p = nothing Start (Inside place) line xs (λ text entries h. rw (h.0, h.1, p) (record {
  writable = no_entries v;
  same = e ∙ sym (append-nil (head v));
  step = refl;
  line = refl;
}))

-- another first line
pub after_no_head : (line : List ℕ) (xs : List Entry) → version_of line ≡ None → IsLine line → Follows Start (Refused (Line 1)) line xs xs
after_no_head line xs none whole = nothing Start (Refused (Line 1)) line xs (λ text entries h. rw (h.0, h.1) (inl (record {
  line = line;
  more = [];
  same = sym (append-nil line);
  whole = whole;
  no_head = none;
  none = refl;
  numbered = refl;
})))

-- `end`
pub after_end : (place : Place) (number : ℕ) (line : List ℕ) (xs : List Entry) → line ≡ tail → number ≡ place.line + 1 → Follows (Inside place) (Ended number) line xs xs
after_end place number line xs e n = nothing (Inside place) (Ended number) line xs (λ text entries h. record {
  version = place.version;
  whole = record { writable = h.writable; same = ap (λ (t : List ℕ). t ++ line) h.same ∙ ap (λ (t : List ℕ). open_text place.version entries ++ t) e };
  line = (let l = h.line in omega arith);
})

-- one step more, or none
counted : (entries : List Entry) (entry : Entry) (step : ℕ) → step ≡ length (steps_of entries) + 1 → next_number step entry ≡ length (steps_of (entries ++ entry ∷ [])) + 1
counted entries (A_step s) step e = let a = steps_of-append entries (A_step s ∷ []) in let l = length_push (steps_of entries) s in rw a (omega arith)
counted entries (Delete ns) step e = let a = steps_of-append entries (Delete ns ∷ []) ∙ append-nil (steps_of entries) in rw a e

-- the text with one entry more
open_text-push : (v : Version) (entries : List Entry) (line : List ℕ) (entry : Entry) → IsEntryLine v (length (steps_of entries) + 1) line entry → open_text v entries ++ line ≡ open_text v (entries ++ entry ∷ [])
open_text-push v entries line entry is =
    sym (ap concat (front_lines-push v entries line entry is) ∙ concat-append (front_lines v entries) (line ∷ []) ∙ ap (λ (t : List ℕ). open_text v entries ++ t) (append-nil line))

-- an entry's line
pub after_entry : (place next : Place) (line : List ℕ) (entry : Entry) (xs ys : List Entry) → entry_of place.version place.step line ≡ Some entry → ys ≡ xs ++ entry ∷ []
    → next.version ≡ place.version → next.step ≡ next_number place.step entry → next.line ≡ place.line + 1 → Follows (Inside place) (Inside next) line xs ys
after_entry place next line entry xs ys read more same_version same_step same_line = record {
  appended = entry ∷ [];
  same = more;
  stands = λ text entries h.
      let is : IsEntryLine place.version (length (steps_of entries) + 1) line entry = subst (λ (n : ℕ). IsEntryLine place.version n line entry) h.step (entry_takes place.version place.step line entry read) in
      let l = length_push entries entry in
      record {
        writable = rw same_version (HaveText-push place.version entries entry h.writable is.numbered is.writable);
        same = ap (λ (t : List ℕ). t ++ line) h.same ∙ open_text-push place.version entries line entry is ∙ ap (λ (v : Version). open_text v (entries ++ entry ∷ [])) (sym same_version);
        step = same_step ∙ counted entries entry place.step h.step;
        line = (let k = h.line in omega (arith, same_line, k, l));
      };
}

-- the line of an entry that was read
pub after_kind : (place next : Place) (line : List ℕ) (kind : EntryKind) (g : Gathered) → entry_of place.version place.step line ≡ Some (entry_in kind g) → IsNextPlace place kind next → Follows (Inside place) (Inside next) line [] (entry_in kind g ∷ [])
after_kind place next line kinds.Step g read n = after_entry place next line (entry_in kinds.Step g) [] (entry_in kinds.Step g ∷ []) read refl n.version n.step n.line
after_kind place next line kinds.Delete g read n = after_entry place next line (entry_in kinds.Delete g) [] (entry_in kinds.Delete g ∷ []) read refl n.version n.step n.line

-- the pairs of an entry that can stand in a text rise
rises_in : (v : Version) (entry : Entry) → IsWritableEntry v entry → RisesIn entry
rises_in v (A_step step) w = w.rising
rises_in v (Delete ns) w = tt

-- the pairs of an entry that was read rise
pub rising_read : (place : Place) (line : List ℕ) (entry : Entry) → entry_of place.version place.step line ≡ Some entry → AllByRecursion RisesIn (entry ∷ [])
rising_read place line entry read = (rises_in place.version entry (entry_takes place.version place.step line entry read).writable, tt)

-- another line
pub after_bad : (place : Place) (line : List ℕ) (xs : List Entry) → entry_of place.version place.step line ≡ None → (line ≡ tail → ⊥) → IsLine line → Follows (Inside place) (Refused (Line place.line)) line xs xs
after_bad place line xs none no_end whole = nothing (Inside place) (Refused (Line place.line)) line xs (λ text entries h. inr (inl (record {
  version = place.version;
  writable = h.writable;
  line = line;
  more = [];
  same = ap (λ (t : List ℕ). t ++ line) h.same ∙ ap (λ (t : List ℕ). open_text place.version entries ++ t) (sym (append-nil line));
  whole = whole;
  no_entry = subst (λ (n : ℕ). entry_of place.version n line ≡ None) h.step none;
  no_end = no_end;
  numbered = h.line;
})))

-- bytes after `end`
ended_more : (number : ℕ) (text : List ℕ) (entries : List Entry) (more : List ℕ) → 0 < length more → IsEnded number text entries → IsStuck (text ++ more) entries number
ended_more number text entries more some h = inr (inr (record { version = h.version; writable = h.whole.writable; more = more; some = some; same = ap (λ (t : List ℕ). t ++ more) h.whole.same; numbered = h.line }))

-- a line after `end`
pub after_ended : (number : ℕ) (line : List ℕ) (xs : List Entry) → 0 < length line → Follows (Ended number) (Refused (Line number)) line xs xs
after_ended number line xs some = nothing (Ended number) (Refused (Line number)) line xs (λ text entries h. ended_more number text entries line some h)

-- a line after a refusal
pub after_refused : (error : LogError) (line : List ℕ) (xs : List Entry) → Follows (Refused error) (Refused error) line xs xs
after_refused error line xs = nothing (Refused error) (Refused error) line xs (λ text entries h. refused_more error text entries line h)

-- no memory
pub after_memory : (old : Standing) (line : List ℕ) (xs : List Entry) → Follows old (Refused Memory) line xs xs
after_memory old line xs = nothing old (Refused Memory) line xs (λ text entries h. tt)

-- ---- after a piece

-- no bytes are a part of any line
no_part : (standing : Standing) → IsPart standing []
no_part Start = tt
no_part (Inside place) = tt
no_part (Ended number) = refl
no_part (Refused error) = refl

-- a line, joined to the part at hand
pub feeds_line : (old new : Kept) (line joined : List ℕ) (xs ys : List Entry) → ((error : LogError) → old.standing ≡ Refused error → ⊥) → joined ≡ old.part ++ line → new.part ≡ [] → new.fed ≡ old.fed + length line → Follows old.standing new.standing joined xs ys → Feeds old new line xs ys
feeds_line old new line joined xs ys open_still j p f h = record {
  appended = h.appended;
  same = h.same;
  fed = f;
  stands = λ text entries a. record {
    whole = a.whole ++ joined;
    same = ap (λ (t : List ℕ). t ++ line) a.same ∙ append_assoc a.whole old.part line ∙ ap (λ (t : List ℕ). a.whole ++ t) (sym j) ∙ sym (append-nil (a.whole ++ joined)) ∙ ap (λ (t : List ℕ). (a.whole ++ joined) ++ t) (sym p);
    stands = h.stands a.whole entries a.stands;
    fits = rw p (no_part new.standing);
  };
  stays = λ error e. absurd (open_still error e);
}

-- the standing after an entry is within what was fed with it
pub within_next : (place next : Place) (kind : EntryKind) (fed : ℕ) → IsNextPlace place kind next → IsWithin (Inside place) fed → IsWithin (Inside next) (fed + 1)
within_next place next kinds.Step fed n w = let a = n.step in let b = n.line in let c = w.0 in let d = w.1 in (omega (arith, a, b, c), omega (arith, b, d))
within_next place next kinds.Delete fed n w = let a = n.step in let b = n.line in let c = w.0 in let d = w.1 in (omega (arith, a, b, c), omega (arith, b, d))

-- the line of an entry that was read in front of a piece, and its length
pub front_of : (v : Version) (number : ℕ) (piece rest : List ℕ) (entry : Entry) → entry_front v number piece ≡ Some (entry, rest) → IsLine (entry_line number entry) × (length piece ≡ length (entry_line number entry) + length rest)
front_of v number piece rest entry read =
    let t = entry_front_takes v number piece (entry, rest) read in
    (entry_line-IsLine v number entry t.numbered t.writable, ap length t.parts ∙ length-append (entry_line number entry) rest)

-- its pairs rise
pub rising_front : (v : Version) (number : ℕ) (piece rest : List ℕ) (entry : Entry) → entry_front v number piece ≡ Some (entry, rest) → AllByRecursion RisesIn (entry ∷ [])
rising_front v number piece rest entry read = (rises_in v entry (entry_front_takes v number piece (entry, rest) read).writable, tt)

-- it is taken, where no bytes are at hand
pub feeds_entry : (old new : Kept) (place next : Place) (kind : EntryKind) (g : Gathered) (piece rest : List ℕ) → old.standing ≡ Inside place → old.part ≡ [] → entry_front place.version place.step piece ≡ Some (entry_in kind g, rest)
    → IsNextPlace place kind next → new.standing ≡ Inside next → new.part ≡ [] → new.fed + length rest ≡ old.fed + length piece → new.lent ≡ entry_in kind g ∷ [] → FeedsFront old new piece rest [] new.lent
feeds_entry old new place next kind g piece rest stood empty read is stands left fed lent =
    let entry = entry_in kind g in
    let line = entry_line place.step entry in
    let t = entry_front_takes place.version place.step piece (entry, rest) read in
    let size = (front_of place.version place.step piece rest entry read).1 in
    let follows : Follows (Inside place) (Inside next) line [] (entry ∷ []) = after_kind place next line kind g (entry_again place.version place.step entry t.numbered t.writable) is in
    record {
      front = line;
      parts = t.parts;
      feeds = feeds_line old new line line [] new.lent (λ error e. absurd (apart error (sym stood ∙ e))) (ap (λ (part : List ℕ). part ++ line) (sym empty)) left (omega (arith, fed, size)) (rw (stood, stands, lent) follows);
    }
  where
    apart : (error : LogError) → Inside place ≡ Refused error → ⊥
    apart error e = cc

-- what was lent before does not count
pub heard : (old mid new : Kept) (piece : List ℕ) (xs ys : List Entry) → mid ≡ unheard old → Feeds mid new piece xs ys → Feeds old new piece xs ys
heard old mid new piece xs ys same f = as_before (subst (λ (k : Kept). Feeds k new piece xs ys) same f)
  where
    as_before : Feeds (unheard old) new piece xs ys → Feeds old new piece xs ys
    as_before f = record { appended = f.appended; same = f.same; fed = f.fed; stands = f.stands; stays = f.stays }

-- nothing is appended
silent : (old new : Kept) (piece : List ℕ) (xs : List Entry) → ((error : LogError) → old.standing ≡ Refused error → new.standing ≡ Refused error) → new.fed ≡ old.fed + length piece → ((text : List ℕ) (entries : List Entry) → IsAt old.standing old.part text entries → IsAt new.standing new.part (text ++ piece) entries) → Feeds old new piece xs xs
silent old new piece xs stay f h = record {
  appended = [];
  same = sym (append-nil xs);
  fed = f;
  stands = λ text entries a. subst (λ (es : List Entry). IsAt new.standing new.part (text ++ piece) es) (sym (append-nil entries)) (h text entries a);
  stays = stay;
}

-- bytes that are kept
keeps : (standing : Standing) (whole part more text : List ℕ) (entries : List Entry) → text ≡ whole ++ part → Stands standing whole entries → IsPart standing (part ++ more) → IsAt standing (part ++ more) (text ++ more) entries
keeps standing whole part more text entries e s p = record { whole = whole; same = ap (λ (t : List ℕ). t ++ more) e ∙ append_assoc whole part more; stands = s; fits = p }

-- before the head's line feed
pub feeds_start : (old new : Kept) (piece : List ℕ) (xs : List Entry) → old.standing ≡ Start → new.standing ≡ Start → new.part ≡ old.part ++ piece → new.fed ≡ old.fed + length piece → HasNoLineFeed piece → Feeds old new piece xs xs
feeds_start old new piece xs s t p f plain = silent old new piece xs (λ error e. absurd (clash error (sym s ∙ e))) f (λ text entries a.
    let fits : HasNoLineFeed old.part = subst (λ (x : Standing). IsPart x old.part) s a.fits in
    rw (p, t) (keeps Start a.whole old.part piece text entries a.same (subst (λ (x : Standing). Stands x a.whole entries) s a.stands) (both old.part piece fits plain)))
  where
    clash : (error : LogError) → Start ≡ Refused error → ⊥
    clash error e = cc

-- before another line feed
pub feeds_inside : (place : Place) (old new : Kept) (piece : List ℕ) (xs : List Entry) → old.standing ≡ Inside place → new.standing ≡ Inside place → new.part ≡ old.part ++ piece → new.fed ≡ old.fed + length piece → HasNoLineFeed piece → Feeds old new piece xs xs
feeds_inside place old new piece xs s t p f plain = silent old new piece xs (λ error e. absurd (clash error (sym s ∙ e))) f (λ text entries a.
    let fits : HasNoLineFeed old.part = subst (λ (x : Standing). IsPart x old.part) s a.fits in
    rw (p, t) (keeps (Inside place) a.whole old.part piece text entries a.same (subst (λ (x : Standing). Stands x a.whole entries) s a.stands) (both old.part piece fits plain)))
  where
    clash : (error : LogError) → Inside place ≡ Refused error → ⊥
    clash error e = cc

-- no memory
pub feeds_memory : (old new : Kept) (piece : List ℕ) (xs : List Entry) → ((error : LogError) → old.standing ≡ Refused error → ⊥) → new.standing ≡ Refused Memory → new.part ≡ [] → new.fed ≡ old.fed + length piece → Feeds old new piece xs xs
feeds_memory old new piece xs open_still t p f = silent old new piece xs (λ error e. absurd (open_still error e)) f (λ text entries a. rw (t, p) (record { whole = text ++ piece; same = sym (append-nil (text ++ piece)); stands = tt; fits = refl }))

-- bytes after `end`
pub feeds_ended : (number : ℕ) (old new : Kept) (piece : List ℕ) (xs : List Entry) → old.standing ≡ Ended number → new.standing ≡ Refused (Line number) → new.part ≡ old.part → new.fed ≡ old.fed + length piece → 0 < length piece → Feeds old new piece xs xs
feeds_ended number old new piece xs s t p f some = silent old new piece xs (λ error e. absurd (clash error (sym s ∙ e))) f (λ text entries a.
    let none : old.part ≡ [] = subst (λ (x : Standing). IsPart x old.part) s a.fits in
    let whole : text ≡ a.whole = a.same ∙ ap (λ (x : List ℕ). a.whole ++ x) none ∙ append-nil a.whole in
    let stands : IsEnded number text entries = subst (λ (x : List ℕ). IsEnded number x entries) (sym whole) (subst (λ (x : Standing). Stands x a.whole entries) s a.stands) in
    rw (t, p, none) (record { whole = text ++ piece; same = sym (append-nil (text ++ piece)); stands = ended_more number text entries piece some stands; fits = refl }))
  where
    clash : (error : LogError) → Ended number ≡ Refused error → ⊥
    clash error e = cc

-- no bytes
pub feeds_nothing : (old new : Kept) (piece : List ℕ) (xs : List Entry) → new.standing ≡ old.standing → new.part ≡ old.part → new.fed ≡ old.fed + length piece → piece ≡ [] → Feeds old new piece xs xs
feeds_nothing old new piece xs s p f none = silent old new piece xs (λ error e. s ∙ e) f (λ text entries a. rw (s, p, none, append-nil text) a)

-- bytes after a refusal
pub feeds_refused : (error : LogError) (old new : Kept) (piece : List ℕ) (xs : List Entry) → old.standing ≡ Refused error → new.standing ≡ Refused error → new.part ≡ old.part → new.fed ≡ old.fed + length piece → Feeds old new piece xs xs
feeds_refused error old new piece xs s t p f = silent old new piece xs (λ other e. t ∙ sym s ∙ e) f (λ text entries a.
    let none : old.part ≡ [] = subst (λ (x : Standing). IsPart x old.part) s a.fits in
    let whole : text ≡ a.whole = a.same ∙ ap (λ (x : List ℕ). a.whole ++ x) none ∙ append-nil a.whole in
    let stands : Stands (Refused error) text entries = subst (λ (x : List ℕ). Stands (Refused error) x entries) (sym whole) (subst (λ (x : Standing). Stands x a.whole entries) s a.stands) in
    rw (t, p, none) (record { whole = text ++ piece; same = sym (append-nil (text ++ piece)); stands = refused_more error text entries piece stands; fits = refl }))

-- one piece after the other
pub feeds_both : (a b c : Kept) (p q : List ℕ) (xs ys zs : List Entry) → Feeds a b p xs ys → Feeds b c q ys zs → Feeds a c (p ++ q) xs zs
feeds_both a b c p q xs ys zs f g = record {
  appended = f.appended ++ g.appended;
  same = g.same ∙ ap (λ (es : List Entry). es ++ g.appended) f.same ∙ append_assoc xs f.appended g.appended;
  fed = (let m = f.fed in let n = g.fed in let l = length-append p q in omega (arith, m, n, l));
  stands = λ text entries h.
      let end = g.stands (text ++ p) (entries ++ f.appended) (f.stands text entries h) in
      subst (λ (t : List ℕ). IsAt c.standing c.part t (entries ++ (f.appended ++ g.appended))) (append_assoc text p q) (subst (λ (es : List Entry). IsAt c.standing c.part ((text ++ p) ++ q) es) (append_assoc entries f.appended g.appended) end);
  stays = λ error e. g.stays error (f.stays error e);
}

-- a line whose entry is handed on
pub feeds_on : (old new : Kept) (line : List ℕ) (xs ys : List Entry) → ys ≡ xs ++ new.lent → Feeds old new line [] new.lent → Feeds old new line xs ys
feeds_on old new line xs ys e h = record { appended = new.lent; same = e; fed = h.fed; stands = λ text entries a. subst (λ (es : List Entry). IsAt new.standing new.part (text ++ line) (entries ++ es)) (sym h.same) (h.stands text entries a); stays = h.stays }

-- a line whose entry is lost for want of memory
pub feeds_lost : (old mid new : Kept) (line : List ℕ) (xs : List Entry) → mid.lent ≢ [] → IsLentAlone old mid → Feeds old mid line [] mid.lent → new.standing ≡ Refused Memory → new.part ≡ mid.part → new.fed ≡ mid.fed → Feeds old new line xs xs
feeds_lost old mid new line xs some alone h t p f = feeds_memory old new line xs (λ error e. some (alone.going error e)) t (p ∙ alone.whole some) (f ∙ h.fed)

-- the front of a piece before the first line
pub front_none : (a : Kept) (piece : List ℕ) (xs : List Entry) → FeedsFront a a piece piece xs xs
front_none a piece xs = record { front = []; parts = refl; feeds = feeds_nothing a a [] xs refl refl (omega arith) refl }

-- one line more
pub front_line : (a b c : Kept) (piece rest line others : List ℕ) (xs ys zs : List Entry) → FeedsFront a b piece rest xs ys → rest ≡ line ++ others → Feeds b c line ys zs → FeedsFront a c piece others xs zs
front_line a b c piece rest line others xs ys zs f e g = record {
  front = f.front ++ line;
  parts = f.parts ∙ ap (λ (t : List ℕ). f.front ++ t) e ∙ sym (append_assoc f.front line others);
  feeds = feeds_both a b c f.front line xs ys zs f.feeds g;
}

-- all of the piece
pub front_whole : (a b c : Kept) (piece rest : List ℕ) (xs ys zs : List Entry) → FeedsFront a b piece rest xs ys → Feeds b c rest ys zs → Feeds a c piece xs zs
front_whole a b c piece rest xs ys zs f g = subst (λ (p : List ℕ). Feeds a c p xs zs) (sym f.parts) (feeds_both a b c f.front rest xs ys zs f.feeds g)

-- how many bytes are left
pub front_room : (a b : Kept) (piece rest : List ℕ) (xs ys : List Entry) → FeedsFront a b piece rest xs ys → b.fed + length rest ≡ a.fed + length piece
front_room a b piece rest xs ys f = let m = f.feeds.fed in let n = ap length f.parts in let l = length-append f.front rest in omega (arith, m, n, l)

-- ---- the bounds

-- more bytes
pub within_more : (standing : Standing) (m n : ℕ) → m ≤ n → IsWithin standing m → IsWithin standing n
within_more Start m n le h = tt
within_more (Inside place) m n le h = let l = h.1 in (h.0, omega arith)
within_more (Ended number) m n le h = omega arith
within_more (Refused error) m n le h = tt

-- a line has a byte
pub line_some : (line : List ℕ) → IsLine line → 0 < length line
line_some line is = let l = length-append is.body (codes "\n") in let s = ap length is.same in omega (arith, l, s)

-- a line after the part at hand
pub joined_line : (part line joined : List ℕ) → joined ≡ part ++ line → HasNoLineFeed part → IsLine line → IsLine joined
joined_line part line joined e plain is = record { body = part ++ is.body; plain = both part is.body plain is.plain; same = e ∙ ap (λ (t : List ℕ). part ++ t) is.same ∙ sym (append_assoc part is.body (codes "\n")) }

-- after a line
pub sound_line : (new : Kept) (fed : ℕ) (line : List ℕ) → IsLine line → IsWithin new.standing (fed + 1) → new.fed ≡ fed + length line → new.part ≡ [] → AllByRecursion RisesIn new.lent → IsSound new
sound_line new fed line is h f p r = let s = line_some line is in record { within = within_more new.standing (fed + 1) new.fed (omega arith) h; plain = rw p tt; rising = r }
