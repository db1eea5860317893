-- What a reader that was fed a text answers.
use Rattle.std.proofs.Common.{◌≡◌, ℕ, ◌+◌, ◌-◌, ◌<◌, ◌⊎◌, List, [], ◌∷◌, ◌++◌, length, Option, Some, None, Result, Ok, Err, inl, inr, refl, sym, ap, subst, ◌∙◌, append_assoc, arith}
use Rattle.std.specs.Prelude.{slice_get, IsSomeAnd, IfSome, IsOk, OnOk}
use Rattle.std.proofs.lemmas.List.{append-nil, length-append}
use Rattle.dcsp_defs.specs.declared.entry.Entry.{Entry}
use Rattle.ngd_log.specs.declared.log.LogError.{LogError}
use Rattle.ngd_log.specs.declared.log.LogError.TheVariants.{Line, Memory}
use Rattle.ngd_log.specs.declared.standing.Version.{Version}
use Rattle.ngd_log.specs.declared.standing.Place.{Place}
use Rattle.ngd_log.specs.declared.standing.Standing.{Standing}
use Rattle.ngd_log.specs.declared.standing.Standing.TheVariants.{Start, Inside, Ended, Refused}
use Rattle.ngd_log.specs.Lines.{lines, HasNoLineFeed, IsLine}
use Rattle.ngd_log.specs.Entries.{steps_of}
use Rattle.ngd_log.specs.EntryTexts.{head, entries_text, HaveText, IsLogOfEntries, IsFirstBadLine}
use Rattle.ngd_log.specs.EntryReading.{good_entries}
use Rattle.ngd_log.specs.Pieces.{Kept, refusal_of, fault_of, Tells, open_text, IsStuck, IsAt, IsFed, Feeds, FeedsFront, TakesFront, Completes, GoesOn, IsWhole, IsRefused}
use Rattle.ngd_log.proofs.LogLines.{tail, cons_head}
use Rattle.ngd_log.proofs.LineFeeds.{lines_plain, line_has_feed, lines_after, no_lines}
use Rattle.ngd_log.proofs.EntryLines.{head-IsLine, entry_line-IsLine, front_lines, lines_of_front, lines_of_text, entry_none, version_none}
use Rattle.ngd_log.proofs.LogLines.{tail-IsLine}
use Rattle.ngd_log.proofs.EntryBad.{HasFront, length-front, bad_head, bad_stop, bad_line, bad_rest}
use Rattle.ngd_log.proofs.EntryLaws.{entries_or_bad_line}
use Rattle.ngd_log.proofs.GoodEntries.{good_open, good_line, good_text, good_plain, good_headless, good_whole}

-- ---- texts that are refused

-- the item at a place after a front
at_seam : {X : Type 0} (xs : List X) (y : X) (ys : List X) (n : ℕ) → n ≡ length xs → slice_get (xs ++ y ∷ ys) n ≡ Some y
at_seam {X = X} xs y ys n e = rw e (seam xs)
  where
    seam : (zs : List X) → slice_get (zs ++ y ∷ ys) (length zs) ≡ Some y
    seam [] = refl
    seam (z ∷ zs) = seam zs

-- the line there is whole
whole_at : (text : List ℕ) (front : List (List ℕ)) (line : List ℕ) (others : List (List ℕ)) (number : ℕ) → lines text ≡ front ++ line ∷ others → number - 1 ≡ length front → IsLine line → IsWhole text number
whole_at text front line others number e n is =
    let there : slice_get (lines text) (number - 1) ≡ Some line = ap (λ (ls : List (List ℕ)). slice_get ls (number - 1)) e ∙ at_seam front line others (number - 1) n in
    rw there is

-- a bad line that is whole, or a byte after `end`
pub stuck_refused : (text : List ℕ) (entries : List Entry) (number : ℕ) → IsStuck text entries number → IsRefused text number
stuck_refused text entries number (inl h) =
    let e : lines text ≡ h.line ∷ lines h.more = ap lines h.same ∙ lines_after h.line h.more h.whole in
    rw h.numbered (record {
      first = bad_head text (λ v others f. version_none h.line v h.no_head (cons_head _ _ _ _ (sym e ∙ f)));
      sure = inl (whole_at text [] h.line (lines h.more) 1 e refl h.whole);
    })
stuck_refused text entries number (inr (inl h)) =
    let v = h.version in
    let e : lines text ≡ front_lines v entries ++ h.line ∷ lines h.more = ap lines h.same ∙ lines_of_front v entries (h.line ++ h.more) h.writable ∙ ap (λ (ls : List (List ℕ)). front_lines v entries ++ ls) (lines_after h.line h.more h.whole) in
    let f : HasFront text v entries (h.line ∷ lines h.more) = record { writable = h.writable; front = e } in
    let l = length-front v entries in
    rw h.numbered (record {
      first = bad_line text v entries h.line (lines h.more) f (λ entry is. entry_none v (length (steps_of entries) + 1) h.line entry h.no_entry is) h.no_end;
      sure = inl (whole_at text (front_lines v entries) h.line (lines h.more) (length entries + 2) e (omega arith) h.whole);
    })
stuck_refused text entries number (inr (inr h)) =
    let v = h.version in
    rw h.numbered (record {
      first = goes text v entries h.more h.writable h.same h.some (lines h.more) refl;
      sure = inr (record { version = v; entries = entries; writable = h.writable; more = h.more; some = h.some; same = h.same });
    })
  where
    goes : (text : List ℕ) (v : Version) (entries : List Entry) (more : List ℕ) → HaveText v entries → text ≡ entries_text v entries ++ more → 0 < length more → (ls : List (List ℕ)) → lines more ≡ ls → IsFirstBadLine text (length entries + 3)
    goes text v entries more w same some [] e = absurd (let n = ap length (no_lines more e) in omega arith)
    goes text v entries more w same some (l ∷ ls) e =
        bad_rest text v entries l ls (record {
          writable = w;
          front = ap lines same ∙ lines_of_text v entries more w ∙ append_assoc (front_lines v entries) (tail ∷ []) (lines more) ∙ ap (λ (x : List (List ℕ)). front_lines v entries ++ tail ∷ x) e;
        })

-- the entries of a text that is refused
stuck_good : (text : List ℕ) (entries : List Entry) (number : ℕ) → IsStuck text entries number → good_entries text ≡ entries
stuck_good text entries number (inl h) =
    let e : lines text ≡ h.line ∷ lines h.more = ap lines h.same ∙ lines_after h.line h.more h.whole in
    good_headless text h.line (lines h.more) e h.no_head ∙ sym h.none
stuck_good text entries number (inr (inl h)) = ap good_entries h.same ∙ good_line h.version entries h.line h.more h.writable h.whole h.no_entry
stuck_good text entries number (inr (inr h)) = ap good_entries h.same ∙ good_text h.version entries h.more h.writable

-- ---- where a reader stands

-- nothing is kept where the whole lines are all of the text
bare : (whole part text : List ℕ) → text ≡ whole ++ part → part ≡ [] → text ≡ whole
bare whole part text e n = e ∙ ap (λ (t : List ℕ). whole ++ t) n ∙ append-nil whole

-- a reader that is refused
pub at_refused : (number : ℕ) (part text : List ℕ) (entries : List Entry) → IsAt (Refused (Line number)) part text entries → IsRefused text number
at_refused number part text entries a = rw (bare a.whole part text a.same a.fits) (stuck_refused a.whole entries number a.stands)

-- the first line is not there yet
pub start_bad : (part text : List ℕ) (entries : List Entry) → IsAt Start part text entries → IsFirstBadLine text 1
start_bad part text entries a = rw (start_text part text entries a) (plain_bad part a.fits)
  where
    start_text : (part text : List ℕ) (entries : List Entry) → IsAt Start part text entries → text ≡ part
    start_text part text entries a = a.same ∙ ap (λ (t : List ℕ). t ++ part) a.stands.0

    plain_bad : (part : List ℕ) → HasNoLineFeed part → IsFirstBadLine part 1
    plain_bad [] plain = bad_head [] (λ v others e. let f : [] ≡ head v ∷ others = e in cc)
    plain_bad (b ∷ part) plain = bad_head (b ∷ part) (λ v others e.
        let f : head v ≡ b ∷ part = cons_head _ _ _ _ (sym e ∙ lines_plain (b ∷ part) plain (omega arith)) in
        line_has_feed (head v) (head-IsLine v) (subst HasNoLineFeed (sym f) plain))

-- the text of a reader after the head
inside_text : (place : Place) (part text : List ℕ) (entries : List Entry) → IsAt (Inside place) part text entries → text ≡ open_text place.version entries ++ part
inside_text place part text entries a = a.same ∙ ap (λ (t : List ℕ). t ++ part) a.stands.same

-- the line `end` is not there yet
pub inside_bad : (place : Place) (part text : List ℕ) (entries : List Entry) → IsAt (Inside place) part text entries → IsFirstBadLine text place.line
inside_bad place part text entries a =
    let v = place.version in
    let e : lines text ≡ front_lines v entries ++ lines part = ap lines (inside_text place part text entries a) ∙ lines_of_front v entries part a.stands.writable in
    subst (λ (n : ℕ). IsFirstBadLine text n) (sym a.stands.line) (open_bad text v entries part a.stands.writable e a.fits)
  where
    open_bad : (text : List ℕ) (v : Version) (entries : List Entry) (part : List ℕ) → HaveText v entries → lines text ≡ front_lines v entries ++ lines part → HasNoLineFeed part → IsFirstBadLine text (length entries + 2)
    open_bad text v entries [] w e plain = bad_stop text v entries (record { writable = w; front = e })
    open_bad text v entries (b ∷ part) w e plain =
        bad_line text v entries (b ∷ part) [] (record { writable = w; front = e ∙ ap (λ (x : List (List ℕ)). front_lines v entries ++ x) (lines_plain (b ∷ part) plain (omega arith)) })
        (λ entry is. line_has_feed (b ∷ part) (rw is.same (entry_line-IsLine v (length (steps_of entries) + 1) entry is.numbered is.writable)) plain)
        (λ t. line_has_feed tail tail-IsLine (subst HasNoLineFeed t plain))

-- the text is whole
pub ended_log : (number : ℕ) (part text : List ℕ) (entries : List Entry) → IsAt (Ended number) part text entries → IsLogOfEntries text entries
ended_log number part text entries a = rw (bare a.whole part text a.same a.fits) (a.stands.version, a.stands.whole)

-- the entries so far
pub at_good : (standing : Standing) (part text : List ℕ) (entries : List Entry) → (standing ≡ Refused Memory → ⊥) → IsAt standing part text entries → good_entries text ≡ entries
at_good Start part text entries n a = ap good_entries (a.same ∙ ap (λ (t : List ℕ). t ++ part) a.stands.0) ∙ good_plain part a.fits ∙ sym a.stands.1
at_good (Inside place) part text entries n a = ap good_entries (inside_text place part text entries a) ∙ good_open place.version entries part a.stands.writable a.fits
at_good (Ended number) part text entries n a =
    let is = ended_log number part text entries a in
    ap good_entries (is.1.same ∙ sym (append-nil (entries_text is.0 entries))) ∙ good_text is.0 entries [] is.1.writable
at_good (Refused (Line number)) part text entries n a = ap good_entries (bare a.whole part text a.same a.fits) ∙ stuck_good a.whole entries number a.stands
at_good (Refused Memory) part text entries n a = absurd (n refl)

-- ---- what is open is not refused

-- a line is not whole where it has no line feed
not_whole : (text : List ℕ) (front : List (List ℕ)) (part : List ℕ) (number : ℕ) → lines text ≡ front ++ lines part → HasNoLineFeed part → number - 1 ≡ length front → IsWhole text number → ⊥
not_whole text front [] number e plain n w =
    let none : slice_get (lines text) (number - 1) ≡ None = ap (λ (ls : List (List ℕ)). slice_get ls (number - 1)) (e ∙ append-nil front) ∙ ap (slice_get front) n ∙ past front in
    let f : IsSomeAnd (slice_get (lines text) (number - 1)) IsLine = w in
    rw none at f
  where
    past : {X : Type 0} (xs : List X) → slice_get xs (length xs) ≡ None
    past [] = refl
    past (x ∷ xs) = past xs
not_whole text front (b ∷ part) number e plain n w =
    let one : lines (b ∷ part) ≡ (b ∷ part) ∷ [] = lines_plain (b ∷ part) plain (omega arith) in
    let there : slice_get (lines text) (number - 1) ≡ Some (b ∷ part) = ap (λ (ls : List (List ℕ)). slice_get ls (number - 1)) (e ∙ ap (λ (ls : List (List ℕ)). front ++ ls) one) ∙ at_seam front (b ∷ part) [] (number - 1) n in
    let f : IsSomeAnd (slice_get (lines text) (number - 1)) IsLine = w in
    line_has_feed (b ∷ part) (rw there at f) plain

-- a text that goes on after `end` is refused after it
goes_on_bad : (text : List ℕ) (g : GoesOn text) → (IsFirstBadLine text (length g.entries + 3)) × (good_entries text ≡ g.entries)
goes_on_bad text g =
    let h : IsStuck text g.entries (length g.entries + 3) = inr (inr (record { version = g.version; writable = g.writable; more = g.more; some = g.some; same = g.same; numbered = refl })) in
    ((stuck_refused text g.entries (length g.entries + 3) h).first, stuck_good text g.entries (length g.entries + 3) h)

-- a reader that is not refused
pub open_not_refused : (standing : Standing) (part text : List ℕ) (entries : List Entry) (number : ℕ) → refusal_of standing ≡ None → IsAt standing part text entries → IsRefused text number → ⊥
open_not_refused Start part text entries number o a r =
    let one : number ≡ 1 = (entries_or_bad_line text).one_line number 1 r.first (start_bad part text entries a) in
    let same : text ≡ part = a.same ∙ ap (λ (t : List ℕ). t ++ part) a.stands.0 in
    elim r.sure [
      | inl w ↦ not_whole text [] part number (ap lines same) a.fits (omega arith) w
      | inr g ↦ let b = goes_on_bad text g in let m : length g.entries + 3 ≡ 1 = (entries_or_bad_line text).one_line (length g.entries + 3) 1 b.0 (start_bad part text entries a) in omega arith
    ]
open_not_refused (Inside place) part text entries number o a r =
    let bad = inside_bad place part text entries a in
    let one : number ≡ place.line = (entries_or_bad_line text).one_line number place.line r.first bad in
    let line = a.stands.line in
    let v = place.version in
    let l = length-front v entries in
    elim r.sure [
      | inl w ↦ not_whole text (front_lines v entries) part number (ap lines (inside_text place part text entries a) ∙ lines_of_front v entries part a.stands.writable) a.fits (omega (arith, one, line, l)) w
      | inr g ↦
          let b = goes_on_bad text g in
          let m : length g.entries + 3 ≡ place.line = (entries_or_bad_line text).one_line (length g.entries + 3) place.line b.0 bad in
          let good : good_entries text ≡ entries = at_good (Inside place) part text entries (λ e. open_inside e) a in
          let same : length g.entries ≡ length entries = ap length (sym b.1 ∙ good) in
          omega (arith, m, line, same)
    ]
  where
    open_inside : Inside place ≡ Refused Memory → ⊥
    open_inside e = cc
open_not_refused (Ended n) part text entries number o a r = (entries_or_bad_line text).not_both entries number (ended_log n part text entries a) r.first
open_not_refused (Refused error) part text entries number o a r = cc

-- ---- the answer of a call

-- what holds where there is no error
pub tells_ok : (o : Option LogError) (r : Result (Unit {0}) LogError) (P : Type 0) → Tells o r → (o ≡ None → P) → OnOk r P
tells_ok o (Err e) P t f = tt
tells_ok None (Ok x) P t f = f refl
tells_ok (Some error) (Ok x) P t f = absurd cc

-- an error is the one that is there
pub tells_err : (o : Option LogError) (r : Result (Unit {0}) LogError) (error : LogError) → Tells o r → r ≡ Err error → o ≡ Some error
tells_err None (Ok x) error t e = absurd cc
tells_err None (Err f) error t e = absurd cc
tells_err (Some g) r error t e = let h : g ≡ error = (let k = sym t ∙ e in cc) in ap (λ (x : LogError). Some x) h

-- the refusal that stands
pub refusal_is : (standing : Standing) (error : LogError) → refusal_of standing ≡ Some error → standing ≡ Refused error
refusal_is Start error e = absurd cc
refusal_is (Inside place) error e = absurd cc
refusal_is (Ended number) error e = absurd cc
refusal_is (Refused f) error e = let g : f ≡ error = cc in ap Refused g

-- and its answer
pub told_err : (standing : Standing) (r : Result (Unit {0}) LogError) (error : LogError) → Tells (refusal_of standing) r → r ≡ Err error → standing ≡ Refused error
told_err standing r error t e = refusal_is standing error (tells_err (refusal_of standing) r error t e)

-- a refusal that stands, stays
pub refusal_stays : (old new : Kept) (o : Option LogError) (piece : List ℕ) (xs ys : List Entry) → refusal_of old.standing ≡ o → Feeds old new piece xs ys → IfSome o (λ (error : LogError). refusal_of new.standing ≡ Some error)
refusal_stays old new None piece xs ys e h = tt
refusal_stays old new (Some error) piece xs ys e h = ap refusal_of (h.stays error (refusal_is old.standing error e))

-- nothing refused is no want of memory
pub open_memory : (standing : Standing) → refusal_of standing ≡ None → standing ≡ Refused Memory → ⊥
open_memory standing o e = let f : refusal_of standing ≡ Some Memory = ap refusal_of e in cc

-- nor is a line
pub line_memory : (standing : Standing) (number : ℕ) → standing ≡ Refused (Line number) → standing ≡ Refused Memory → ⊥
line_memory standing number e f = let g = sym e ∙ f in cc

-- the text is fed
pub feed_fed : (old new : Kept) (text piece : List ℕ) (xs ys : List Entry) → Feeds old new piece xs ys → IsFed old text → IsFed new (text ++ piece)
feed_fed old new text piece xs ys f h = record {
  fed = (let a = f.fed in let b = h.fed in let l = length-append text piece in omega (arith, a, b, l));
  entries = h.entries ++ f.appended;
  leads = f.stands text h.entries h.leads;
}

-- the entries of the lines that it completes are appended
pub feed_completes : (old new : Kept) (text piece : List ℕ) (xs ys : List Entry) → Feeds old new piece xs ys → (new.standing ≡ Refused Memory → ⊥) → IsFed old text → Completes text piece xs ys
feed_completes old new text piece xs ys f n h = record {
  appended = f.appended;
  same = f.same;
  entries = ap (λ (es : List Entry). es ++ f.appended) (at_good old.standing old.part text h.entries (λ e. n (f.stays Memory e)) h.leads) ∙ sym (at_good new.standing new.part (text ++ piece) (h.entries ++ f.appended) n (f.stands text h.entries h.leads));
}

-- a line is named that is refused
pub fed_refused : (reader : Kept) (text : List ℕ) (number : ℕ) → reader.standing ≡ Refused (Line number) → IsFed reader text → IsRefused text number
fed_refused reader text number e h = at_refused number reader.part text h.entries (subst (λ (s : Standing). IsAt s reader.part text h.entries) e h.leads)

-- what is refused is answered
pub refuses : (standing : Standing) (r : Result (Unit {0}) LogError) (part text : List ℕ) (entries : List Entry) (number : ℕ) → Tells (refusal_of standing) r → IsAt standing part text entries → IsRefused text number → (r ≡ Err (Line number)) ⊎ (r ≡ Err Memory)
refuses Start r part text entries number t a h = absurd (open_not_refused Start part text entries number refl a h)
refuses (Inside place) r part text entries number t a h = absurd (open_not_refused (Inside place) part text entries number refl a h)
refuses (Ended n) r part text entries number t a h = absurd (open_not_refused (Ended n) part text entries number refl a h)
refuses (Refused (Line m)) r part text entries number t a h =
    let one : m ≡ number = (entries_or_bad_line text).one_line m number (at_refused m part text entries a).first h.first in
    inl (t ∙ ap (λ (n : ℕ). Err (Line n)) one)
refuses (Refused Memory) r part text entries number t a h = inr t

-- ---- the answer at the end

-- a text that ends well
pub end_log : (standing : Standing) (part text : List ℕ) (entries : List Entry) → fault_of standing ≡ None → IsAt standing part text entries → IsLogOfEntries text (good_entries text)
end_log Start part text entries o a = absurd cc
end_log (Inside place) part text entries o a = absurd cc
end_log (Ended number) part text entries o a = subst (λ (es : List Entry). IsLogOfEntries text es) (sym (good_whole text entries (ended_log number part text entries a))) (ended_log number part text entries a)
end_log (Refused error) part text entries o a = absurd cc

-- a text that ends badly
pub end_line : (standing : Standing) (part text : List ℕ) (entries : List Entry) (number : ℕ) → fault_of standing ≡ Some (Line number) → IsAt standing part text entries → IsFirstBadLine text number
end_line Start part text entries number o a = let n : 1 ≡ number = cc in subst (IsFirstBadLine text) n (start_bad part text entries a)
end_line (Inside place) part text entries number o a = let n : place.line ≡ number = cc in subst (IsFirstBadLine text) n (inside_bad place part text entries a)
end_line (Ended m) part text entries number o a = absurd cc
end_line (Refused (Line m)) part text entries number o a = let n : m ≡ number = cc in subst (IsFirstBadLine text) n (at_refused m part text entries a).first
end_line (Refused Memory) part text entries number o a = absurd cc

-- a log is accepted
pub accepts_at_end : (standing : Standing) (r : Result (Unit {0}) LogError) (part text : List ℕ) (entries log : List Entry) (o : Option LogError) → fault_of standing ≡ o → Tells o r → IsAt standing part text entries → IsLogOfEntries text log → IsOk r ⊎ (r ≡ Err Memory)
accepts_at_end standing r part text entries log None e t a is = inl t
accepts_at_end standing r part text entries log (Some (Line number)) e t a is = absurd ((entries_or_bad_line text).not_both log number is (end_line standing part text entries number e a))
accepts_at_end standing r part text entries log (Some Memory) e t a is = inr t

-- any other text is refused
pub refuses_at_end : (standing : Standing) (r : Result (Unit {0}) LogError) (part text : List ℕ) (entries : List Entry) (number : ℕ) (o : Option LogError) → fault_of standing ≡ o → Tells o r → IsAt standing part text entries → IsFirstBadLine text number → (r ≡ Err (Line number)) ⊎ (r ≡ Err Memory)
refuses_at_end standing r part text entries number None e t a bad = absurd ((entries_or_bad_line text).not_both (good_entries text) number (end_log standing part text entries e a) bad)
refuses_at_end standing r part text entries number (Some (Line m)) e t a bad =
    let one : m ≡ number = (entries_or_bad_line text).one_line m number (end_line standing part text entries m e a) bad in
    inl (t ∙ ap (λ (n : ℕ). Err (Line n)) one)
refuses_at_end standing r part text entries number (Some Memory) e t a bad = inr t

-- want of memory at the end
pub memory_at_end : (standing : Standing) → fault_of standing ≡ Some Memory → refusal_of standing ≡ Some Memory
memory_at_end Start e = absurd cc
memory_at_end (Inside place) e = absurd cc
memory_at_end (Ended number) e = absurd cc
memory_at_end (Refused error) e = e

pub memory_before : (standing : Standing) (r : Result (Unit {0}) LogError) → refusal_of standing ≡ Some Memory → Tells (fault_of standing) r → r ≡ Err Memory
memory_before standing r e t = let s = refusal_is standing Memory e in subst (λ (x : Standing). Tells (fault_of x) r) s t

-- ---- over several pieces

-- the reader was fed the text, and the entries of its good lines were appended, unless memory ran out
pub record HasRead (reader : Kept) (entries : List Entry) (text : List ℕ) : Type 0 where
  pub fed : IsFed reader text
  pub good : (refusal_of reader.standing ≡ Some Memory → ⊥) → entries ≡ good_entries text

-- what was read with one piece more
pub read_more : (old new : Kept) (r : Result (Unit {0}) LogError) (text piece : List ℕ) (xs ys : List Entry) → HasRead old xs text → IsFed new (text ++ piece)
    → Tells (refusal_of new.standing) r → IfSome (refusal_of old.standing) (λ error. r ≡ Err error)
    → OnOk r ((text : List ℕ) → IsFed old text → Completes text piece xs ys) → ((number : ℕ) → r ≡ Err (Line number) → (text : List ℕ) → IsFed old text → Completes text piece xs ys)
    → HasRead new ys (text ++ piece)
read_more old new r text piece xs ys h fed t again ok line = record { fed = fed; good = λ n. completed (still n) (completes n r refl) }
  where
    completed : (refusal_of old.standing ≡ Some Memory → ⊥) → Completes text piece xs ys → ys ≡ good_entries (text ++ piece)
    completed n k = k.same ∙ ap (λ (es : List Entry). es ++ k.appended) (h.good n) ∙ k.entries

    still : (refusal_of new.standing ≡ Some Memory → ⊥) → refusal_of old.standing ≡ Some Memory → ⊥
    still n e =
        let told : r ≡ Err Memory = rw e at again in
        n (tells_err (refusal_of new.standing) r Memory t told)

    completes : (refusal_of new.standing ≡ Some Memory → ⊥) → (q : Result (Unit {0}) LogError) → r ≡ q → Completes text piece xs ys
    completes n (Ok x) e = (subst (λ (s : Result (Unit {0}) LogError). OnOk s ((text : List ℕ) → IsFed old text → Completes text piece xs ys)) e ok) text h.fed
    completes n (Err (Line number)) e = line number e text h.fed
    completes n (Err Memory) e = absurd (n (tells_err (refusal_of new.standing) r Memory t e))

-- the front of a piece with what it lends, where memory did not run out
pub takes_front : (old new : Kept) (piece front rest : List ℕ) → piece ≡ front ++ rest → Feeds old new front [] new.lent → (new.standing ≡ Refused Memory → ⊥) → TakesFront old new piece rest
takes_front old new piece front rest e h enough = record {
  front = front;
  parts = e;
  counted = h.fed;
  fed = λ text f. feed_fed old new text front [] new.lent h f;
  entries = λ text f. let c = feed_completes old new text front [] new.lent h enough f in ap (λ (es : List Entry). good_entries text ++ es) c.same ∙ c.entries;
}

-- the same of an entry that is in front
pub takes_entry : (old new : Kept) (piece rest : List ℕ) → FeedsFront old new piece rest [] new.lent → (new.standing ≡ Refused Memory → ⊥) → TakesFront old new piece rest
takes_entry old new piece rest h enough = takes_front old new piece h.front rest h.parts h.feeds enough

-- all of a piece, which lends nothing
pub takes_part : (old new : Kept) (piece : List ℕ) → new.lent ≡ [] → ((entries : List Entry) → Feeds old new piece entries entries) → (new.standing ≡ Refused Memory → ⊥) → TakesFront old new piece []
takes_part old new piece none h enough = takes_front old new piece piece [] (sym (append-nil piece)) (subst (λ (es : List Entry). Feeds old new piece [] es) (sym none) (h [])) enough
