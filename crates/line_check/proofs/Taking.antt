-- Entries and pieces that a check takes.
use Rattle.std.proofs.Common.{◌≡◌, ℕ, ◌+◌, ◌<◌, ◌≤◌, List, [], ◌∷◌, ◌++◌, length, take, drop, Option, Some, None, Result, Ok, Err, refl, sym, ap, subst, ◌∙◌, append_assoc, arith}
use Rattle.std.specs.Prelude.{IfSome, OnOk, IsErr, IsErrAnd}
use Rattle.std.proofs.Math.Seq.{drop-append_seam, take-append_seam}
use Rattle.std.proofs.lemmas.List.{append-nil, length-append, take-append-drop}
use Rattle.dcsp_outside.specs.Handed.{Handed, PartOf, EndOf}
use Rattle.dcsp_outside.specs.Outside.{Place, IsPrefixOf, FetchesPiece, AddsPiece, gained, handed_piece, bytes_of}
use Rattle.dcsp_outside.specs.declared.folder.Piece.{Piece}
use Rattle.dcsp_outside.specs.declared.folder.Piece.TheVariants.{Part, End}
use Rattle.dcsp_defs.specs.declared.entry.Entry.{Entry}
use Rattle.ngd_log.specs.EntryReading.{good_entries}
use Rattle.ngd_log.specs.Pieces.{IsFed, TakesFront, Completes}
use Rattle.ngd_check.specs.Progress.{HasTaken, HasKept}
use Rattle.dcsp_script.specs.declared.stop.Stop.{Stop}
use Rattle.dcsp_script.specs.Promises.{TellOf, AreBytesOf}
use Rattle.dcsp_script.proofs.Fetched.{tell_both}
use Rattle.abt_input.specs.Inputs.{most_log}
use Rattle.line_check.specs.declared.log_check.LogCheck.{LogCheck}
use Rattle.line_check.specs.LogChecks.{HasSameTask, HasGoneOn, HasTakenFront, HasCome, HasHanded, StandsAt, HasEndedBelow, WasStopped, LeadsOn, LeadsToEnd, IsLogLong}

-- ---- entries

-- the same task after two turns
pub same_task : (a b c : LogCheck) → HasSameTask a b → HasSameTask b c → HasSameTask a c
same_task a b c h k = record { problem = k.problem ∙ h.problem; keeps = k.keeps ∙ h.keeps }

pub gone_nowhere : (a : LogCheck) → HasGoneOn a a []
gone_nowhere a = record {
  task = record { problem = refl; keeps = refl };
  reader = refl;
  taken = λ before t. subst (λ es. HasTaken es a.checker) (sym (append-nil before)) t;
  kept = λ before t. subst (λ es. HasKept es a.checker) (sym (append-nil before)) t;
}

-- ---- pieces

-- the entries of a piece were read by the one check, and then taken by the other
pub piece_come : (old mid new : LogCheck) (text piece : List ℕ) (entries : List Entry) → mid.checker ≡ old.checker → IsFed mid.reader (text ++ piece) → Completes text piece [] entries → HasGoneOn mid new entries → HasCome old text → HasCome new (text ++ piece)
piece_come old mid new text piece entries checker fed completes on h =
    let all : good_entries text ++ entries ≡ good_entries (text ++ piece) = ap (λ es. good_entries text ++ es) completes.same ∙ completes.entries in
    record {
      fed = subst (λ r. IsFed r (text ++ piece)) (sym on.reader) fed;
      taken = subst (λ es. HasTaken es new.checker) all (on.taken (good_entries text) (subst (λ k. HasTaken (good_entries text) k) (sym checker) h.taken));
      kept = subst (λ es. HasKept es new.checker) all (on.kept (good_entries text) (subst (λ k. HasKept (good_entries text) k) (sym checker) h.kept));
    }

-- no byte has come
pub front_none : (a : LogCheck) (piece : List ℕ) → HasTakenFront a a piece piece
front_none a piece = record {
  front = [];
  parts = refl;
  task = record { problem = refl; keeps = refl };
  counted = omega arith;
  come = λ text h. subst (λ t. HasCome a t) (sym (append-nil text)) h;
}

-- the reader took more, and the check took what it lends
pub front_more : (a b mid c : LogCheck) (piece rest others : List ℕ) → HasTakenFront a b piece rest → HasSameTask b mid → mid.checker ≡ b.checker → TakesFront b.reader mid.reader rest others → HasGoneOn mid c mid.reader.lent → HasTakenFront a c piece others
front_more a b mid c piece rest others h task checker t on = record {
  front = h.front ++ t.front;
  parts = h.parts ∙ ap (λ p. h.front ++ p) t.parts ∙ sym (append_assoc h.front t.front others);
  task = same_task a mid c (same_task a b mid h.task task) on.task;
  counted = (let m = h.counted in let n = t.counted in let l = length-append h.front t.front in let r : c.reader.fed ≡ mid.reader.fed = ap (λ k. k.fed) on.reader in omega (arith, m, n, l, r));
  come = λ text come.
      let before = h.come text come in
      let at = text ++ h.front in
      let completes : Completes at t.front [] mid.reader.lent = record { appended = mid.reader.lent; same = refl; entries = t.entries at before.fed } in
      subst (λ p. HasCome c p) (append_assoc text h.front t.front)
      (piece_come b mid c at t.front mid.reader.lent checker (t.fed at before.fed) completes on before);
}

-- the reader took the rest, which lends nothing
pub front_whole : (a b mid : LogCheck) (piece rest : List ℕ) → HasTakenFront a b piece rest → HasSameTask b mid → mid.checker ≡ b.checker → TakesFront b.reader mid.reader rest [] → mid.reader.lent ≡ [] → HasTakenFront a mid piece []
front_whole a b mid piece rest h task checker t none = front_more a b mid mid piece rest [] h task checker t (subst (λ es. HasGoneOn mid mid es) (sym none) (gone_nowhere mid))

-- all of the piece has come
pub front_come : (a b : LogCheck) (piece : List ℕ) → HasTakenFront a b piece [] → (text : List ℕ) → HasCome a text → HasCome b (text ++ piece)
front_come a b piece h text come = subst (λ p. HasCome b (text ++ p)) (sym (h.parts ∙ append-nil h.front)) (h.come text come)

-- how many bytes come with the rest
pub front_room : (a b : LogCheck) (piece rest : List ℕ) → HasTakenFront a b piece rest → b.reader.fed + length rest ≡ a.reader.fed + length piece
front_room a b piece rest h = let m = h.counted in let n = ap length h.parts in let l = length-append h.front rest in omega (arith, m, n, l)

pub on_ok : {T E A B : Type 0} (r : Result T E) → OnOk r A → (A → B) → OnOk r B
on_ok (Ok x) a f = f a
on_ok (Err e) a f = tt

-- ---- the log under a name

-- where a text is in front, the bytes from its end on are the rest
drop_front : (text rest bytes : List ℕ) (from : ℕ) → text ++ rest ≡ bytes → length text ≡ from → drop from bytes ≡ rest
drop_front text rest bytes from e counted = ap (drop from) (sym e) ∙ ap (λ n. drop n (text ++ rest)) (sym counted) ∙ drop-append_seam text rest

-- a whole piece goes on in front
front_part : (files : Option (List ℕ → Option (List ℕ))) (name text piece : List ℕ) (from most : ℕ) → length text ≡ from → IfSome files (λ f. IsPrefixOf text (bytes_of (f name)))
    → IfSome files (λ f. FetchesPiece (bytes_of (f name)) from most [] piece (Ok Part)) → IfSome files (λ f. IsPrefixOf (text ++ piece) (bytes_of (f name)))
front_part None name text piece from most counted front fetched = tt
front_part (Some f) name text piece from most counted front fetched =
    let is : piece ≡ take most front.0 = fetched.1 ∙ ap (take most) (drop_front text front.0 (bytes_of (f name)) from front.1 counted) in
    (drop most front.0, append_assoc text piece (drop most front.0) ∙ ap (λ p. text ++ (p ++ drop most front.0)) is ∙ ap (λ x. text ++ x) (take-append-drop most front.0) ∙ front.1)

-- a piece behind the text tells of the bytes that begin with both
part_tells : (name text piece rest : List ℕ) (from : ℕ) → length text ≡ from → TellOf name ((text ++ piece) ++ rest) (PartOf name from piece ∷ [])
part_tells name text piece rest from counted =
    let behind : drop from ((text ++ piece) ++ rest) ≡ piece ++ rest = drop_front text (piece ++ rest) ((text ++ piece) ++ rest) from (sym (append_assoc text piece rest)) counted in
    let long : from + length piece ≤ length ((text ++ piece) ++ rest) = (let l = length-append (text ++ piece) rest in let m = length-append text piece in omega (arith, counted, l, m)) in
    (refl, (long, sym (ap (take (length piece)) behind ∙ take-append_seam piece rest)), tt)

-- the last piece tells of the bytes that end with it
end_tells : (name text piece : List ℕ) (from : ℕ) → length text ≡ from → TellOf name (text ++ piece) (EndOf name from piece ∷ [])
end_tells name text piece from counted = (refl, drop_front text piece (text ++ piece) from refl counted, tt)

module _ (files : Option (List ℕ → Option (List ℕ))) (start old : List Handed) (name text : List ℕ) (from : ℕ) (counted : length text ≡ from) (h : HasHanded files start old name text) where
  later : (new : List Handed) (answer : Handed) → new ≡ old ++ answer ∷ [] → new ≡ start ++ (h.answers ++ answer ∷ [])
  later new answer e = e ∙ ap (λ l. l ++ answer ∷ []) h.handed ∙ append_assoc start h.answers (answer ∷ [])

  -- one more piece was handed over
  handed_part : (new : List Handed) (piece : List ℕ) (most : ℕ) → new ≡ old ++ PartOf name from piece ∷ [] → IfSome files (λ f. FetchesPiece (bytes_of (f name)) from most [] piece (Ok Part)) → HasHanded files start new name (text ++ piece)
  handed_part new piece most e fetched = record {
    front = front_part files name text piece from most counted h.front fetched;
    answers = h.answers ++ PartOf name from piece ∷ [];
    handed = later new (PartOf name from piece) e;
    tell = λ rest. tell_both name ((text ++ piece) ++ rest) h.answers (PartOf name from piece ∷ []) (subst (λ b. TellOf name b h.answers) (sym (append_assoc text piece rest)) (h.tell (piece ++ rest))) (part_tells name text piece rest from counted);
  }

  -- the last piece was handed over
  handed_end : (new : List Handed) (piece : List ℕ) (most : ℕ) → new ≡ old ++ EndOf name from piece ∷ [] → IfSome files (λ f. FetchesPiece (bytes_of (f name)) from most [] piece (Ok End)) → AreBytesOf files start new name (text ++ piece)
  handed_end new piece most e fetched = by files h.front fetched
    where
      by : (files : Option (List ℕ → Option (List ℕ))) → IfSome files (λ f. IsPrefixOf text (bytes_of (f name))) → IfSome files (λ f. FetchesPiece (bytes_of (f name)) from most [] piece (Ok End)) → AreBytesOf files start new name (text ++ piece)
      by None front fetched = (h.answers ++ EndOf name from piece ∷ [], later new (EndOf name from piece) e, tell_both name (text ++ piece) h.answers (EndOf name from piece ∷ []) (h.tell piece) (end_tells name text piece from counted))
      by (Some f) front fetched = ap (λ x. text ++ x) (fetched.1 ∙ drop_front text front.0 (bytes_of (f name)) from front.1 counted) ∙ front.1

-- a stop came: some bytes are those that were handed over
handed_some : (files : Option (List ℕ → Option (List ℕ))) (start old : List Handed) (name text : List ℕ) → HasHanded files start old name text → WasStopped files start old name
handed_some None start old name text h = (text ++ [], (h.answers, h.handed, h.tell []))
handed_some (Some f) start old name text h = (bytes_of (f name), refl)

-- nothing more was handed over
pub stopped_at : (files : Option (List ℕ → Option (List ℕ))) (start old new : List Handed) (name : List ℕ) (from : ℕ) (check : LogCheck) → new ≡ old ++ [] → StandsAt files start old name from check → WasStopped files start new name
stopped_at files start old new name from check e h = subst (λ l. WasStopped files start l name) (sym (e ∙ append-nil old)) (handed_some files start old name h.text h.handed)

-- a piece has at most as many bytes as were asked for
pub piece_small : (most : ℕ) (before piece : List ℕ) (fetched : Piece) → before ≡ [] → AddsPiece most before piece (Ok fetched) → length piece ≤ most
piece_small most before piece Part e h = let l = ap length (h.2 ∙ ap (λ b. b ++ h.0) e) in let m = h.1 in omega (arith, l, m)
piece_small most before piece End e h = let l = ap length (h.2 ∙ ap (λ b. b ++ h.0) e) in let m = h.1 in omega (arith, l, m)

module _ (files : Option (List ℕ → Option (List ℕ))) (start old new : List Handed) (name : List ℕ) (from most : ℕ) (check : LogCheck) where
  -- where a piece leads
  pub piece_leads : (now : LogCheck) (before piece : List ℕ) (fetched : Piece) → before ≡ [] → new ≡ old ++ handed_piece name from (gained before piece) (Ok fetched) → StandsAt files start old name from check → AddsPiece most before piece (Ok fetched)
      → IfSome files (λ f. FetchesPiece (bytes_of (f name)) from most before piece (Ok fetched)) → ((text : List ℕ) → HasCome check text → HasCome now (text ++ piece)) → LeadsOn files start new name from most now (Ok fetched)
  piece_leads now [] piece Part e handed h adds fetched come =
      let c = h.counted in
      let m : length piece ≡ most = ap length adds.2 ∙ adds.1 in
      record {
        text = h.text ++ piece;
        counted = (let l = length-append h.text piece in omega (arith, c, m, l));
        handed = handed_part files start old name h.text from c h.handed new piece most handed fetched;
        come = come h.text h.come;
      }
  piece_leads now [] piece End e handed h adds fetched come =
      let c = h.counted in
      let m : length piece ≡ length adds.0 = ap length adds.2 in
      let short = adds.1 in
      record {
        log = h.text ++ piece;
        handed = handed_end files start old name h.text from c h.handed new piece most handed fetched;
        short = (let l = length-append h.text piece in omega (arith, c, m, l, short));
        come = come h.text h.come;
      }
  piece_leads now (b ∷ before) piece fetched e handed h adds read come = absurd (let f = e in cc)

  -- a piece was handed over, and then a stop came
  pub piece_stopped : (before piece : List ℕ) (fetched : Piece) → before ≡ [] → new ≡ old ++ handed_piece name from (gained before piece) (Ok fetched) → StandsAt files start old name from check
      → IfSome files (λ f. FetchesPiece (bytes_of (f name)) from most before piece (Ok fetched)) → WasStopped files start new name
  piece_stopped [] piece Part e handed h fetched = handed_some files start new name (h.text ++ piece) (handed_part files start old name h.text from h.counted h.handed new piece most handed fetched)
  piece_stopped [] piece End e handed h fetched = (h.text ++ piece, handed_end files start old name h.text from h.counted h.handed new piece most handed fetched)
  piece_stopped (b ∷ before) piece fetched e handed h read = absurd (let f = e in cc)

-- the same place of the same log
pub stands_on : (f g : Option (List ℕ → Option (List ℕ))) (start now : List Handed) (name : List ℕ) (m n : ℕ) (check : LogCheck) → f ≡ g → m ≡ n → StandsAt f start now name m check → StandsAt g start now name n check
stands_on f g start now name m n check e k h = subst (λ x. StandsAt x start now name n check) e (subst (λ x. StandsAt f start now name x check) k h)

pub ended_on : (f g : Option (List ℕ → Option (List ℕ))) (start now : List Handed) (name : List ℕ) (m n : ℕ) (check : LogCheck) → f ≡ g → m ≤ n → HasEndedBelow f start now name m check → HasEndedBelow g start now name n check
ended_on f g start now name m n check e k h = record { log = h.log; handed = subst (λ x. AreBytesOf x start now name h.log) e h.handed; short = (let s = h.short in omega (arith, s, k)); come = h.come }

-- more bytes have come than are allowed
come_too_many : (files : Option (List ℕ → Option (List ℕ))) (start now : List Handed) (name : List ℕ) (from : ℕ) (check : LogCheck) → most_log < from → StandsAt files start now name from check → IsLogLong files start now name
come_too_many None start now name from check more h = (h.text ++ [], (h.handed.answers, h.handed.handed, h.handed.tell []), let c = h.counted in let l = length-append h.text [] in omega (arith, c, l, more))
come_too_many (Some f) start now name from check more h =
    let front = h.handed.front in (bytes_of (f name), refl, let c = h.counted in let e = ap length (sym front.1) in let l = length-append h.text front.0 in omega (arith, c, e, l, more))

-- after all bytes that are allowed, one more was asked for
pub leads_to_end : (f : Option (List ℕ → Option (List ℕ))) (p q : Place) (name : List ℕ) (from : ℕ) (check : LogCheck) (r : Result Piece Stop) → f ≡ p.held → from ≡ most_log → LeadsOn f p.handed q.handed name from 1 check r → LeadsToEnd p q name check r
leads_to_end f p q name from check (Ok Part) e k h = come_too_many p.held p.handed q.handed name (from + 1) check (omega (arith, k)) (stands_on f p.held p.handed q.handed name (from + 1) (from + 1) check e refl h)
leads_to_end f p q name from check (Ok End) e k h = ended_on f p.held p.handed q.handed name (from + 1) (most_log + 1) check e (omega (arith, k)) h
leads_to_end f p q name from check (Err stop) e k h = subst (λ x. WasStopped x p.handed q.handed name) e h

-- a stop came at a piece
pub stopped_to : (f : Option (List ℕ → Option (List ℕ))) (p q : Place) (name : List ℕ) (check : LogCheck) (stop : Stop) (r : Result Piece Stop) → IsErr r × IsErrAnd r (λ y. y ≡ stop) → f ≡ p.held → WasStopped f p.handed q.handed name → LeadsToEnd p q name check r
stopped_to f p q name check stop (Ok x) is e h = absurd (let no = is.0 in cc)
stopped_to f p q name check stop (Err y) is e h = subst (λ x. WasStopped x p.handed q.handed name) e h

-- the last piece came
pub ended_in : (f : Option (List ℕ → Option (List ℕ))) (p q : Place) (name : List ℕ) (from : ℕ) (check : LogCheck) (piece : Piece) → piece ≡ End → f ≡ p.held → from + 65536 ≤ most_log + 1 → LeadsOn f p.handed q.handed name from 65536 check (Ok piece) → HasEndedBelow p.held p.handed q.handed name (most_log + 1) check
ended_in f p q name from check End is e few h = ended_on f p.held p.handed q.handed name (from + 65536) (most_log + 1) check e few h
ended_in f p q name from check Part is e few h = absurd (let g = is in cc)

-- the whole log has come
pub whole_come : (p q : Place) (name : List ℕ) (check : LogCheck) (piece : Piece) → piece ≡ End → LeadsToEnd p q name check (Ok piece) → HasEndedBelow p.held p.handed q.handed name (most_log + 1) check
whole_come p q name check End e h = h
whole_come p q name check Part e h = absurd (let f = e in cc)

-- nothing has come
pub stands_at_start : (files : Option (List ℕ → Option (List ℕ))) (handed : List Handed) (name : List ℕ) (check : LogCheck) → HasCome check [] → StandsAt files handed handed name 0 check
stands_at_start files handed name check h = record { text = []; counted = refl; handed = record { front = by files; answers = []; handed = sym (append-nil handed); tell = λ rest. tt }; come = h }
  where
    by : (files : Option (List ℕ → Option (List ℕ))) → IfSome files (λ f. IsPrefixOf [] (bytes_of (f name)))
    by None = tt
    by (Some f) = (bytes_of (f name), refl)
