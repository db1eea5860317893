-- The lines of entries, and reading them.
use Rattle.std.proofs.Common.{◌≡◌, ℕ, ◌+◌, ◌<◌, ◌≤◌, ◌^◌, true, false, if◌then◌else◌, List, [], ◌∷◌, ◌++◌, length, get_or, Option, Some, None, refl, sym, ap, subst, ◌∙◌, arith}
use Rattle.std.specs.Prelude.{codes, decimal}
use Rattle.std.specs.List.{AllByRecursion, concat}
use Rattle.std.specs.Str.{bytes_eq}
use Rattle.std.proofs.lemmas.List.{append-nil, length_push}
use Rattle.std.proofs.lemmas.List.Folds.{concat-append}
use Rattle.std.proofs.lemmas.Slice.Eq.{bytes_eq-Decides}
use Rattle.dcsp_defs.specs.declared.Step.{Step}
use Rattle.dcsp_defs.specs.declared.entry.Entry.{Entry}
use Rattle.dcsp_defs.specs.declared.entry.Entry.TheVariants.{Step as A_step, Delete}
use Rattle.ngd_log.specs.declared.standing.Version.{Version}
use Rattle.ngd_log.specs.declared.standing.Version.TheVariants.{One, Two}
use Rattle.ngd_log.specs.StepText.{step_line, IsStepNumber, IsWritable, IsStepLine}
use Rattle.ngd_log.specs.Lines.{lines, IsLine}
use Rattle.ngd_log.specs.Entries.{steps_of}
use Rattle.ngd_log.specs.EntryTexts.{deletion_line, entry_line, next_number, entry_lines, head, entries_text, text_lines, IsNumbered, IsEntryLine, IsWritableEntry, HaveText, IsTextOf}
use Rattle.ngd_log.specs.EntryReading.{either_entry, entry_front, entry_of, deletion_front, version_of}
use Rattle.dcsp_common.specs.Reading.{◌>>=◌}
use Rattle.ngd_log.specs.Reading.{after, alone, step_front}
use Rattle.dcsp_common.proofs.Chosen.{bind_then, some_is}
use Rattle.ngd_log.proofs.AfterPrefix.{after_takes, after_again, after_no_digit}
use Rattle.dcsp_common.proofs.Decimals.{begins_decimal}
use Rattle.ngd_log.proofs.Each.{each_push, each_append}
use Rattle.ngd_log.proofs.ItemLaws.{items_text}
use Rattle.ngd_log.proofs.LineLaws.{rest_text, step_line_is, alone_is, front_takes, front_again}
use Rattle.ngd_log.proofs.LineFeeds.{step_line-IsLine, lines-concat}
use Rattle.ngd_log.proofs.LogLines.{tail, tail-IsLine, not_tail}
use Rattle.ngd_log.proofs.Deletions.{deletion_line-IsLine, deletion_takes, deletion_again}

-- ---- one line

-- a head is a line
pub head-IsLine : (v : Version) → IsLine (head v)
head-IsLine One = record { body = codes "ngd 1"; plain = (refl, (refl, (refl, (refl, (refl, tt))))); same = refl }
head-IsLine Two = record { body = codes "ngd 2"; plain = (refl, (refl, (refl, (refl, (refl, tt))))); same = refl }

-- the versions have different heads
pub one_head : (v w : Version) → head v ≡ head w → v ≡ w
one_head One One e = refl
one_head Two Two e = refl
one_head One Two e = absurd (let f : 49 ≡ 50 = ap (λ (t : List ℕ). get_or t 4 0) e in omega (arith, f))
one_head Two One e = absurd (let f : 50 ≡ 49 = ap (λ (t : List ℕ). get_or t 4 0) e in omega (arith, f))

-- an entry's line is a line
pub entry_line-IsLine : (v : Version) (number : ℕ) (entry : Entry) → IsNumbered number entry → IsWritableEntry v entry → IsLine (entry_line number entry)
entry_line-IsLine v number (A_step s) n w = step_line-IsLine number s n w
entry_line-IsLine One number (Delete ns) n w = absurd w
entry_line-IsLine Two number (Delete ns) n w = deletion_line-IsLine ns w

-- no entry's line is `end`
pub not_end : (number : ℕ) (entry : Entry) → IsNumbered number entry → entry_line number entry ≡ tail → ⊥
not_end number (A_step s) n e = let b = n.bounded in not_tail number s (omega arith) e
not_end number (Delete ns) n e = let f : 100 ≡ 101 = ap (λ (t : List ℕ). get_or t 0 0) e in omega (arith, f)

-- an entry whose line is in front, with what stands after the line
pub record IsEntryFront (v : Version) (number : ℕ) (bytes : List ℕ) (x : Entry × List ℕ) : Type 0 where
  pub parts : bytes ≡ entry_line number x.0 ++ x.1
  pub numbered : IsNumbered number x.0
  pub writable : IsWritableEntry v x.0

-- a step that is read as an entry
step_takes_front : (v : Version) (number : ℕ) (bytes : List ℕ) (x : Entry × List ℕ) → (step_front number bytes >>= λ s. Some (A_step s.0, s.1)) ≡ Some x → IsEntryFront v number bytes x
step_takes_front v number bytes x h =
    bind_then (step_front number bytes) (λ s. Some (A_step s.0, s.1)) x h (λ s rs e.
    let t = front_takes number bytes s rs in
    subst (λ (y : Entry × List ℕ). IsEntryFront v number bytes y) (some_is (A_step s.0, s.1) x e) (record { parts = t.parts; numbered = t.numbered; writable = t.writable }))

-- an entry that is read is one whose line is in front
pub entry_front_takes : (v : Version) (number : ℕ) (bytes : List ℕ) (x : Entry × List ℕ) → entry_front v number bytes ≡ Some x → IsEntryFront v number bytes x
unfolding entry_front
entry_front_takes One number bytes x h = step_takes_front One number bytes x h
entry_front_takes Two number bytes x h =
    (elim (after (codes "d") bytes) as (λ o. after (codes "d") bytes ≡ o → either_entry number bytes o ≡ Some x → IsEntryFront Two number bytes x) [
      | None ↦ λ a k. step_takes_front Two number bytes x k
      | Some rest ↦ λ a k.
          bind_then (deletion_front rest) (λ y. Some (Delete y.0, y.1)) x k (λ y ry e.
          let d = deletion_takes rest y ry in
          subst (λ (z : Entry × List ℕ). IsEntryFront Two number bytes z) (some_is (Delete y.0, y.1) x e) (record { parts = after_takes (codes "d") bytes rest a ∙ d.parts; numbered = tt; writable = d.deletion }))
    ]) refl h

-- an entry that is read is the one whose line it is
pub entry_takes : (v : Version) (number : ℕ) (line : List ℕ) (entry : Entry) → entry_of v number line ≡ Some entry → IsEntryLine v number line entry
unfolding entry_of
entry_takes v number line entry h =
    bind_then (entry_front v number line) alone entry h (λ x rx e.
    let t = entry_front_takes v number line x rx in
    let is = alone_is x entry e in
    subst (λ (y : Entry). IsEntryLine v number line y) is.0 (record { numbered = t.numbered; writable = t.writable; same = t.parts ∙ ap (λ (z : List ℕ). entry_line number x.0 ++ z) is.1 ∙ append-nil (entry_line number x.0) }))

-- a step's line does not begin with `d`
no_deletion : (number : ℕ) (s : Step) → IsStepNumber number → after (codes "d") (step_line number s) ≡ None
no_deletion number s n =
    let b = n.bounded in
    ap (after (codes "d")) (step_line_is number s) ∙ after_no_digit 100 [] (decimal number ++ (codes " " ++ rest_text s.variable s.nogood s.reasons)) refl (begins_decimal number (codes " " ++ rest_text s.variable s.nogood s.reasons) (omega arith))

-- an entry's line is read again, and nothing stands after it
entry_front_again : (v : Version) (number : ℕ) (entry : Entry) → IsNumbered number entry → IsWritableEntry v entry → entry_front v number (entry_line number entry) ≡ Some (entry, [])
unfolding entry_front
entry_front_again One number (A_step s) n w = rw (front_again number s n w) refl
entry_front_again One number (Delete ns) n w = absurd w
entry_front_again Two number (A_step s) n w = rw (no_deletion number s n, front_again number s n w) refl
entry_front_again Two number (Delete ns) n w =
    let rest = items_text 32 decimal ns ++ codes "\n" in
    let split : deletion_line ns ≡ codes "d" ++ rest = refl in
    rw (split, after_again (codes "d") rest, deletion_again ns w) refl

pub entry_again : (v : Version) (number : ℕ) (entry : Entry) → IsNumbered number entry → IsWritableEntry v entry → entry_of v number (entry_line number entry) ≡ Some entry
unfolding entry_of
entry_again v number entry n w = ap (λ (o : Option (Entry × List ℕ)). o >>= alone) (entry_front_again v number entry n w)

-- a line that gives no entry is none's
pub entry_none : (v : Version) (number : ℕ) (line : List ℕ) (entry : Entry) → entry_of v number line ≡ None → IsEntryLine v number line entry → ⊥
entry_none v number line entry none is =
    let again : entry_of v number line ≡ Some entry = ap (entry_of v number) is.same ∙ entry_again v number entry is.numbered is.writable in
    cc

-- one line is of one entry
pub one_entry : (v : Version) (number : ℕ) (line : List ℕ) (a b : Entry) → IsEntryLine v number line a → IsEntryLine v number line b → a ≡ b
one_entry v number line a b ia ib =
    some_is a b (sym (entry_again v number a ia.numbered ia.writable) ∙ ap (entry_of v number) (sym ia.same ∙ ib.same) ∙ entry_again v number b ib.numbered ib.writable)

-- ---- several lines

-- the number of the next step after these entries
abbrev pub number_after : ℕ → List Entry → ℕ
number_after number [] = number
number_after number (entry ∷ entries) = number_after (next_number number entry) entries

-- it counts the steps
pub number_after_is : (number : ℕ) (entries : List Entry) → number_after number entries ≡ number + length (steps_of entries)
number_after_is number [] = omega arith
number_after_is number (A_step s ∷ entries) = let h = number_after_is (number + 1) entries in omega arith
number_after_is number (Delete ns ∷ entries) = number_after_is number entries

-- as many lines as entries
pub length-entry_lines : (number : ℕ) (entries : List Entry) → length (entry_lines number entries) ≡ length entries
length-entry_lines number [] = refl
length-entry_lines number (entry ∷ entries) = let h = length-entry_lines (next_number number entry) entries in omega arith

-- the lines with one entry more
pub entry_lines-push : (number : ℕ) (entries : List Entry) (entry : Entry) → entry_lines number (entries ++ entry ∷ []) ≡ entry_lines number entries ++ entry_line (number_after number entries) entry ∷ []
entry_lines-push number [] entry = refl
entry_lines-push number (e ∷ entries) entry = ap (λ (x : List (List ℕ)). entry_line number e ∷ x) (entry_lines-push (next_number number e) entries entry)

-- the steps with one entry more
pub steps_of-append : (xs ys : List Entry) → steps_of (xs ++ ys) ≡ steps_of xs ++ steps_of ys
steps_of-append [] ys = refl
steps_of-append (A_step s ∷ xs) ys = ap (λ (x : List Step). s ∷ x) (steps_of-append xs ys)
steps_of-append (Delete ns ∷ xs) ys = steps_of-append xs ys

-- each of the entries has a line in a text of this version, where the next step has this number
abbrev pub HaveLines : Version → ℕ → List Entry → Type 0
HaveLines v number [] = Unit {0}
HaveLines v number (entry ∷ entries) = IsNumbered number entry × IsWritableEntry v entry × HaveLines v (next_number number entry) entries

pub have_lines : (v : Version) (number : ℕ) (entries : List Entry) → 0 < number → number + length (steps_of entries) ≤ 2 ^ 62 + 1 → AllByRecursion (IsWritableEntry v) entries → HaveLines v number entries
have_lines v number [] p n w = tt
have_lines v number (A_step s ∷ entries) p n w = (record { positive = p; bounded = omega arith }, w.0, have_lines v (number + 1) entries (omega arith) (omega arith) w.1)
have_lines v number (Delete ns ∷ entries) p n w = (tt, w.0, have_lines v number entries p n w.1)

-- the entries of a text
pub from_one : (v : Version) (entries : List Entry) → HaveText v entries → HaveLines v 1 entries
from_one v entries w = let c = w.count in have_lines v 1 entries (omega arith) (omega arith) w.each

-- no entries have a text
pub no_entries : (v : Version) → HaveText v []
no_entries v = record { count = omega arith; each = tt }

-- one entry more
pub HaveText-push : (v : Version) (entries : List Entry) (entry : Entry) → HaveText v entries → IsNumbered (length (steps_of entries) + 1) entry → IsWritableEntry v entry → HaveText v (entries ++ entry ∷ [])
HaveText-push v entries entry w n i = record { count = counted entry n; each = each_push (IsWritableEntry v) entries entry w.each i }
  where
    counted : (e : Entry) → IsNumbered (length (steps_of entries) + 1) e → length (steps_of (entries ++ e ∷ [])) ≤ 2 ^ 62
    counted (A_step s) m = let e = steps_of-append entries (A_step s ∷ []) in let l = length_push (steps_of entries) s in let b = m.bounded in rw e (omega arith)
    counted (Delete ns) m = let e = steps_of-append entries (Delete ns ∷ []) ∙ append-nil (steps_of entries) in let c = w.count in rw e c

-- each is a line
pub entry_lines-IsLine : (v : Version) (number : ℕ) (entries : List Entry) → HaveLines v number entries → AllByRecursion IsLine (entry_lines number entries)
entry_lines-IsLine v number [] h = tt
entry_lines-IsLine v number (entry ∷ entries) h = (entry_line-IsLine v number entry h.0 h.1, entry_lines-IsLine v (next_number number entry) entries h.2)

-- the lines before `end`
abbrev pub front_lines : Version → List Entry → List (List ℕ)
front_lines v entries = head v ∷ entry_lines 1 entries

-- the text is made up of its lines
pub entries_text_is : (v : Version) (entries : List Entry) → entries_text v entries ≡ concat (text_lines v entries)
entries_text_is v entries = sym (concat-append (front_lines v entries) (tail ∷ []) ∙ ap (λ (t : List ℕ). concat (front_lines v entries) ++ t) (append-nil tail))

-- each line in front is a line
pub front-IsLine : (v : Version) (entries : List Entry) → HaveText v entries → AllByRecursion IsLine (front_lines v entries)
front-IsLine v entries w = (head-IsLine v, entry_lines-IsLine v 1 entries (from_one v entries w))

-- the lines of a text that begins with those of the entries
pub lines_of_front : (v : Version) (entries : List Entry) (rest : List ℕ) → HaveText v entries → lines (concat (front_lines v entries) ++ rest) ≡ front_lines v entries ++ lines rest
lines_of_front v entries rest w = lines-concat (front_lines v entries) rest (front-IsLine v entries w)

-- the lines of a text that begins with that of entries
pub lines_of_text : (v : Version) (entries : List Entry) (rest : List ℕ) → HaveText v entries → lines (entries_text v entries ++ rest) ≡ text_lines v entries ++ lines rest
lines_of_text v entries rest w =
    ap (λ (t : List ℕ). lines (t ++ rest)) (entries_text_is v entries) ∙ lines-concat (text_lines v entries) rest (each_append IsLine (front_lines v entries) (tail ∷ []) (front-IsLine v entries w) (tail-IsLine, tt))

-- the lines of a whole text
pub lines_of_whole : (text : List ℕ) (v : Version) (entries : List Entry) → IsTextOf text v entries → lines text ≡ text_lines v entries
lines_of_whole text v entries is = ap lines (is.same ∙ sym (append-nil (entries_text v entries))) ∙ lines_of_text v entries [] is.writable ∙ append-nil (text_lines v entries)

-- ---- the version of a first line

-- a line that has a version is its head
pub version_takes : (line : List ℕ) (v : Version) → version_of line ≡ Some v → line ≡ head v
version_takes line v h =
    (elim (bytes_eq line (head One)) as (λ t. bytes_eq line (head One) ≡ t → (if t then Some One else (if bytes_eq line (head Two) then Some Two else None)) ≡ Some v → line ≡ head v) [
      | true ↦ λ e k. let one : One ≡ v = cc in (bytes_eq-Decides line (head One)).0 e ∙ ap head one
      | false ↦ λ e k.
          (elim (bytes_eq line (head Two)) as (λ t. bytes_eq line (head Two) ≡ t → (if t then Some Two else None) ≡ Some v → line ≡ head v) [
            | true ↦ λ f k. let two : Two ≡ v = cc in (bytes_eq-Decides line (head Two)).0 f ∙ ap head two
            | false ↦ λ f k. absurd cc
          ]) refl k
    ]) refl h

-- a head has its version
pub version_again : (v : Version) → version_of (head v) ≡ Some v
version_again One = refl
version_again Two = refl

-- a line without a version is no head
pub version_none : (line : List ℕ) (v : Version) → version_of line ≡ None → line ≡ head v → ⊥
version_none line v h e = let f : version_of line ≡ Some v = ap version_of e ∙ version_again v in cc
