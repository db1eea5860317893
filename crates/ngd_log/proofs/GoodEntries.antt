-- The entries of the good lines of a text.
use Rattle.std.proofs.Common.{◌≡◌, ℕ, ◌+◌, ◌⊎◌, List, [], ◌∷◌, ◌++◌, length, Option, Some, None, inl, inr, refl, sym, ap, subst, ◌∙◌, append_assoc, arith}
use Rattle.std.proofs.lemmas.List.{append-nil}
use Rattle.dcsp_defs.specs.declared.entry.Entry.{Entry}
use Rattle.ngd_log.specs.declared.standing.Version.{Version}
use Rattle.ngd_log.specs.Lines.{lines, HasNoLineFeed, IsLine}
use Rattle.ngd_log.specs.Entries.{steps_of}
use Rattle.ngd_log.specs.EntryTexts.{next_number, entry_lines, head, entries_text, HaveText, IsLogOfEntries, IsEntryLine}
use Rattle.ngd_log.specs.EntryReading.{entry_of, version_of, with_entry, entries_from, entries_after, entries_in, good_entries}
use Rattle.ngd_log.specs.Pieces.{open_text, IsLongest, IsHeadless, GoodLines}
use Rattle.ngd_log.proofs.LineFeeds.{lines_plain, line_has_feed, lines_after}
use Rattle.ngd_log.proofs.LogLines.{tail, cons_head}
use Rattle.ngd_log.proofs.EntryLines.{head-IsLine, entry_line-IsLine, not_end, number_after, number_after_is, HaveLines, from_one, front_lines, lines_of_front, lines_of_text, entry_takes, entry_again, entry_none, no_entries, version_takes, version_again, version_none}
use Rattle.ngd_log.proofs.EntryBad.{HasFront, front_more}

-- a line of no entry gives none
pub none_by : (v : Version) (number : ℕ) (line : List ℕ) → ((entry : Entry) → IsEntryLine v number line entry → ⊥) → entry_of v number line ≡ None
none_by v number line n =
    (elim (entry_of v number line) as (λ o. entry_of v number line ≡ o → o ≡ None) [
      | None ↦ λ e. refl
      | Some entry ↦ λ e. absurd (n entry (entry_takes v number line entry e))
    ]) refl

-- `end` is no entry's line
pub none_at_end : (v : Version) (number : ℕ) → entry_of v number tail ≡ None
none_at_end v number = none_by v number tail (λ entry is. not_end number entry is.numbered (sym is.same))

-- nor is a line without its line feed
pub none_plain : (v : Version) (number : ℕ) (part : List ℕ) → HasNoLineFeed part → entry_of v number part ≡ None
none_plain v number part plain = none_by v number part (λ entry is. line_has_feed part (rw is.same (entry_line-IsLine v number entry is.numbered is.writable)) plain)

-- lines after which no entry comes
pub stop_at : (v : Version) (number : ℕ) (line : List ℕ) (others : List (List ℕ)) → entry_of v number line ≡ None → entries_from v number (line ∷ others) ≡ []
stop_at v number line others e = rw e refl

-- the lines of entries, and others
pub entries_from_front : (v : Version) (number : ℕ) (entries : List Entry) (others : List (List ℕ)) → HaveLines v number entries
    → entries_from v number (entry_lines number entries ++ others) ≡ entries ++ entries_from v (number_after number entries) others
entries_from_front v number [] others h = refl
entries_from_front v number (entry ∷ entries) others h =
    ap (λ (o : Option Entry). with_entry o (λ e. entries_from v (next_number number e) (entry_lines (next_number number entry) entries ++ others))) (entry_again v number entry h.0 h.1)
    ∙ ap (λ (x : List Entry). entry ∷ x) (entries_from_front v (next_number number entry) entries others h.2)

-- the good entries of a text whose lines begin with those of entries
pub good_front : (text : List ℕ) (v : Version) (entries : List Entry) (others : List (List ℕ)) → HaveText v entries → lines text ≡ front_lines v entries ++ others
    → good_entries text ≡ entries ++ entries_from v (length (steps_of entries) + 1) others
good_front text v entries others w e =
    let k : number_after 1 entries ≡ length (steps_of entries) + 1 = (let h = number_after_is 1 entries in omega arith) in
    ap entries_in e ∙ ap (λ (o : Option Version). entries_after o (entry_lines 1 entries ++ others)) (version_again v)
    ∙ entries_from_front v 1 entries others (from_one v entries w) ∙ ap (λ (n : ℕ). entries ++ entries_from v n others) k

-- those are all, where the next line is no entry's
pub good_stop : (text : List ℕ) (v : Version) (entries : List Entry) (line : List ℕ) (others : List (List ℕ)) → HaveText v entries → lines text ≡ front_lines v entries ++ line ∷ others
    → entry_of v (length (steps_of entries) + 1) line ≡ None → good_entries text ≡ entries
good_stop text v entries line others w e none =
    good_front text v entries (line ∷ others) w e ∙ ap (λ (x : List Entry). entries ++ x) (stop_at v (length (steps_of entries) + 1) line others none) ∙ append-nil entries

-- where there is no line more
pub good_all : (text : List ℕ) (v : Version) (entries : List Entry) → HaveText v entries → lines text ≡ front_lines v entries → good_entries text ≡ entries
good_all text v entries w e = good_front text v entries [] w (e ∙ sym (append-nil (front_lines v entries))) ∙ append-nil entries

-- where the next line has no line feed
pub good_open : (v : Version) (entries : List Entry) (part : List ℕ) → HaveText v entries → HasNoLineFeed part → good_entries (open_text v entries ++ part) ≡ entries
good_open v entries [] w plain = good_all (open_text v entries ++ []) v entries w (lines_of_front v entries [] w ∙ append-nil (front_lines v entries))
good_open v entries (b ∷ part) w plain =
    good_stop (open_text v entries ++ b ∷ part) v entries (b ∷ part) [] w
    (lines_of_front v entries (b ∷ part) w ∙ ap (λ (x : List (List ℕ)). front_lines v entries ++ x) (lines_plain (b ∷ part) plain (omega arith)))
    (none_plain v (length (steps_of entries) + 1) (b ∷ part) plain)

-- where the next line is a whole one, but no entry's
pub good_line : (v : Version) (entries : List Entry) (line more : List ℕ) → HaveText v entries → IsLine line → entry_of v (length (steps_of entries) + 1) line ≡ None
    → good_entries (open_text v entries ++ (line ++ more)) ≡ entries
good_line v entries line more w whole none =
    good_stop (open_text v entries ++ (line ++ more)) v entries line (lines more) w
    (lines_of_front v entries (line ++ more) w ∙ ap (λ (x : List (List ℕ)). front_lines v entries ++ x) (lines_after line more whole)) none

-- where a text of entries is in front
pub good_text : (v : Version) (entries : List Entry) (more : List ℕ) → HaveText v entries → good_entries (entries_text v entries ++ more) ≡ entries
good_text v entries more w =
    good_stop (entries_text v entries ++ more) v entries tail (lines more) w (lines_of_text v entries more w ∙ append_assoc (front_lines v entries) (tail ∷ []) (lines more))
    (none_at_end v (length (steps_of entries) + 1))

-- the entries of a whole text
pub good_whole : (text : List ℕ) (entries : List Entry) → IsLogOfEntries text entries → good_entries text ≡ entries
good_whole text entries is = ap good_entries (is.1.same ∙ sym (append-nil (entries_text is.0 entries))) ∙ good_text is.0 entries [] is.1.writable

-- a first line that is no head
pub good_headless : (text line : List ℕ) (others : List (List ℕ)) → lines text ≡ line ∷ others → version_of line ≡ None → good_entries text ≡ []
good_headless text line others e none = ap entries_in e ∙ ap (λ (o : Option Version). entries_after o others) none

-- a line without its line feed is no head
pub headless_plain : (part : List ℕ) → HasNoLineFeed part → version_of part ≡ None
headless_plain part plain =
    (elim (version_of part) as (λ o. version_of part ≡ o → o ≡ None) [
      | None ↦ λ e. refl
      | Some v ↦ λ e. absurd (line_has_feed part (subst IsLine (sym (version_takes part v e)) (head-IsLine v)) plain)
    ]) refl

-- a text without a line feed
pub good_plain : (part : List ℕ) → HasNoLineFeed part → good_entries part ≡ []
good_plain [] plain = refl
good_plain (b ∷ part) plain = good_headless (b ∷ part) (b ∷ part) [] (lines_plain (b ∷ part) plain (omega arith)) (headless_plain (b ∷ part) plain)

-- ---- the law

-- what the good entries are
abbrev IsFront : List ℕ → List Entry → Type 0
IsFront text entries = IsLongest text entries ⊎ IsHeadless text entries

-- from the lines of these entries on
from_front : (text : List ℕ) (v : Version) (entries : List Entry) (others : List (List ℕ)) → HasFront text v entries others → IsFront text (good_entries text)
from_front text v entries [] f =
    subst (λ (x : List Entry). IsFront text x) (sym (good_all text v entries f.writable (f.front ∙ append-nil (front_lines v entries))))
    (inl (record { version = v; writable = f.writable; others = []; front = f.front; no_more = tt }))
from_front text v entries (line ∷ others) f =
    (elim (entry_of v (length (steps_of entries) + 1) line) as (λ o. entry_of v (length (steps_of entries) + 1) line ≡ o → IsFront text (good_entries text)) [
      | None ↦ λ e.
          subst (λ (x : List Entry). IsFront text x) (sym (good_stop text v entries line others f.writable f.front e))
          (inl (record { version = v; writable = f.writable; others = line ∷ others; front = f.front; no_more = λ entry is. entry_none v (length (steps_of entries) + 1) line entry e is }))
      | Some entry ↦ λ e. from_front text v (entries ++ entry ∷ []) others (front_more text v entries line others entry f (entry_takes v (length (steps_of entries) + 1) line entry e))
    ]) refl

-- the good entries of a text
pub good_lines : (text : List ℕ) → GoodLines text
good_lines text = record {
  front =
      (elim (lines text) as (λ ls. lines text ≡ ls → IsFront text (good_entries text)) [
        | [] ↦ λ e. inr (record { no_head = λ v others f. let g : [] ≡ head v ∷ others = sym e ∙ f in cc; none = ap entries_in e })
        | line ∷ others ↦ λ e.
            (elim (version_of line) as (λ o. version_of line ≡ o → IsFront text (good_entries text)) [
              | None ↦ λ r. inr (record { no_head = λ v others f. version_none line v r (cons_head _ _ _ _ (sym e ∙ f)); none = good_headless text line others e r })
              | Some v ↦ λ r. from_front text v [] others (record { writable = no_entries v; front = e ∙ ap (λ (x : List ℕ). x ∷ others) (version_takes line v r) })
            ]) refl
      ]) refl;
  log = good_whole text;
}
