-- Texts of entries among all: what they have after their first lines, and the first bad line of what is none.
use Rattle.std.proofs.Common.{◌≡◌, ℕ, ◌+◌, ◌⊎◌, List, [], ◌∷◌, ◌++◌, length, Some, None, inl, inr, refl, sym, ap, subst, ◌∙◌, append_assoc, arith}
use Rattle.std.specs.List.{concat}
use Rattle.std.proofs.lemmas.List.{append-nil}
use Rattle.dcsp_defs.specs.declared.entry.Entry.{Entry}
use Rattle.ngd_log.specs.declared.standing.Version.{Version}
use Rattle.ngd_log.specs.declared.standing.Version.TheVariants.{One}
use Rattle.ngd_log.specs.Lines.{lines}
use Rattle.ngd_log.specs.Entries.{steps_of}
use Rattle.ngd_log.specs.EntryTexts.{entry_line, next_number, entry_lines, head, text_lines, HaveText, IsTextOf, IsEntryLine, AreTextLines, IsFirstBadLine}
use Rattle.ngd_log.specs.EntryReading.{entry_of, version_of}
use Rattle.ngd_log.proofs.LineFeeds.{concat-lines}
use Rattle.ngd_log.proofs.BadLines.{AreFronts, bad_first, bad_end, bad_next, bad_beyond}
use Rattle.ngd_log.proofs.LogLines.{tail, cons_head, cons_tail}
use Rattle.ngd_log.proofs.EntryLines.{one_head, not_end, number_after, number_after_is, length-entry_lines, entry_lines-push, HaveLines, from_one, no_entries, HaveText-push, front_lines, entries_text_is, one_entry, entry_takes, entry_none, version_takes, version_none}

-- what a text has after the lines of these entries: an entry's line, or `end` and no more
pub record IsNext (v : Version) (number : ℕ) (line : List ℕ) (others : List (List ℕ)) : Type 0 where
  pub kind : ((entry : Entry) × IsEntryLine v number line entry) ⊎ ((line ≡ tail) × (others ≡ []))

-- what stands after the lines of these entries
pub next_line : (v : Version) (number : ℕ) (a b : List Entry) (line : List ℕ) (others : List (List ℕ)) → HaveLines v number a → HaveLines v number b
    → entry_lines number a ++ tail ∷ [] ≡ entry_lines number b ++ line ∷ others → IsNext v (number_after number b) line others
next_line v number [] [] line others n m e = record { kind = inr (sym (cons_head _ _ _ _ e), sym (cons_tail _ _ _ _ e)) }
next_line v number (x ∷ a) [] line others n m e = record { kind = inl (x, record { numbered = n.0; writable = n.1; same = sym (cons_head _ _ _ _ e) }) }
next_line v number [] (y ∷ b) line others n m e = absurd (not_end number y m.0 (sym (cons_head _ _ _ _ e)))
next_line v number (x ∷ a) (y ∷ b) line others n m e =
    let one : x ≡ y = one_entry v number (entry_line number x) x y (record { numbered = n.0; writable = n.1; same = refl }) (record { numbered = m.0; writable = m.1; same = cons_head _ _ _ _ e }) in
    let rest : entry_lines (next_number number y) a ++ tail ∷ [] ≡ entry_lines (next_number number y) b ++ line ∷ others = rw one at (cons_tail _ _ _ _ e) in
    let first : HaveLines v (next_number number y) a = rw one at n.2 in
    next_line v (next_number number y) a b line others first m.2 rest

-- a text does not stop after the lines of its entries
pub no_stop : (v : Version) (number : ℕ) (a b : List Entry) → HaveLines v number a → HaveLines v number b → entry_lines number a ++ tail ∷ [] ≡ entry_lines number b → ⊥
no_stop v number [] [] n m e = cc
no_stop v number (x ∷ a) [] n m e = cc
no_stop v number [] (y ∷ b) n m e = not_end number y m.0 (sym (cons_head _ _ _ _ e))
no_stop v number (x ∷ a) (y ∷ b) n m e =
    let one : x ≡ y = one_entry v number (entry_line number x) x y (record { numbered = n.0; writable = n.1; same = refl }) (record { numbered = m.0; writable = m.1; same = cons_head _ _ _ _ e }) in
    let rest : entry_lines (next_number number y) a ++ tail ∷ [] ≡ entry_lines (next_number number y) b = rw one at (cons_tail _ _ _ _ e) in
    let first : HaveLines v (next_number number y) a = rw one at n.2 in
    no_stop v (next_number number y) a b first m.2 rest

-- the text's lines begin with those of these entries
pub record HasFront (text : List ℕ) (v : Version) (entries : List Entry) (others : List (List ℕ)) : Type 0 where
  pub writable : HaveText v entries
  pub front : lines text ≡ front_lines v entries ++ others

-- a line for each entry, and one more
pub length-front : (v : Version) (entries : List Entry) → length (front_lines v entries) ≡ length entries + 1
length-front v entries = let h = length-entry_lines 1 entries in omega arith

-- the next step's number
numbered : (entries : List Entry) → number_after 1 entries ≡ length (steps_of entries) + 1
numbered entries = let h = number_after_is 1 entries in omega arith

-- what begins as a text of entries does has their version
same_version : (v w : Version) (entries other : List Entry) (others : List (List ℕ)) → HaveText w other → text_lines w other ≡ front_lines v entries ++ others → HaveLines v 1 other
same_version v w entries other others whole e = subst (λ (x : Version). HaveLines x 1 other) (one_head w v (cons_head _ _ _ _ e)) (from_one w other whole)

-- what a text has after the lines of these entries
follows : (v : Version) (entries : List Entry) (line : List ℕ) (others : List (List ℕ)) → HaveText v entries → AreTextLines (front_lines v entries ++ line ∷ others) → IsNext v (length (steps_of entries) + 1) line others
follows v entries line others w b =
    let have = same_version v b.0 entries b.1 (line ∷ others) b.2 b.3 in
    subst (λ (n : ℕ). IsNext v n line others) (numbered entries) (next_line v 1 b.1 entries line others have (from_one v entries w) (cons_tail _ _ _ _ b.3))

-- the lines with one entry more
pub front_lines-push : (v : Version) (entries : List Entry) (line : List ℕ) (entry : Entry) → IsEntryLine v (length (steps_of entries) + 1) line entry → front_lines v (entries ++ entry ∷ []) ≡ front_lines v entries ++ line ∷ []
front_lines-push v entries line entry is =
    ap (λ (x : List (List ℕ)). head v ∷ x) (entry_lines-push 1 entries entry ∙ ap (λ (l : List ℕ). entry_lines 1 entries ++ l ∷ []) (ap (λ (n : ℕ). entry_line n entry) (numbered entries) ∙ sym is.same))

-- ---- texts of entries among all

-- entries that have a text, and its version
abbrev pub Writable : Type 0
Writable = (v : Version) × (entries : List Entry) × HaveText v entries

-- the lines of their text before `end`
abbrev pub front_of : Writable → List (List ℕ)
front_of w = front_lines w.0 w.1

-- a first line is a head or no text's
first_line : (line : List ℕ) → ((w : Writable) × (front_of w ≡ line ∷ [])) ⊎ ((more : List (List ℕ)) → AreTextLines (line ∷ more) → ⊥)
first_line line =
    (elim (version_of line) as (λ o. version_of line ≡ o → ((w : Writable) × (front_of w ≡ line ∷ [])) ⊎ ((more : List (List ℕ)) → AreTextLines (line ∷ more) → ⊥)) [
      | None ↦ λ r. inr (λ more b. version_none line b.0 r (sym (cons_head _ _ _ _ b.3)))
      | Some v ↦ λ r. inl ((v, [], no_entries v), ap (λ (l : List ℕ). l ∷ []) (sym (version_takes line v r)))
    ]) refl

-- a line after those of entries is an entry's, or no text has it
next_entry : (w : Writable) (line : List ℕ) → (line ≡ tail → ⊥) → ((v : Writable) × (front_of v ≡ front_of w ++ line ∷ [])) ⊎ ((more : List (List ℕ)) → AreTextLines (front_of w ++ line ∷ more) → ⊥)
next_entry w line n =
    let number = length (steps_of w.1) + 1 in
    (elim (entry_of w.0 number line) as (λ o. entry_of w.0 number line ≡ o → ((v : Writable) × (front_of v ≡ front_of w ++ line ∷ [])) ⊎ ((more : List (List ℕ)) → AreTextLines (front_of w ++ line ∷ more) → ⊥)) [
      | None ↦ λ r. inr (λ more b. elim (follows w.0 w.1 line more w.2 b).kind [ inl s ↦ entry_none w.0 number line s.0 r s.1 | inr t ↦ n t.0 ])
      | Some s ↦ λ r.
          let is = entry_takes w.0 number line s r in
          inl ((w.0, w.1 ++ s ∷ [], HaveText-push w.0 w.1 s w.2 is.numbered is.writable), front_lines-push w.0 w.1 line s is)
    ]) refl

-- `end` is the last line
ends_there : (w : Writable) (line : List ℕ) (more : List (List ℕ)) → AreTextLines (front_of w ++ tail ∷ line ∷ more) → ⊥
ends_there w line more b =
    elim (follows w.0 w.1 tail (line ∷ more) w.2 b).kind [
      | inl s ↦ not_end (length (steps_of w.1) + 1) s.0 s.1.numbered (sym s.1.same)
      | inr t ↦ let none = t.1 in cc
    ]

-- a text does not end before `end`
goes_on : (w : Writable) → AreTextLines (front_of w) → ⊥
goes_on w b =
    let have = same_version w.0 b.0 w.1 b.1 [] b.2 (b.3 ∙ sym (append-nil (front_of w))) in
    no_stop w.0 1 b.1 w.1 have (from_one w.0 w.1 w.2) (cons_tail _ _ _ _ b.3)

pub are_fronts : AreFronts AreTextLines tail front_of
are_fronts = record {
  some = (text_lines One [], (One, [], no_entries One, refl));
  none = λ b. let e = b.3 in cc;
  first = first_line;
  next = next_entry;
  ends = λ w. (w.0, w.1, w.2, refl);
  ends_there = ends_there;
  goes_on = goes_on;
}

-- ---- their first bad lines

-- the first line is bad where it is no head
pub bad_head : (text : List ℕ) → ((v : Version) (others : List (List ℕ)) → lines text ≡ head v ∷ others → ⊥) → IsFirstBadLine text 1
bad_head text n = bad_first AreTextLines tail front_of are_fronts text (λ w others e. n w.0 (entry_lines 1 w.1 ++ others) e)

-- the line after those of the entries is bad where there is none
pub bad_stop : (text : List ℕ) (v : Version) (entries : List Entry) → HasFront text v entries [] → IsFirstBadLine text (length entries + 2)
bad_stop text v entries f =
    let number : length (front_lines v entries) + 1 ≡ length entries + 2 = let g = length-front v entries in omega arith in
    subst (IsFirstBadLine text) number (bad_end AreTextLines tail front_of are_fronts text (v, entries, f.writable) f.front)

-- the line after those of the entries is bad where it is neither an entry's nor `end`
pub bad_line : (text : List ℕ) (v : Version) (entries : List Entry) (line : List ℕ) (others : List (List ℕ)) → HasFront text v entries (line ∷ others)
    → ((entry : Entry) → IsEntryLine v (length (steps_of entries) + 1) line entry → ⊥) → (line ≡ tail → ⊥) → IsFirstBadLine text (length entries + 2)
bad_line text v entries line others f no_entry no_end =
    let number : length (front_lines v entries) + 1 ≡ length entries + 2 = let g = length-front v entries in omega arith in
    subst (IsFirstBadLine text) number (bad_next AreTextLines tail front_of are_fronts text (v, entries, f.writable) line others f.front
    (λ more b. elim (follows v entries line more f.writable b).kind [ inl s ↦ no_entry s.0 s.1 | inr t ↦ no_end t.0 ]))

-- a line after `end` is bad
pub bad_rest : (text : List ℕ) (v : Version) (entries : List Entry) (line : List ℕ) (others : List (List ℕ)) → HasFront text v entries (tail ∷ line ∷ others) → IsFirstBadLine text (length entries + 3)
bad_rest text v entries line others f =
    let number : length (front_lines v entries) + 2 ≡ length entries + 3 = let g = length-front v entries in omega arith in
    subst (IsFirstBadLine text) number (bad_beyond AreTextLines tail front_of are_fronts text (v, entries, f.writable) line others f.front)

-- one entry more
pub front_more : (text : List ℕ) (v : Version) (entries : List Entry) (line : List ℕ) (others : List (List ℕ)) (entry : Entry) → HasFront text v entries (line ∷ others) → IsEntryLine v (length (steps_of entries) + 1) line entry → HasFront text v (entries ++ entry ∷ []) others
front_more text v entries line others entry f is = record {
  writable = HaveText-push v entries entry f.writable is.numbered is.writable;
  front = f.front ∙ sym (append_assoc (front_lines v entries) (line ∷ []) others) ∙ ap (λ (x : List (List ℕ)). x ++ others) (sym (front_lines-push v entries line entry is));
}

-- the text is that of the entries whose lines it has
pub text_of_lines : (text : List ℕ) (v : Version) (entries : List Entry) → HaveText v entries → text_lines v entries ≡ lines text → IsTextOf text v entries
text_of_lines text v entries w e = record { writable = w; same = sym (concat-lines text) ∙ ap concat (sym e) ∙ sym (entries_text_is v entries) }

-- the text is that of the entries where `end` comes last
pub text_of_front : (text : List ℕ) (v : Version) (entries : List Entry) → HasFront text v entries (tail ∷ []) → IsTextOf text v entries
text_of_front text v entries f = text_of_lines text v entries f.writable (sym f.front)
