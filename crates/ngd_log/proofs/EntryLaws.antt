-- Each text is that of entries or has one first bad line, and different texts differ.
use Rattle.std.proofs.Common.{◌≡◌, ℕ, ◌⊎◌, List, [], ◌∷◌, ◌++◌, inl, inr, refl, sym, ap, subst, ◌∙◌, append_assoc}
use Rattle.std.proofs.lemmas.List.{append-nil}
use Rattle.dcsp_defs.specs.declared.entry.Entry.{Entry}
use Rattle.ngd_log.specs.declared.standing.Version.{Version}
use Rattle.ngd_log.specs.Lines.{lines}
use Rattle.ngd_log.specs.EntryTexts.{entry_line, next_number, entry_lines, entries_text, text_lines, IsLogOfEntries, AreTextLines, IsFirstBadLine, EntriesOrBadLine, TextsDiffer}
use Rattle.ngd_log.proofs.LineFeeds.{no_lines}
use Rattle.ngd_log.proofs.LogLines.{tail, cons_head, cons_tail}
use Rattle.ngd_log.proofs.EntryLines.{one_head, not_end, HaveLines, from_one, front_lines, lines_of_text, lines_of_whole, one_entry}
use Rattle.ngd_log.proofs.BadLines.{one_line, not_both, whole_or_bad}
use Rattle.ngd_log.proofs.EntryBad.{front_of, are_fronts, text_of_lines}

-- some answer for each text
some_answer : (text : List ℕ) → ((entries : List Entry) × IsLogOfEntries text entries) ⊎ ((number : ℕ) × IsFirstBadLine text number)
some_answer text = elim (whole_or_bad AreTextLines tail front_of are_fronts text) [ inl b ↦ inl (b.1, (b.0, text_of_lines text b.0 b.1 b.2 b.3)) | inr bad ↦ inr bad ]

-- texts with the same lines are of the same entries
same_entries : (v : Version) (number : ℕ) (a b : List Entry) (others : List (List ℕ)) → HaveLines v number a → HaveLines v number b
    → entry_lines number a ++ tail ∷ others ≡ entry_lines number b ++ tail ∷ [] → (a ≡ b) × (others ≡ [])
same_entries v number [] [] others n m e = (refl, cons_tail _ _ _ _ e)
same_entries v number (s ∷ a) [] others n m e = absurd (not_end number s n.0 (cons_head _ _ _ _ e))
same_entries v number [] (t ∷ b) others n m e = absurd (not_end number t m.0 (sym (cons_head _ _ _ _ e)))
same_entries v number (s ∷ a) (t ∷ b) others n m e =
    let one : s ≡ t = one_entry v number (entry_line number s) s t (record { numbered = n.0; writable = n.1; same = refl }) (record { numbered = m.0; writable = m.1; same = cons_head _ _ _ _ e }) in
    let rest : entry_lines (next_number number t) a ++ tail ∷ others ≡ entry_lines (next_number number t) b ++ tail ∷ [] = rw one at (cons_tail _ _ _ _ e) in
    let first : HaveLines v (next_number number t) a = rw one at n.2 in
    let more = same_entries v (next_number number t) a b others first m.2 rest in
    (rw (one, more.0) refl, more.1)

-- different entries have different texts, and no text begins another
pub texts_differ : TextsDiffer
texts_differ v w a b more wa wb e =
    let la : lines (entries_text v a ++ more) ≡ front_lines v a ++ (tail ∷ lines more) = lines_of_text v a more wa ∙ append_assoc (front_lines v a) (tail ∷ []) (lines more) in
    let lb : lines (entries_text w b) ≡ text_lines w b = lines_of_whole (entries_text w b) w b (record { writable = wb; same = refl }) in
    let both : front_lines v a ++ (tail ∷ lines more) ≡ text_lines w b = sym la ∙ ap lines e ∙ lb in
    let same : v ≡ w = one_head v w (cons_head _ _ _ _ both) in
    let have : HaveLines w 1 a = subst (λ (x : Version). HaveLines x 1 a) same (from_one v a wa) in
    let s = same_entries w 1 a b (lines more) have (from_one w b wb) (cons_tail _ _ _ _ both) in
    (same, s.0, no_lines more s.1)

-- each text is that of one list of entries, or has one first bad line
pub entries_or_bad_line : (text : List ℕ) → EntriesOrBadLine text
entries_or_bad_line text = record {
  some = some_answer text;
  one_list = λ a b ia ib. (texts_differ ia.0 ib.0 a b [] ia.1.writable ib.1.writable (append-nil (entries_text ia.0 a) ∙ sym ia.1.same ∙ ib.1.same)).1;
  one_line = one_line AreTextLines text;
  not_both = λ entries number is. not_both AreTextLines text number (is.0, entries, is.1.writable, sym (lines_of_whole text is.0 entries is.1));
}
