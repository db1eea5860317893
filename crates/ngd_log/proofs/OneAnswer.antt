-- A text that has not the head of version 2 is read as before.
use Rattle.std.proofs.Common.{◌≡◌, ℕ, zero, suc, ◌+◌, ◌-◌, ◌<◌, ◌≤◌, ◌⊎◌, List, [], ◌∷◌, ◌++◌, length, take, inl, inr, refl, sym, ap, subst, ◌∙◌, arith}
use Rattle.std.specs.List.{AllByRecursion, concat}
use Rattle.dcsp_defs.specs.declared.Step.{Step}
use Rattle.dcsp_defs.specs.declared.entry.Entry.{Entry}
use Rattle.dcsp_defs.specs.declared.entry.Entry.TheVariants.{Step as A_step, Delete}
use Rattle.ngd_log.specs.declared.standing.Version.{Version}
use Rattle.ngd_log.specs.declared.standing.Version.TheVariants.{One, Two}
use Rattle.ngd_log.specs.StepText.{step_line, IsWritable}
use Rattle.ngd_log.specs.Lines.{lines, Begin}
use Rattle.ngd_log.specs.Logs.{step_lines, log_text, log_lines, AreWritable, IsLogOf, AreLogLines, IsFirstBad}
use Rattle.ngd_log.specs.Entries.{steps_of, entries_of}
use Rattle.ngd_log.specs.EntryTexts.{entry_lines, head, entries_text, text_lines, IsWritableEntry, HaveText, IsTextOf, IsLogOfEntries, AreTextLines, IsFirstBadLine, IsHeadedTwo, IsOneAnswer}
use Rattle.ngd_log.proofs.LogLines.{tail, cons_head}
use Rattle.ngd_log.proofs.LogLaws.{log_or_bad_line}
use Rattle.ngd_log.proofs.EntryLines.{lines_of_whole}
use Rattle.ngd_log.proofs.EntryLaws.{entries_or_bad_line}

-- ---- steps as entries

-- the same lines
lines_same : (number : ℕ) (steps : List Step) → entry_lines number (entries_of steps) ≡ step_lines number steps
lines_same number [] = refl
lines_same number (s ∷ steps) = ap (λ (x : List (List ℕ)). step_line number s ∷ x) (lines_same (number + 1) steps)

-- the same steps
pub steps_same : (steps : List Step) → steps_of (entries_of steps) ≡ steps
steps_same [] = refl
steps_same (s ∷ steps) = ap (λ (x : List Step). s ∷ x) (steps_same steps)

-- each can be written
each_written : (v : Version) (steps : List Step) → AllByRecursion IsWritable steps → AllByRecursion (IsWritableEntry v) (entries_of steps)
each_written v [] h = tt
each_written v (s ∷ steps) h = (h.0, each_written v steps h.1)

-- steps that can be written have a text as entries
pub have_text : (v : Version) (steps : List Step) → AreWritable steps → HaveText v (entries_of steps)
have_text v steps w = let c = w.count in record { count = rw (steps_same steps) c; each = each_written v steps w.each }

-- the same text
text_same : (steps : List Step) → entries_text One (entries_of steps) ≡ log_text steps
text_same steps = ap (λ (ls : List (List ℕ)). head One ++ concat ls ++ tail) (lines_same 1 steps)

-- and the same lines of it
all_same : (steps : List Step) → text_lines One (entries_of steps) ≡ log_lines steps
all_same steps = ap (λ (ls : List (List ℕ)). head One ∷ ls ++ tail ∷ []) (lines_same 1 steps)

-- ---- entries of version 1

-- they are steps
only_steps : (entries : List Entry) → AllByRecursion (IsWritableEntry One) entries → entries ≡ entries_of (steps_of entries)
only_steps [] h = refl
only_steps (A_step s ∷ entries) h = ap (λ (x : List Entry). A_step s ∷ x) (only_steps entries h.1)
only_steps (Delete ns ∷ entries) h = absurd h.0

-- that can be written
back_written : (entries : List Entry) → AllByRecursion (IsWritableEntry One) entries → AllByRecursion IsWritable (steps_of entries)
back_written [] h = tt
back_written (A_step s ∷ entries) h = (h.0, back_written entries h.1)
back_written (Delete ns ∷ entries) h = absurd h.0

back_writable : (entries : List Entry) → HaveText One entries → AreWritable (steps_of entries)
back_writable entries w = record { count = w.count; each = back_written entries w.each }

-- ---- one answer

-- lines of a log are lines of a text of entries
log_lines_are : (ls : List (List ℕ)) → AreLogLines ls → AreTextLines ls
log_lines_are ls b = (One, entries_of b.0, have_text One b.0 b.1, all_same b.0 ∙ b.2)

-- lines of a text of entries are those of a log, but for the head of version 2
text_lines_are : (ls : List (List ℕ)) → AreTextLines ls → AreLogLines ls ⊎ ((others : List (List ℕ)) × (ls ≡ head Two ∷ others))
text_lines_are ls b = as_lines b.0 b.1 b.2 b.3
  where
    as_lines : (v : Version) (entries : List Entry) → HaveText v entries → text_lines v entries ≡ ls → AreLogLines ls ⊎ ((others : List (List ℕ)) × (ls ≡ head Two ∷ others))
    as_lines One entries w e = inl (steps_of entries, back_writable entries w, sym (ap (text_lines One) (only_steps entries w.each) ∙ all_same (steps_of entries)) ∙ e)
    as_lines Two entries w e = inr (entry_lines 1 entries ++ tail ∷ [], sym e)

-- the first line of the first lines
first_of : (ls : List (List ℕ)) (n : ℕ) (first : List ℕ) (rest others : List (List ℕ)) → 0 < n → n ≤ length ls → take n ls ++ others ≡ first ∷ rest → (more : List (List ℕ)) × (ls ≡ first ∷ more)
first_of [] n first rest others p le e = absurd (omega arith)
first_of (l ∷ ls) zero first rest others p le e = absurd (omega arith)
first_of (l ∷ ls) (suc n) first rest others p le e = (ls, ap (λ (x : List ℕ). x ∷ ls) (cons_head _ _ _ _ e))

-- entries of such a text are steps of its log
as_log : (text : List ℕ) → (IsHeadedTwo text → ⊥) → (entries : List Entry) (v : Version) → IsTextOf text v entries → (steps : List Step) × (entries ≡ entries_of steps) × IsLogOf text steps
as_log text n entries One is =
    let same = only_steps entries is.writable.each in
    (steps_of entries, same, record { writable = back_writable entries is.writable; same = is.same ∙ ap (entries_text One) same ∙ text_same (steps_of entries) })
as_log text n entries Two is = absurd (n (entry_lines 1 entries ++ tail ∷ [], lines_of_whole text Two entries is))

-- a first bad line of such a text
as_bad : (text : List ℕ) → (IsHeadedTwo text → ⊥) → (number : ℕ) → IsFirstBad text number → IsFirstBadLine text number
as_bad text n number b = record {
  positive = b.positive;
  before = (b.before.0, log_lines_are (take (number - 1) (lines text) ++ b.before.0) b.before.1);
  bad = elim b.bad [
    | inl w ↦ inl (record { there = w.there; wrong = λ t. wrong w.there w.wrong t.0 t.1 })
    | inr m ↦ inr (record { after_last = m.after_last; not_whole = λ t. elim (text_lines_are (lines text) t) [ inl s ↦ m.not_whole s | inr two ↦ n two ] })
  ];
}
  where
    wrong : number ≤ length (lines text) → (Begin AreLogLines (take number (lines text)) → ⊥) → (others : List (List ℕ)) → AreTextLines (take number (lines text) ++ others) → ⊥
    wrong there never others t =
        elim (text_lines_are (take number (lines text) ++ others) t) [
          | inl s ↦ never (others, s)
          | inr two ↦ n (first_of (lines text) number (head Two) two.0 others b.positive there two.1)
        ]

-- the answers are one
pub one_answer : (text : List ℕ) → (IsHeadedTwo text → ⊥) → IsOneAnswer text
one_answer text n = record {
  log = as_entries text;
  entries = λ entries is. as_log text n entries is.0 is.1;
  bad = as_bad text n;
  bad_line = λ number b. elim (log_or_bad_line text).some [
    | inl s ↦ absurd ((entries_or_bad_line text).not_both (entries_of s.0) number (as_entries text s.0 s.1) b)
    | inr m ↦ let same : m.0 ≡ number = (entries_or_bad_line text).one_line m.0 number (as_bad text n m.0 m.1) b in subst (IsFirstBad text) same m.1
  ];
}
  where
    as_entries : (text : List ℕ) (steps : List Step) → IsLogOf text steps → IsLogOfEntries text (entries_of steps)
    as_entries text steps is = (One, record { writable = have_text One steps is.writable; same = is.same ∙ sym (text_same steps) })
