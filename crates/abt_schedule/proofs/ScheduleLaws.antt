-- Each text is a schedule or has one first bad line, and different schedules differ.
use Rattle.std.proofs.Common.{◌≡◌, ℕ, ◌⊎◌, List, [], ◌∷◌, ◌++◌, map, inl, inr, refl, sym, ap, subst, ◌∙◌, append_assoc}
use Rattle.std.proofs.lemmas.List.{append-nil}
use Rattle.ngd_log.specs.Lines.{lines}
use Rattle.ngd_log.proofs.LineFeeds.{no_lines}
use Rattle.ngd_log.proofs.LogLines.{tail, cons_head, cons_tail}
use Rattle.ngd_log.proofs.BadLines.{one_line, not_both, whole_or_bad}
use Rattle.abt_schedule.specs.Schedules.{choice_line, schedule_lines, schedule_text, AreChoices, IsScheduleOf, AreScheduleLines, IsFirstBad, ScheduleOrBadLine, SchedulesDiffer, NextLine}
use Rattle.abt_schedule.proofs.ScheduleLines.{front_lines, not_tail, one_choice, lines_of_schedule, lines_of_whole}
use Rattle.abt_schedule.proofs.FirstBad.{front_push, follows, front_of, are_fronts, schedule_of_lines}

-- some answer for each text
some_answer : (text : List ℕ) → ((choices : List ℕ) × IsScheduleOf text choices) ⊎ ((number : ℕ) × IsFirstBad text number)
some_answer text = elim (whole_or_bad AreScheduleLines tail front_of are_fronts text) [ inl b ↦ inl (b.0, schedule_of_lines text b.0 b.1 b.2) | inr bad ↦ inr bad ]

-- schedules with the same lines are of one list
same_choices : (a b : List ℕ) (others : List (List ℕ)) → AreChoices a → AreChoices b → map choice_line a ++ tail ∷ others ≡ map choice_line b ++ tail ∷ [] → (a ≡ b) × (others ≡ [])
same_choices [] [] others v w e = (refl, cons_tail _ _ _ _ e)
same_choices (s ∷ a) [] others v w e = absurd (not_tail s v.0 (cons_head _ _ _ _ e))
same_choices [] (t ∷ b) others v w e = absurd (not_tail t w.0 (sym (cons_head _ _ _ _ e)))
same_choices (s ∷ a) (t ∷ b) others v w e =
    let one : s ≡ t = one_choice s t v.0 w.0 (cons_head _ _ _ _ e) in
    let rest = same_choices a b others v.1 w.1 (cons_tail _ _ _ _ e) in
    (rw (one, rest.0) refl, rest.1)

-- different schedules differ, and no schedule begins another
pub schedules_differ : SchedulesDiffer
schedules_differ a b more wa wb e =
    let la : lines (schedule_text a ++ more) ≡ front_lines a ++ (tail ∷ lines more) = lines_of_schedule a more wa ∙ append_assoc (front_lines a) (tail ∷ []) (lines more) in
    let lb : lines (schedule_text b) ≡ schedule_lines b = lines_of_whole b (schedule_text b) (record { in_range = wb; same = refl }) in
    let both : front_lines a ++ (tail ∷ lines more) ≡ schedule_lines b = sym la ∙ ap lines e ∙ lb in
    let s = same_choices a b (lines more) wa wb (cons_tail _ _ _ _ both) in
    (s.0, no_lines more s.1)

-- each text is the schedule of one list, or has one first bad line
pub schedule_or_bad_line : (text : List ℕ) → ScheduleOrBadLine text
schedule_or_bad_line text = record {
  some = some_answer text;
  one_schedule = λ a b ia ib. (schedules_differ a b [] ia.in_range ib.in_range (append-nil (schedule_text a) ∙ sym ia.same ∙ ib.same)).0;
  one_line = one_line AreScheduleLines text;
  not_both = λ choices number is. not_both AreScheduleLines text number (choices, is.in_range, sym (lines_of_whole choices text is));
}

-- what stands after the lines of these choices
pub next_line_is : (choices line : List ℕ) → AreChoices choices → NextLine choices line
next_line_is choices line w = record {
  only = λ b. elim (follows choices line b.0 w (subst AreScheduleLines (append_assoc (front_lines choices) (line ∷ []) b.0) b.1)).kind [ inl s ↦ inl s | inr t ↦ inr t.0 ];
  choice = λ c is. let more = front_push choices line c w is in (tail ∷ [], (choices ++ c ∷ [], more.0, ap (λ (x : List (List ℕ)). x ++ tail ∷ []) more.1));
  last = λ e. ([], (choices, w, ap (λ (l : List ℕ). front_lines choices ++ l ∷ []) (sym e) ∙ sym (append-nil (front_lines choices ++ line ∷ []))));
}
