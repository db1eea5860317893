-- The lines of schedules.
use Rattle.std.proofs.Common.{◌≡◌, ℕ, ◌<◌, ◌^◌, ◌⊎◌, true, false, List, [], ◌∷◌, ◌++◌, map, get_or, Option, Some, None, inl, inr, refl, sym, ap, ◌∙◌, arith}
use Rattle.std.specs.Prelude.{codes, decimal}
use Rattle.std.specs.List.{AllByRecursion}
use Rattle.std.specs.Str.{bytes_eq}
use Rattle.std.specs.Char.{is_ascii_digit}
use Rattle.std.proofs.lemmas.Bool.{false≢true, cases_lt}
use Rattle.std.proofs.lemmas.List.{append-nil, map-append}
use Rattle.std.proofs.lemmas.Slice.Eq.{bytes_eq-Decides}
use Rattle.ngd_log.specs.Lines.{lines, IsLine}
use Rattle.dcsp_common.specs.Reading.{number_at}
use Rattle.dcsp_common.proofs.Chosen.{some_is}
use Rattle.ngd_log.proofs.Each.{each_append}
use Rattle.dcsp_common.proofs.Decimals.{begins_decimal, number_again, number_takes}
use Rattle.ngd_log.proofs.LineFeeds.{no_feed_in_decimal, lines-concat}
use Rattle.ngd_log.proofs.LogLines.{tail, tail-IsLine, cons_head, cons_tail}
use Rattle.abt_schedule.specs.Schedules.{choice_line, schedule_lines, schedule_text, AreChoices, IsChoiceLine, IsScheduleOf}

-- the first line
abbrev pub head : List ℕ
head = codes "schedule 1\n"

-- the lines of a schedule before `end`
abbrev pub front_lines : List ℕ → List (List ℕ)
front_lines choices = head ∷ map choice_line choices

-- the first line is a line
pub head-IsLine : IsLine head
head-IsLine = record { body = codes "schedule 1"; plain = (refl, (refl, (refl, (refl, (refl, (refl, (refl, (refl, (refl, (refl, tt)))))))))); same = refl }

-- a choice's line is a line
pub choice_line-IsLine : (choice : ℕ) → choice < 2 ^ 32 → IsLine (choice_line choice)
choice_line-IsLine choice small = record { body = decimal choice; plain = no_feed_in_decimal choice (omega arith); same = refl }

-- each is a line
pub choice_lines-IsLine : (choices : List ℕ) → AreChoices choices → AllByRecursion IsLine (map choice_line choices)
choice_lines-IsLine [] h = tt
choice_lines-IsLine (c ∷ cs) h = (choice_line-IsLine c h.0, choice_lines-IsLine cs h.1)

-- a choice's line is not `end`
pub not_tail : (choice : ℕ) → choice < 2 ^ 32 → choice_line choice ≡ tail → ⊥
not_tail choice small e =
    let b = begins_decimal choice (codes "\n") (omega arith) in
    let first : b.first ≡ 101 = ap (λ (x : List ℕ). get_or x 0 0) (sym b.parts ∙ e) in
    false≢true (ap is_ascii_digit (sym first) ∙ b.digit)

-- one choice has a line
pub one_choice : (a b : ℕ) → a < 2 ^ 32 → b < 2 ^ 32 → choice_line a ≡ choice_line b → a ≡ b
one_choice a b small small' e =
    let both : ◌≡◌ {A = Option (ℕ × List ℕ)} (Some (a, codes "\n")) (Some (b, codes "\n")) = sym (number_again a (codes "\n") (omega arith) refl) ∙ ap number_at e ∙ number_again b (codes "\n") (omega arith) refl in
    ap (λ (p : ℕ × List ℕ). p.0) (some_is (a, codes "\n") (b, codes "\n") both)

-- the lines with one choice more
pub choice_lines-push : (choices : List ℕ) (choice : ℕ) → map choice_line (choices ++ choice ∷ []) ≡ map choice_line choices ++ choice_line choice ∷ []
choice_lines-push choices choice = map-append choice_line choices (choice ∷ [])

-- the lines of a text that begins with a schedule
pub lines_of_schedule : (choices rest : List ℕ) → AreChoices choices → lines (schedule_text choices ++ rest) ≡ schedule_lines choices ++ lines rest
lines_of_schedule choices rest h =
    lines-concat (schedule_lines choices) rest (each_append IsLine (front_lines choices) (tail ∷ []) (head-IsLine, choice_lines-IsLine choices h) (tail-IsLine, tt))

-- the lines of a schedule
pub lines_of_whole : (choices text : List ℕ) → IsScheduleOf text choices → lines text ≡ schedule_lines choices
lines_of_whole choices text is = ap lines (is.same ∙ sym (append-nil (schedule_text choices))) ∙ lines_of_schedule choices [] is.in_range ∙ append-nil (schedule_lines choices)

-- what a schedule has after the lines of these choices: a choice's line, or `end` and no more
pub record IsNextLine (line : List ℕ) (others : List (List ℕ)) : Type 0 where
  pub kind : ((choice : ℕ) × IsChoiceLine line choice) ⊎ ((line ≡ tail) × (others ≡ []))

-- what stands after the lines of these choices
pub next_line : (a b line : List ℕ) (others : List (List ℕ)) → AreChoices a → map choice_line a ++ tail ∷ [] ≡ map choice_line b ++ line ∷ others → AreChoices b → IsNextLine line others
next_line [] [] line others h e g = record { kind = inr (sym (cons_head _ _ _ _ e), sym (cons_tail _ _ _ _ e)) }
next_line (s ∷ a) [] line others h e g = record { kind = inl (s, record { in_range = h.0; same = sym (cons_head _ _ _ _ e) }) }
next_line [] (t ∷ b) line others h e g = absurd (not_tail t g.0 (sym (cons_head _ _ _ _ e)))
next_line (s ∷ a) (t ∷ b) line others h e g = next_line a b line others h.1 (cons_tail _ _ _ _ e) g.1

-- a schedule does not stop after the lines of its choices
pub no_stop : (a b : List ℕ) → AreChoices b → map choice_line a ++ tail ∷ [] ≡ map choice_line b → ⊥
no_stop [] [] g e = cc
no_stop (s ∷ a) [] g e = cc
no_stop [] (t ∷ b) g e = not_tail t g.0 (sym (cons_head _ _ _ _ e))
no_stop (s ∷ a) (t ∷ b) g e = no_stop a b g.1 (cons_tail _ _ _ _ e)

-- a line is a choice's, or no choice's
pub choice_or_not : (line : List ℕ) → ((choice : ℕ) × IsChoiceLine line choice) ⊎ ((choice : ℕ) → IsChoiceLine line choice → ⊥)
choice_or_not line =
    (elim (number_at line) as (λ o. number_at line ≡ o → ((choice : ℕ) × IsChoiceLine line choice) ⊎ ((choice : ℕ) → IsChoiceLine line choice → ⊥)) [
      | None ↦ λ r. inr (λ choice is. none choice is.in_range (sym (again choice line is) ∙ r))
      | Some x ↦ λ r. elim (cases_lt x.0 (2 ^ 32)) [
        | inl small ↦
            let d = bytes_eq-Decides x.1 (codes "\n") in
            (elim (bytes_eq x.1 (codes "\n")) as (λ t. bytes_eq x.1 (codes "\n") ≡ t → ((choice : ℕ) × IsChoiceLine line choice) ⊎ ((choice : ℕ) → IsChoiceLine line choice → ⊥)) [
              | true ↦ λ e. inl (x.0, record { in_range = small; same = (number_takes line x.0 x.1 r).parts ∙ ap (λ (l : List ℕ). decimal x.0 ++ l) (d.0 e) })
              | false ↦ λ e. inr (λ choice is. absurd (false≢true (sym e ∙ d.1 (ap (λ (y : ℕ × List ℕ). y.1) (read x choice is.in_range (sym r ∙ again choice line is))))))
            ]) refl
        | inr large ↦ inr (λ choice is. let h = is.in_range in let same : x.0 ≡ choice = ap (λ (y : ℕ × List ℕ). y.0) (read x choice h (sym r ∙ again choice line is)) in absurd (omega arith))
      ]
    ]) refl
  where
    again : (choice : ℕ) (l : List ℕ) → IsChoiceLine l choice → number_at l ≡ Some (choice, codes "\n")
    again choice l is = let h = is.in_range in ap number_at is.same ∙ number_again choice (codes "\n") (omega arith) refl

    none : (choice : ℕ) → choice < 2 ^ 32 → ◌≡◌ {A = Option (ℕ × List ℕ)} (Some (choice, codes "\n")) None → ⊥
    none choice h e = cc

    read : (x : ℕ × List ℕ) (choice : ℕ) → choice < 2 ^ 32 → ◌≡◌ {A = Option (ℕ × List ℕ)} (Some x) (Some (choice, codes "\n")) → x ≡ (choice, codes "\n")
    read x choice h e = cc
