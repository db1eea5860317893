-- The choices of a starved run: their schedule is read again, and they make the run again.
use Rattle.std.proofs.Common.{◌≡◌, ℕ, ◌+◌, ◌*◌, ◌≤◌, List, [], ◌∷◌, ◌++◌, length, map, None, Result, Ok, Err, slice_get, codes, refl, sym, ap, ◌∙◌, subst, arith, length-append}
use Rattle.std.specs.Prelude.{IsErr, IsErrAnd}
use Rattle.std.specs.List.{concat, AllByRecursion}
use Rattle.std.proofs.lemmas.Fmt.{decimal_digit}
use Rattle.std.proofs.lemmas.List.{take_all}
use Rattle.std.proofs.lemmas.List.Folds.{concat-append}
use Rattle.dcsp_defs.specs.Csp.{Csp}
use Rattle.dcsp_rule.specs.Problems.{Contents, csp_of}
use Rattle.dcsp_script.specs.declared.stop.Stop.{Stop}
use Rattle.dcsp_script.specs.Scripts.{Create, Append, Put, World}
use Rattle.dcsp_script.specs.Ways.{Wrote}
use Rattle.dcsp_script.proofs.Lines.{then_rest, then_stopped}
use Rattle.abt_defs.specs.Bound.{message_bound}
use Rattle.abt_defs.specs.Runs.{whole, starved}
use Rattle.law_runs.specs.Replay.{Repeats}
use Rattle.law_runs.proofs.Again.{replays}
use Rattle.abt_schedule.specs.Schedules.{choice_line, schedule_lines, schedule_text, AreChoices}
use Rattle.abt_session.specs.Answers.{first_answers}
use Rattle.abt_session.specs.Ends.{end_of}
use Rattle.abt_session.specs.Starving.{starving_choices, AreNear, IsStarved}
use Rattle.abt_session.specs.declared.starved_run.Starved.{Starved}
use Rattle.abt_session.proofs.Pieces.{wrote_as}
use Rattle.abt_input.specs.Inputs.{HasChoices}
use Rattle.line_replay.specs.Asked.{most_deliveries}
use Rattle.line_replay.proofs.Outcomes.{list_answers}
use Rattle.line_starve.specs.StarvePromise.{most_starved, starving_run, choices_of, starved_line, starve_script}
use Rattle.line_starve.specs.Starving.{IsReplayed}

-- ---- the schedule

are_choices : (choices : List ℕ) → AllByRecursion (λ c. c ≤ 1) choices → AreChoices choices
are_choices [] h = tt
are_choices (c ∷ cs) h = ((let l = h.0 in omega (arith, l)), are_choices cs h.1)

-- the line of a choice has two bytes
line_long : (c : ℕ) → c ≤ 1 → length (choice_line c) ≡ 2
line_long c l = ap (λ d. length (d ++ codes "\n")) (decimal_digit c (omega arith))

lines_long : (choices : List ℕ) → AllByRecursion (λ c. c ≤ 1) choices → length (concat (map choice_line choices)) ≡ 2 * length choices
lines_long [] h = refl
lines_long (c ∷ cs) h =
    let one = line_long c h.0 in
    let rest = lines_long cs h.1 in
    let both = length-append (choice_line c) (concat (map choice_line cs)) in
    omega (arith, one, rest, both)

schedule_long : (choices : List ℕ) → AllByRecursion (λ c. c ≤ 1) choices → length (schedule_text choices) ≡ 15 + 2 * length choices
schedule_long choices h =
    let lines = map choice_line choices in
    let last : List (List ℕ) = codes "end\n" ∷ [] in
    let whole : concat (schedule_lines choices) ≡ codes "schedule 1\n" ++ (concat lines ++ concat last) = ap (λ t. codes "schedule 1\n" ++ t) (concat-append lines last) in
    let a = length-append (codes "schedule 1\n") (concat lines ++ concat last) in
    let b = length-append (concat lines) (concat last) in
    let l = lines_long choices h in
    omega (arith, l, ap length whole, a, b)

pub is_schedule : (most : ℕ) (choices : List ℕ) → most ≤ 7000000 → AreNear most choices → HasChoices (schedule_text choices) choices
is_schedule most choices small h = record {
  short = (let l = schedule_long choices h.each in let f = h.few in omega (arith, l, f, small));
  reads = record { in_range = are_choices choices h.each; same = refl };
}

-- ---- the run again

pub makes_again : (q : Csp) (most : ℕ) (choices : List ℕ) → most ≤ most_deliveries → length choices ≤ most → (whole q most choices).numbers ≡ choices
    → Repeats (whole q most choices) (whole q most_deliveries (first_answers most_deliveries (λ k. slice_get choices k)))
makes_again q most choices small few own =
    let same : first_answers most_deliveries (λ k. slice_get choices k) ≡ choices = list_answers most_deliveries choices ∙ take_all most_deliveries choices (omega (arith, small, few)) in
    subst (λ cs. Repeats (whole q most choices) (whole q most_deliveries cs)) (own ∙ sym same) (replays q most most_deliveries choices small)

module _ (p : Contents) (from to most : ℕ) where
  pub reads_choices : most ≤ most_starved → AreNear most (starving_choices (csp_of p) from to most) → HasChoices (schedule_text (choices_of p from to most)) (choices_of p from to most)
  unfolding choices_of
  reads_choices few h = is_schedule most (starving_choices (csp_of p) from to most) few h

  pub replayed : most ≤ most_starved → AreNear most (starving_choices (csp_of p) from to most) → (starved (csp_of p) from to most).numbers ≡ starving_choices (csp_of p) from to most → IsReplayed None p from to most
  unfolding choices_of starving_run
  replayed few h own log trace = makes_again (csp_of p) most (starving_choices (csp_of p) from to most) (omega arith) h.few own

  pub bounded : (starved (csp_of p) from to most).net.deliveries ≤ message_bound (csp_of p) → (starving_run p from to most).net.deliveries ≤ message_bound (csp_of p)
  unfolding starving_run
  bounded h = h

  -- ---- what is written

  module _ (file : List ℕ) (told : Starved) (taken : List ℕ) (is : IsStarved (csp_of p) from to most told) (choices : taken ≡ starving_choices (csp_of p) from to most) where
    parts_are : (Create file ∷ Append file (schedule_text taken) ∷ []) ++ Put (starved_line (end_of told.end) told.deliveries) ∷ [] ≡ starve_script file (choices_of p from to most) (starving_run p from to most)
    unfolding choices_of starving_run
    parts_are =
        let run = starved (csp_of p) from to most in
        ap (λ cs. Create file ∷ Append file (schedule_text cs) ∷ Put (starved_line (end_of told.end) told.deliveries) ∷ []) choices
        ∙ ap (λ e. Create file ∷ Append file (schedule_text (starving_choices (csp_of p) from to most)) ∷ Put (starved_line e told.deliveries) ∷ []) (sym is.end)
        ∙ ap (λ d. Create file ∷ Append file (schedule_text (starving_choices (csp_of p) from to most)) ∷ Put (starved_line run.end d) ∷ []) is.deliveries

    -- the choices were not written
    pub choices_stopped : {T U : Type 0} {a b : World} {e : Stop} (r : Result U Stop) → IsErr r × IsErrAnd r (λ y. y ≡ e) → Wrote {T = T} (Create file ∷ Append file (schedule_text taken) ∷ []) a b (Err e) → Wrote (starve_script file (choices_of p from to most) (starving_run p from to most)) a b r
    choices_stopped {T = T} r stop w = wrote_as parts_are (then_stopped {T = T} (Put (starved_line (end_of told.end) told.deliveries) ∷ []) stop w)

    -- they were, and then the line came to be put
    pub line_told : {T U : Type 0} {a b c : World} {x : T} {r : Result U Stop} → Wrote {T = T} (Create file ∷ Append file (schedule_text taken) ∷ []) a b (Ok x) → Wrote (Put (starved_line (end_of told.end) told.deliveries) ∷ []) b c r → Wrote (starve_script file (choices_of p from to most) (starving_run p from to most)) a c r
    line_told w put = wrote_as parts_are (then_rest w put)
