-- Steps that are written line by line.
use Rattle.std.proofs.Common.{◌≡◌, ℕ, zero, suc, ◌+◌, ◌<◌, ◌≤◌, List, [], ◌∷◌, length, get_or, drop, Result, Ok, Err, sym, ap, subst, ◌∙◌, arith, drop-cons, add-one}
use Rattle.std.specs.Prelude.{IsErr, IsErrAnd}
use Rattle.std.specs.List.{AllByRecursion}
use Rattle.std.proofs.lemmas.List.{drop_all, get_or_default}
use Rattle.ngd_check.specs.Places.{no_step}
use Rattle.dcsp_defs.specs.declared.Step.{Step}
use Rattle.dcsp_rule.specs.Problems.{Contents}
use Rattle.dcsp_script.specs.declared.stop.Stop.{Stop}
use Rattle.dcsp_script.specs.Scripts.{Append, Put, World}
use Rattle.dcsp_script.specs.Ways.{Wrote}
use Rattle.dcsp_script.proofs.Lines.{then_rest, then_stopped}
use Rattle.ngd_log.specs.StepText.{step_line, IsStepNumber, IsInRange, IsWritable}
use Rattle.ngd_log.specs.Logs.{step_lines, log_lines, AreWritable}
use Rattle.ngd_rewrite.specs.declared.cores.Core.{Core}
use Rattle.line_rewrite.specs.UpgradePromise.{appends, file_script}
use Rattle.line_rewrite.specs.CorePromise.{core_text, core_script}
use Rattle.line_rewrite.proofs.Writing.{wrote_as}

-- the lines from a step on begin with its own
pub lines_left : (steps : List Step) (i : ℕ) (step : Step) → i < length steps → step ≡ get_or steps i step → step_lines (i + 1) (drop i steps) ≡ step_line (i + 1) step ∷ step_lines (i + 1 + 1) (drop (i + 1) steps)
lines_left steps i step below is =
    ap (λ (l : List Step). step_lines (i + 1) l) (drop-cons steps i step below ∙ ap (λ n. get_or steps i step ∷ drop n steps) (sym (add-one i)))
    ∙ ap (λ (s : Step). step_line (i + 1) s ∷ step_lines (i + 1 + 1) (drop (i + 1) steps)) (sym is)

-- the lines that are left begin with that of the step at hand
pub steps_left : (name : List ℕ) (steps : List Step) (i : ℕ) (step : Step) → i < length steps → step ≡ get_or steps i step → appends name (step_lines (i + 1) (drop i steps)) ≡ Append name (step_line (i + 1) step) ∷ appends name (step_lines (i + 1 + 1) (drop (i + 1) steps))
steps_left name steps i step below is = ap (appends name) (lines_left steps i step below is)

-- the same by its place
pub here_left : (name : List ℕ) (steps : List Step) (i : ℕ) → i < length steps → appends name (step_lines (i + 1) (drop i steps)) ≡ Append name (step_line (i + 1) (get_or steps i no_step)) ∷ appends name (step_lines (i + 1 + 1) (drop (i + 1) steps))
here_left name steps i l = steps_left name steps i (get_or steps i no_step) l (sym (get_or_default steps i (get_or steps i no_step) no_step l))

-- no line is left
pub steps_done : (name : List ℕ) (steps : List Step) (i : ℕ) → length steps ≤ i → appends name (step_lines (i + 1) (drop i steps)) ≡ []
steps_done name steps i l = ap (λ (s : List Step). appends name (step_lines (i + 1) s)) (drop_all i steps l)

each_at : (steps : List Step) (i : ℕ) (step : Step) → i < length steps → step ≡ get_or steps i step → AllByRecursion IsWritable steps → IsWritable step
each_at [] i step l is h = absurd (omega (arith, l))
each_at (s ∷ steps) zero step l is h = subst IsWritable (sym is) h.0
each_at (s ∷ steps) (suc i) step l is h = each_at steps i step (omega (arith, l)) is h.1

-- the step at hand can be written, with its number
pub step_writable : (steps : List Step) (i : ℕ) (step : Step) → i < length steps → step ≡ get_or steps i step → AreWritable steps → IsInRange step
step_writable steps i step l is w = (each_at steps i step l is w.each).in_range

pub here_writable : (steps : List Step) (i : ℕ) → i < length steps → AreWritable steps → IsInRange (get_or steps i no_step)
here_writable steps i l w = step_writable steps i (get_or steps i no_step) l (sym (get_or_default steps i (get_or steps i no_step) no_step l)) w

pub step_numbered : (steps : List Step) (i : ℕ) → i < length steps → AreWritable steps → IsStepNumber (i + 1)
step_numbered steps i l w = record { positive = omega arith; bounded = (let c = w.count in omega (arith, c, l)) }

module _ (name : List ℕ) (p : Contents) (steps : List Step) (core : Core) (written : List Step) (are : written ≡ core.steps) where
  -- the trimmed log was not written whole
  pub core_stopped : {T U : Type 0} {a b : World} {e : Stop} (r : Result U Stop) → IsErr r × IsErrAnd r (λ y. y ≡ e) → Wrote {T = T} (file_script name (log_lines written)) a b (Err e) → Wrote (core_script name p steps core) a b r
  core_stopped {T = T} r is w = then_stopped {T = T} (Put (core_text (length p.rules) (length steps) core) ∷ []) is (wrote_as (ap (λ (s : List Step). file_script name (log_lines s)) are) w)

  -- it was, and then the core came to be told
  pub core_told : {T U : Type 0} {a b c : World} {x : T} {r : Result U Stop} (rules counted : ℕ) → rules ≡ length p.rules → counted ≡ length steps → Wrote {T = T} (file_script name (log_lines written)) a b (Ok x) → Wrote (Put (core_text rules counted core) ∷ []) b c r → Wrote (core_script name p steps core) a c r
  core_told rules counted e f w put =
      then_rest (wrote_as (ap (λ (s : List Step). file_script name (log_lines s)) are) w) (wrote_as (ap (λ n. Put (core_text n counted core) ∷ []) e ∙ ap (λ n. Put (core_text (length p.rules) n core) ∷ []) f) put)
