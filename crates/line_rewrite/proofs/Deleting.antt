-- Steps that are written line by line with their deletions.
use Rattle.std.proofs.Common.{◌≡◌, ℕ, zero, suc, ◌+◌, ◌<◌, List, [], ◌∷◌, ◌++◌, length, get_or, drop, refl, sym, ap, ◌∙◌, arith, drop-cons, add-one}
use Rattle.std.proofs.lemmas.List.{map-append, drop_all}
use Rattle.dcsp_defs.specs.declared.Step.{Step}
use Rattle.dcsp_script.specs.Scripts.{Write, Append}
use Rattle.dcsp_defs.specs.declared.entry.Entry.{Entry}
use Rattle.ngd_log.specs.StepText.{step_line}
use Rattle.ngd_log.specs.Lines.{lines}
use Rattle.ngd_log.specs.Logs.{step_lines}
use Rattle.ngd_log.specs.EntryTexts.{deletion_line, entry_lines}
use Rattle.ngd_rewrite.specs.Upgrade.{ending, as_deletion, upgraded_from, deleted_count}
use Rattle.ngd_rewrite.proofs.Tables.{left_next}
use Rattle.line_rewrite.specs.UpgradePromise.{appends}
use Rattle.ngd_log.proofs.LogLines.{tail}
use Rattle.line_rewrite.proofs.Lines.{lines_left}

-- the line of a deletion comes before those after it
deletion_lines : (number : ℕ) (numbers : List ℕ) (rest : List Entry) → entry_lines number (as_deletion numbers ++ rest) ≡ entry_lines 1 (as_deletion numbers) ++ entry_lines number rest
deletion_lines number [] rest = refl
deletion_lines number (x ∷ numbers) rest = refl

-- the lines that are left begin with that of the step at hand, and that of the deletion after it
pub entry_left : (name : List ℕ) (steps : List Step) (i : ℕ) (step : Step) → i + 1 < length steps → step ≡ get_or steps i step
    → appends name (entry_lines (i + 1) (upgraded_from steps (i + 1) (drop i steps)))
    ≡ Append name (step_line (i + 1) step) ∷ (appends name (entry_lines 1 (as_deletion (ending steps (i + 1)))) ++ appends name (entry_lines (i + 1 + 1) (upgraded_from steps (i + 1 + 1) (drop (i + 1) steps))))
entry_left name steps i step lt is =
    let rest = upgraded_from steps (i + 1 + 1) (drop (i + 1) steps) in
    ap (λ (es : List Entry). appends name (entry_lines (i + 1) es)) (left_next steps i step lt is)
    ∙ ap (λ (ls : List (List ℕ)). Append name (step_line (i + 1) step) ∷ appends name ls) (deletion_lines (i + 1 + 1) (ending steps (i + 1)) rest)
    ∙ ap (λ (ws : List Write). Append name (step_line (i + 1) step) ∷ ws) (map-append (λ (line : List ℕ). Append name line) (entry_lines 1 (as_deletion (ending steps (i + 1)))) (entry_lines (i + 1 + 1) rest))

-- the lines of a deletion of equal numbers
pub deletion_as : (name : List ℕ) (numbers others : List ℕ) (rest : List Write) → numbers ≡ others → appends name (entry_lines 1 (as_deletion numbers)) ++ rest ≡ appends name (entry_lines 1 (as_deletion others)) ++ rest
deletion_as name numbers others rest e = ap (λ (ns : List ℕ). appends name (entry_lines 1 (as_deletion ns)) ++ rest) e

-- the step at a place
pub step_of : (steps : List Step) (i : ℕ) → i < length steps → (step : Step) × (step ≡ get_or steps i step)
step_of [] i lt = absurd (omega (arith, lt))
step_of (s ∷ steps) zero lt = (s, refl)
step_of (s ∷ steps) (suc i) lt = step_of steps i (omega (arith, lt))

-- what is left of a log's text begins with the line of the step at hand
pub text_left : (steps : List Step) (i : ℕ) (step : Step) (text : List ℕ) → i < length steps → step ≡ get_or steps i step → lines text ≡ step_lines (i + 1) (drop i steps) ++ tail ∷ []
    → lines text ≡ step_line (i + 1) step ∷ (step_lines (i + 1 + 1) (drop (i + 1) steps) ++ tail ∷ [])
text_left steps i step text lt is h = h ∙ ap (λ (ls : List (List ℕ)). ls ++ tail ∷ []) (lines_left steps i step lt is)

-- the last step stands alone
last_alone : (steps : List Step) (i : ℕ) (step : Step) → i + 1 ≡ length steps → step ≡ get_or steps i step → drop i steps ≡ step ∷ []
last_alone steps i step at is =
    drop-cons steps i step (omega (arith, at)) ∙ ap (λ n. get_or steps i step ∷ drop n steps) (sym (add-one i))
    ∙ ap (λ (ss : List Step). get_or steps i step ∷ ss) (drop_all (i + 1) steps (omega (arith, at))) ∙ ap (λ (s : Step). s ∷ []) (sym is)

-- at the end the line of the last step is left
pub last_left : (name : List ℕ) (steps : List Step) (i : ℕ) (step : Step) → i + 1 ≡ length steps → step ≡ get_or steps i step
    → appends name (entry_lines (i + 1) (upgraded_from steps (i + 1) (drop i steps))) ≡ Append name (step_line (i + 1) step) ∷ []
last_left name steps i step at is = ap (λ (o : List Step). appends name (entry_lines (i + 1) (upgraded_from steps (i + 1) o))) (last_alone steps i step at is)

-- and no deletion
pub last_deletes : (steps : List Step) (i : ℕ) (step : Step) → i + 1 ≡ length steps → step ≡ get_or steps i step → deleted_count (upgraded_from steps (i + 1) (drop i steps)) ≡ 0
last_deletes steps i step at is = ap (λ (o : List Step). deleted_count (upgraded_from steps (i + 1) o)) (last_alone steps i step at is)

-- some steps are deleted
pub one_deletion : (name numbers : List ℕ) → (length numbers ≡ 0 → ⊥) → Append name (deletion_line numbers) ∷ [] ≡ appends name (entry_lines 1 (as_deletion numbers))
one_deletion name [] some = absurd (some refl)
one_deletion name (x ∷ numbers) some = refl
