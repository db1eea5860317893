-- What is told of three runs is what the drill says.
use Rattle.std.proofs.Common.{◌≡◌, ℕ, false, List, ◌++◌, codes, decimal, Result, Ok, Err, refl, sym, ap, subst, ◌∙◌, None}
use Rattle.std.specs.Prelude.{ℤ, IsOk, IfOk}
use Rattle.std.specs.declared.vec.Vec.{Vec}
use Rattle.std.specs.declared.alloc.Global.{Global}
use Rattle.std.specs.declared.alloc.AllocError.{AllocError as Memory}
use Rattle.dcsp_defs.specs.Csp.{Csp}
use Rattle.dcsp_rule.specs.Problems.{Contents, csp_of}
use Rattle.abt_defs.specs.Network.{Network}
use Rattle.abt_defs.specs.Runs as runs
use Rattle.ngd_log.specs.Logs.{log_text}
use Rattle.ngd_check.specs.declared.Finding.{Finding}
use Rattle.abt_schedule.specs.Answers.{word_at, generator_of}
use Rattle.dcsp_gen.specs.Problems.{sparse_text, queens_text, pigeons_text}
use Rattle.abt_session.specs.Running.{IsEnd, Gives}
use Rattle.abt_defs.specs.declared.end.End.{End}
use Rattle.abt_defs.specs.declared.end.End.TheVariants.{Solved, Refuted, Spent, Capped}
use Rattle.abt_session.specs.declared.outcome.Outcome.{Outcome}
use Rattle.dcsp_script.specs.declared.status.Status.{Status}
use Rattle.abt_input.specs.Inputs.{IsModelOf}
use Rattle.line_check.specs.Checks.{IsFoundFor, finding_text}
use Rattle.line_replay.specs.Asked.{seeded_session}
use Rattle.line_drill.specs.Drills.{Drill, log_name, run_from, end_word, run_text, lines_of, drill_text, is_unfinished, status_of, drill_status}
use Rattle.line_drill.specs.Outcomes.{outcome_word, outcome_text, is_open_end, told_text, told_status}

-- ---- one run

word_is : (p : Csp) (net : Network) (ended : runs.End) (e : End (List ℤ)) → IsEnd None p net ended e → outcome_word e ≡ end_word ended
word_is p net ended (Solved list) h = ap end_word (sym h.0)
word_is p net ended Refuted h = ap end_word (sym h)
word_is p net ended Spent h = ap end_word (sym h)
word_is p net ended Capped h = ap end_word (sym h)

open_is : (p : Csp) (net : Network) (ended : runs.End) (e : End (List ℤ)) → IsEnd None p net ended e → is_open_end e ≡ is_unfinished ended
open_is p net ended (Solved list) h = ap is_unfinished (sym h.0)
open_is p net ended Refuted h = ap is_unfinished (sym h)
open_is p net ended Spent h = ap is_unfinished (sym h)
open_is p net ended Capped h = ap is_unfinished (sym h)

-- the outcome is that of the problem's run from the seed
abbrev pub IsTrial : ℕ → Contents → Outcome → Type 0
IsTrial seed p outcome = Gives (seeded_session None p seed log_name false) outcome

text_is : (seed : ℕ) (name : List ℕ) (p : Contents) (outcome : Outcome) → IsTrial seed p outcome → outcome_text name outcome ≡ run_text name (run_from p seed)
text_is seed name p outcome h =
    ap (λ w. name ++ w ++ codes " deliveries " ++ decimal outcome.deliveries) (word_is (csp_of p) (run_from p seed).net (run_from p seed).end outcome.end h.end)
    ∙ ap (λ n. name ++ end_word (run_from p seed).end ++ codes " deliveries " ++ decimal n) h.deliveries

unfinished_is : (seed : ℕ) (p : Contents) (outcome : Outcome) → IsTrial seed p outcome → is_open_end outcome.end ≡ is_unfinished (run_from p seed).end
unfinished_is seed p outcome h = open_is (csp_of p) (run_from p seed).net (run_from p seed).end outcome.end h.end

-- ---- three runs

-- the four lines
abbrev put_together : List ℕ → List ℕ → List ℕ → ℕ → Finding → List ℕ
put_together sparse queens pigeons steps finding =
    sparse ++ codes "\n" ++ queens ++ codes "\n" ++ pigeons ++ codes " steps " ++ decimal steps ++ codes "\n" ++ codes "pigeons 5 " ++ finding_text finding

module _ (seed : ℕ) (sparse queens pigeons : Contents) (a b c : Outcome) (finding : Finding)
    (sparse_is : IsModelOf (sparse_text 500 (word_at (generator_of seed))) sparse) (queens_is : IsModelOf (queens_text 6) queens) (pigeons_is : IsModelOf (pigeons_text 5) pigeons)
    (found : IsFoundFor pigeons (log_text (run_from pigeons seed).net.steps) finding)
    (of_sparse : IsTrial seed sparse a) (of_queens : IsTrial seed queens b) (of_pigeons : IsTrial seed pigeons c) where
  same_text : told_text a b c finding ≡ lines_of seed sparse queens pigeons finding
  same_text =
      ap (λ x. put_together x (outcome_text (codes "queens 6 ") b) (outcome_text (codes "pigeons 5 ") c) c.steps finding) (text_is seed (codes "sparse 500 ") sparse a of_sparse)
      ∙ ap (λ x. put_together (run_text (codes "sparse 500 ") (run_from sparse seed)) x (outcome_text (codes "pigeons 5 ") c) c.steps finding) (text_is seed (codes "queens 6 ") queens b of_queens)
      ∙ ap (λ x. put_together (run_text (codes "sparse 500 ") (run_from sparse seed)) (run_text (codes "queens 6 ") (run_from queens seed)) x c.steps finding) (text_is seed (codes "pigeons 5 ") pigeons c of_pigeons)
      ∙ ap (λ n. put_together (run_text (codes "sparse 500 ") (run_from sparse seed)) (run_text (codes "queens 6 ") (run_from queens seed)) (run_text (codes "pigeons 5 ") (run_from pigeons seed)) n finding) of_pigeons.steps

  same_status : told_status a b c ≡ status_of seed sparse queens pigeons
  same_status = rw (unfinished_is seed sparse a of_sparse, unfinished_is seed queens b of_queens, unfinished_is seed pigeons c of_pigeons) refl

  pub drilled : (status : Status) (text : List ℕ) → status ≡ told_status a b c → text ≡ told_text a b c finding → (d : Drill seed) × (status ≡ drill_status seed d) × (text ≡ drill_text seed d)
  drilled status text is told = (
    record { sparse = sparse; queens = queens; pigeons = pigeons; finding = finding; sparse_is = sparse_is; queens_is = queens_is; pigeons_is = pigeons_is; found = found },
    is ∙ same_status,
    told ∙ same_text,
  )

-- the model of a text that was made
pub model_made : (r : Result (Vec ℕ Global) Memory) (p : Contents) (text : List ℕ) → IsOk r → IfOk r (λ bytes. IsModelOf bytes.items p) → IfOk r (λ bytes. bytes.items ≡ text) → IsModelOf text p
model_made (Ok bytes) p text ok model is = subst (λ t. IsModelOf t p) is model
model_made (Err e) p text ok model is = absurd (let no = ok in cc)
