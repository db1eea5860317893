-- What a formula's run gave, and what is written of it.
use Rattle.std.proofs.Common.{◌≡◌, ℕ, List, [], ◌∷◌, ◌++◌, Option, Result, Ok, Err, refl, sym, ap, subst, ◌∙◌, None}
use Rattle.std.specs.Prelude.{ℤ, IsErr, IsErrAnd}
use Rattle.dcsp_defs.specs.Csp.{IsCsp}
use Rattle.dcsp_defs.specs.Derivation.{IsDerivation}
use Rattle.dcsp_rule.specs.Problems.{Contents, csp_of}
use Rattle.dcsp_script.specs.declared.stop.Stop.{Stop}
use Rattle.dcsp_script.specs.Scripts.{Put, World}
use Rattle.dcsp_script.specs.Ways.{Wrote}
use Rattle.dcsp_script.proofs.Lines.{then_rest, then_stopped}
use Rattle.abt_defs.specs.Runs.{Run}
use Rattle.law_runs.proofs.Whole.{verdicts}
use Rattle.abt_session.specs.Ends.{BareEnd, end_of}
use Rattle.abt_session.specs.Running.{IsEnd, IsOutcome}
use Rattle.abt_defs.specs.declared.end.End.{End}
use Rattle.abt_defs.specs.declared.end.End.TheVariants.{Solved, Refuted, Spent, Capped}
use Rattle.abt_session.specs.declared.outcome.Outcome.{Outcome}
use Rattle.abt_session.proofs.Pieces.{wrote_as, stopped_so}
use Rattle.line_replay.specs.Endings.{final_values}
use Rattle.line_replay.specs.Asked.{most_deliveries}
use Rattle.line_replay.proofs.Telling.{as_ok}
use Rattle.line_cnf.specs.CnfRuns.{cnf_asked, cnf_run, verdict_text, deliveries_text, cnf_text, refutation_at, proof_script, cnf_script}
use Rattle.line_cnf.specs.ClauseRows.{steps_row}
use Rattle.line_cnf.specs.ClauseRuns.{StopsAs}
use Rattle.line_cnf.specs.CnfOutcomes.{end_text, outcome_text, kept_at, HasMade}
use Rattle.line_cnf.specs.declared.apart.Made.{Made}
use Rattle.line_cnf.specs.declared.clause_run.ClauseRun.{ClauseRun}
use Rattle.line_cnf.proofs.ClauseRows.{kept_is}

module _ (p : Contents) (run : Run) where
  end_text_is : (end : End (List ℤ)) → IsEnd None (csp_of p) run.net run.end end → end_text end ≡ verdict_text (final_values None p run) run.end
  end_text_is (Solved list) h = rw (h.0, h.1) refl
  end_text_is Refuted h = rw h refl
  end_text_is Spent h = rw h refl
  end_text_is Capped h = rw h refl

  -- what was given is printed as the run's end
  pub text_is : (outcome : Outcome) → IsOutcome None (csp_of p) run.net run.end outcome → outcome_text outcome ≡ cnf_text p run
  text_is outcome h =
      ap (λ t. t ++ deliveries_text outcome.deliveries) (end_text_is outcome.end h.end)
      ∙ ap (λ n. verdict_text (final_values None p run) run.end ++ deliveries_text n) h.deliveries

-- the steps of the run are right
pub right_steps : (p : Contents) (seed : ℕ) → IsCsp (csp_of p) → IsDerivation (csp_of p) (cnf_run p seed).net.steps
right_steps p seed ok = (verdicts (csp_of p) ok most_deliveries (cnf_asked p seed).session.choices).right

-- what was made of a run that stopped
pub made_is : (p : Contents) (run : Run) (r : ClauseRun) (end : BareEnd) (outcome : Outcome) (kept : Option (List ℤ)) → StopsAs p run r end → IsOutcome None (csp_of p) run.net (end_of end) outcome → kept ≡ kept_at (end_of end) r.clauses
    → HasMade p run (record { outcome = outcome; refutation = kept })
made_is p run r end outcome kept h given is = record {
  outcome = subst (λ e. IsOutcome None (csp_of p) run.net e outcome) (sym h.end) given;
  refutation = is ∙ ap (kept_at (end_of end)) h.at_end.clauses ∙ ap (λ e. kept_at e (steps_row run.net.steps)) (sym h.end) ∙ kept_is run.end run.net.steps;
}

-- ---- the script

module _ (p : Contents) (proof : List ℕ) (run : Run) (made : Made) (h : HasMade p run made) where
  -- the proof was not written
  pub proof_stopped : {T U : Type 0} {a b : World} {e : Stop} (r : Result U Stop) → IsErr r × IsErrAnd r (λ y. y ≡ e) → Wrote {T = T} (proof_script proof (refutation_at run.end run.net.steps)) a b (Err e) → Wrote (cnf_script p proof run) a b r
  proof_stopped r is w = then_stopped (Put (cnf_text p run) ∷ []) is w

  last_is : Put (outcome_text made.outcome) ∷ [] ≡ Put (cnf_text p run) ∷ []
  last_is = ap (λ t. Put t ∷ []) (text_is p run made.outcome h.outcome)

  -- the answer was not put
  pub answer_stopped : {T U V : Type 0} {a b c : World} {x : T} {e : Stop} (r : Result V Stop) → IsErr r × IsErrAnd r (λ y. y ≡ e) → Wrote {T = T} (proof_script proof (refutation_at run.end run.net.steps)) a b (Ok x) → Wrote {T = U} (Put (outcome_text made.outcome) ∷ []) b c (Err e) → Wrote (cnf_script p proof run) a c r
  answer_stopped r is w v = then_rest w (stopped_so r is (wrote_as last_is v))

  -- it was
  pub answer_put : {T U V : Type 0} {a b c : World} {x : T} {y : U} (z : V) → Wrote {T = T} (proof_script proof (refutation_at run.end run.net.steps)) a b (Ok x) → Wrote {T = U} (Put (outcome_text made.outcome) ∷ []) b c (Ok y) → Wrote (cnf_script p proof run) a c (Ok z)
  answer_put z w v = then_rest w (as_ok z (wrote_as last_is v))
