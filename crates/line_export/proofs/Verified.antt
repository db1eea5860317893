-- Whatever `rup` leaves of an exported formula and proof, it verified the proof or was stopped.
use Rattle.std.proofs.Common.{◌≡◌, ℕ, List, Option, Some, refl, sym, subst, inr}
use Rattle.std.specs.Prelude.{neg_ℤ}
use Rattle.dcsp_outside.specs.Outside.{bytes_of}
use Rattle.rup_check.specs.Propagation.{IsAccepted}
use Rattle.rup_check.specs.declared.check.Rup.TheVariants.{Verified}
use Rattle.dcsp_script.specs.declared.status.Status.{Status}
use Rattle.dcsp_script.specs.declared.status.Status.TheVariants.{Good, No, Words, Model, Input, Unfinished, Fault, Memory}
use Rattle.dcsp_script.specs.Statuses.{IsFinal}
use Rattle.dcsp_script.specs.Runs.{Ran}
use Rattle.dcsp_script.proofs.Following.{report_did}
use Rattle.abt_input.specs.Inputs.{HasClauses}
use Rattle.line_check.specs.Verifying.{VerifiesUnlessStopped}
use Rattle.line_cnf.specs.RupPromise.{rup_report, rup_promise, RupReport}
use Rattle.line_cnf.proofs.Lawful.{rup_lawful}
use Rattle.line_export.specs.Clauses.{Clause}
use Rattle.line_export.specs.Exporting.{IsProofVerified}
use Rattle.line_export.proofs.FormulaText.{IsReadBack}

-- the files hold a formula and a proof that is accepted for it
pub proof_verified : (files : List ℕ → Option (List ℕ)) (cnf proof cnf_bytes proof_bytes : List ℕ) (clauses steps : List Clause) → files cnf ≡ Some cnf_bytes → files proof ≡ Some proof_bytes → IsReadBack cnf_bytes clauses → HasClauses proof_bytes steps → IsAccepted neg_ℤ clauses steps → IsProofVerified files cnf proof
proof_verified files cnf proof cnf_bytes proof_bytes clauses steps is_cnf is_proof back read accepted old new err now status told ran = by_status status ran
  where
    report_is : RupReport (bytes_of (files cnf)) (bytes_of (files proof)) (rup_report Verified)
    report_is = subst (λ (b : Option (List ℕ)). RupReport (bytes_of b) (bytes_of (files proof)) (rup_report Verified)) (sym is_cnf)
        (subst (λ (b : Option (List ℕ)). RupReport cnf_bytes (bytes_of b) (rup_report Verified)) (sym is_proof)
        (inr (back.problem, back.formula, inr (steps, read, (Verified, subst (λ cs. IsAccepted neg_ℤ cs steps) (sym back.says) accepted, refl)))))

    -- a final status is that of the one report
    good : (s : Status) → Ran (rup_promise cnf proof) old new err now s → IsFinal s → s ≡ Good
    good s r f = (report_did (rup_promise cnf proof) (rup_lawful cnf proof) old new err now files told (rup_report Verified) report_is s r f).0

    by_status : (s : Status) → Ran (rup_promise cnf proof) old new err now s → VerifiesUnlessStopped s
    by_status Good r = tt
    by_status No r = absurd (let e = good No r tt in cc)
    by_status Words r = r
    by_status Model r = absurd (let e = good Model r tt in cc)
    by_status Input r = absurd (let e = good Input r tt in cc)
    by_status Unfinished r = absurd (let e = good Unfinished r tt in cc)
    by_status Fault r = tt
    by_status Memory r = tt
