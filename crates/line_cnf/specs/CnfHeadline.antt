-- What a run of `cnf` means to a user.
use Rattle.std.specs.Prelude.{◌≡◌, ◌≢◌, ℕ, ◌^◌, ◌<◌, ℤ, neg_ℤ, List, length, map, Option, Some, IfSome, Contains, None}
use Rattle.dcsp_outside.specs.Outside.{Told, bytes_of}
use Rattle.dcsp_rule.specs.Problems.{Contents}
use Rattle.rup_check.specs.ProofText.{proof_text}
use Rattle.rup_check.specs.Propagation.{IsAccepted}
use Rattle.rup_check.specs.declared.check.Rup.TheVariants.{Verified}
use Rattle.dcsp_script.specs.Promises.{Report}
use Rattle.dcsp_script.specs.declared.status.Status.{Status}
use Rattle.dcsp_script.specs.declared.status.Status.TheVariants.{Good, No}
use Rattle.abt_input.specs.Inputs.{IsFormulaOf}
use Rattle.line_replay.specs.Endings.{final_values}
use Rattle.line_replay.specs.Headline.{IsUnfinishedRun, IsBoundedRun}
use Rattle.line_cnf.specs.Satisfying.{clauses_of, step_clause}
use Rattle.line_cnf.specs.RupPromise.{rup_report, RupReport, IsRefuted}
use Rattle.line_cnf.specs.CnfRuns.{cnf_asked, cnf_run, value_literals}

-- the literals that are printed of a run where it is solved
abbrev pub printed_literals : Contents → ℕ → List ℤ
printed_literals p seed = value_literals (final_values None p (cnf_run p seed))

-- the clauses that are written of a run where it is refuted
abbrev pub written_clauses : Contents → ℕ → List (List ℤ)
written_clauses p seed = map step_clause (cnf_run p seed).net.steps

-- and their text
abbrev pub written_text : Contents → ℕ → List ℕ
written_text p seed = proof_text (written_clauses p seed)

-- each clause of the formula has one of these literals
abbrev pub IsSatisfiedBy : Contents → List ℤ → Type 0
IsSatisfiedBy p literals = (clause : List ℤ) → Contains (clauses_of p) clause → (y : ℤ) × Contains clause y × Contains literals y

-- The run of this formula's problem from this seed, by the status that goes with it.
pub record IsCnfRun (text : List ℕ) (p : Contents) (seed : ℕ) (status : Status) : Type 0 where
  -- with status 0 the literals that were printed satisfy each clause
  pub satisfied : status ≡ Good → IsSatisfiedBy p (printed_literals p seed)
  -- with status 1 the clauses that were written are a proof that is accepted
  pub accepted : status ≡ No → IsAccepted neg_ℤ (clauses_of p) (written_clauses p seed)
  -- `rup` reports that their text is verified, where they are fewer than 2^32
  pub verified : status ≡ No → length (written_clauses p seed) < 2 ^ 32 → (report : Report) → RupReport text (written_text p seed) report → report ≡ rup_report Verified
  -- and the formula cannot be satisfied
  pub refuted : status ≡ No → IsRefuted p
  -- status 5 comes exactly where nothing was refuted, a message is in transit, and the greatest number of deliveries was made
  pub unfinished : IsUnfinishedRun (cnf_asked p seed) status
  -- no more messages were delivered than the problem's bound, and fewer with status 5
  pub bounded : IsBoundedRun (cnf_asked p seed) status

-- Where the folder tells the formula under the name, its run was that.
abbrev pub HoldsCnfRun : Option (List ℕ → Option (List ℕ)) → List ℕ → ℕ → Status → Type 0
HoldsCnfRun files cnf_name seed status = IfSome files (λ f. (problem : Contents) → IsFormulaOf (bytes_of (f cnf_name)) problem → IsCnfRun (bytes_of (f cnf_name)) problem seed status)

-- the files before and after a run of a formula's problem
pub record WritesProof (p : Contents) (seed : ℕ) (proof_name : List ℕ) (status : Status) (files now : List ℕ → Option (List ℕ)) : Type 0 where
  -- with status 1 the proof is there, whole
  pub written : status ≡ No → now proof_name ≡ Some (written_text p seed)
  -- else nothing was written
  pub unwritten : status ≢ No → now proof_name ≡ files proof_name
  pub others : (name : List ℕ) → name ≢ proof_name → now name ≡ files name

-- Where the folder tells its files, the proof that was written is that of the formula under the name.
abbrev pub HoldsProof : List ℕ → List ℕ → ℕ → Status → Option (List ℕ → Option (List ℕ)) → Option (List ℕ → Option (List ℕ)) → Type 0
HoldsProof cnf_name proof_name seed status files now =
    Told files now (λ before after. (problem : Contents) → IsFormulaOf (bytes_of (before cnf_name)) problem → WritesProof problem seed proof_name status before after)
