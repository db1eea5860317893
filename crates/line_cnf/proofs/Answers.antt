-- The answers on a proof.
use Rattle.std.proofs.Common.{◌≡◌, ℕ, ◌-◌, ◌<◌, List, Option, Some, None, refl, sym, ap, subst, inl, inr, arith}
use Rattle.std.specs.Prelude.{ℤ, neg_ℤ}
use Rattle.std.proofs.lemmas.Bool.{cases_lt}
use Rattle.dcsp_outside.specs.Outside.{bytes_of}
use Rattle.dcsp_rule.specs.Problems.{Contents}
use Rattle.rup_check.specs.Literals.{IsUnsatisfiable}
use Rattle.rup_check.specs.Propagation.{IsAccepted}
use Rattle.rup_check.specs.Verdicts.{IsFirstBad, IsVerdict}
use Rattle.rup_check.specs.declared.check.Rup.{Rup}
use Rattle.rup_check.specs.declared.check.Rup.TheVariants.{Verified, BadClause, NotEmpty}
use Rattle.dcsp_script.specs.declared.status.Status.{Status}
use Rattle.dcsp_script.specs.declared.status.Status.TheVariants.{Good, No}
use Rattle.dcsp_script.specs.Statuses.{IsFinal, IsRefusal}
use Rattle.dcsp_script.specs.Promises.{IsHeld}
use Rattle.abt_input.specs.Inputs.{IsFormulaOf, HasClauses}
use Rattle.abt_input.proofs.Once.{one_formula, one_proof}
use Rattle.line_cnf.specs.Satisfying.{clauses_of}
use Rattle.line_cnf.specs.RupPromise.{rup_status, IsRefuted, HoldsRefuted, IsExact, TellsExactly}
use Rattle.line_cnf.proofs.Satisfying.{is_refuted}

module _ (formula proof : List (List ℤ)) where
  same_first : (m n : ℕ) → IsFirstBad neg_ℤ formula proof m → IsFirstBad neg_ℤ formula proof n → m ≡ n
  same_first m n h k = elim (cases_lt m n) [
    | inl l ↦ absurd (h.bad (k.before m l))
    | inr le ↦ elim (cases_lt n m) [ inl l ↦ absurd (k.bad (h.before n l)) | inr ge ↦ omega (arith, le, ge) ]
  ]

  bad_of_accepted : (n : ℕ) → IsVerdict neg_ℤ formula proof (BadClause n) → IsAccepted neg_ℤ formula proof → ⊥
  bad_of_accepted n h a = h.1.bad (a.0 (n - 1) h.1.in_range)

  -- there is one answer
  pub one_answer : (a b : Rup) → IsVerdict neg_ℤ formula proof a → IsVerdict neg_ℤ formula proof b → a ≡ b
  one_answer Verified Verified h k = refl
  one_answer Verified (BadClause n) h k = absurd (bad_of_accepted n k h)
  one_answer Verified NotEmpty h k = absurd (k.1 h.1)
  one_answer (BadClause n) Verified h k = absurd (bad_of_accepted n h k)
  one_answer (BadClause m) (BadClause n) h k = let e = same_first (m - 1) (n - 1) h.1 k.1 in let a : 0 < m = h.0 in let b : 0 < n = k.0 in ap BadClause (omega (arith, e, a, b))
  one_answer (BadClause n) NotEmpty h k = absurd (h.1.bad (k.0 (n - 1) h.1.in_range))
  one_answer NotEmpty Verified h k = absurd (h.1 k.1)
  one_answer NotEmpty (BadClause n) h k = absurd (k.1.bad (h.0 (n - 1) k.1.in_range))
  one_answer NotEmpty NotEmpty h k = refl

pub final_answer : (a : Rup) → IsFinal (rup_status a)
final_answer Verified = tt
final_answer (BadClause n) = tt
final_answer NotEmpty = tt

pub no_refusal : (a : Rup) → IsRefusal (rup_status a) → ⊥
no_refusal Verified h = h
no_refusal (BadClause n) h = h
no_refusal NotEmpty h = h

-- status 0 is that of one answer
pub verified_of : (a : Rup) → rup_status a ≡ Good → a ≡ Verified
verified_of Verified e = refl
verified_of (BadClause n) e = absurd cc
verified_of NotEmpty e = absurd cc

module _ (problem : Contents) (clauses : List (List ℤ)) where
  rejects : (IsAccepted neg_ℤ (clauses_of problem) clauses → ⊥) → IsExact problem clauses No
  rejects none = record { accepted = ((λ e. absurd cc), λ a. absurd (none a)); rejected = ((λ e. none), λ n. refl) }

  pub exact : (a : Rup) → IsVerdict neg_ℤ (clauses_of problem) clauses a → IsExact problem clauses (rup_status a)
  exact Verified h = record { accepted = ((λ e. h), λ a. refl); rejected = ((λ e. absurd cc), λ n. absurd (n h)) }
  exact (BadClause n) h = rejects (bad_of_accepted (clauses_of problem) clauses n h)
  exact NotEmpty h = rejects (λ a. h.1 a.1)

  -- where the folder tells both files
  pub tells_exactly : (files : Option (List ℕ → Option (List ℕ))) (c d : List ℕ) (a : Rup) → (text : List ℕ) × IsHeld files c text × IsFormulaOf text problem → (text : List ℕ) × IsHeld files d text × HasClauses text clauses
      → IsVerdict neg_ℤ (clauses_of problem) clauses a → TellsExactly files c d (rup_status a)
  tells_exactly None c d a h k v = tt
  tells_exactly (Some files) c d a h k v = λ p cs i j.
      let same_problem = one_formula (bytes_of (files c)) problem p (subst (λ t. IsFormulaOf t problem) h.1 h.2) i in
      let same_clauses = one_proof (bytes_of (files d)) clauses cs (subst (λ t. HasClauses t clauses) k.1 k.2) j in
      subst (λ x. IsExact p x (rup_status a)) same_clauses (subst (λ x. IsExact x clauses (rup_status a)) same_problem (exact a v))

  -- the same of a status, where the proof is read in a folder that tells the same
  pub tells_status : (files now : Option (List ℕ → Option (List ℕ))) (c d : List ℕ) (a : Rup) (status : Status) → now ≡ files → status ≡ rup_status a → (text : List ℕ) × IsHeld files c text × IsFormulaOf text problem → (text : List ℕ) × IsHeld now d text × HasClauses text clauses
      → IsVerdict neg_ℤ (clauses_of problem) clauses a → TellsExactly files c d status
  tells_status files now c d a status same is h k v = subst (TellsExactly files c d) (sym is) (tells_exactly files c d a h (subst (λ f. (text : List ℕ) × IsHeld f d text × HasClauses text clauses) same k) v)

pub holds_refuted : (files : Option (List ℕ → Option (List ℕ))) (c : List ℕ) (problem : Contents) → (text : List ℕ) × IsHeld files c text × IsFormulaOf text problem → IsUnsatisfiable (clauses_of problem) → HoldsRefuted files c
holds_refuted None c problem h none = tt
holds_refuted (Some files) c problem h none = λ p i.
    subst IsRefuted (one_formula (bytes_of (files c)) problem p (subst (λ t. IsFormulaOf t problem) h.1 h.2) i) (is_refuted h.0 problem h.2 none)
