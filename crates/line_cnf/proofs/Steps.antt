-- The steps of a formula's run can be clauses.
use Rattle.std.proofs.Common.{◌≡◌, ℕ, suc, List, [], ◌∷◌, take, Option, Some, None, slice_get, refl, sym, subst, inl, inr, arith}
use Rattle.std.specs.Prelude.{All, IfSome, MatchOption}
use Rattle.std.specs.List.{AllByRecursion}
use Rattle.std.proofs.lemmas.List.Elements.{All-nil, All-cons}
use Rattle.dcsp_defs.specs.Pairs.{IsRising}
use Rattle.dcsp_defs.specs.Words.{In}
use Rattle.dcsp_defs.specs.Csp.{Nogood}
use Rattle.dcsp_defs.specs.declared.Step.{Step}
use Rattle.dcsp_defs.specs.Derivation.{IsRight, IsRightAt, IsRightNowhere, IsDerivation}
use Rattle.dcsp_rule.specs.Problems.{Contents, csp_of}
use Rattle.cnf_front.specs.Clauses.{IsBinary}
use Rattle.abt_network.specs.Standing.{IsRightStep}
use Rattle.line_cnf.specs.CnfOutcomes.{IsBinaryStep, IsFormula}
use Rattle.line_cnf.proofs.Domains.{HasBinary, formula_binary, pair_binary}

-- what holds of each item, by its place
all_at : {X : Type 0} (P : X → Type 0) (xs : List X) → ((k : ℕ) (x : X) → slice_get xs k ≡ Some x → P x) → AllByRecursion P xs
all_at P [] h = tt
all_at P (x ∷ xs) h = (h 0 x refl, all_at P xs (λ k y e. h (suc k) y e))

all_of : {X : Type 0} (P : X → Type 0) (xs : List X) → AllByRecursion P xs → All P xs
all_of P [] h = All-nil P
all_of P (x ∷ xs) h = All-cons P x xs h.0 (all_of P xs h.1)

all_in : {X : Type 0} (P : X → Type 0) (xs : List X) → ((x : X) → In x xs → P x) → AllByRecursion P xs
all_in P [] h = tt
all_in P (x ∷ xs) h = (h x (inl refl), all_in P xs (λ y i. h y (inr i)))

-- what a right step's nogood is
pub record IsFine (pairs : Nogood) : Type 0 where
  pub rising : IsRising pairs
  pub binary : AllByRecursion IsBinary pairs

nothing_fine : IsFine []
nothing_fine = record { rising = λ k l. absurd (omega arith); binary = tt }

module _ (p : Contents) (n : ℕ) (h : HasBinary p n) where
  step_fine : (earlier : List Step) (s : Step) → IsRight (csp_of p) earlier s → IsFine s.nogood
  step_fine earlier s r = of s.variable r
    where
      of : (o : Option ℕ) → MatchOption o (IsRightNowhere (csp_of p) s) (λ x. IsRightAt (csp_of p) earlier x s) → IsFine s.nogood
      of None k = subst IsFine (sym k.nogood) nothing_fine
      of (Some x) k = record { rising = k.rising; binary = all_in IsBinary s.nogood (λ y i. pair_binary p n h y (k.pairs y i)) }

  module _ (steps : List Step) (right : IsDerivation (csp_of p) steps) where
    pub all_fine : AllByRecursion (λ (s : Step). IsFine s.nogood) steps
    all_fine = all_at (λ (s : Step). IsFine s.nogood) steps (λ k s e. step_fine (take k steps) s (right k s e))

module _ (p : Contents) (formula : IsFormula p) where
  -- the steps of a derivation from a formula's problem have pairs of 0 and 1
  pub all_binary : (steps : List Step) → IsDerivation (csp_of p) steps → All IsBinaryStep steps
  all_binary steps right =
      let b = formula_binary formula.0 p formula.1 in
      all_of IsBinaryStep steps (all_at IsBinaryStep steps (λ k s e. all_of IsBinary s.nogood (step_fine p b.0 b.1 (take k steps) s (right k s e)).binary))

  -- and so has a right step, if there is one
  pub step_binary : (earlier : List Step) (o : Option Step) → IsRightStep (csp_of p) earlier o → IfSome o IsBinaryStep
  step_binary earlier None right = tt
  step_binary earlier (Some t) right = let b = formula_binary formula.0 p formula.1 in all_of IsBinary t.nogood (step_fine p b.0 b.1 earlier t right).binary
