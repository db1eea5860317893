-- Derivations with one step more.
use Rattle.std.proofs.Common.{List, [], ◌∷◌, ◌++◌, inl, inr, sym, subst}
use Rattle.dcsp_defs.specs.declared.Step.{Step}
use Rattle.dcsp_defs.specs.Csp.{Csp}
use Rattle.dcsp_defs.specs.Derivation.{IsRight, IsDerivation}
use Rattle.dcsp_defs.proofs.Lists.{get-more}

pub no_steps : (p : Csp) → IsDerivation p []
no_steps p k step e = cc

pub derivation_push : (p : Csp) (steps : List Step) (s : Step) → IsDerivation p steps → IsRight p steps s → IsDerivation p (steps ++ s ∷ [])
derivation_push p steps s h r = λ k step e. elim (get-more steps s step k e) [
  | inl old ↦ subst (λ (earlier : List Step). IsRight p earlier step) (sym old.1) (h k step old.0)
  | inr new ↦ subst (λ (earlier : List Step). IsRight p earlier step) (sym new.1) (subst (IsRight p steps) (sym new.0) r)
]
