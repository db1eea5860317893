use Rattle.std.proofs.Common.{◌≡◌, List, subst}
use Rattle.dcsp_defs.specs.declared.Step.{Step}
use Rattle.dcsp_defs.specs.Csp.{Csp, HasNoSolution, IsCsp}
use Rattle.dcsp_defs.proofs.Sound.{refutations_refute}
use Rattle.dcsp_rule.specs.Problems.{csp_of}
use Rattle.ngd_check.specs.declared.Finding.{Finding}
use Rattle.ngd_check.specs.declared.Finding.TheVariants.{Verified}
use Rattle.ngd_check.specs.Findings.{IsFinding}
use Rattle.ngd_check.proofs.check.Goals as goal

-- what is verified is a refutation, and so the problem has no solution
verified_refutes : (p : Csp) (steps : List Step) (f : Finding) → IsCsp p → IsFinding p steps f → f ≡ Verified → HasNoSolution p
verified_refutes p steps f ok h e = refutations_refute p ok steps (subst (IsFinding p steps) e h)

pub returns-clause-sound : goal.returns-clause-sound
returns-clause-sound c e = verified_refutes (csp_of c.args.problem.now) c.steps.result.now c.finding_of.result c.finding_of.ensures.well_formed c.finding_of.ensures.exact e
