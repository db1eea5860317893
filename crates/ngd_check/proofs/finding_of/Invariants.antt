use Rattle.std.proofs.Common.{take}
use Rattle.dcsp_defs.specs.Derivation.{IsDerivation}
use Rattle.dcsp_rule.specs.Problems.{csp_of}
use Rattle.ngd_check.proofs.finding_of.Given as goal

-- the steps so far are right
abbrev pub invariant-loop-place : goal.invariant-loop-place
invariant-loop-place l = IsDerivation (csp_of l.problem) (take l.place l.steps)
