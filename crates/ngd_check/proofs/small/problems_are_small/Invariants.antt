use Rattle.std.proofs.Common.{ℕ, ℤ, ◌<◌, FitsSigned}
use Rattle.std.specs.Int.{w64}
use Rattle.dcsp_defs.specs.Words.{In}
use Rattle.dcsp_defs.specs.Csp.{domain}
use Rattle.dcsp_rule.specs.Problems.{csp_of}
use Rattle.ngd_check.proofs.small.problems_are_small.Given as goal

-- the values of the variables so far have 64 bits
abbrev pub invariant-loop-var : goal.invariant-loop-var
invariant-loop-var l = (x : ℕ) → x < l.var → (v : ℤ) → In v (domain (csp_of l.problem) x) → FitsSigned w64 v
