use Rattle.std.proofs.Common.{take}
use Rattle.std.specs.List.{AllZip}
use Rattle.dcsp_defs.specs.Csp.{domain, with_value}
use Rattle.dcsp_rule.specs.Problems.{csp_of}
use Rattle.ngd_check.specs.Citing.{IsReasonUnder}
use Rattle.ngd_check.proofs.step.are_reasons.Given as goal

abbrev pub invariant-loop-place : goal.invariant-loop-place
invariant-loop-place g l = AllZip (λ value. IsReasonUnder (csp_of l.problem) (g.C.Cites.cited l.nogoods) (with_value l.var value (g.L.Lookup.values l.known))) (take l.place (domain (csp_of l.problem) l.var)) (take l.place l.reasons)
