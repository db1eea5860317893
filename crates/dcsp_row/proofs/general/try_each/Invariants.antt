use Rattle.dcsp_defs.specs.Csp.{domain}
use Rattle.dcsp_rule.specs.Problems.{csp_of}
use Rattle.dcsp_row.specs.Rows.{is_ruled_out, MarksBelow}
use Rattle.dcsp_row.proofs.general.try_each.Given as goal

abbrev pub invariant-loop-place : goal.invariant-loop-place
invariant-loop-place g l = MarksBelow (is_ruled_out l.problem l.rule l.open_var.var (g.L.Lookup.values l.open_var.lookup.now)) (domain (csp_of l.problem) l.open_var.var) l.place l.row
