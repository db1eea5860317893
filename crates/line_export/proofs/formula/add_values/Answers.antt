use Rattle.std.proofs.Common.{◌≡◌, List, length, map, sym, ap, ◌∙◌, arith}
use Rattle.dcsp_defs.specs.Words.{below}
use Rattle.dcsp_rule.specs.Problems.{csp_of}
use Rattle.line_export.specs.Clauses.{Clause, value_clause, with_clause, with_clauses}
use Rattle.line_export.proofs.Once.{with_next}
use Rattle.line_export.proofs.formula.add_values.Goals as goal

pub loop-var-preserved : goal.loop-var-preserved
loop-var-preserved c =
    let f = value_clause (csp_of c.args.atoms.now.problem.now) in
    c.in_ok-add.ensures ∙ ap (with_clause c.loop-var.clauses) c.in_ok-clause.ensures ∙ ap (λ (cs : List Clause). with_clause cs (f c.loop-var.var)) c.loop-var.invariant ∙ sym (with_next c.args.clauses.now f c.loop-var.var)

pub returns : goal.returns
returns c =
    let all = c.vars-var-end.ensures.vars in
    let at : c.loop-var.var ≡ length c.args.atoms.now.problem.now.domains = omega (arith, all) in
    c.loop-var.invariant ∙ ap (λ n. with_clauses c.args.clauses.now (map (value_clause (csp_of c.args.atoms.now.problem.now)) (below n))) at
