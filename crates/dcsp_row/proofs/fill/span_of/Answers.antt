use Rattle.std.proofs.Common.{◌≡◌, length, ◌∙◌, subst, ℤ, List, not, true, false, Bool, refl}
use Rattle.dcsp_defs.specs.Csp.{domain, with_value}
use Rattle.dcsp_rule.specs.Pairs.{compares_variable, is_missed}
use Rattle.dcsp_rule.specs.Problems.{csp_of, rule_at}
use Rattle.dcsp_problem.proofs.Narrow.{a_rule}
use Rattle.dcsp_problem.proofs.PairLaws.{missed_is}
use Rattle.dcsp_row.specs.Rows.{own_at}
use Rattle.dcsp_row.specs.Spans.{SpansWhere}
use Rattle.dcsp_row.proofs.fill.span_of.Goals as goal

pub span_of_pair-requires : goal.span_of_pair-requires
span_of_pair-requires g c = c.in-Some.ensures.pair.small

pub returns-in-Some-clause-span : goal.returns-in-Some-clause-span
returns-in-Some-clause-span g c =
    let p = c.args.problem.now in
    let var = c.args.open_var.now.var in
    let known = g.L.Lookup.values c.args.open_var.now.lookup.now in
    let pair = c.in-Some.pair in
    let ok = a_rule p c.args.rule c.vars-variables.ensures.problem c.requires.rule in
    let here = subst (λ (values : List ℤ). SpansWhere (λ x. is_missed pair (with_value var x known)) values c.span_of_pair.result) c.domain.ensures c.span_of_pair.ensures in
    λ k l. here k l ∙ missed_is (length p.domains) (rule_at p c.args.rule) pair ok c.in-Some.ensures.pair (with_value var (own_at (domain (csp_of p) var) k) known)

pub span_of_other-requires-clause-compares : goal.span_of_other-requires-clause-compares
span_of_other-requires-clause-compares g c = by_test (compares_variable (rule_at c.args.problem.now c.args.rule)) refl
  where
    by_test : (b : Bool) → compares_variable (rule_at c.args.problem.now c.args.rule) ≡ b → not b ≡ true
    by_test true t = let clash : false ≡ true = c.in_default.ensures.compared t in absurd cc
    by_test false t = refl
