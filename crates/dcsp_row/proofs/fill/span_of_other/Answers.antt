use Rattle.std.proofs.Common.{◌≡◌, ◌≢◌, ℕ, ◌<◌, ◌≤◌, length, get_or, arith, ◌∙◌, ap, sym, subst, ℤ, List, not, true, false}
use Rattle.std.specs.Prelude.{IfSome, IsTrue, pos}
use Rattle.dcsp_defs.specs.Csp.{domain, filled, with_value}
use Rattle.dcsp_rule.specs.declared.rule.Rule.{Rule}
use Rattle.dcsp_rule.specs.Rules.{has_shape, mentions, no_rule, scope_of, IsRuleOf}
use Rattle.dcsp_rule.specs.Pairs.{compares_variable}
use Rattle.dcsp_rule.specs.Lent.{lent_rule}
use Rattle.dcsp_rule.specs.Problems.{csp_of, constraint_at, rule_at}
use Rattle.dcsp_meaning.specs.Sums.{widest}
use Rattle.dcsp_rule.specs.Widths.{rule_sizes}
use Rattle.dcsp_defs.specs.Words.{In}
use Rattle.dcsp_problem.proofs.RisingNumbers.{In-filter_below, In-get_or}
use Rattle.std.proofs.lemmas.Bool.{eqb-false}
use Rattle.std.proofs.lemmas.List.Elements.{All-get_or}
use Rattle.dcsp_problem.proofs.Narrow.{narrow_of_known}
use Rattle.dcsp_row.specs.Easy.{has_span, is_plain}
use Rattle.dcsp_row.specs.Rows.{own_at, is_false, is_ruled_out}
use Rattle.dcsp_row.specs.Spans.{SpansWhere}
use Rattle.dcsp_row.proofs.Domains.{get_or_found, own_in_domains}
use Rattle.dcsp_row.proofs.RowLaws.{not_known, all_known, scope_within}
use Rattle.dcsp_row.proofs.EasyLaws.{span_where}
use Rattle.dcsp_row.proofs.ClosedLaws.{by_plain, no_variable}
use Rattle.dcsp_row.proofs.fill.span_of_other.Goals as goal

pub returns-then-not-knows_others-clause-span : goal.returns-then-not-knows_others-clause-span
returns-then-not-knows_others-clause-span g c = λ place within.
    let value = own_at (domain (csp_of c.args.problem.now) c.args.var) place in
    c.whole.ensures place ∙ not_known (with_value c.args.var value (g.L.Lookup.values c.args.lookup.now)) (constraint_at c.args.problem.now c.args.rule) c.scope-scope.result.now c.knows_others.result c.scope-scope.ensures.scope
    (c.knows_others.ensures value) c.if-not-knows_others.true

pub span_of_sum-requires-clause-shape : goal.span_of_sum-requires-clause-shape
span_of_sum-requires-clause-shape g c =
    let p = c.args.problem.now in
    subst (λ (rule : Rule). IsTrue (has_shape rule)) (get_or_found p.rules c.args.rule (lent_rule c.rule.result) no_rule c.rule.ensures) (All-get_or (IsRuleOf (length p.domains)) p.rules c.args.rule no_rule c.requires.rule c.vars-variables.ensures.problem.rules).shape

pub span_of_sum-requires-clause-narrow : goal.span_of_sum-requires-clause-narrow
span_of_sum-requires-clause-narrow g c = λ k within.
    let p = c.args.problem.now in
    let var = c.args.var in
    let values = domain (csp_of p) var in
    let there : k < length values = omega (arith, within, ap length c.domain.ensures) in
    let known = with_value var (own_at values k) (g.L.Lookup.values c.args.lookup.now) in
    let all = own_in_domains (csp_of p) var (own_at values k) (g.L.Lookup.values c.args.lookup.now) (In-get_or values k (pos 0) there) c.requires.known in
    let scope = scope_within p known c.args.rule c.scope-scope.result.now c.knows_others.result all c.scope-scope.ensures.inside c.scope-scope.ensures.scope (c.knows_others.ensures (own_at values k)) c.if-not-knows_others.false in
    let narrow = narrow_of_known p known c.args.rule c.vars-variables.ensures.problem c.requires.rule scope in
    subst (λ (d : List ℤ). rule_sizes (lent_rule c.rule.result) (filled (with_value var (own_at d k) (g.L.Lookup.values c.args.lookup.now))) ≤ widest) (sym c.domain.ensures)
    (subst (λ (rule : Rule). rule_sizes rule (filled known) ≤ widest) (get_or_found p.rules c.args.rule (lent_rule c.rule.result) no_rule c.rule.ensures) narrow)

pub returns-clause-span : goal.returns-clause-span
returns-clause-span g c =
    let p = c.args.problem.now in
    let var = c.args.var in
    let known = g.L.Lookup.values c.args.lookup.now in
    let result = c.span_of_sum.result in
    let here = subst (λ (values : List ℤ). IfSome result (SpansWhere (is_false (lent_rule c.rule.result) var known) values)) c.domain.ensures c.span_of_sum.ensures.span in
    let told = subst (λ (rule : Rule). IfSome result (SpansWhere (is_false rule var known) (domain (csp_of p) var))) (sym (get_or_found p.rules c.args.rule (lent_rule c.rule.result) no_rule c.rule.ensures)) here in
    span_where _ (is_ruled_out p c.args.rule var known) (domain (csp_of p) var)
    (λ value. all_known (with_value var value known) (constraint_at p c.args.rule) c.scope-scope.result.now c.knows_others.result c.scope-scope.ensures.scope (c.knows_others.ensures value) c.if-not-knows_others.false) result told

pub returns-clause-some : goal.returns-clause-some
returns-clause-some g c = λ has.
    let p = c.args.problem.now in
    let rule = rule_at p c.args.rule in
    let is = get_or_found p.rules c.args.rule (lent_rule c.rule.result) no_rule c.rule.ensures in
    let shape = (All-get_or (IsRuleOf (length p.domains)) p.rules c.args.rule no_rule c.requires.rule c.vars-variables.ensures.problem.rules).shape in
    let compares : compares_variable rule ≡ true → ⊥ = λ t. let clash : false ≡ true = ap not (sym t) ∙ c.requires.compares in cc in
    let scope = c.scope-scope.result.now in
    let apart : length scope ≢ 0 = eqb-false (length scope) 0 (sym c.is_empty.ensures ∙ c.if-is_empty.false) in
    let some : 0 < length scope = omega (arith, apart) in
    let v = get_or scope 0 0 in
    let inside : In v (scope_of (length p.domains) rule) = subst (λ (l : List ℕ). In v l) c.scope-scope.ensures.scope (In-get_or scope 0 0 some) in
    let there = (In-filter_below (mentions rule) (length p.domains) v inside).1 in
    by_plain rule (λ plain. absurd (no_variable c.args.var v rule shape plain has compares there)) (λ sum. c.span_of_sum.ensures.some (ap (λ r. not (is_plain r)) (sym is) ∙ sum) (ap (λ r. has_span c.args.var r) (sym is) ∙ has))
