use Rattle.std.proofs.Common.{◌<◌, ◌≤◌, length, arith, ◌∙◌, ap, sym, subst, ℤ, List}
use Rattle.dcsp_defs.specs.Csp.{domain, filled, with_value}
use Rattle.dcsp_rule.specs.declared.rule.Rule.{Rule}
use Rattle.dcsp_rule.specs.Rules.{no_rule}
use Rattle.dcsp_rule.specs.Lent.{lent_rule}
use Rattle.dcsp_rule.specs.Problems.{csp_of, constraint_at}
use Rattle.std.specs.Prelude.{pos}
use Rattle.dcsp_meaning.specs.Sums.{widest}
use Rattle.dcsp_rule.specs.Widths.{rule_sizes}
use Rattle.dcsp_problem.proofs.RisingNumbers.{In-get_or}
use Rattle.dcsp_problem.proofs.Narrow.{narrow_of_known}
use Rattle.dcsp_row.specs.Rows.{own_at, TellsFalse}
use Rattle.dcsp_row.proofs.Domains.{get_or_found, own_in_domains}
use Rattle.dcsp_row.proofs.RowLaws.{not_known, all_known, scope_within}
use Rattle.dcsp_row.proofs.fill.fill_row.Goals as goal

pub returns-then-not-knows_others : goal.returns-then-not-knows_others
returns-then-not-knows_others g c = (
  c.mark_span.ensures.size ∙ c.requires.size,
  λ place within.
      let value = own_at (domain (csp_of c.args.problem.now) c.args.open_var.now.var) place in
      let here : place < length c.mark_span.new.self = omega (arith, within, c.mark_span.ensures.size, c.requires.size) in
      c.mark_span.ensures.marks place here ∙ c.whole.ensures place ∙ not_known (with_value c.args.open_var.now.var value (g.L.Lookup.values c.args.open_var.now.lookup.now)) (constraint_at c.args.problem.now c.args.rule) c.scope.result.now c.knows_others.result c.scope.ensures.scope
      (c.knows_others.ensures value) c.if-not-knows_others.true,
)

pub returns-else-not-fill_known : goal.returns-else-not-fill_known
returns-else-not-fill_known g c =
    let p = c.args.problem.now in
    let var = c.args.open_var.now.var in
    let known = g.L.Lookup.values c.args.open_var.now.lookup.now in
    let row = c.fill_known.new.row in
    let tells = c.fill_known.ensures.tells c.if-not-fill_known.false in
    let here = subst (λ (values : List ℤ). TellsFalse (lent_rule c.rule.result) var values known row) c.domain.ensures tells in
    let told = subst (λ (rule : Rule). TellsFalse rule var (domain (csp_of p) var) known row) (sym (get_or_found p.rules c.args.rule (lent_rule c.rule.result) no_rule c.rule.ensures)) here in (
      told.0,
      λ place within.
          let value = own_at (domain (csp_of p) var) place in
          told.1 place within ∙ all_known (with_value var value known) (constraint_at p c.args.rule) c.scope.result.now c.knows_others.result c.scope.ensures.scope (c.knows_others.ensures value) c.if-not-knows_others.false,
    )

pub fill_known-requires-clause-narrow : goal.fill_known-requires-clause-narrow
fill_known-requires-clause-narrow g c = λ k within.
    let p = c.args.problem.now in
    let var = c.args.open_var.now.var in
    let values = domain (csp_of p) var in
    let there : k < length values = omega (arith, within, ap length c.domain.ensures) in
    let known = with_value var (own_at values k) (g.L.Lookup.values c.args.open_var.now.lookup.now) in
    let all = own_in_domains (csp_of p) var (own_at values k) (g.L.Lookup.values c.args.open_var.now.lookup.now) (In-get_or values k (pos 0) there) c.requires.known in
    let scope = scope_within p known c.args.rule c.scope.result.now c.knows_others.result all c.scope.ensures.inside c.scope.ensures.scope (c.knows_others.ensures (own_at values k)) c.if-not-knows_others.false in
    let narrow = narrow_of_known p known c.args.rule c.vars-variables.ensures.problem c.requires.rule scope in
    subst (λ (d : List ℤ). rule_sizes (lent_rule c.rule.result) (filled (with_value var (own_at d k) (g.L.Lookup.values c.args.open_var.now.lookup.now))) ≤ widest) (sym c.domain.ensures)
    (subst (λ (rule : Rule). rule_sizes rule (filled known) ≤ widest) (get_or_found p.rules c.args.rule (lent_rule c.rule.result) no_rule c.rule.ensures) narrow)
