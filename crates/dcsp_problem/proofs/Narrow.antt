-- Where values are in their domains, the sum of a problem's rule is narrow.
use Rattle.std.proofs.Common.{◌≡◌, ℕ, ◌<◌, ◌≤◌, Bool, true, false, List, length, refl, ap, ◌∙◌, arith}
use Rattle.std.specs.Prelude.{ℤ, pos, Option, Some, None, is_some, unwrap_or, slice_get, slice_index_or, if◌then◌else◌}
use Rattle.std.specs.List.{list_all}
use Rattle.std.proofs.lemmas.List.Elements.{All-get_or}
use Rattle.std.proofs.lemmas.Option.{unwrap_or-slice_get}
use Rattle.dcsp_domain.specs.Sets.{has}
use Rattle.dcsp_meaning.specs.declared.linear.TheConstants.{WIDEST}
use Rattle.dcsp_defs.specs.Words.{In}
use Rattle.dcsp_defs.specs.Csp.{Assignment, PartialAssignment, domain, filled}
use Rattle.dcsp_defs.proofs.Lists.{list_all-In}
use Rattle.dcsp_rule.specs.Rules.{variables_of, IsRuleOf, no_rule}
use Rattle.dcsp_rule.specs.Widths.{rule_width, rule_sizes}
use Rattle.dcsp_rule.specs.Problems.{Contents, csp_of, rule_at, constraint_at, value_in, within_domains}
use Rattle.dcsp_problem.specs.WellFormed.{IsProblem}
use Rattle.dcsp_problem.proofs.Scopes.{In-scope, variables_below}
use Rattle.dcsp_problem.proofs.WidthLaws.{IsInDomain, sizes_within}

narrow_rule : (p : Contents) (values : Assignment) (k : ℕ) → IsProblem p → k < length p.rules → ((v : ℕ) → In v (variables_of (rule_at p k)) → IsInDomain p.domains values v) → rule_sizes (rule_at p k) values ≤ WIDEST
narrow_rule p values k ok l all =
    let sizes = sizes_within p.domains values (rule_at p k) (record { each = all }) in
    let width : rule_width p.domains (rule_at p k) ≤ WIDEST = All-get_or (λ rule. rule_width p.domains rule ≤ WIDEST) p.rules k no_rule l ok.narrow_sums in
    omega arith

-- a rule of a problem is a rule
pub a_rule : (p : Contents) (k : ℕ) → IsProblem p → k < length p.rules → IsRuleOf (length p.domains) (rule_at p k)
a_rule p k ok l = All-get_or (IsRuleOf (length p.domains)) p.rules k no_rule l ok.rules

-- a value that is kept is in the domain
kept_in : (values : List ℤ) (o : Option ℤ) → is_some (value_in values o) ≡ true → has values (unwrap_or o (pos 0)) ≡ true
kept_in values None h = absurd (cc)
kept_in values (Some v) h = by_test (has values v) h where
  by_test : (b : Bool) → is_some {T = ℤ} (if b then Some v else None) ≡ true → b ≡ true
  by_test true h = refl
  by_test false h = cc

-- where a look-up gives each variable of the scope a value of its domain
pub narrow_of_known : (p : Contents) (known : PartialAssignment) (k : ℕ) → IsProblem p → k < length p.rules → list_all (λ v. is_some (within_domains (csp_of p) known v)) (constraint_at p k).scope ≡ true
    → rule_sizes (rule_at p k) (filled known) ≤ WIDEST
narrow_of_known p known k ok l all =
    narrow_rule p (filled known) k ok l (λ v i.
    kept_in (domain (csp_of p) v) (known v) (list_all-In (λ w. is_some (within_domains (csp_of p) known w)) v (constraint_at p k).scope all (In-scope (length p.domains) (rule_at p k) (a_rule p k ok l) v i)))

-- where each variable has a value of its domain
pub narrow_of_values : (p : Contents) (values : List ℤ) (k : ℕ) → IsProblem p → k < length p.rules → ((v : ℕ) → v < length p.domains → has (domain (csp_of p) v) (slice_index_or values v (pos 0)) ≡ true)
    → rule_sizes (rule_at p k) (filled (slice_get values)) ≤ WIDEST
narrow_of_values p values k ok l all =
    narrow_rule p (filled (slice_get values)) k ok l (λ v i.
    ap (λ z. has (domain (csp_of p) v) z) (unwrap_or-slice_get values v (pos 0)) ∙ all v (variables_below (length p.domains) (rule_at p k) (a_rule p k ok l) v i))
