-- What every problem is.
use Rattle.std.specs.Prelude.{◌≡◌, ◌<◌, ◌≤◌, ◌^◌, None, length, All}
use Rattle.dcsp_domain.specs.Sets.{IsDomain}
use Rattle.dcsp_meaning.specs.Sums.{widest}
use Rattle.dcsp_common.specs.declared.limits.Which.TheVariants.{Variables, DomainValues, Rules, Terms}
use Rattle.dcsp_rule.specs.Rules.{IsRuleOf, IsAimOf}
use Rattle.dcsp_rule.specs.Widths.{rule_width}
use Rattle.dcsp_problem.specs.Outputs.{IsOutputOf}
use Rattle.dcsp_rule.specs.Problems.{Contents, value_count, term_count}
use Rattle.dcsp_common.specs.Limits.{most}
use Rattle.dcsp_problem.specs.Limits.{first_past, list_counts}

-- its domains are domains, its rules, outputs and aim are over its variables, no count passes its limit, and no sum is too wide
pub record IsProblem (p : Contents) : Type 0 where
  pub domains : All IsDomain p.domains
  pub rules : All (IsRuleOf (length p.domains)) p.rules
  pub outputs : All (IsOutputOf (length p.domains)) p.outputs
  pub aim : IsAimOf (length p.domains) p.aim
  pub few_variables : length p.domains ≤ most Variables
  pub few_values : value_count p ≤ most DomainValues
  pub few_rules : length p.rules ≤ most Rules
  pub few_terms : term_count p ≤ most Terms
  pub few_outputs : length p.outputs < 2 ^ 32
  pub short_lists : All (λ rule. first_past (list_counts rule) ≡ None) p.rules
  pub narrow_sums : All (λ rule. rule_width p.domains rule ≤ widest) p.rules
