-- Rules whose lists are another's.
use Rattle.dcsp_rule.specs.declared.rule.Members.{Members}
use Rattle.dcsp_rule.specs.declared.rule.Members.TheVariants.{Between, Listed}
use Rattle.dcsp_rule.specs.declared.rule.Rule.{Rule}
use Rattle.dcsp_rule.specs.declared.rule.Rule.TheVariants.{Plain, Sum}
use Rattle.dcsp_rule.specs.declared.lent.MembersRef.{MembersRef}
use Rattle.dcsp_rule.specs.declared.lent.MembersRef.TheVariants as members
use Rattle.dcsp_rule.specs.declared.lent.RuleRef.{RuleRef}
use Rattle.dcsp_rule.specs.declared.lent.RuleRef.TheVariants as lent

-- the members that are lent
abbrev pub lent_members : MembersRef → Members
lent_members (members.Between low high) = Between low high
lent_members (members.Listed values) = Listed values.now

-- the rule that is lent
abbrev pub lent_rule : RuleRef → Rule
lent_rule (lent.Plain kind scalars first second numbers) = Plain kind scalars.now first.now second.now (lent_members numbers)
lent_rule (lent.Sum rel coefs terms total told) = Sum rel coefs.now terms.now total told
