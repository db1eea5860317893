use Rattle.dcsp_domain.proofs.SetLaws.{set_of_is_set}
use Rattle.dcsp_rule.proofs.members.MemberSet.new.Goals as goal

pub invariant_of-result : goal.invariant_of-result
invariant_of-result c = rw c.in_ok-values.ensures (set_of_is_set c.args.values.now).rising
