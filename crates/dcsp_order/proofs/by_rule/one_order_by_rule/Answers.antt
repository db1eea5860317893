use Rattle.dcsp_order.proofs.OneOrder.{one_order}
use Rattle.dcsp_order.proofs.by_rule.one_order_by_rule.Goals as goal

pub returns : goal.returns
returns c = one_order
