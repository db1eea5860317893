use Rattle.dcsp_order.proofs.TextAnswered.{accepted, refused, caused}
use Rattle.dcsp_order.proofs.text.read_order.Goals as goal

pub returns-clause-line : goal.returns-clause-line
returns-clause-line c = caused c.args.variables c.args.text.now c.order_of.result c.order_of.ensures.cause

pub returns-clause-accepts : goal.returns-clause-accepts
returns-clause-accepts c = accepted c.args.variables c.args.text.now c.order_of.result c.requires c.order_of.ensures.order c.order_of.ensures.cause

pub returns-clause-refuses : goal.returns-clause-refuses
returns-clause-refuses c = refused c.args.variables c.args.text.now c.order_of.result c.requires c.order_of.ensures.order c.order_of.ensures.cause
