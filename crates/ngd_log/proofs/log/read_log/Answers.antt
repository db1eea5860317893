use Rattle.ngd_log.proofs.Answered.{accepted, refused, caused}
use Rattle.ngd_log.proofs.log.read_log.Goals as goal

pub returns-clause-line : goal.returns-clause-line
returns-clause-line c = caused c.args.text.now c.log_of.result c.log_of.ensures.cause

pub returns-clause-accepts : goal.returns-clause-accepts
returns-clause-accepts c = accepted c.args.text.now c.log_of.result c.log_of.ensures.log c.log_of.ensures.cause

pub returns-clause-refuses : goal.returns-clause-refuses
returns-clause-refuses c = refused c.args.text.now c.log_of.result c.log_of.ensures.log c.log_of.ensures.cause
