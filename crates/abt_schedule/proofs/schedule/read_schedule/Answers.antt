use Rattle.abt_schedule.proofs.Answered.{accepted, refused, caused}
use Rattle.abt_schedule.proofs.schedule.read_schedule.Goals as goal

pub returns-clause-line : goal.returns-clause-line
returns-clause-line c = caused c.args.text.now c.choices_of.result c.choices_of.ensures.cause

pub returns-clause-accepts : goal.returns-clause-accepts
returns-clause-accepts c = accepted c.args.text.now c.choices_of.result c.choices_of.ensures.schedule c.choices_of.ensures.cause

pub returns-clause-refuses : goal.returns-clause-refuses
returns-clause-refuses c = refused c.args.text.now c.choices_of.result c.choices_of.ensures.schedule c.choices_of.ensures.cause
