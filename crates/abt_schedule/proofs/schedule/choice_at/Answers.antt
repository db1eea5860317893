use Rattle.abt_schedule.proofs.Answered.{choice_read, no_number, no_choice, no_feed}
use Rattle.abt_schedule.proofs.schedule.choice_at.Goals as goal

pub returns-in_default-clause-none : goal.returns-in_default-clause-none
returns-in_default-clause-none c = no_number c.args.bytes.now c.in_default.ensures.reads

pub returns-in_default-try_from-clause-none : goal.returns-in_default-try_from-clause-none
returns-in_default-try_from-clause-none c = no_choice c.args.bytes.now c.in-Some.value c.in-Some.rest.now c.in-Some.ensures.reads c.in_default-try_from.ensures

pub returns-in_default-after-clause-none : goal.returns-in_default-after-clause-none
returns-in_default-after-clause-none c = no_feed c.args.bytes.now c.in-Some.value c.in-Some.rest.now c.in-Some.ensures.reads c.in_default-after.ensures.reads

pub returns-clause-some : goal.returns-clause-some
returns-clause-some c = choice_read c.args.bytes.now c.in-Some.value c.in-Some.rest.now c.in-Some-after.rest.now c.in-Ok.choice c.in-Some.ensures.reads c.in-Ok.ensures.0 c.in-Ok.ensures.1 c.in-Some-after.ensures.reads
