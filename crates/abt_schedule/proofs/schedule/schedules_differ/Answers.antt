use Rattle.abt_schedule.proofs.ScheduleLaws.{schedules_differ}
use Rattle.abt_schedule.proofs.schedule.schedules_differ.Goals as goal

pub returns : goal.returns
returns c = schedules_differ
