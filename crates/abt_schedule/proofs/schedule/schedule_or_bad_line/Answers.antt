use Rattle.abt_schedule.proofs.ScheduleLaws.{schedule_or_bad_line}
use Rattle.abt_schedule.proofs.schedule.schedule_or_bad_line.Goals as goal

pub returns : goal.returns
returns c = schedule_or_bad_line
