use Rattle.abt_schedule.proofs.ScheduleLaws.{next_line_is}
use Rattle.abt_schedule.proofs.schedule.next_lines.Goals as goal

pub returns : goal.returns
returns c = next_line_is
