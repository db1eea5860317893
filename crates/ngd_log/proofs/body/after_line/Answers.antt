use Rattle.std.proofs.Common.{[]}
use Rattle.ngd_log.proofs.Standings.{after_ended, after_refused, line_some}
use Rattle.ngd_log.proofs.body.after_line.Goals as goal

pub returns-in-Ended-clause-stands : goal.returns-in-Ended-clause-stands
returns-in-Ended-clause-stands c = rw (c.in-Ended.is, c.no_entry-in-Ended.ensures.standing, c.no_entry-in-Ended.ensures.kind) (after_ended c.in-Ended.number c.args.line.now [] (line_some c.args.line.now c.requires.whole))

pub returns-in-Refused-clause-stands : goal.returns-in-Refused-clause-stands
returns-in-Refused-clause-stands c = rw (c.in-Refused.is, c.no_entry-in-Refused.ensures.standing, c.no_entry-in-Refused.ensures.kind) (after_refused c.in-Refused.error c.args.line.now [])

pub returns-in-Start-clause-stands : goal.returns-in-Start-clause-stands
returns-in-Start-clause-stands c = rw (c.in-Start.is, c.no_entry.ensures.standing, c.no_entry.ensures.kind) (c.after_head.ensures.stands [])
