use Rattle.std.proofs.Common.{sym, ◌∙◌}
use Rattle.ngd_log.proofs.Standings.{after_no_head}
use Rattle.ngd_log.proofs.body.after_head.Goals as goal

pub returns-in-None-clause-stands : goal.returns-in-None-clause-stands
returns-in-None-clause-stands c = λ entries. after_no_head c.args.line.now entries (sym c.version_of.ensures ∙ c.in-None.is) c.requires.whole
