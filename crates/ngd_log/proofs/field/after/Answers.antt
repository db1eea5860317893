use Rattle.ngd_log.proofs.AfterPrefix.{after-strip_prefix}
use Rattle.ngd_log.proofs.field.after.Goals as goal

pub returns-clause-reads : goal.returns-clause-reads
returns-clause-reads c = after-strip_prefix c.args.text.now c.args.bytes.now c.strip_prefix.result c.strip_prefix.ensures.cases
