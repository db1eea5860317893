use Rattle.std.proofs.Common.{subst, Err}
use Rattle.fzn_item.specs.Readers.{Reads}
use Rattle.fzn_item.specs.Marks.{IsRangeArgument}
use Rattle.fzn_item.proofs.MarkLaws.{array_end_fails}
use Rattle.fzn_item.proofs.marking.array_end.Goals as goal

pub returns-in-None-clause-reads : goal.returns-in-None-clause-reads
returns-in-None-clause-reads c = array_end_fails c.args.tokens.now (subst (λ e. Reads IsRangeArgument c.args.tokens.now (Err e)) c.in-Err-Unread.field-0-is c.in-Err-Unread.ensures.reads) c.in-None.ensures.reads
