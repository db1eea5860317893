use Rattle.std.proofs.Common.{subst, Err}
use Rattle.fzn_item.specs.Readers.{Reads}
use Rattle.fzn_item.specs.Exprs.{IsAtom}
use Rattle.fzn_item.proofs.lent.next_atom.Goals as goal

pub unreachable-requires : goal.unreachable-requires
unreachable-requires c =
    let fails = subst (λ e. Reads IsAtom c.args.tokens.now (Err e)) c.in-Err-Unread.field-0-is c.in-Err-Unread.ensures.reads in
    fails c.requires.0 c.requires.1 c.requires.2
