use Rattle.std.proofs.Common.{refl, sym}
use Rattle.fzn_token.specs.declared.class.Class.TheVariants as class
use Rattle.fzn_token.proofs.ByteClasses.{told, one_longest}
use Rattle.fzn_token.proofs.mark.mark_token.Goals as goal

pub returns-clause-reads : goal.returns-clause-reads
returns-clause-reads c =
    let one = told _ (class.Mark c.args.mark) (sym c.requires.one) in
    (refl, record { longest = one_longest c.args.text.now c.args.at c.args.mark c.requires.within one; in_range = tt })
