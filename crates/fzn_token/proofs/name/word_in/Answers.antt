use Rattle.std.proofs.Common.{sym, ap, arith, rules}
use Rattle.std.specs.Prelude.{codes}
use Rattle.std.proofs.lemmas.Slice.Eq.{text_from_reads}
use Rattle.fzn_token.specs.Lookup.{word_in}
use Rattle.fzn_token.proofs.name.word_in.Goals as goal

pub returns-in-satisfy : goal.returns-in-satisfy
returns-in-satisfy c = sym (ap word_in (text_from_reads c.args.bytes.now (codes "satisfy") (omega arith) (search rules)))

pub returns-in-maximize : goal.returns-in-maximize
returns-in-maximize c = sym (ap word_in (text_from_reads c.args.bytes.now (codes "maximize") (omega arith) (search rules)))

pub returns-in-minimize : goal.returns-in-minimize
returns-in-minimize c = sym (ap word_in (text_from_reads c.args.bytes.now (codes "minimize") (omega arith) (search rules)))

pub returns-in-predicate : goal.returns-in-predicate
returns-in-predicate c = sym (ap word_in (text_from_reads c.args.bytes.now (codes "predicate") (omega arith) (search rules)))

pub returns-in-constraint : goal.returns-in-constraint
returns-in-constraint c = sym (ap word_in (text_from_reads c.args.bytes.now (codes "constraint") (omega arith) (search rules)))
