use Rattle.std.proofs.Common.{ap, ◌∙◌, arith}
use Rattle.ngd_log.specs.Lines.{lines}
use Rattle.line_rewrite.proofs.FirstLine.{first_is, first_found, first_whole}
use Rattle.line_rewrite.proofs.entries.first_line.Goals as goal

pub returns-in-Some-clause-line : goal.returns-in-Some-clause-line
returns-in-Some-clause-line c = λ line others e.
    c.split_at.ensures.front ∙ (first_is c.args.text.now _ _ (first_found c.args.text.now c.in-Some.at c.in-Some.ensures) line others e).0

pub returns-in-Some-clause-rest : goal.returns-in-Some-clause-rest
returns-in-Some-clause-rest c = λ line others e.
    ap lines c.split_at.ensures.back ∙ (first_is c.args.text.now _ _ (first_found c.args.text.now c.in-Some.at c.in-Some.ensures) line others e).1

pub returns-in-None-clause-line : goal.returns-in-None-clause-line
returns-in-None-clause-line c = λ line others e.
    c.split_at-in-None.ensures.front ∙ (first_whole c.args.text.now _ (omega arith) c.in-None.ensures line others e).0

pub returns-in-None-clause-rest : goal.returns-in-None-clause-rest
returns-in-None-clause-rest c = λ line others e.
    ap lines c.split_at-in-None.ensures.back ∙ (first_whole c.args.text.now _ (omega arith) c.in-None.ensures line others e).1
