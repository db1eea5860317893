use Rattle.fzn_item.proofs.ExprLaws.{atom_unique, list_expr_fails}
use Rattle.fzn_item.proofs.LentLaws.{list_passes, atom_passes}
use Rattle.fzn_item.proofs.expr.ExprForm.skip.Goals as goal

pub skip_list-requires-clause-unique : goal.skip_list-requires-clause-unique
skip_list-requires-clause-unique c = atom_unique

pub returns-in-Some-skip_list-clause-passes : goal.returns-in-Some-skip_list-clause-passes
returns-in-Some-skip_list-clause-passes c = list_passes c.args.tokens.now _ c.in-Some.rest.now c.in-Some-skip_list.rest _ c.in-Some.ensures.reads c.in-Some-skip_list.ensures.counts

pub returns-in-None-skip_list-clause-passes : goal.returns-in-None-skip_list-clause-passes
returns-in-None-skip_list-clause-passes c = list_expr_fails c.args.tokens.now _ c.in-Some.rest.now c.in-Some.ensures.reads c.in-None-skip_list.ensures.counts

pub returns-in-None-clause-passes : goal.returns-in-None-clause-passes
returns-in-None-clause-passes c = atom_passes c.args.tokens.now c.skip.result c.in-None.ensures.reads c.skip.ensures.passes
