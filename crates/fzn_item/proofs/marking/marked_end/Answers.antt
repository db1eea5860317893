use Rattle.fzn_item.proofs.MarkLaws.{output_var_fails, other_fails}
use Rattle.fzn_item.proofs.marking.marked_end.Goals as goal

pub returns-in-None-any_list-clause-reads : goal.returns-in-None-any_list-clause-reads
returns-in-None-any_list-clause-reads c = output_var_fails c.args.called c.args.tokens.now c.in-Some.inside.now _ c.in-OutputVar.is c.in-Some.ensures.reads c.in-None-any_list.ensures.reads

pub returns-in-None-annotation_end-clause-reads : goal.returns-in-None-annotation_end-clause-reads
returns-in-None-annotation_end-clause-reads c = other_fails c.args.called c.args.tokens.now c.in-Other.is c.in-None-annotation_end.ensures.reads
