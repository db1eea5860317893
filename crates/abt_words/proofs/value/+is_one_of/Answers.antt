use Rattle.std.proofs.Common.{sym, ◌∙◌}
use Rattle.abt_words.proofs.FewTexts.{among_others}
use Rattle.abt_words.proofs.value.+is_one_of.Goals as goal

pub returns : goal.returns
returns t c = among_others c.args.word.now c.args.words.now _ c.is_one_of.result c.in-len1-up.len_at_least (sym c.eq.ensures ∙ c.if-eq.false) c.is_one_of.ensures
