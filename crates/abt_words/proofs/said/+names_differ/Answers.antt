use Rattle.std.proofs.Common.{map, sym, ◌∙◌}
use Rattle.abt_words.specs.Values.{value_in}
use Rattle.abt_words.proofs.Names.{names_first, first_false, second_false, both_true}
use Rattle.abt_words.proofs.said.+names_differ.Goals as goal

pub returns-then-not-differs_from : goal.returns-then-not-differs_from
returns-then-not-differs_from t c =
    first_false _ _ _ _ (names_first c.args.values.now _ (map value_in c.args.more.now) c.in-len1-up.len_at_least) (sym c.differs_from.ensures ∙ c.if-not-differs_from.true)

pub returns-then-not-differs_from-2 : goal.returns-then-not-differs_from-2
returns-then-not-differs_from-2 t c =
    second_false _ _ _ _ (names_first c.args.values.now _ (map value_in c.args.more.now) c.in-len1-up.len_at_least) (sym c.differs_from-in-len1-up.ensures ∙ c.if-not-differs_from-2.true)

pub returns-in-len1-up : goal.returns-in-len1-up
returns-in-len1-up t c =
    c.names_differ.ensures
    ∙ both_true _ _ _ _ (names_first c.args.values.now _ (map value_in c.args.more.now) c.in-len1-up.len_at_least) (sym c.differs_from.ensures ∙ c.if-not-differs_from.false) (sym c.differs_from-in-len1-up.ensures ∙ c.if-not-differs_from-2.false)
