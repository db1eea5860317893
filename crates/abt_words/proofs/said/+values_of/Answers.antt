use Rattle.std.proofs.Common.{[], ◌∷◌, ap, ◌∙◌, string_bytes}
use Rattle.std.proofs.lemmas.List.{map-set}
use Rattle.abt_words.specs.Values.{value_in, values_in}
use Rattle.abt_words.proofs.FewWords.{begins, if_some}
use Rattle.abt_words.proofs.Filled.{fills_more}
use Rattle.abt_words.proofs.said.+values_of.Goals as goal

pub returns-clause-some : goal.returns-clause-some
returns-clause-some t c =
    let value = value_in c.in_ok-value.value in
    let words = begins string_bytes c.args.words.now c.word-item.result c.in-len1-up-words.len_at_least c.word-item.is in
    let is = c.in_ok-value.ensures.some ∙ ap (λ w. w ∷ []) c.as_str.ensures.value in
    if_some c.values_of.result (λ filled h. fills_more c.args.places.now _ _ _ _ _ value (values_in c.args.before) _ _ c.args.at c.in-len1-up.len_at_least c.in_ok-value.ensures.fits words is (map-set value_in c.args.before.list c.args.at c.in_ok-value.value) h) c.values_of.ensures.some
