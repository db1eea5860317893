use Rattle.std.proofs.Common.{◌∷◌, map, refl, sym, subst, ◌∙◌, ap, string_bytes}
use Rattle.abt_words.specs.Rows.{option_in}
use Rattle.abt_words.specs.Saying.{Gives, nothing}
use Rattle.abt_words.specs.Values.{value_in, values_in}
use Rattle.abt_words.proofs.FewWords.{empty, begins, behind, if_some}
use Rattle.abt_words.proofs.Given.{first_given, same_rest, option_there, some_option, gives_more, read_there, is_absent, set_in}
use Rattle.abt_words.proofs.said.+settings_of.Goals as goal

pub returns-in_default-clause-some : goal.returns-in_default-clause-some
returns-in_default-clause-some t c = nothing (empty string_bytes c.args.words.now c.in_default.len_below) refl

pub returns-in_default-list : goal.returns-in_default-list
returns-in_default-list t c = record {
  some = tt;
  none = λ none after g.
      let words = begins string_bytes c.args.words.now c.word-item.result c.in-len1-up.len_at_least c.word-item.is in
      let there = some_option c.args.options.now c.in_ok-place.place c.in_ok-place.ensures.within in
      let first = first_given _ _ c.as_str.result.now (map string_bytes (behind 1 c.args.words.now)) c.in_ok-place.place there.0 (values_in c.args.before) after (words ∙ ap (λ w. w ∷ map string_bytes (behind 1 c.args.words.now)) (sym c.as_str.ensures.value)) (sym c.in_ok-place.ensures.place) there.1 g in
      c.in_default-list.not-Absent (is_absent _ (sym (read_there c.args.before.list c.in_ok-place.place) ∙ first.absent));
}

pub returns-in_err-value-clause-none : goal.returns-in_err-value-clause-none
returns-in_err-value-clause-none t c = λ none after g.
    let words = begins string_bytes c.args.words.now c.word-item.result c.in-len1-up.len_at_least c.word-item.is in
    let there = option_there c.args.options.now _ c.in_ok-place.place c.in_ok-place.ensures.within in
    let first = first_given _ _ c.as_str.result.now (map string_bytes (behind 1 c.args.words.now)) c.in_ok-place.place _ (values_in c.args.before) after (words ∙ ap (λ w. w ∷ map string_bytes (behind 1 c.args.words.now)) (sym c.as_str.ensures.value)) (sym c.in_ok-place.ensures.place) there g in
    c.in_err-value.ensures.none refl first.value first.more first.fits first.rest_is

pub returns-clause-some : goal.returns-clause-some
returns-clause-some t c =
    let words = begins string_bytes c.args.words.now c.word-item.result c.in-len1-up.len_at_least c.word-item.is in
    let there = option_there c.args.options.now _ c.in_ok-place.place c.in_ok-place.ensures.within in
    let all = words ∙ ap (λ w. w ∷ map string_bytes (behind 1 c.args.words.now)) (sym c.as_str.ensures.value) in
    let absent = read_there c.args.before.list c.in_ok-place.place ∙ ap value_in c.in-Absent.is in
    if_some c.settings_of.result (λ after g. gives_more _ _ _ c.as_str.result.now _ c.in_ok-place.place _ _ (values_in c.args.before) _ _ all (sym c.in_ok-place.ensures.place) there c.in_ok-value.ensures.fits c.in_ok-value.ensures.some absent (set_in c.args.before.list c.in_ok-place.place c.in_ok-value.value) g) c.settings_of.ensures.some

pub returns-clause-none : goal.returns-clause-none
returns-clause-none t c = λ none after g.
    let words = begins string_bytes c.args.words.now c.word-item.result c.in-len1-up.len_at_least c.word-item.is in
    let there = option_there c.args.options.now _ c.in_ok-place.place c.in_ok-place.ensures.within in
    let first = first_given _ _ c.as_str.result.now (map string_bytes (behind 1 c.args.words.now)) c.in_ok-place.place _ (values_in c.args.before) after (words ∙ ap (λ w. w ∷ map string_bytes (behind 1 c.args.words.now)) (sym c.as_str.ensures.value)) (sym c.in_ok-place.ensures.place) there g in
    let rest = same_rest _ _ c.in_ok-place.place _ _ (value_in c.in_ok-value.value) (values_in c.args.before) after first c.in_ok-value.ensures.fits c.in_ok-value.ensures.some in
    c.settings_of.ensures.none none after (subst (λ l. Gives (map option_in c.args.options.now) (map string_bytes c.in_ok-value.more.now) l after) (sym (set_in c.args.before.list c.in_ok-place.place c.in_ok-value.value)) rest)
