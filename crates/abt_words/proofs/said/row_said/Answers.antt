use Rattle.std.proofs.Common.{map, refl, sym, ◌∙◌, subst, string_bytes}
use Rattle.abt_words.specs.declared.said.TheConstants.{MOST}
use Rattle.abt_words.specs.Rows.{row_in, place_in, option_in}
use Rattle.abt_words.specs.Saying.{Gives}
use Rattle.abt_words.specs.Values.{Fills, values_in}
use Rattle.abt_words.proofs.Given.{first_in}
use Rattle.abt_words.proofs.Parsed.{behind_values, no_settings, read_row, same_names}
use Rattle.abt_words.proofs.said.row_said.Goals as goal

pub returns-in_err-values-clause-none : goal.returns-in_err-values-clause-none
returns-in_err-values-clause-none c = λ none values settings h. c.in_err-values.ensures.none refl values h.options h.fill (behind_values (row_in c.args.row) _ _ c.in_ok-rest.ensures.some values settings h)

pub returns-in_err-settings-clause-none : goal.returns-in_err-settings-clause-none
returns-in_err-settings-clause-none c = λ none.
    let row = row_in c.args.row in
    let rest = map string_bytes c.in_ok-rest.rest.now in
    let options = map string_bytes c.in_ok-values.options.now in
    let fills = subst (λ b. Fills row.places rest options b 0 (values_in c.in_ok-values.values)) c.none.ensures c.in_ok-values.ensures.some in
    no_settings row (map string_bytes c.args.words.now) rest options MOST (values_in c.in_ok-values.values) c.in_ok-rest.ensures.some c.requires.0 fills c.requires.1
    (λ after g. c.in_err-settings.ensures.none refl after (subst (λ b. Gives row.options options b after) (sym c.none-2.ensures) g))

pub returns-then-not-names_differ-clause-none : goal.returns-then-not-names_differ-clause-none
returns-then-not-names_differ-clause-none c = λ none.
    let row = row_in c.args.row in
    let rest = map string_bytes c.in_ok-rest.rest.now in
    let options = map string_bytes c.in_ok-values.options.now in
    let values = values_in c.in_ok-values.values in
    let settings = values_in c.in_ok-settings.settings in
    let fills = subst (λ b. Fills row.places rest options b 0 values) c.none.ensures c.in_ok-values.ensures.some in
    let given = subst (λ b. Gives row.options options b settings) c.none-2.ensures c.in_ok-settings.ensures.some in
    same_names row (map string_bytes c.args.words.now) rest options MOST values c.in_ok-rest.ensures.some c.requires.0 fills c.requires.1 settings given
    _ _ (first_in place_in c.args.row.places.now c.in_ok-values.values.list) (first_in option_in c.args.row.options.now c.in_ok-settings.settings.list) (sym c.names_differ.ensures ∙ c.if-not-names_differ.true)

pub returns-clause-some : goal.returns-clause-some
returns-clause-some c =
    let row = row_in c.args.row in
    let rest = map string_bytes c.in_ok-rest.rest.now in
    let options = map string_bytes c.in_ok-values.options.now in
    let values = values_in c.in_ok-values.values in
    let settings = values_in c.in_ok-settings.settings in
    let fills = subst (λ b. Fills row.places rest options b 0 values) c.none.ensures c.in_ok-values.ensures.some in
    let given = subst (λ b. Gives row.options options b settings) c.none-2.ensures c.in_ok-settings.ensures.some in
    read_row row (map string_bytes c.args.words.now) rest options MOST values c.in_ok-rest.ensures.some c.requires.0 fills c.requires.1 settings given
    _ _ (first_in place_in c.args.row.places.now c.in_ok-values.values.list) (first_in option_in c.args.row.options.now c.in_ok-settings.settings.list) (sym c.names_differ.ensures ∙ c.if-not-names_differ.false)
