use Rattle.std.proofs.Common.{map, refl, arith, string_bytes}
use Rattle.std.proofs.lemmas.List.{length-map}
use Rattle.std.proofs.lemmas.Option.{slice_get_within}
use Rattle.abt_words.specs.Rows.{row_in}
use Rattle.abt_words.specs.Values.{said_in}
use Rattle.abt_words.proofs.Parsed.{room_at, row_there, no_more, says_by}
use Rattle.abt_words.proofs.said.said_by.Goals as goal

pub row_said-requires : goal.row_said-requires
row_said-requires c = room_at (map row_in c.args.rows.now) c.requires c.loop-row.row-index _ (row_there c.args.rows.now _ c.loop-row.row-index c.loop-row-test.true)

pub returns-in-Some-clause-some : goal.returns-in-Some-clause-some
returns-in-Some-clause-some c = says_by (map row_in c.args.rows.now) (map string_bytes c.args.words.now) (said_in c.in-Some.said) c.loop-row.row-index _ (row_there c.args.rows.now _ c.loop-row.row-index c.loop-row-test.true) c.in-Some.ensures.row c.in-Some.ensures.some

pub loop-row-preserved : goal.loop-row-preserved
loop-row-preserved c = no_more (map row_in c.args.rows.now) (map string_bytes c.args.words.now) c.loop-row.row-index _ (row_there c.args.rows.now _ c.loop-row.row-index c.loop-row-test.true) c.loop-row.invariant (c.in_default.ensures.none refl)

pub returns-clause-none : goal.returns-clause-none
returns-clause-none c = λ none said h.
    let l = slice_get_within (map row_in c.args.rows.now) h.place said.row h.row in
    let n = length-map c.args.rows.now row_in in
    c.loop-row.invariant h.place (omega (arith, l, n)) said.row h.row said.values said.settings h.says
