use Rattle.std.proofs.Common.{map, sym, subst, refl, string_bytes, List}
use Rattle.std.specs.Prelude.{IsTrue}
use Rattle.abt_words.specs.Rows.{Row, run_rows, other_rows, the_rows}
use Rattle.abt_words.specs.Values.{have_room, said_in}
use Rattle.abt_words.specs.Saying.{IsSaidBy}
use Rattle.abt_words.proofs.FewWords.{if_some}
use Rattle.abt_words.proofs.Parsed.{said_first, said_behind, said_of_neither}
use Rattle.abt_words.proofs.said.said_of.Goals as goal

pub said_by-requires : goal.said_by-requires
said_by-requires c = subst (λ (rows : List Row). IsTrue (have_room rows)) (sym c.run_rows.ensures.rows) c.run_rows.ensures.room

pub said_by-requires-in-None : goal.said_by-requires-in-None
said_by-requires-in-None c = subst (λ (rows : List Row). IsTrue (have_room rows)) (sym c.other_rows.ensures.rows) c.other_rows.ensures.room

pub returns-in-Some-clause-some : goal.returns-in-Some-clause-some
unfolding the_rows
returns-in-Some-clause-some c =
    let words = map string_bytes c.args.words.now in
    said_first run_rows other_rows words (said_in c.in-Some.said) (subst (λ (rows : List Row). IsSaidBy rows words (said_in c.in-Some.said)) c.run_rows.ensures.rows c.in-Some.ensures.some)

pub returns-in-None-clause-some : goal.returns-in-None-clause-some
unfolding the_rows
returns-in-None-clause-some c =
    let words = map string_bytes c.args.words.now in
    if_some c.said_by-in-None.result
    (λ said h. said_behind run_rows other_rows words (said_in said) (subst (λ (rows : List Row). IsSaidBy rows words (said_in said)) c.other_rows.ensures.rows h))
    c.said_by-in-None.ensures.some

pub returns-in-None-clause-none : goal.returns-in-None-clause-none
unfolding the_rows
returns-in-None-clause-none c = λ none said h.
    let words = map string_bytes c.args.words.now in
    said_of_neither run_rows other_rows words said
    (λ first. c.in-None.ensures.none refl said (subst (λ (rows : List Row). IsSaidBy rows words said) (sym c.run_rows.ensures.rows) first))
    (λ later. c.said_by-in-None.ensures.none none said (subst (λ (rows : List Row). IsSaidBy rows words said) (sym c.other_rows.ensures.rows) later))
    h
