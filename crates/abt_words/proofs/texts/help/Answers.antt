use Rattle.std.proofs.Common.{◌++◌, List, ℕ, flat_map, map, ap, ◌∙◌}
use Rattle.abt_words.specs.declared.texts.TheConstants.{HEAD, TAIL}
use Rattle.abt_words.specs.Rows.{row_in, run_rows, other_rows, the_rows}
use Rattle.abt_words.specs.Texts.{row_help, help_text}
use Rattle.abt_words.proofs.Appended.{two_parts}
use Rattle.abt_words.proofs.texts.help.Goals as goal

pub returns : goal.returns
unfolding the_rows help_text
returns c =
    let first = c.in_ok-push_rows_help.ensures ∙ ap (λ (t : List ℕ). t ++ flat_map row_help (map row_in c.run_rows.result.now)) c.in_ok-text.ensures.ok in
    let rows = two_parts row_help _ _ run_rows other_rows HEAD.now _ _ c.run_rows.ensures.rows c.other_rows.ensures.rows first c.in_ok-push_rows_help-2.ensures in
    c.in_ok-push_str.ensures.bytes ∙ ap (λ (t : List ℕ). t ++ TAIL.now) rows
