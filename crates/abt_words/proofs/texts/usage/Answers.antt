use Rattle.std.proofs.Common.{◌++◌, List, ℕ, [], flat_map, map, ap, ◌∙◌}
use Rattle.abt_words.specs.Rows.{row_in, run_rows, other_rows, the_rows}
use Rattle.abt_words.specs.Texts.{row_usage, usage_text}
use Rattle.abt_words.proofs.Appended.{two_parts}
use Rattle.abt_words.proofs.texts.usage.Goals as goal

pub returns : goal.returns
unfolding the_rows usage_text
returns c =
    let first = c.in_ok-push_usage.ensures ∙ ap (λ (t : List ℕ). t ++ flat_map row_usage (map row_in c.run_rows.result.now)) c.new-text.ensures.bytes in
    two_parts row_usage _ _ run_rows other_rows [] _ _ c.run_rows.ensures.rows c.other_rows.ensures.rows first c.in_ok-push_usage-2.ensures
