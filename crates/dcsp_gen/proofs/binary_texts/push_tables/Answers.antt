use Rattle.std.proofs.Common.{◌≡◌, ℕ, ◌++◌, ◌∷◌, ◌+◌, suc, List, string_bytes, drop, length, get_or, ap, sym, ◌∙◌, append_assoc, add-one, drop-cons, false}
use Rattle.abt_schedule.specs.Answers.{word_at}
use Rattle.dcsp_gen.specs.Selection.{selected, words_after}
use Rattle.dcsp_gen.specs.Binary.{table_line, table_lines}
use Rattle.dcsp_gen.proofs.binary_texts.push_tables.Goals as goal

pub loop-edge-preserved : goal.loop-edge-preserved
loop-edge-preserved c =
    let edges : List (ℕ × ℕ) = c.args.edges.now in
    let values : List (ℕ × ℕ) = c.args.values.now in
    let forbidden = c.args.forbidden in
    let place = c.loop-edge.edge-index in
    let edge : ℕ × ℕ = get_or edges place (0, 0) in
    let rest : List (ℕ × ℕ) = drop (suc place) edges in
    let here : drop place edges ≡ edge ∷ rest = drop-cons edges place (0, 0) c.loop-edge-test.true in
    let next : drop (place + 1) edges ≡ rest = ap (λ n. drop n edges) (add-one place) in
    let text = string_bytes c.loop-edge.text in
    let words = word_at c.loop-edge.words in
    let rows : List (ℕ × ℕ) = selected false words forbidden values in
    let line : string_bytes c.push_table.new.text ≡ text ++ table_line edge rows =
    c.in_ok-push_table.ensures ∙ ap (λ (z : List (ℕ × ℕ)). text ++ table_line edge z) (c.deref.ensures.value ∙ c.in_ok-rows.ensures.things)
    in
    ap (λ (z : List (ℕ × ℕ)). string_bytes c.push_table.new.text ++ table_lines forbidden values (word_at c.select.new.words) z) next
    ∙ ap (λ (z : List ℕ). z ++ table_lines forbidden values (word_at c.select.new.words) rest) line
    ∙ ap (λ (w : ℕ → ℕ). (text ++ table_line edge rows) ++ table_lines forbidden values w rest) c.in_ok-rows.ensures.words
    ∙ append_assoc text (table_line edge rows) (table_lines forbidden values (words_after (length values) words) rest)
    ∙ ap (λ (z : List (ℕ × ℕ)). text ++ table_lines forbidden values words z) (sym here)
    ∙ c.loop-edge.invariant
