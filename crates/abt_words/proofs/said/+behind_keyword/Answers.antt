use Rattle.std.proofs.Common.{[], get_or, sym, ◌∙◌, string_bytes}
use Rattle.std.proofs.lemmas.Slice.Eq.{bytes_eq-Decides}
use Rattle.abt_words.specs.Rows.{Text}
use Rattle.abt_words.proofs.FewWords.{begins, first_read, if_some}
use Rattle.abt_words.proofs.FewTexts.{same_heads}
use Rattle.abt_words.proofs.said.+behind_keyword.Goals as goal

pub returns-then-eq-clause-some : goal.returns-then-eq-clause-some
returns-then-eq-clause-some t c =
    let words = begins string_bytes c.args.words.now c.word-item.result c.in-len1-up-words.len_at_least c.word-item.is in
    let none : Text = record { ref_ptr = (0, 0); now = [] } in
    let keyword = begins (λ (text : Text). text.now) c.args.keyword.now (get_or c.args.keyword.now 0 none) c.in-len1-up.len_at_least (first_read c.args.keyword.now none c.in-len1-up.len_at_least) in
    let same = (bytes_eq-Decides _ c.as_str.result.now).0 (sym c.eq.ensures ∙ c.if-eq.true) in
    if_some c.behind_keyword.result (λ rest h. same_heads _ _ _ _ _ _ _ words keyword (same ∙ c.as_str.ensures.value) h) c.behind_keyword.ensures.some
