use Rattle.std.proofs.Common.{sym, ap, ◌∙◌, decimal}
use Rattle.std.proofs.lemmas.Fmt.{parse-decimal}
use Rattle.std.proofs.lemmas.Slice.Eq.{bytes_eq-Decides}
use Rattle.abt_words.proofs.FewWords.{that_number}
use Rattle.abt_words.proofs.number.number_of.Goals as goal

pub returns-in_default-clause-none : goal.returns-in_default-clause-none
returns-in_default-clause-none c = λ none n l e. c.in_default.not-Ok n (parse-decimal 64 n c.args.word.now c.parse.result l l e c.parse.ensures.value.0)

pub returns-else-eq-clause-none : goal.returns-else-eq-clause-none
returns-else-eq-clause-none c = λ none n l e.
    let same = that_number c.in-Ok.number n (sym c.in-Ok.is ∙ parse-decimal 64 n c.args.word.now c.parse.result l l e c.parse.ensures.value.0) in
    let t = (bytes_eq-Decides c.format.result.now c.args.word.now).1 (c.format.ensures.text ∙ ap decimal same ∙ sym e) in
    let no = sym t ∙ sym c.eq.ensures ∙ c.if-eq.false in
    absurd cc
