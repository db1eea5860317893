use Rattle.std.proofs.Common.{to_z, of_z, w64, sym, ap, ◌∙◌}
use Rattle.std.proofs.lemmas.Int.{to_z-of_z}
use Rattle.std.specs.Fmt.{signed_decimal}
use Rattle.std.proofs.lemmas.Slice.Eq.{bytes_eq-Decides}
use Rattle.abt_words.proofs.SignedWords.{parse_signed, that_integer}
use Rattle.abt_words.proofs.number.signed_number_of.Goals as goal

pub returns-in_default-clause-none : goal.returns-in_default-clause-none
returns-in_default-clause-none c = λ none n fits e. c.in_default.not-Ok n (parse_signed n c.args.word.now c.parse.result fits e c.parse.ensures.value.0)

pub returns-else-eq-clause-none : goal.returns-else-eq-clause-none
returns-else-eq-clause-none c = λ none n fits e.
    let same = that_integer c.in-Ok.number n (sym c.in-Ok.is ∙ parse_signed n c.args.word.now c.parse.result fits e c.parse.ensures.value.0) in
    let t = (bytes_eq-Decides c.format.result.now c.args.word.now).1 (c.format.ensures.text ∙ ap (λ z. signed_decimal (to_z w64 (of_z w64 z))) same ∙ ap signed_decimal (to_z-of_z w64 n fits) ∙ sym e) in
    let no = sym t ∙ sym c.eq.ensures ∙ c.if-eq.false in
    absurd cc
