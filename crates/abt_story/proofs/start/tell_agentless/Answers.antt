use Rattle.std.proofs.Common.{◌≡◌, ◌∙◌, ℕ, [], ◌∷◌, ◌++◌, false, Option, Some, None, refl, sym, ap, arith}
use Rattle.std.specs.Prelude.{codes}
use Rattle.std.specs.Option.{is_some}
use Rattle.std.proofs.lemmas.Fmt.{decimal_digit}
use Rattle.abt_network.specs.Standing.{steps_of}
use Rattle.abt_story.specs.Facts.{Makes}
use Rattle.abt_story.specs.Telling.{agentless, made_by_none}
use Rattle.abt_story.specs.Texts.{lines_text}
use Rattle.abt_story.proofs.start.tell_agentless.Goals as goal

made_is : (v : Option ℕ) → false ≡ is_some v → made_by_none v ≡ record { event = 0; agent = None; fact = Makes 1 } ∷ []
made_is None e = refl
made_is (Some i) e = absurd (let z = e in cc)

its_text : lines_text (record { event = 0; agent = None; fact = Makes 1 } ∷ []) ≡ codes "0 - makes n1\n"
its_text = rw (decimal_digit 0 (omega arith), decimal_digit 1 (omega arith)) refl

pub returns : goal.returns
returns c =
    let lines = ap (λ b. agentless (steps_of b)) c.in-Refuted.is ∙ made_is c.in-Refuted.step.variable c.if-is_some.ensures in
    c.in_ok-extend_from_slice.ensures.items ∙ ap (λ t. c.args.into.now.items ++ t) (sym (ap lines_text lines ∙ its_text))
