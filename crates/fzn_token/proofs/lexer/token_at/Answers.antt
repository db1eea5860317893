use Rattle.std.proofs.Common.{refl, sym, ◌∙◌, ⊎_elim}
use Rattle.fzn_token.specs.declared.class.Class.TheVariants as class
use Rattle.fzn_token.proofs.ByteClasses.{told, none_begins}
use Rattle.fzn_token.proofs.lexer.token_at.Goals as goal

pub returns-in-Blank : goal.returns-in-Blank
returns-in-Blank c =
    let none = none_begins c.args.text.now c.args.at in (
      refl,
      ⊎_elim
          (λ blank. none (told _ class.Blank (sym blank ∙ c.class_of.ensures)).0)
          (λ later. ⊎_elim
          (λ percent. none (told _ class.Percent (sym percent ∙ c.class_of.ensures)).0)
          (λ other. none (told _ class.Other (sym other ∙ c.class_of.ensures)))
          later)
          c.in-Blank.is,
    )
