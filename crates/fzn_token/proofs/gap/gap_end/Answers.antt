use Rattle.std.proofs.Common.{sym, ◌∙◌, get_or}
use Rattle.fzn_token.specs.declared.class.Class.TheVariants as class
use Rattle.fzn_token.proofs.GapLaws.{gap_blank, gap_comment, gap_whole}
use Rattle.fzn_token.proofs.ByteClasses.{told, not_skipped}
use Rattle.fzn_token.proofs.gap.gap_end.Goals as goal

pub loop-at-preserved-in-Blank : goal.loop-at-preserved-in-Blank
loop-at-preserved-in-Blank c = gap_blank c.loop-at.invariant c.loop-at-test.true (told (get_or c.args.text.now c.loop-at.at 0) class.Blank (sym c.in-Blank.is ∙ c.class_of.ensures)).1

pub loop-at-preserved : goal.loop-at-preserved
loop-at-preserved c =
    let e = c.comment_end-at.ensures in
    gap_comment c.loop-at.invariant (told _ class.Percent (sym c.in-Percent.is ∙ c.class_of.ensures)).1 e.ordered e.within e.line e.feed

pub returns-in_default : goal.returns-in_default
returns-in_default c = gap_whole c.loop-at.invariant (λ _. not_skipped _ c.class_of.result c.class_of.ensures c.in_default.not-Blank c.in_default.not-Percent)
