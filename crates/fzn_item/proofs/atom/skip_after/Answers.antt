use Rattle.std.proofs.Common.{refl, ap, ◌∙◌, true, false, Some}
use Rattle.fzn_token.specs.declared.token.TokenKind.TheVariants as kind
use Rattle.fzn_token.specs.declared.token.Word.TheVariants as word
use Rattle.fzn_token.specs.declared.token.Mark.TheVariants as mark
use Rattle.fzn_item.specs.declared.item.Atom.TheVariants as atom
use Rattle.fzn_item.proofs.ExprLaws.{listed_fails}
use Rattle.fzn_item.proofs.LentLaws.{by_kind, range_passes, whole_passes, set_passes}
use Rattle.fzn_item.proofs.atom.skip_after.Goals as goal

pub returns-in-Name-clause-passes : goal.returns-in-Name-clause-passes
returns-in-Name-clause-passes c = by_kind c.args.first.kind kind.Name c.args.first c.args.tokens.now (Some c.args.tokens) c.in-Name.is (atom.Name c.args.first.from c.args.first.to, (refl, refl))

pub returns-in-Float-clause-passes : goal.returns-in-Float-clause-passes
returns-in-Float-clause-passes c = by_kind c.args.first.kind kind.Float c.args.first c.args.tokens.now (Some c.args.tokens) c.in-Float.is (atom.Float c.args.first.from, (refl, refl))

pub returns-in-True-clause-passes : goal.returns-in-True-clause-passes
returns-in-True-clause-passes c = by_kind c.args.first.kind (kind.Word word.True) c.args.first c.args.tokens.now (Some c.args.tokens) (c.in-Word.is ∙ ap kind.Word c.in-True.is) (atom.Truth c.args.first.from true, (refl, refl))

pub returns-in-False-clause-passes : goal.returns-in-False-clause-passes
returns-in-False-clause-passes c = by_kind c.args.first.kind (kind.Word word.False) c.args.first c.args.tokens.now (Some c.args.tokens) (c.in-Word.is ∙ ap kind.Word c.in-False.is) (atom.Truth c.args.first.from false, (refl, refl))

pub returns-in-Some-integer-clause-passes : goal.returns-in-Some-integer-clause-passes
returns-in-Some-integer-clause-passes c = by_kind c.args.first.kind (kind.Whole c.in-Whole.field-0) c.args.first c.args.tokens.now (Some c.in-Some-integer.rest) c.in-Whole.is (range_passes c.in-Whole.field-0 c.args.first c.args.tokens.now c.in-Some-integer.rest _ c.in-Some.rest.now _ c.in-Some.ensures.reads c.in-Some-integer.ensures.reads)

pub returns-in-None-clause-passes : goal.returns-in-None-clause-passes
returns-in-None-clause-passes c = by_kind c.args.first.kind (kind.Whole c.in-Whole.field-0) c.args.first c.args.tokens.now (Some c.args.tokens) c.in-Whole.is (whole_passes c.in-Whole.field-0 c.args.first c.args.tokens c.in-None.ensures.reads)

pub returns-in-Some-skip_list-clause-passes : goal.returns-in-Some-skip_list-clause-passes
returns-in-Some-skip_list-clause-passes c = by_kind c.args.first.kind (kind.Mark mark.OpenBrace) c.args.first c.args.tokens.now (Some c.in-Some-skip_list.rest) (c.in-Mark.is ∙ ap kind.Mark c.in-OpenBrace.is) (set_passes c.args.first c.args.tokens.now c.in-Some-skip_list.rest _ c.in-Some-skip_list.ensures.counts)

pub returns-in-None-skip_list-clause-passes : goal.returns-in-None-skip_list-clause-passes
returns-in-None-skip_list-clause-passes c = listed_fails c.args.first.kind c.in-Mark.mark c.args.first c.args.tokens.now c.in-Mark.is c.in-OpenBrace.is c.in-None-skip_list.ensures.counts
