use Rattle.std.proofs.Common.{◌≡◌, refl, sym, ◌∙◌, arith, true, is_some}
use Rattle.std.proofs.lemmas.List.{take_all}
use Rattle.std.proofs.lemmas.List.Elements.{All-more}
use Rattle.ngd_check.specs.Progress.{kept_at}
use Rattle.ngd_check.proofs.kept.Kept.has_each.Goals as goal

pub loop-number-preserved : goal.loop-number-preserved
loop-number-preserved c =
    All-more (λ number. is_some (kept_at c.args.self.now.nogoods number) ≡ true) c.args.numbers.now c.loop-number.number-index 0 (omega arith) c.loop-number.invariant (sym c.has.ensures ∙ c.if-not-has.false)

pub returns : goal.returns
returns c = (λ _. rw (take_all c.loop-number.number-index c.args.numbers.now (omega arith)) at c.loop-number.invariant, λ _. refl)
