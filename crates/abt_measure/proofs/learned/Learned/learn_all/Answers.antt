use Rattle.std.proofs.Common.{◌∙◌, ◌∷◌, [], List, get_or, take, ap, sym, subst}
use Rattle.std.specs.Prelude.{pos}
use Rattle.std.proofs.lemmas.List.{take_more}
use Rattle.dcsp_defs.specs.declared.nogood.Pair.{Pair}
use Rattle.abt_measure.specs.Learning.{others, Learns}
use Rattle.abt_measure.proofs.LearnLaws.{learns_both, others_append}
use Rattle.abt_measure.proofs.learned.Learned.learn_all.Goals as goal

pub loop-pair-preserved : goal.loop-pair-preserved
loop-pair-preserved c =
    let i = c.args.agent in
    let k = c.loop-pair.pair-index in
    let pairs = c.args.pairs.now in
    let none : Pair = record { var = 0; value = pos 0 } in
    let x : Pair = get_or pairs k none in
    record {
      long = c.in_ok-learn.ensures.long ∙ c.loop-pair.invariant.long;
      learns = subst (λ (l : List Pair). Learns i l c.args.self.now c.learn.new.self) (sym (ap (others i) (take_more pairs k none c.loop-pair-test.true) ∙ others_append i (take k pairs) (x ∷ [])))
          (learns_both i (others i (take k pairs)) (others i (x ∷ [])) c.args.self.now c.loop-pair.self c.learn.new.self c.loop-pair.invariant.learns c.in_ok-learn.ensures.learns);
    }
