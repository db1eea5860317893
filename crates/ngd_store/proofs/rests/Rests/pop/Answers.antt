use Rattle.std.proofs.Common.{◌∙◌, arith}
use Rattle.ngd_store.proofs.Words.{rests_popped}
use Rattle.ngd_store.proofs.rests.Rests.pop.Goals as goal

pub returns : goal.returns
returns c rests rest e =
    rests_popped c.self.inside.words.items c.self.inside.ends.items c.pop.new.self.items c.pop.result c.pop.ensures.items (λ l. c.pop.ensures.variant.1 (omega (arith, l))) rests rest (c.self.view_is ∙ e)
