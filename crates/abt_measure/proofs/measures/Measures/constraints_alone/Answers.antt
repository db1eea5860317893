use Rattle.std.proofs.Common.{◌∙◌, ap, sym, subst}
use Rattle.abt_defs.specs.Clocks.{Clocks}
use Rattle.abt_measure.specs.Measuring.{IsCounted}
use Rattle.abt_measure.proofs.measures.Measures.constraints_alone.Goals as goal

pub returns : goal.returns
returns c = λ p acts h.
    let k = subst (IsCounted p acts) (sym c.self.view_is) h in
    c.greatest.ensures ∙ ap (λ (x : Clocks). x.greatest) k.constraints.clocks
