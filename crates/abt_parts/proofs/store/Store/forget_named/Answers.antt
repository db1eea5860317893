use Rattle.std.proofs.Common.{filter, ap, sym, ◌∙◌}
use Rattle.std.specs.Prelude.{is_some}
use Rattle.abt_parts.specs.Stores.{fits}
use Rattle.abt_parts.proofs.Counts.{filter_all}
use Rattle.abt_parts.proofs.TakenLaws.{last_leaves}
use Rattle.abt_parts.proofs.store.Store.forget_named.Goals as goal

pub loop-self-preserved : goal.loop-self-preserved
loop-self-preserved c =
    let test = fits c.args.known.var c.args.known.value in
    ap (filter test) c.drop_last.ensures ∙ last_leaves test c.loop-self.self (c.ends_unfit.ensures.some c.loop-self-test.true) (c.ends_unfit.ensures.unfit c.loop-self-test.true) ∙ c.loop-self.invariant

pub returns-in_default : goal.returns-in_default
returns-in_default c =
    let test = fits c.args.known.var c.args.known.value in
    sym (filter_all test c.loop-self.self (c.first_unfit.ensures.none (ap is_some c.in_default.is))) ∙ c.loop-self.invariant
