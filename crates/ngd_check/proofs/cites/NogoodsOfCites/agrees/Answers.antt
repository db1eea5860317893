use Rattle.std.proofs.Common.{◌≡◌, ◌-◌, Some, slice_get, sym, ap, ◌∙◌, arith}
use Rattle.std.proofs.lemmas.Option.{slice_get-get_or}
use Rattle.dcsp_defs.specs.declared.Step.{Step}
use Rattle.dcsp_defs.specs.Csp.{agrees, with_value}
use Rattle.ngd_check.specs.Citing.{nogood_at}
use Rattle.ngd_check.proofs.Citing.{agrees_with, nogood_of}
use Rattle.ngd_check.proofs.cites.NogoodsOfCites.agrees.Goals as goal

pub returns : goal.returns
returns g c =
    let steps = c.args.self.now.steps.now in
    let step = c.index-self-number.result in
    let values = with_value c.args.given.now.var c.args.given.now.value (g.L.Lookup.values c.args.given.now.known.now) in
    let there : slice_get steps (c.args.number - 1) ≡ Some step = slice_get-get_or steps (c.args.number - 1) step (omega arith) ∙ ap Some (sym c.index-self-number.is) in
    agrees_with (nogood_at steps) values c.args.number step.nogood c.agrees_with.result (nogood_of steps c.args.number step (omega arith) there) (c.agrees_with.ensures ∙ ap (agrees values) (c.pairs.ensures.pairs ∙ ap (λ (t : Step). t.nogood) (sym c.index-self-number.is)))
