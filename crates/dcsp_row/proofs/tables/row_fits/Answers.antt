use Rattle.std.proofs.Common.{ap}
use Rattle.dcsp_defs.specs.Csp.{filled, with_value}
use Rattle.dcsp_rule.specs.Rules.{value_under}
use Rattle.dcsp_row.specs.declared.tables.Fit.{Fit}
use Rattle.dcsp_row.specs.Tables.{fits, stands_open}
use Rattle.dcsp_row.proofs.FitLaws.{next_entry, never}
use Rattle.dcsp_row.proofs.tables.row_fits.Goals as goal

pub loop-place-preserved : goal.loop-place-preserved
loop-place-preserved g c = λ value.
    let vals = value_under (filled (with_value c.args.open_var.now.var value (g.L.Lookup.values c.args.open_var.now.lookup.now))) in
    next_entry vals c.args.row.now c.args.table.now c.loop-place.place c.args.entry _ _ (fits c.loop-place.fit value) (fits c.both-fit.result value) (fits c.terms_fit.result value) _ c.loop-place-test.true c.requires (c.terms_fit.ensures value) (c.both-fit.ensures value) (c.loop-place.invariant value)

pub returns-in-Never : goal.returns-in-Never
returns-in-Never g c = λ value.
    let vals = value_under (filled (with_value c.args.open_var.now.var value (g.L.Lookup.values c.args.open_var.now.lookup.now))) in
    let more = next_entry vals c.args.row.now c.args.table.now c.loop-place.place c.args.entry _ _ (fits c.loop-place.fit value) (fits c.both-fit.result value) (fits c.terms_fit.result value) _ c.loop-place-test.true c.requires (c.terms_fit.ensures value) (c.both-fit.ensures value) (c.loop-place.invariant value) in
    never (fits c.both-fit.result value) _ (stands_open c.args.open_var.now.var (g.L.Lookup.values c.args.open_var.now.lookup.now) c.args.row.now c.args.table.now c.args.entry value) (ap (λ (f : Fit). fits f value) c.in-Never.is) more
