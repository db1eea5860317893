use Rattle.std.proofs.Common.{◌∙◌, ap, refl}
use Rattle.dcsp_rule.specs.Lent.{lent_members, lent_rule}
use Rattle.dcsp_row.specs.Rows.{own_at}
use Rattle.dcsp_row.proofs.FitLaws.{table_told}
use Rattle.dcsp_row.proofs.fill.fill_known.Goals as goal

pub returns-in-Some-clause-tells : goal.returns-in-Some-clause-tells
returns-in-Some-clause-tells g c = λ _.
    let var = c.args.open_var.now.var in
    let known = g.L.Lookup.values c.args.open_var.now.lookup.now in (
      c.fill_table.ensures.0,
      λ place within.
          let value = own_at c.args.domain.now place in
          c.fill_table.ensures.1 place within
          ∙ table_told c.in-Plain.kind c.in-Plain.scalars.now c.in-Plain.first.now c.in-Plain.second.now c.in-Plain.scalars.now c.in-Plain.first.now c.in-Plain.second.now (lent_members c.in-Plain.members) c.in-Some.told var known value (lent_rule c.args.rule) (ap lent_rule c.in-Plain.is) refl refl refl (c.in-Some.ensures.told value),
    )
