use Rattle.std.proofs.Common.{rules, ◌<◌, ap, subst, length, arith, Bool, List}
use Rattle.abt_reason.specs.Grids.{IsGrid}
use Rattle.abt_reason.proofs.MarkLaws.{form_put, rows_put}
use Rattle.abt_reason.proofs.grid.RuledOut.replace.Goals as goal

pub returns : goal.returns
returns c =
    let rows = c.count_changes.new.self.rows.items in
    let here : c.args.place < length rows = omega (arith, c.requires.rows.here, ap length c.count_changes.ensures.rows) in
    let end = rows_put c.args.values rows c.args.place c.args.new.now c.copy_from.new.self c.copy_from.ensures.marks in
    record {
      grid = subst (λ (rs : List (List Bool)). IsGrid rs c.args.values c.count_changes.new.self.counts.items c.count_changes.new.self.firsts.items) end c.count_changes.ensures.grid;
      sized = search rules;
      rules = search rules;
      replaced = search rules;
      row = form_put c.args.self.now.rows.items rows c.args.place c.index_mut.result.now c.copy_from.new.self c.count_changes.ensures.rows here c.index_mut.ensures.value c.copy_from.ensures.row;
      others = search rules;
    }
