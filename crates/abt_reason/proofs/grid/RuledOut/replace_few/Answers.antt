use Rattle.std.proofs.Common.{◌<◌, rules, ap, length, arith, ◌∙◌, sym, subst, Bool, List}
use Rattle.abt_reason.specs.Grids.{AreSized, IsGrid}
use Rattle.abt_reason.proofs.ChangeLaws.{few_end, few_start}
use Rattle.abt_reason.proofs.MarkLaws.{form_put, sized_put}
use Rattle.abt_reason.proofs.grid.RuledOut.replace_few.Goals as goal

pub count_few-requires-clause-grid : goal.count_few-requires-clause-grid
count_few-requires-clause-grid c =
    let start = few_start c.args.values c.args.self.now.rows.items c.args.place c.args.change.before c.requires.rows.here c.requires.change.old_is in
    subst (λ (rs : List (List Bool)). IsGrid rs c.args.values c.args.self.now.counts.items c.args.self.now.firsts.items) (sym start) c.requires.rows.grid

pub returns : goal.returns
returns c =
    let rows = c.count_few.new.self.rows.items in
    let here : c.args.place < length rows = omega (arith, c.requires.rows.here, ap length c.count_few.ensures.rows) in
    let end = few_end c.args.values rows c.args.place c.args.change.after c.store.new.marks (λ k l. c.store.ensures.marks k ∙ c.requires.change.new_is k l) in
    record {
      grid = subst (λ (rs : List (List Bool)). IsGrid rs c.args.values c.count_few.new.self.counts.items c.count_few.new.self.firsts.items) end c.count_few.ensures.grid;
      sized = sized_put c.args.values rows c.args.place c.store.new.marks here (subst (AreSized c.args.values) (sym c.count_few.ensures.rows) c.requires.rows.sized) (c.store.ensures.sized c.args.values);
      rules = search rules;
      replaced = search rules;
      row = form_put c.args.self.now.rows.items rows c.args.place c.index_mut.result.now c.store.new.marks c.count_few.ensures.rows here c.index_mut.ensures.value c.store.ensures.row;
      others = search rules;
    }
