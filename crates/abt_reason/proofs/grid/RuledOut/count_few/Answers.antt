use Rattle.std.proofs.Common.{sym, subst, refl, Bool, List}
use Rattle.dcsp_row.specs.declared.marks.Marks.{Marks}
use Rattle.abt_reason.specs.declared.grid.Few.TheVariants.{Nothing}
use Rattle.abt_reason.specs.Grids.{few_row, with_row, IsGrid}
use Rattle.abt_reason.proofs.ChangeLaws.{few_has, few_lacks, few_put, few_taken}
use Rattle.abt_reason.proofs.grid.RuledOut.count_few.Goals as goal

pub gain-requires-clause-counts : goal.gain-requires-clause-counts
gain-requires-clause-counts c = record {
  row = few_row c.args.values c.args.change.before;
  grid = c.requires.grid;
  marked = few_lacks c.args.values c.args.change.before c.args.change.after c.in-Only-after.gained c.in-Nothing.is c.in-Only-after.is c.requires.after;
}

pub lose-requires-clause-counts : goal.lose-requires-clause-counts
lose-requires-clause-counts c = record {
  row = few_row c.args.values c.args.change.before;
  grid = c.requires.grid;
  marked = few_has c.args.values c.args.change.before c.in-Only.lost c.in-Only.is c.requires.before;
}

pub lose-requires-then-lost-gained-clause-counts : goal.lose-requires-then-lost-gained-clause-counts
lose-requires-then-lost-gained-clause-counts c = record {
  row = few_row c.args.values c.args.change.before;
  grid = c.requires.grid;
  marked = few_has c.args.values c.args.change.before c.in-Only.lost c.in-Only.is c.requires.before;
}

pub gain-requires-then-lost-gained-clause-counts : goal.gain-requires-then-lost-gained-clause-counts
gain-requires-then-lost-gained-clause-counts c =
    let rows = c.args.self.now.rows.items in
    let values = c.args.values in
    let has = few_has values c.args.change.before c.in-Only.lost c.in-Only.is c.requires.before in
    let lost = c.lose-then-lost-gained.ensures.grid (few_row values c.args.change.before) c.requires.grid has in
    let taken = few_taken values c.args.change.before Nothing c.in-Only.lost c.in-Only.is refl c.requires.before in
    record {
      row = few_row values Nothing;
      grid = subst (λ (rs : List Marks). IsGrid (with_row values rs c.args.place (few_row values Nothing)) values c.lose-then-lost-gained.new.self.counts.items c.lose-then-lost-gained.new.self.firsts.items) (sym c.lose-then-lost-gained.ensures.rows)
          (subst (λ (r : List Bool). IsGrid (with_row values rows c.args.place r) values c.lose-then-lost-gained.new.self.counts.items c.lose-then-lost-gained.new.self.firsts.items) taken lost);
      marked = few_lacks values Nothing c.args.change.after c.in-Only-after-2.gained refl c.in-Only-after-2.is c.requires.after;
    }

pub returns-in-Only-after-clause-grid : goal.returns-in-Only-after-clause-grid
returns-in-Only-after-clause-grid c =
    let rows = c.args.self.now.rows.items in
    let values = c.args.values in
    let lacks = few_lacks values c.args.change.before c.args.change.after c.in-Only-after.gained c.in-Nothing.is c.in-Only-after.is c.requires.after in
    let put = few_put values c.args.change.before c.args.change.after c.in-Only-after.gained c.in-Nothing.is c.in-Only-after.is c.requires.after in
    subst (λ (rs : List Marks). IsGrid (with_row values rs c.args.place (few_row values c.args.change.after)) values c.gain.new.self.counts.items c.gain.new.self.firsts.items) (sym c.gain.ensures.rows)
    (subst (λ (r : List Bool). IsGrid (with_row values rows c.args.place r) values c.gain.new.self.counts.items c.gain.new.self.firsts.items) put (c.gain.ensures.grid (few_row values c.args.change.before) c.requires.grid lacks))

pub returns-in-Nothing-after-2-clause-grid : goal.returns-in-Nothing-after-2-clause-grid
returns-in-Nothing-after-2-clause-grid c =
    let rows = c.args.self.now.rows.items in
    let values = c.args.values in
    let has = few_has values c.args.change.before c.in-Only.lost c.in-Only.is c.requires.before in
    let taken = few_taken values c.args.change.before c.args.change.after c.in-Only.lost c.in-Only.is c.in-Nothing-after-2.is c.requires.before in
    subst (λ (rs : List Marks). IsGrid (with_row values rs c.args.place (few_row values c.args.change.after)) values c.lose.new.self.counts.items c.lose.new.self.firsts.items) (sym c.lose.ensures.rows)
    (subst (λ (r : List Bool). IsGrid (with_row values rows c.args.place r) values c.lose.new.self.counts.items c.lose.new.self.firsts.items) taken (c.lose.ensures.grid (few_row values c.args.change.before) c.requires.grid has))

pub returns-then-lost-gained-clause-grid : goal.returns-then-lost-gained-clause-grid
returns-then-lost-gained-clause-grid c =
    let rows = c.args.self.now.rows.items in
    let values = c.args.values in
    let has = few_has values c.args.change.before c.in-Only.lost c.in-Only.is c.requires.before in
    let lost = c.lose-then-lost-gained.ensures.grid (few_row values c.args.change.before) c.requires.grid has in
    let taken = few_taken values c.args.change.before Nothing c.in-Only.lost c.in-Only.is refl c.requires.before in
    let grid = subst (λ (rs : List Marks). IsGrid (with_row values rs c.args.place (few_row values Nothing)) values c.lose-then-lost-gained.new.self.counts.items c.lose-then-lost-gained.new.self.firsts.items) (sym c.lose-then-lost-gained.ensures.rows)
    (subst (λ (r : List Bool). IsGrid (with_row values rows c.args.place r) values c.lose-then-lost-gained.new.self.counts.items c.lose-then-lost-gained.new.self.firsts.items) taken lost) in
    let lacks = few_lacks values Nothing c.args.change.after c.in-Only-after-2.gained refl c.in-Only-after-2.is c.requires.after in
    let put = few_put values Nothing c.args.change.after c.in-Only-after-2.gained refl c.in-Only-after-2.is c.requires.after in
    subst (λ (rs : List Marks). IsGrid (with_row values rs c.args.place (few_row values c.args.change.after)) values c.gain-then-lost-gained.new.self.counts.items c.gain-then-lost-gained.new.self.firsts.items) (sym c.gain-then-lost-gained.ensures.rows)
    (subst (λ (r : List Bool). IsGrid (with_row values c.lose-then-lost-gained.new.self.rows.items c.args.place r) values c.gain-then-lost-gained.new.self.counts.items c.gain-then-lost-gained.new.self.firsts.items) put (c.gain-then-lost-gained.ensures.grid (few_row values Nothing) grid lacks))
