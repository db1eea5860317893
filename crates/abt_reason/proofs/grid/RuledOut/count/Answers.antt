use Rattle.std.proofs.Common.{◌+◌, ◌∙◌, ap, sym, subst, set, arith, Bool, List}
use Rattle.std.specs.Prelude.{not}
use Rattle.dcsp_row.specs.declared.marks.Marks.{Marks}
use Rattle.dcsp_row.specs.Marks.{is_marked}
use Rattle.abt_reason.specs.Grids.{marks_at, mixed_row, mixed_rows, with_row, IsGrid}
use Rattle.abt_reason.proofs.CountLaws.{opposite}
use Rattle.abt_reason.proofs.MarkLaws.{mixed_next, old_still}
use Rattle.abt_reason.proofs.grid.RuledOut.count.Goals as goal

pub gain-requires-clause-counts : goal.gain-requires-clause-counts
gain-requires-clause-counts c =
    let old = marks_at c.args.self.now.rows.items c.args.place in
    record {
      row = mixed_row c.args.values c.args.value c.args.new.now old;
      grid = c.requires.grid;
      marked = old_still c.args.values c.args.new.now old c.args.value c.args.value c.requires.value (omega arith) ∙ opposite c.has.result (is_marked c.args.new.now c.args.value) (is_marked old c.args.value) c.has.ensures c.requires.differs ∙ ap not c.if-has.true;
    }

pub returns-then-has-clause-grid : goal.returns-then-has-clause-grid
returns-then-has-clause-grid c =
    let rows = c.args.self.now.rows.items in
    let old = marks_at rows c.args.place in
    let row = mixed_row c.args.values c.args.value c.args.new.now old in
    let was = old_still c.args.values c.args.new.now old c.args.value c.args.value c.requires.value (omega arith) ∙ opposite c.has.result (is_marked c.args.new.now c.args.value) (is_marked old c.args.value) c.has.ensures c.requires.differs ∙ ap not c.if-has.true in
    let next = mixed_next c.args.values c.args.new.now old c.args.value c.requires.value ∙ ap (set row c.args.value) (sym c.has.ensures ∙ c.if-has.true) in
    subst (λ (rs : List Marks). IsGrid (mixed_rows c.args.values rs c.args.place c.args.new.now (c.args.value + 1)) c.args.values c.gain.new.self.counts.items c.gain.new.self.firsts.items) (sym c.gain.ensures.rows)
    (subst (λ (r : List Bool). IsGrid (with_row c.args.values rows c.args.place r) c.args.values c.gain.new.self.counts.items c.gain.new.self.firsts.items) (sym next) (c.gain.ensures.grid row c.requires.grid was))

pub lose-requires-clause-counts : goal.lose-requires-clause-counts
lose-requires-clause-counts c =
    let old = marks_at c.args.self.now.rows.items c.args.place in
    record {
      row = mixed_row c.args.values c.args.value c.args.new.now old;
      grid = c.requires.grid;
      marked = old_still c.args.values c.args.new.now old c.args.value c.args.value c.requires.value (omega arith) ∙ opposite c.has.result (is_marked c.args.new.now c.args.value) (is_marked old c.args.value) c.has.ensures c.requires.differs ∙ ap not c.if-has.false;
    }

pub returns-else-has-clause-grid : goal.returns-else-has-clause-grid
returns-else-has-clause-grid c =
    let rows = c.args.self.now.rows.items in
    let old = marks_at rows c.args.place in
    let row = mixed_row c.args.values c.args.value c.args.new.now old in
    let was = old_still c.args.values c.args.new.now old c.args.value c.args.value c.requires.value (omega arith) ∙ opposite c.has.result (is_marked c.args.new.now c.args.value) (is_marked old c.args.value) c.has.ensures c.requires.differs ∙ ap not c.if-has.false in
    let next = mixed_next c.args.values c.args.new.now old c.args.value c.requires.value ∙ ap (set row c.args.value) (sym c.has.ensures ∙ c.if-has.false) in
    subst (λ (rs : List Marks). IsGrid (mixed_rows c.args.values rs c.args.place c.args.new.now (c.args.value + 1)) c.args.values c.lose.new.self.counts.items c.lose.new.self.firsts.items) (sym c.lose.ensures.rows)
    (subst (λ (r : List Bool). IsGrid (with_row c.args.values rows c.args.place r) c.args.values c.lose.new.self.counts.items c.lose.new.self.firsts.items) (sym next) (c.lose.ensures.grid row c.requires.grid was))
