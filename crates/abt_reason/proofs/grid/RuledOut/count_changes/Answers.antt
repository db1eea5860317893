use Rattle.std.proofs.Common.{rules, ◌<◌, ◌∙◌, ap, sym, subst, length, arith, refl, Bool, List}
use Rattle.std.proofs.lemmas.List.{get_or_default}
use Rattle.dcsp_row.specs.Marks.{is_marked}
use Rattle.abt_reason.specs.Grids.{no_marks, rows_of, IsGrid}
use Rattle.abt_reason.proofs.GridLaws.{grid_uncounted}
use Rattle.abt_reason.proofs.MarkLaws.{in_rows, rows_end, rows_skip, rows_start, size_of_row}
use Rattle.abt_reason.proofs.grid.RuledOut.count_changes.Goals as goal

pub loop-value-init : goal.loop-value-init
loop-value-init c = record {
  grid = subst (λ (rs : List (List Bool)). IsGrid rs c.args.values c.args.self.now.counts.items c.args.self.now.firsts.items) (sym (rows_start c.args.values c.args.self.now.rows.items c.args.place c.args.new.now c.requires.rows.here)) c.requires.rows.grid;
  counted = search rules;
  rows = refl;
  within = omega arith;
}

pub count-requires-clause-grid : goal.count-requires-clause-grid
count-requires-clause-grid c =
    let rows = c.loop-value.self.rows.items in
    let here : c.args.place < length rows = omega (arith, c.requires.rows.here, ap length c.loop-value.invariant.rows) in
    let skip = rows_skip c.args.values rows c.args.place c.args.new.now here c.loop-value.from c.in-Some.value c.in-Some.ensures.within.0
    (λ k l m. c.in-Some.ensures.same k l m ∙ ap (λ marks. is_marked marks k) (c.index.ensures ∙ get_or_default rows c.args.place c.index.result.now no_marks here)) in
    subst (λ (rs : List (List Bool)). IsGrid rs c.args.values c.loop-value.self.counts.items c.loop-value.self.firsts.items) skip c.loop-value.invariant.grid

pub returns-then-len-values-clause-grid : goal.returns-then-len-values-clause-grid
returns-then-len-values-clause-grid c =
    let rows = c.args.self.now.rows.items in
    grid_uncounted (rows_of c.args.values rows) c.args.values c.args.place _ c.args.self.now.counts.items c.args.self.now.firsts.items c.requires.rows.grid (search rules)
    (in_rows c.args.values rows c.args.place c.args.new.now c.requires.rows.here) (size_of_row c.args.values c.args.new.now)

pub returns-clause-grid : goal.returns-clause-grid
returns-clause-grid c =
    let rows = c.loop-value.self.rows.items in
    let here : c.args.place < length rows = omega (arith, c.requires.rows.here, ap length c.loop-value.invariant.rows) in
    let skip = rows_skip c.args.values rows c.args.place c.args.new.now here c.loop-value.from c.args.values c.loop-value.invariant.within
    (λ k l m. c.in_default.ensures.same k l m ∙ ap (λ marks. is_marked marks k) (c.index.ensures ∙ get_or_default rows c.args.place c.index.result.now no_marks here)) in
    let end = rows_end c.args.values rows c.args.place c.args.new.now here in
    subst (λ (rs : List (List Bool)). IsGrid rs c.args.values c.loop-value.self.counts.items c.loop-value.self.firsts.items) (skip ∙ end) c.loop-value.invariant.grid
