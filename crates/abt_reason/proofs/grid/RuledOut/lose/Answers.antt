use Rattle.std.proofs.Common.{◌≡◌, ◌≢◌, ◌-◌, ◌∙◌, refl, sym, subst, length, true, false, arith, ℕ, Bool, List}
use Rattle.dcsp_row.specs.declared.marks.Marks.{Marks}
use Rattle.abt_reason.specs.Firsts.{IsFirst}
use Rattle.abt_reason.specs.Grids.{count_of, AreMarksBehind, LosesPlace, NoneIfUncounted}
use Rattle.abt_reason.proofs.CountLaws.{takes, is_mark, is_other, is_kept, first_was, none_left, kept, read_back, after}
use Rattle.abt_reason.proofs.GridLaws.{counted_inside}
use Rattle.abt_reason.proofs.grid.RuledOut.lose.Goals as goal

pub first_without-requires-clause-value : goal.first_without-requires-clause-value
first_without-requires-clause-value c = counted_inside c.args.values (length c.args.self.now.counts.items) c.args.value c.requires.counts.grid.counted c.requires.value

pub overflow_sub-index_mut : goal.overflow_sub-index_mut
overflow_sub-index_mut c =
    let was = c.requires.counts in
    let e = takes c.args.values c.args.self.now.rows.items c.args.place c.args.value c.requires.place c.args.self.now.counts.items c.requires.value c.args.self.now.firsts.items was.row was.grid false true was.marked refl refl c.index_mut.result.now c.index_mut.ensures.value in
    omega (arith, e)

pub returns-clause-grid : goal.returns-clause-grid
returns-clause-grid c = λ row grid marked.
    let e = takes c.args.values c.args.self.now.rows.items c.args.place c.args.value c.requires.place c.args.self.now.counts.items c.requires.value c.args.self.now.firsts.items row grid false true marked refl refl c.index_mut.result.now c.index_mut.ensures.value in
    let was = first_was c.args.values c.args.self.now.rows.items c.args.place c.args.value c.requires.place c.args.self.now.counts.items c.requires.value c.args.self.now.firsts.items row grid false true marked c.index-first.result.now c.index-first.ensures in
    let off = is_mark c.args.values c.args.self.now.rows.items c.args.place c.args.value c.requires.place c.args.self.now.counts.items c.requires.value c.args.self.now.firsts.items row grid false true marked in
    let same = is_other c.args.values c.args.self.now.rows.items c.args.place c.args.value c.requires.place c.args.self.now.counts.items c.requires.value c.args.self.now.firsts.items row grid false true marked in
    let left = c.index_mut.result.now - 1 in
    let count : left ≡ count_of (after c.args.values c.args.self.now.rows.items c.args.place c.args.value c.requires.place c.args.self.now.counts.items c.requires.value c.args.self.now.firsts.items row grid false true marked) c.args.value = omega (arith, e) in
    let back = read_back c.args.values c.args.self.now.rows.items c.args.place c.args.value c.requires.place c.args.self.now.counts.items c.requires.value c.args.self.now.firsts.items row grid false true marked left c.index-count.result.now c.index-count.ensures in
    let found = subst (λ (rs : List Marks). (p q : ℕ → Bool) → LosesPlace c.args.place p q → AreMarksBehind rs c.args.value c.args.place q → NoneIfUncounted c.index-count.result.now rs q → IsFirst p (length rs) c.index-first.result.now → IsFirst q (length rs) c.first_without.result)
    c.deref.ensures.value c.first_without.ensures in
    kept c.args.values c.args.self.now.rows.items c.args.place c.args.value c.requires.place c.args.self.now.counts.items c.requires.value c.args.self.now.firsts.items row grid false true marked left c.first_without.result count
    (found _ _ (off, same)
    (λ j past l. let apart : j ≢ c.args.place = omega (arith, past) in is_kept c.args.values c.args.self.now.rows.items c.args.place c.args.value c.requires.place c.args.self.now.counts.items c.requires.value c.args.self.now.firsts.items row grid false true marked j apart l)
    (λ none. none_left c.args.values c.args.self.now.rows.items c.args.place c.args.value c.requires.place c.args.self.now.counts.items c.requires.value c.args.self.now.firsts.items row grid false true marked left count (sym back ∙ none)) was)
