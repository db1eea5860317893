use Rattle.std.proofs.Common.{◌≡◌, filter, length, ap, sym, ◌∙◌, rules, arith, ℤ, w64, SFits, to_z, of_z}
use Rattle.std.proofs.lemmas.Bool.{eqb-true}
use Rattle.std.proofs.lemmas.Int.{to_z-of_z}
use Rattle.abt_parts.specs.Stores.{fits, records_of, places_naming}
use Rattle.abt_parts.proofs.Counts.{filter_all}
use Rattle.abt_parts.proofs.Fitting.{fits_unnamed, records-filter}
use Rattle.abt_parts.proofs.PlaceLaws.{all_at_places}
use Rattle.abt_parts.proofs.store.Store.forget.Goals as goal

pub returns-then-is_empty-clause-items : goal.returns-then-is_empty-clause-items
returns-then-is_empty-clause-items c =
    let items = c.args.self.now in
    let var = c.args.var in
    let value = c.args.value in
    let empty = eqb-true (length c.naming.result.now) 0 (sym c.is_empty.ensures ∙ c.if-is_empty.true) in
    let none : length (places_naming items var) ≡ 0 = ap length (sym c.naming.ensures) ∙ empty in
    sym (filter_all (fits var value) items (all_at_places (fits var value) items var (λ x unnamed. fits_unnamed x.nogood var value unnamed) (λ j below d. absurd (omega (arith, below, none)))))

pub returns-then-is_empty-clause-records : goal.returns-then-is_empty-clause-records
returns-then-is_empty-clause-records c = ap records_of (returns-then-is_empty-clause-items c) ∙ records-filter c.args.var c.args.value c.args.self.now

pub returns-clause-records : goal.returns-clause-records
returns-clause-records c =
    let in_range : SFits w64 c.args.value = search rules in
    let same : to_z w64 (of_z w64 c.args.value) ≡ c.args.value = simp to_z-of_z in
    let kept = c.forget_named.ensures ∙ ap (λ (v : ℤ). filter (fits c.args.var v) c.args.self.now) same in
    ap records_of kept ∙ records-filter c.args.var c.args.value c.args.self.now
