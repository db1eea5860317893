use Rattle.std.proofs.Common.{◌≡◌, ◌<◌, ◌≤◌, true, get_or, length, List, ap, sym, ◌∙◌, arith, ℕ, take, below_more}
use Rattle.std.specs.List.{list_all}
use Rattle.std.proofs.lemmas.List.{get_or_default}
use Rattle.abt_parts.specs.declared.recorded.Recorded.{Recorded}
use Rattle.abt_parts.specs.Stores.{fits, places_naming}
use Rattle.abt_parts.proofs.PlaceLaws.{place_within, all_at_places, all_before}
use Rattle.abt_parts.proofs.Fitting.{fits_unnamed}
use Rattle.abt_parts.proofs.store.Store.first_unfit.Goals as goal

-- a place that the loop comes to is one of the items'
within : (items shown : List Recorded) (var k : ℕ) (places : List ℕ) → items ≡ shown → places ≡ places_naming shown var → k < length places → get_or places k 0 < length items
within items shown var k places view is below =
    let all : places ≡ places_naming items var = is ∙ ap (λ z. places_naming z var) (sym view) in
    let fits_in = place_within items var k (omega (arith, below, ap length all)) in
    omega (arith, fits_in, ap (λ (z : List ℕ). get_or z k 0) all)

pub index-requires : goal.index-requires
index-requires c =
    let below = within c.self.inside.items.items c.args.self.now c.args.known.var c.loop-place.place-index c.naming-place-items.result.now c.self.view_is c.naming-place-items.ensures c.loop-place-test.true in
    omega arith

pub returns-then-not-is_fitting-clause-within : goal.returns-then-not-is_fitting-clause-within
returns-then-not-is_fitting-clause-within c =
    let below = within c.self.inside.items.items c.args.self.now c.args.known.var c.loop-place.place-index c.naming-place-items.result.now c.self.view_is c.naming-place-items.ensures c.loop-place-test.true in
    omega (arith, below, ap length c.self.view_is)

pub returns-then-not-is_fitting-clause-before : goal.returns-then-not-is_fitting-clause-before
returns-then-not-is_fitting-clause-before c =
    let items = c.self.inside.items.items in
    let var = c.args.known.var in
    let test = fits var c.args.known.value in
    let all : c.naming-place-items.result.now ≡ places_naming items var = c.naming-place-items.ensures ∙ ap (λ z. places_naming z var) (sym c.self.view_is) in
    sym (ap (λ z. list_all test (take (get_or c.naming-place-items.result.now c.loop-place.place-index 0) z)) c.self.view_is)
    ∙ all_before test items var c.loop-place.place-index (get_or c.naming-place-items.result.now c.loop-place.place-index 0) (λ x unnamed. fits_unnamed x.nogood var c.args.known.value unnamed)
    (ap (λ (z : List ℕ). get_or z c.loop-place.place-index 0) (sym all)) (λ j below d. ap (λ (z : List ℕ). test (get_or items (get_or z j 0) d)) (sym all) ∙ c.loop-place.invariant j below d)

pub loop-place-preserved : goal.loop-place-preserved
loop-place-preserved c =
    let items = c.self.inside.items.items in
    let test = fits c.args.known.var c.args.known.value in
    let below = within items c.args.self.now c.args.known.var c.loop-place.place-index c.naming-place-items.result.now c.self.view_is c.naming-place-items.ensures c.loop-place-test.true in
    below_more (λ j. (d : Recorded) → test (get_or items (get_or c.naming-place-items.result.now j 0) d) ≡ true) _ c.loop-place.invariant (λ d.
    ap test (get_or_default items _ d c.index.result.now below ∙ sym c.index.ensures) ∙ sym c.is_fitting.ensures ∙ c.if-not-is_fitting.false)

pub returns-clause-none : goal.returns-clause-none
returns-clause-none c = λ none.
    let items = c.self.inside.items.items in
    let var = c.args.known.var in
    let test = fits var c.args.known.value in
    let all : c.naming-place-items.result.now ≡ places_naming items var = c.naming-place-items.ensures ∙ ap (λ z. places_naming z var) (sym c.self.view_is) in
    let end : length c.naming-place-items.result.now ≤ c.loop-place.place-index = omega arith in
    sym (ap (list_all test) c.self.view_is)
    ∙ all_at_places test items var (λ x unnamed. fits_unnamed x.nogood var c.args.known.value unnamed) (λ j below d.
    ap (λ (z : List ℕ). test (get_or items (get_or z j 0) d)) (sym all) ∙ c.loop-place.invariant j (omega (arith, below, end, ap length all)) d)
