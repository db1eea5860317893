use Rattle.std.proofs.Common.{◌≡◌, ◌<◌, ◌-◌, length, get_or, rules, arith, ap, sym, ◌∙◌, ℕ, List}
use Rattle.std.proofs.lemmas.List.{get_or_default}
use Rattle.abt_parts.specs.Stores.{places_naming}
use Rattle.abt_parts.proofs.PlaceLaws.{place_within}
use Rattle.abt_parts.proofs.store.Store.ends_unfit.Goals as goal

pub overflow_add-place : goal.overflow_add-place
overflow_add-place c =
    let items = c.self.inside.items.items in
    let places = c.naming.result.now in
    let all : places ≡ places_naming items c.args.known.var = c.naming.ensures ∙ ap (λ z. places_naming z c.args.known.var) (sym c.self.view_is) in
    let some : length places - 1 < length places = omega (arith, c.in-Some.ensures.item.3.0) in
    let here : c.in-Some.place.now ≡ get_or places (length places - 1) 0 = c.in-Some.ensures.item.1 ∙ get_or_default places (length places - 1) c.in-Some.place.now 0 some in
    let inside = place_within items c.args.known.var (length places - 1) (omega (arith, some, ap length all)) in
    let below : c.in-Some.place.now < length items = omega (arith, inside, here, ap (λ (z : List ℕ). get_or z (length places - 1) 0) all) in
    search rules
