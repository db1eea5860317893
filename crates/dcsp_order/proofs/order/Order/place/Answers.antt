use Rattle.std.proofs.Common.{◌≡◌, ◌<◌, ◌∙◌, ℕ, List, length, sym, subst, arith}
use Rattle.std.proofs.lemmas.List.{get_or_default}
use Rattle.dcsp_order.specs.Orders.{place_of}
use Rattle.dcsp_order.proofs.Places.{low_place}
use Rattle.dcsp_order.proofs.order.Order.place.Goals as goal

pub returns-clause-within : goal.returns-clause-within
returns-clause-within c =
    let numbers : List ℕ = c.self.inside.numbers.items in
    let places : List ℕ = c.self.inside.places.items in
    let number = c.args.number in
    let known : number < length numbers = subst (λ (z : List ℕ). number < length z) (sym c.self.view_is) c.requires in
    let as_many = c.self.invariant.places_are.as_many in
    let stands : c.index.result.now ≡ place_of numbers number =
    c.index.ensures ∙ get_or_default places number c.index.result.now 0 (omega (arith, known, as_many)) ∙ c.self.invariant.places_are.each number known
    in
    let low = low_place (length numbers) numbers c.self.invariant.is_order number known in
    subst (λ (z : List ℕ). c.index.result.now < length z) c.self.view_is (omega (arith, stands, low))
