use Rattle.std.proofs.Common.{◌≡◌, ◌<◌, ◌∙◌, ℕ, List, length, set, get_or, sym, ap, inl, inr, arith, length-set, get_or-set_same, get_or-set_other}
use Rattle.std.proofs.lemmas.Bool.Decides.{eqb_tells}
use Rattle.dcsp_order.specs.Orders.{place_of}
use Rattle.dcsp_order.proofs.Places.{item_in, low_place, number_back, place_back}
use Rattle.dcsp_order.proofs.order.places_of.Goals as goal

pub index_mut-requires : goal.index_mut-requires
index_mut-requires c =
    let numbers : List ℕ = c.args.numbers.now in
    let low = c.requires.order.inside (get_or numbers c.loop-place.place 0) (item_in numbers c.loop-place.place 0 c.loop-place-test.true) in
    omega (arith, low, c.loop-place.invariant.as_many)

pub loop-place-preserved : goal.loop-place-preserved
loop-place-preserved c =
    let numbers : List ℕ = c.args.numbers.now in
    let places : List ℕ = c.loop-place.places.items in
    let place = c.loop-place.place in
    let within : place < length numbers = c.loop-place-test.true in
    let number = get_or numbers place 0 in
    let low = c.requires.order.inside number (item_in numbers place 0 within) in
    record {
      as_many = length-set places number place ∙ c.loop-place.invariant.as_many;
      each = λ j l. elim (eqb_tells j place) [
        | inl t ↦
            ap (λ k. get_or (set places number place) (get_or numbers k 0) 0) t.1
            ∙ get_or-set_same places number place 0 (omega (arith, low, c.loop-place.invariant.as_many))
            ∙ sym t.1
        | inr t ↦
            let other = t.1 in
            let before : j < place = omega (arith, l, other) in
            let differ : get_or numbers j 0 ≡ number → ⊥ = λ same.
            other (sym (place_back (length numbers) numbers c.requires.order j 0 (omega (arith, before, within)))
            ∙ ap (place_of numbers) same
            ∙ place_back (length numbers) numbers c.requires.order place 0 within)
            in
            get_or-set_other places number (get_or numbers j 0) place 0 differ ∙ c.loop-place.invariant.each j before
      ];
    }

pub returns : goal.returns
returns c =
    let numbers : List ℕ = c.args.numbers.now in
    let places : List ℕ = c.loop-place.places.items in
    record {
      as_many = c.loop-place.invariant.as_many;
      each = λ k l.
          let low = low_place (length numbers) numbers c.requires.order k l in
          ap (λ z. get_or places z 0) (sym (number_back (length numbers) numbers c.requires.order k 0 l))
          ∙ c.loop-place.invariant.each (place_of numbers k) (omega (arith, low, c.loop-place-test.false));
    }
