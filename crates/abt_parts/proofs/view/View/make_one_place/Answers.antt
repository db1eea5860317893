use Rattle.std.proofs.Common.{◌≡◌, ◌<◌, ◌∙◌, ap, arith, false, length, set, sym, None, Some}
use Rattle.abt_parts.specs.Views.{has_place}
use Rattle.abt_parts.proofs.Slots.{below_put, length_slots, nothing_told, slots_put}
use Rattle.abt_parts.proofs.view.View.make_one_place.Goals as goal

pub invariant_of-self-2 : goal.invariant_of-self-2
invariant_of-self-2 c =
    let places = c.self.inside.places.items in
    let agents = c.self.inside.agents in
    let size = length_slots agents places in
    let is = ap length c.self.view_is in
    let within : c.args.var < agents = omega (arith, size, is, c.requires) in
    record {
      rising = c.put.ensures.rising;
      below = below_put agents places c.put.new.entries.items c.args.var None within c.put.ensures.rising c.in_ok-put.ensures.item c.self.invariant.below;
    }

pub returns-clause-made : goal.returns-clause-made
returns-clause-made c =
    let places = c.self.inside.places.items in
    let agents = c.self.inside.agents in
    let size = length_slots agents places in
    let is = ap length c.self.view_is in
    let within : c.args.var < agents = omega (arith, size, is, c.requires) in
    let none : has_place c.args.self.now c.args.var ≡ false = sym c.has_place.ensures ∙ c.if-has_place.false in
    slots_put agents places c.put.new.entries.items c.args.var None within c.in_ok-put.ensures.item
    ∙ ap (λ slots. set slots c.args.var (Some None)) c.self.view_is
    ∙ ap (λ told. set c.args.self.now c.args.var (Some told)) (sym (nothing_told c.args.self.now c.args.var none))
