use Rattle.std.proofs.Common.{◌<◌, ◌∙◌, ap, arith, length, refl}
use Rattle.std.proofs.lemmas.List.{length-set}
use Rattle.abt_parts.specs.Views.{told_at, view_of}
use Rattle.abt_parts.proofs.Slots.{places_stay, view_stays}
use Rattle.abt_parts.proofs.view.View.make_places_before.Goals as goal

pub loop-near-preserved : goal.loop-near-preserved
loop-near-preserved c =
    let before = c.loop-near.self in
    let var = c.loop-near.near in
    let told = told_at before var in
    let within : var < length before = omega (arith, c.loop-near.invariant.slots, c.loop-near-test.true, c.requires) in
    let made = c.in_ok-make_one_place.ensures.made in
    record {
      stay = λ k has. rw made (places_stay before var told within k (c.loop-near.invariant.stay k has));
      told = ap view_of made ∙ view_stays before var told within refl ∙ c.loop-near.invariant.told;
      slots = ap length made ∙ length-set before var _ ∙ c.loop-near.invariant.slots;
    }
