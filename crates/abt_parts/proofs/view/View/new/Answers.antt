use Rattle.std.proofs.Common.{◌≡◌, ◌<◌, ◌∙◌, ap, arith, length, refl, inl, inr}
use Rattle.std.proofs.lemmas.Bool.{cases_lt}
use Rattle.std.proofs.lemmas.List.{length-set}
use Rattle.abt_parts.specs.Views.{told_at, view_of}
use Rattle.abt_parts.proofs.Slots.{blank_is, place_made, places_stay, view_stays}
use Rattle.abt_parts.proofs.view.View.new.Goals as goal

pub loop-higher-preserved : goal.loop-higher-preserved
loop-higher-preserved c =
    let before = c.loop-higher.view in
    let var = c.loop-higher.higher in
    let told = told_at before var in
    let within : var < length before = omega (arith, c.loop-higher.invariant.slots, c.loop-higher-test.true) in
    let made = c.in_ok-make_one_place.ensures.made in
    record {
      made = λ k l. rw made (elim (cases_lt k var) [
        | inl earlier ↦ places_stay before var told within k (c.loop-higher.invariant.made k earlier)
        | inr past ↦ let same : k ≡ var = omega (arith, l, past) in rw same (place_made before var told within)
      ]);
      told = ap view_of made ∙ view_stays before var told within refl ∙ c.loop-higher.invariant.told;
      slots = ap length made ∙ length-set before var _ ∙ c.loop-higher.invariant.slots;
    }

pub returns-clause-slots : goal.returns-clause-slots
returns-clause-slots c =
    let size = c.loop-higher.invariant.slots in
    blank_is c.args.agent c.loop-higher.view size (λ k l. c.loop-higher.invariant.made k (omega (arith, l, c.loop-higher-test.false))) c.loop-higher.invariant.told
