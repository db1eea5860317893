use Rattle.std.proofs.Common.{◌≡◌, ◌++◌, ap, sym, ◌∙◌, not, ◌&&◌, ℤ, refl, get_or, take, drop, List}
use Rattle.std.specs.Prelude.{is_some}
use Rattle.std.proofs.lemmas.List.{take-append-drop, get_or_default}
use Rattle.abt_parts.specs.declared.value_places.ValuePlace.{ValuePlace}
use Rattle.abt_parts.specs.Stores.{fits, is_against, is_ruled_out}
use Rattle.abt_parts.specs.Values.{place_for}
use Rattle.abt_parts.proofs.Counts.{filter_all}
use Rattle.abt_parts.proofs.TakenLaws.{stays, leaves}
use Rattle.abt_parts.proofs.taken.release_values.Goals as goal
use Rattle.abt_parts.proofs.taken.release_values.Goals.{then-not-is_fitting, else-not-is_fitting}

pub loop-place-init : goal.loop-place-init
loop-place-init c =
    let items = c.args.items.now in
    let first = c.args.first in
    let test = fits c.args.known.var c.args.known.value in
    record {
      taken = λ v. c.requires.taken v ∙ sym (ap (is_ruled_out v) (ap (λ z. z ++ drop first items) (filter_all test (take first items) c.requires.before) ∙ take-append-drop first items));
      kept = λ v there. refl;
    }

pub loop-place-preserved : goal.loop-place-preserved
loop-place-preserved c =
    let items = c.args.items.now in
    let k = c.loop-place.place in
    let x = get_or items k c.index-items-place.result in
    let is : x ≡ get_or items k x = get_or_default items k c.index-items-place.result x c.loop-place-test.true in
    let test = fits c.args.known.var c.args.known.value in
    elim c.if-not-is_fitting.branch [
      | then-not-is_fitting w ↦
          let read : (v : ℤ) → place_for c.if-not-is_fitting.places v ≡ place_for w.release_value.new.places v = λ v. ap (λ (z : List ValuePlace). place_for z v) w.places-is in record {
            taken = λ v.
                ap is_some (read v)
                ∙ w.release_value.ensures.taken v
                ∙ ap (λ b. b && not (is_against v x)) (c.loop-place.invariant.taken v)
                ∙ leaves test items k x c.loop-place-test.true is (is_against v) (c.requires.once v) (sym c.is_fitting.ensures ∙ w.if-not-is_fitting.true);
            kept = λ v there.
                let same = w.release_value.ensures.kept v (sym (ap is_some (read v)) ∙ there) in
                read v ∙ same ∙ c.loop-place.invariant.kept v (sym (ap is_some same) ∙ sym (ap is_some (read v)) ∙ there);
          }
      | else-not-is_fitting w ↦
          let read : (v : ℤ) → place_for c.if-not-is_fitting.places v ≡ place_for c.loop-place.places v = λ v. ap (λ (z : List ValuePlace). place_for z v) w.places-is in record {
            taken = λ v.
                ap is_some (read v)
                ∙ c.loop-place.invariant.taken v
                ∙ sym (ap (is_ruled_out v) (stays test items k x c.loop-place-test.true is (sym c.is_fitting.ensures ∙ w.if-not-is_fitting.false)));
            kept = λ v there. read v ∙ c.loop-place.invariant.kept v (sym (ap is_some (read v)) ∙ there);
          }
    ]
