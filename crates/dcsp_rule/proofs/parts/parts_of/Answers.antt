use Rattle.std.proofs.Common.{refl, ◌<◌, ◌==◌, ◌∙◌, ◌*ℤ◌, pos, ap, drop, length, get_or, filter_map, arith, rules, SFits, w64}
use Rattle.std.specs.Prelude.{◌^◌, unsigned_abs}
use Rattle.std.specs.List.{list_any}
use Rattle.std.proofs.lemmas.List.Sums.{sum_by-drop_more}
use Rattle.std.proofs.lemmas.Int.{to_z-of_z, ints}
use Rattle.std.proofs.lemmas.List.{take_all}
use Rattle.dcsp_meaning.specs.Sums.{sum_of}
use Rattle.dcsp_rule.specs.Rules.{value_under, variable_of, weighted_values}
use Rattle.dcsp_rule.specs.Parts.{coefs_size, parts_at}
use Rattle.dcsp_rule.proofs.PartLaws.{next_sum, parts_more, sum_here, sum_done}
use Rattle.dcsp_rule.proofs.SmallLaws.{all_over, coefs_left, constants_left, constants_room}
use Rattle.dcsp_rule.proofs.parts.parts_of.Goals as goal

pub loop-place-preserved : goal.loop-place-preserved
loop-place-preserved c =
    let k = c.loop-place.place in
    let coefs = c.args.coefs.now in
    let terms = c.args.terms.now in
    let coef = get_or coefs k (pos 0) in
    let fits : SFits w64 coef = search rules in
    let here : k < length coefs = c.loop-place-test.true in
    let adds = simp to_z-of_z at c.in-Some.ensures.adds in
    let small = simp to_z-of_z at c.in-Some.ensures.small in
    let before = c.loop-place.invariant in
    record {
      summed = λ values.
          next_sum (parts_at c.loop-place.parts values) (parts_at c.in-Some.next values) (coef *ℤ value_under values (get_or terms k _)) (sum_of (drop k (weighted_values values coefs terms))) _ _ (adds.sum values)
          (sum_here values coefs terms k _ c.requires here) (c.loop-place.invariant.summed values);
      coefs_fit = coefs_left coefs k (coefs_size c.loop-place.parts) (coefs_size c.in-Some.next) here small.sizes.coefs before.coefs_fit;
      constants_fit = constants_left coefs terms k _ c.requires here (unsigned_abs c.loop-place.parts.total) (unsigned_abs c.in-Some.next.total) small.sizes.constants before.constants_fit;
      over = λ v w all few low.
          let inside : k < length terms = omega (arith, here, c.requires) in
          let more = sum_by-drop_more unsigned_abs coefs k (pos 0) here in
          (small.room v w (before.over v w all few low) (all_over v w terms k _ all inside) (omega (arith, more, before.coefs_fit, few)) (constants_room coefs terms k _ c.requires here (unsigned_abs c.loop-place.parts.total) (2 ^ 65) before.constants_fit low)).1;
      variables = λ var. parts_more c.loop-place.parts c.in-Some.next coef terms k _ var (omega (arith, here, c.requires)) adds (c.loop-place.invariant.variables var);
    }

pub returns-clause-small : goal.returns-clause-small
returns-clause-small c =
    let kept = c.loop-place.invariant in
    record {
      sizes = record { coefs = omega (arith, kept.coefs_fit); constants = omega (arith, kept.constants_fit) };
      room = λ v w all few low. (refl, kept.over v w all few low);
    }

pub returns-in_default-clause-small : goal.returns-in_default-clause-small
returns-in_default-clause-small c =
    let k = c.loop-place.place in
    let coefs = c.args.coefs.now in
    let terms = c.args.terms.now in
    let coef = get_or coefs k (pos 0) in
    let fits : SFits w64 coef = search rules in
    let here : k < length coefs = c.loop-place-test.true in
    let small = simp to_z-of_z at c.in_default.ensures.small in
    let before = c.loop-place.invariant in
    record {
      sizes = tt;
      room = λ v w all few low.
          let inside : k < length terms = omega (arith, here, c.requires) in
          let more = sum_by-drop_more unsigned_abs coefs k (pos 0) here in
          small.room v w (before.over v w all few low) (all_over v w terms k _ all inside) (omega (arith, more, before.coefs_fit, few)) (constants_room coefs terms k _ c.requires here (unsigned_abs c.loop-place.parts.total) (2 ^ 65) before.constants_fit low);
    }

pub returns-clause-sum : goal.returns-clause-sum
returns-clause-sum c =
    let terms = c.args.terms.now in
    record {
      sum = λ values. omega (arith, ints, c.loop-place.invariant.summed values, sum_done values c.args.coefs.now terms c.loop-place.place c.loop-place-test.false);
      variables = λ var. c.loop-place.invariant.variables var ∙ ap (λ ts. list_any (λ v. v == var) (filter_map variable_of ts)) (take_all c.loop-place.place terms (omega (arith, c.loop-place-test.false, c.requires)));
    }
