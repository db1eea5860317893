use Rattle.std.proofs.Common.{◌≡◌, ◌∙◌, ◌++◌, ◌∷◌, [], List, None, Some, append-nil, sym, ap, subst, add-one, rules, w64, SFits}
use Rattle.std.proofs.lemmas.Int.{to_z-of_z}
use Rattle.dcsp_defs.specs.declared.nogood.Pair.{Pair}
use Rattle.dcsp_defs.specs.Pairs.{pair_of, value_at, IsRising}
use Rattle.dcsp_order.proofs.Pairs.{first_pairs, first_rise, one_more}
use Rattle.dcsp_order.proofs.order.Order.nogood_told.Goals as goal

pub loop-number-preserved-in_default : goal.loop-number-preserved-in_default
loop-number-preserved-in_default c =
    let order : List _ = c.args.self.now in
    let pairs : List Pair = c.args.nogood.now in
    let n = c.loop-number.number in
    let none : c.value_of.result ≡ None = search rules in
    c.loop-number.invariant
    ∙ sym (one_more order pairs n None (ap (value_at pairs) (sym c.place.ensures.place) ∙ sym c.value_of.ensures ∙ none) ∙ append-nil (first_pairs order pairs n))
    ∙ ap (first_pairs order pairs) (sym (add-one n))

pub loop-number-preserved : goal.loop-number-preserved
loop-number-preserved c =
    let order : List _ = c.args.self.now in
    let pairs : List Pair = c.args.nogood.now in
    let n = c.loop-number.number in
    let fits : SFits w64 c.in-Some.value = search rules in
    let pushed : c.push.new.self.items ≡ c.loop-number.pairs.items ++ pair_of n c.in-Some.value ∷ [] = simp to_z-of_z at c.in_ok-push.ensures.items in
    pushed
    ∙ ap (λ (z : List Pair). z ++ pair_of n c.in-Some.value ∷ []) c.loop-number.invariant
    ∙ sym (one_more order pairs n (Some c.in-Some.value) (ap (value_at pairs) (sym c.place.ensures.place) ∙ sym c.value_of.ensures ∙ c.in-Some.is))
    ∙ ap (first_pairs order pairs) (sym (add-one n))

pub of_rising-requires : goal.of_rising-requires
of_rising-requires c =
    let order : List _ = c.args.self.now in
    subst IsRising (sym c.loop-number.invariant) (first_rise order c.args.nogood.now c.loop-number.number)
