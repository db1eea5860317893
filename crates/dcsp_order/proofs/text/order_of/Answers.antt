use Rattle.std.proofs.Common.{◌≡◌, ◌+◌, ◌∙◌, ℕ, Bool, false, List, length, refl, sym, ap, subst, arith, rules}
use Rattle.std.proofs.lemmas.List.{length_push, get_or-replicate}
use Rattle.ngd_log.specs.Lines.{lines}
use Rattle.dcsp_order.specs.ByRule.{is_among}
use Rattle.dcsp_order.specs.Taken.{flag_at}
use Rattle.dcsp_order.specs.Texts.{IsCause, IsTextOf}
use Rattle.dcsp_order.specs.declared.text.OrderError.TheVariants.{Line}
use Rattle.dcsp_order.proofs.FirstBad.{HasFront}
use Rattle.dcsp_order.proofs.TextAnswered.{bad_start, front_start, front_next, bad_variable, bad_again, bad_tail, bad_more, whole_end, variable_takes, takes_new, takes_old}
use Rattle.dcsp_order.proofs.text.order_of.Goals as goal

pub returns-in_default-clause-cause : goal.returns-in_default-clause-cause
returns-in_default-clause-cause c = bad_start c.args.variables c.args.text.now c.in_default.ensures.reads

pub loop-place-init : goal.loop-place-init
loop-place-init c =
    let none = c.new-numbers.ensures.items in
    record {
      front = subst (λ (o : List ℕ). HasFront c.args.variables c.args.text.now o (lines c.in-Some.first.now)) (sym none) (front_start c.args.variables c.args.text.now c.in-Some.first.now c.in-Some.ensures.reads);
      taken = λ k l. let as_many : length c.in-Ok.taken.items ≡ c.args.variables = search rules in
          ap (λ (z : List Bool). flag_at z k) (c.in-Ok.ensures.items_if_clones_equal (λ y h. search rules)) ∙ get_or-replicate c.args.variables k false false (omega (arith, l, as_many)) ∙ sym (ap (is_among k) none);
      as_many = search rules;
      count = ap length none;
    }

pub returns-in_default-variable_at-clause-cause : goal.returns-in_default-variable_at-clause-cause
returns-in_default-variable_at-clause-cause c =
    let i = c.loop-place.invariant in
    let bad = bad_variable c.args.variables c.args.text.now c.loop-place.numbers.items c.loop-place.rest.now c.requires (omega (arith, i.count, c.loop-place-test.true)) i.front c.in_default-variable_at.ensures in
    subst (IsCause c.args.variables c.args.text.now) (ap (λ (z : ℕ). Line (z + 2)) i.count ∙ sym c.bad_line.ensures) bad

pub take-requires-clause-within : goal.take-requires-clause-within
take-requires-clause-within c =
    let b = variable_takes c.args.variables c.loop-place.rest.now c.in-Some-variable_at.variable c.in-Some-variable_at.others.now c.in-Some-variable_at.ensures in
    let low = b.low in
    omega (arith, low, c.loop-place.invariant.as_many)

pub returns-in-Ok-false-clause-cause : goal.returns-in-Ok-false-clause-cause
returns-in-Ok-false-clause-cause c =
    let i = c.loop-place.invariant in
    let here = takes_old c.in-Ok-false.field-0 c.in-Some-variable_at.variable c.loop-place.numbers.items c.take.new.numbers.items c.loop-place.taken.items c.take.new.taken.items c.in-Ok-false.field-0-test c.in-Ok-false.ensures in
    let bad = bad_again c.args.variables c.args.text.now c.loop-place.numbers.items c.loop-place.rest.now c.in-Some-variable_at.variable c.in-Some-variable_at.others.now c.requires (omega (arith, i.count, c.loop-place-test.true)) i.front c.in-Some-variable_at.ensures here in
    subst (IsCause c.args.variables c.args.text.now) (ap (λ (z : ℕ). Line (z + 2)) i.count ∙ sym c.bad_line-in-Ok-false.ensures) bad

pub loop-place-preserved : goal.loop-place-preserved
loop-place-preserved c =
    let i = c.loop-place.invariant in
    let k = c.in-Some-variable_at.variable in
    let new = takes_new c.in-Ok-true.field-0 k c.loop-place.numbers.items c.take.new.numbers.items c.loop-place.taken.items c.take.new.taken.items c.in-Ok-true.field-0-test c.in-Ok-true.ensures in
    record {
      front = subst (λ (o : List ℕ). HasFront c.args.variables c.args.text.now o (lines c.in-Some-variable_at.others.now)) (sym new.1)
          (front_next c.args.variables c.args.text.now c.loop-place.numbers.items c.loop-place.rest.now k c.in-Some-variable_at.others.now c.requires i.front c.in-Some-variable_at.ensures new.0);
      taken = new.3;
      as_many = new.2 ∙ i.as_many;
      count = ap length new.1 ∙ length_push c.loop-place.numbers.items k ∙ ap (λ z. z + 1) i.count;
    }

pub of_numbers-requires-clause-order : goal.of_numbers-requires-clause-order
of_numbers-requires-clause-order c =
    let i = c.loop-place.invariant in
    record { whole = refl; inside = λ k j. let low = i.front.some.inside k j in omega (arith, low, i.count, c.loop-place-test.false); once = i.front.some.once }

pub returns-in-Ok-of_numbers-clause-order : goal.returns-in-Ok-of_numbers-clause-order
returns-in-Ok-of_numbers-clause-order c =
    let i = c.loop-place.invariant in
    subst (IsTextOf c.args.variables c.args.text.now) (sym c.in-Ok-of_numbers.ensures)
    (whole_end c.args.variables c.args.text.now c.loop-place.numbers.items c.loop-place.rest.now c.in-Some-empty.field-0.now (omega (arith, i.count, c.loop-place-test.false, c.loop-place.auto.place-end)) i.front c.in-Some-empty.ensures.reads c.in-Some-empty.len_below)

pub returns-in-Some-after-clause-cause : goal.returns-in-Some-after-clause-cause
returns-in-Some-after-clause-cause c =
    let i = c.loop-place.invariant in
    let whole : length c.loop-place.numbers.items ≡ c.args.variables = omega (arith, i.count, c.loop-place-test.false, c.loop-place.auto.place-end) in
    let bad = bad_more c.args.variables c.args.text.now c.loop-place.numbers.items c.loop-place.rest.now c.in-Some-after.field-0.now c.requires whole i.front c.in-Some-after.ensures.reads (omega (arith, c.in-Some-after.len_at_least)) in
    subst (IsCause c.args.variables c.args.text.now) (ap (λ (z : ℕ). Line (z + 3)) whole ∙ sym c.bad_line-in-Some-after.ensures) bad

pub returns-clause-cause : goal.returns-clause-cause
returns-clause-cause c =
    let i = c.loop-place.invariant in
    let whole : length c.loop-place.numbers.items ≡ c.args.variables = omega (arith, i.count, c.loop-place-test.false, c.loop-place.auto.place-end) in
    let bad = bad_tail c.args.variables c.args.text.now c.loop-place.numbers.items c.loop-place.rest.now c.requires whole i.front c.in-None.ensures.reads in
    subst (IsCause c.args.variables c.args.text.now) (ap (λ (z : ℕ). Line (z + 2)) whole ∙ sym c.bad_line-in-None.ensures) bad
