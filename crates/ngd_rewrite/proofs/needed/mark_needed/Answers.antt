use Rattle.std.proofs.Common.{◌≡◌, ◌-◌, ◌<◌, ◌||◌, ℕ, List, length, get_or, Some, slice_get, refl, ap, ◌∙◌, subst, arith, true, false}
use Rattle.std.proofs.lemmas.Option.{slice_get-get_or}
use Rattle.dcsp_defs.specs.declared.Reason.{Reason}
use Rattle.dcsp_defs.proofs.Lists.{or_left}
use Rattle.ngd_rewrite.specs.Needed.{cites, is_last}
use Rattle.ngd_check.specs.Places.{no_step}
use Rattle.ngd_rewrite.specs.Marks.{is_marked}
use Rattle.ngd_rewrite.proofs.Marking.{AreClosed, mark_at, needed_more, closed_more, closed_stays, all_needed}
use Rattle.ngd_rewrite.proofs.needed.mark_needed.Goals as goal

pub loop-left-init : goal.loop-left-init
loop-left-init c = record {
  left = omega arith;
  as_many = refl;
  sound = λ number t. is_last number ((c.requires.last number).0 t);
  last = (c.requires.last _).1 refl;
  closed = λ by step number l t at cited. absurd (let e = (c.requires.last by).0 t in omega (arith, l, e));
}

pub mark_cited-requires : goal.mark_cited-requires
mark_cited-requires c number t =
    let place = c.loop-left.left - 1 in
    let step = get_or c.args.steps.now place no_step in
    let there : slice_get c.args.steps.now place ≡ Some step = slice_get-get_or c.args.steps.now place no_step (omega (arith, c.loop-left.invariant.left)) in
    let reasons = c.reasons.ensures in
    let n = c.requires.back place step there number (subst (λ (rs : List Reason). cites rs number ≡ true) reasons t) in
    record { from_one = n.from_one; within = omega (arith, n.within, c.loop-left.invariant.as_many, c.loop-left.invariant.left, c.requires.as_many) }

pub loop-left-preserved-then-needed-left : goal.loop-left-preserved-then-needed-left
loop-left-preserved-then-needed-left c =
    let steps = c.args.steps.now in
    let left = c.loop-left.left in
    let step = get_or steps (left - 1) no_step in
    let some : 0 < left = omega arith in
    let there : slice_get steps (left - 1) ≡ Some step = slice_get-get_or steps (left - 1) no_step (omega (arith, some, c.loop-left.invariant.left)) in
    let here : is_marked c.loop-left.needed left ≡ true = mark_at c.loop-left.needed left true some c.if-needed-left.true in
    let m = is_marked c.loop-left.needed in
    let new = is_marked c.mark_cited.new.needed in
    let reasons = c.reasons.ensures in
    let eq : (n : ℕ) → new n ≡ (m n || cites step.reasons n) = λ n. c.mark_cited.ensures.marked n ∙ ap (λ (rs : List Reason). m n || cites rs n) reasons in
    record {
      left = omega (arith, c.loop-left.invariant.left);
      as_many = c.mark_cited.ensures.as_many ∙ c.loop-left.invariant.as_many;
      sound = needed_more steps c.requires.back m new left step some there eq here c.loop-left.invariant.sound;
      last = eq (length steps) ∙ or_left (m (length steps)) (cites step.reasons (length steps)) c.loop-left.invariant.last;
      closed = closed_more steps c.requires.back m new left step some there eq c.loop-left.invariant.closed;
    }

pub loop-left-preserved : goal.loop-left-preserved
loop-left-preserved c =
    let left = c.loop-left.left in
    let off : is_marked c.loop-left.needed left ≡ false = mark_at c.loop-left.needed left false (omega arith) c.if-needed-left.false in
    record {
      left = omega (arith, c.loop-left.invariant.left);
      as_many = c.loop-left.invariant.as_many;
      sound = c.loop-left.invariant.sound;
      last = c.loop-left.invariant.last;
      closed = closed_stays c.args.steps.now (is_marked c.loop-left.needed) left off c.loop-left.invariant.closed;
    }

pub returns-clause-exact : goal.returns-clause-exact
returns-clause-exact c number =
    let none : c.loop-left.left ≡ 0 = omega arith in
    (c.loop-left.invariant.sound number, all_needed c.args.steps.now c.loop-left.needed c.loop-left.invariant.last (subst (AreClosed c.args.steps.now (is_marked c.loop-left.needed)) none c.loop-left.invariant.closed) number)
