use Rattle.std.proofs.Common.{below_more, rules, arith, ◌≡◌, ◌<◌, ◌+◌, ◌++◌, length, take, subst, sym, ap, ◌∙◌, length-append}
use Rattle.rup_check.specs.Kept.{IsReady}
use Rattle.rup_check.specs.Sets.{IsAnswer}
use Rattle.rup_check.proofs.EndLaws.{answer_good, answer_bad, ready_front, one_on}
use Rattle.rup_check.specs.Found.{IsFound}
use Rattle.rup_check.proofs.FoundLaws.{answer_of_found, next_clause}
use Rattle.rup_check.proofs.check.first_bad.Goals as goal

pub loop-number-init : goal.loop-number-init
loop-number-init c = record {
  good = λ k l. absurd (omega arith);
  ready = subst (λ z. IsReady z c.args.watches.now c.args.assignment.now) (ready_front c.args.formula.now c.args.proof.now) c.requires.ready;
}

pub overflow_add-known : goal.overflow_add-known
overflow_add-known c =
    let first : c.len-first.result ≡ length c.args.formula.now = search rules in
    let l : c.loop-number.number < length c.args.proof.now = omega arith in
    let fits = c.requires.fits in
    omega (arith, length-append c.args.formula.now c.args.proof.now)

pub has_property-requires-clause-ready : goal.has_property-requires-clause-ready
has_property-requires-clause-ready c =
    let first : c.len-first.result ≡ length c.args.formula.now = search rules in
    subst (λ z. IsReady (take (z + c.loop-number.number) (c.args.formula.now ++ c.args.proof.now)) c.loop-number.watches c.loop-number.assignment) (sym first) c.loop-number.invariant.ready

pub returns-then-not-good : goal.returns-then-not-good
returns-then-not-good c =
    let first : c.len-first.result ≡ length c.args.formula.now = search rules in
    let l : c.loop-number.number < length c.args.proof.now = omega arith in
    record {
      in_range = l;
      bad = answer_bad c.args.formula.now c.args.proof.now c.loop-number.number (c.len-first.result + c.loop-number.number) c.clause-clause.result.now (ap (λ z. z + c.loop-number.number) first) c.clause-clause.ensures.value (subst (λ b. IsAnswer (take (c.len-first.result + c.loop-number.number) (c.args.formula.now ++ c.args.proof.now)) c.clause-clause.result.now b) (sym c.is_good-good.ensures ∙ c.if-not-good.true) (answer_of_found _ _ _ c.in_ok-found.found c.in_ok-found.ensures.found));
      before = c.loop-number.invariant.good;
    }

pub add_found-requires-clause-next : goal.add_found-requires-clause-next
add_found-requires-clause-next c =
    let first : c.len-first.result ≡ length c.args.formula.now = search rules in
    let l : c.loop-number.number < length c.args.proof.now = omega arith in
    omega (arith, length-append c.args.formula.now c.args.proof.now)

pub loop-number-preserved : goal.loop-number-preserved
loop-number-preserved c =
    let first : c.len-first.result ≡ length c.args.formula.now = search rules in
    let l : c.loop-number.number < length c.args.proof.now = omega arith in
    record {
      good = below_more _ _ c.loop-number.invariant.good (answer_good c.args.formula.now c.args.proof.now c.loop-number.number (c.len-first.result + c.loop-number.number) c.clause-clause.result.now (ap (λ z. z + c.loop-number.number) first) c.clause-clause.ensures.value (subst (λ b. IsAnswer (take (c.len-first.result + c.loop-number.number) (c.args.formula.now ++ c.args.proof.now)) c.clause-clause.result.now b) (sym c.is_good-good.ensures ∙ c.if-not-good.false) (answer_of_found _ _ _ c.in_ok-found.found c.in_ok-found.ensures.found)));
      ready = subst (λ z. IsReady (take z (c.args.formula.now ++ c.args.proof.now)) c.add_found.new.watches c.add_found.new.assignment) (one_on c.len-first.result (length c.args.formula.now) c.loop-number.number first) c.in_ok-add_found.ensures;
    }

pub returns : goal.returns
returns c = λ k l. c.loop-number.invariant.good k (omega arith)

pub add_found-requires-clause-found : goal.add_found-requires-clause-found
add_found-requires-clause-found c =
    let first : c.len-first.result ≡ length c.args.formula.now = search rules in
    subst (λ z. IsFound (take (c.len-first.result + c.loop-number.number) (c.args.formula.now ++ c.args.proof.now)) c.has_property.new.assignment.trail.items z c.in_ok-found.found)
    (c.clause-clause.ensures.value ∙ next_clause c.args.formula.now c.args.proof.now c.len-first.result c.loop-number.number first) c.in_ok-found.ensures.found
