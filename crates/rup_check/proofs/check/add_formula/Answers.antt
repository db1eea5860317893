use Rattle.std.proofs.Common.{arith, ◌≤◌, ◌<◌, ◌+◌, length, subst, sym, length-append}
use Rattle.std.proofs.lemmas.List.{take-append-le, take_all}
use Rattle.rup_check.specs.Kept.{IsReady}
use Rattle.rup_check.proofs.check.add_formula.Goals as goal

pub add_clause-requires-clause-next : goal.add_clause-requires-clause-next
add_clause-requires-clause-next c =
    let l : c.loop-count.count < length c.args.formula.now = omega arith in
    omega (arith, length-append c.args.formula.now c.args.proof.now)

pub add_clause-requires-clause-ready : goal.add_clause-requires-clause-ready
add_clause-requires-clause-ready c =
    let l : c.loop-count.count ≤ length c.args.formula.now = omega arith in
    subst (λ z. IsReady z c.loop-count.watches c.loop-count.assignment) (sym (take-append-le c.loop-count.count c.args.formula.now c.args.proof.now l)) c.loop-count.invariant

pub loop-count-preserved : goal.loop-count-preserved
loop-count-preserved c =
    let l : c.loop-count.count + 1 ≤ length c.args.formula.now = omega arith in
    subst (λ z. IsReady z c.add_clause.new.watches c.add_clause.new.assignment) (take-append-le (c.loop-count.count + 1) c.args.formula.now c.args.proof.now l) c.in_ok-add_clause.ensures

pub returns : goal.returns
returns c =
    let l : length c.args.formula.now ≤ c.loop-count.count = omega arith in
    subst (λ z. IsReady z c.loop-count.watches c.loop-count.assignment) (take_all c.loop-count.count c.args.formula.now l) c.loop-count.invariant
