use Rattle.std.proofs.Common.{subst, sym, arith, ◌≡◌, ◌∙◌, length, ◌≤◌, ◌<◌, true, false, ℕ}
use Rattle.std.proofs.lemmas.List.Elements.{All-get_or}
use Rattle.rup_check.specs.Sets.{IsPut}
use Rattle.rup_check.proofs.RunLaws.{extends_same, extends_on}
use Rattle.rup_check.proofs.EndLaws.{begin_none, begin_more, begin_all, begin_clash}
use Rattle.rup_check.proofs.assignment.begin.Goals as goal

pub loop-literal-init : goal.loop-literal-init
loop-literal-init c = record {
  assigned = c.requires.assigned;
  trail = extends_same c.args.assignment.now.trail.items;
  so_far = begin_none c.args.assignment.now.marks.items c.args.clause.now c.requires.clean;
}

pub returns-then-has-clause-begun : goal.returns-then-has-clause-begun
returns-then-has-clause-begun c =
    let l : c.loop-literal.literal-index < length c.args.clause.now = omega arith in
    begin_clash c.args.assignment.now.marks.items c.args.clause.now c.loop-literal.assignment.marks.items c.loop-literal.literal-index l c.loop-literal.invariant.so_far (sym c.has.ensures ∙ c.if-has.true)

pub loop-literal-preserved : goal.loop-literal-preserved
loop-literal-preserved c =
    let i : ℕ = c.loop-literal.literal-index in
    let l : i < length c.args.clause.now = omega arith in
    record {
      assigned = c.in_ok-put.ensures.assigned;
      trail = extends_on c.args.assignment.now.trail.items c.loop-literal.assignment.trail.items c.put.new.self.trail.items c.loop-literal.invariant.trail c.in_ok-put.ensures.trail;
      so_far = begin_more c.args.assignment.now.marks.items c.args.clause.now c.loop-literal.assignment.marks.items c.put.new.self.marks.items i c.loop-literal.invariant.assigned.size l (All-get_or (λ x. x ≤ 8191) c.args.clause.now i 0 l c.requires.small) c.loop-literal.invariant.so_far (λ h. let e : c.has.result ≡ true = c.has.ensures ∙ h in let f : c.has.result ≡ false = c.if-has.false in cc) (subst (λ w. IsPut c.loop-literal.assignment.marks.items c.put.new.self.marks.items w) c.flipped-negation.ensures c.in_ok-put.ensures.put);
    }

pub returns-clause-begun : goal.returns-clause-begun
returns-clause-begun c = begin_all c.args.assignment.now.marks.items c.args.clause.now c.loop-literal.assignment.marks.items c.loop-literal.literal-index (omega arith) c.loop-literal.invariant.so_far
