use Rattle.std.proofs.Common.{◌≡◌, ◌||◌, List, true, sym, ap, ◌∙◌, subst, arith}
use Rattle.dcsp_defs.specs.declared.Reason.{Reason}
use Rattle.dcsp_defs.proofs.Lists.{or_left, or_right}
use Rattle.ngd_rewrite.specs.Needed.{names_step, cites}
use Rattle.ngd_rewrite.specs.Marks.{is_marked}
use Rattle.ngd_rewrite.proofs.Marking.{or_later}
use Rattle.ngd_rewrite.proofs.needed.mark_cited.Goals as goal

pub mark_reason-requires : goal.mark_reason-requires
mark_reason-requires c number t =
    let reason = c.in-Some.reason in
    let rest = c.take_first.new.self in
    let n = c.loop-reason.invariant.there number (subst (λ (rs : List Reason). cites rs number ≡ true) (sym c.in-Some.ensures.first) (or_left (names_step reason number) (cites rest number) t)) in
    record { from_one = n.from_one; within = omega (arith, n.within, c.loop-reason.invariant.as_many) }

pub loop-reason-preserved : goal.loop-reason-preserved
loop-reason-preserved c =
    let reason = c.in-Some.reason in
    let rest = c.take_first.new.self in
    record {
      as_many = c.mark_reason.ensures.as_many ∙ c.loop-reason.invariant.as_many;
      there = λ number t. c.loop-reason.invariant.there number (subst (λ (rs : List Reason). cites rs number ≡ true) (sym c.in-Some.ensures.first) (or_right (names_step reason number) (cites rest number) t));
      marked = λ number.
          ap (λ b. b || cites rest number) (c.mark_reason.ensures.marked number)
          ∙ (or_later (is_marked c.loop-reason.needed number) (names_step reason number) (cites rest number)
          ∙ (ap (λ (rs : List Reason). is_marked c.loop-reason.needed number || cites rs number) (sym c.in-Some.ensures.first) ∙ c.loop-reason.invariant.marked number));
    }
