use Rattle.std.proofs.Common.{◌≡◌, ◌||◌, List, true, sym, ap, ◌∙◌, subst, arith}
use Rattle.dcsp_defs.specs.declared.Reason.{Reason}
use Rattle.dcsp_defs.proofs.Lists.{or_left, or_right}
use Rattle.ngd_rewrite.specs.Needed.{names_rule, cites_rule}
use Rattle.ngd_rewrite.specs.Marks.{has_mark}
use Rattle.ngd_rewrite.proofs.Marking.{or_later}
use Rattle.ngd_rewrite.proofs.rules.mark_cited.Goals as goal

pub mark_reason-requires : goal.mark_reason-requires
mark_reason-requires c rule t =
    let l = c.loop-reason.invariant.there rule (subst (λ (rs : List Reason). cites_rule rs rule ≡ true) (sym c.in-Some.ensures.first) (or_left (names_rule c.in-Some.reason rule) (cites_rule c.take_first.new.self rule) t)) in
    omega (arith, l, c.loop-reason.invariant.as_many)

pub loop-reason-preserved : goal.loop-reason-preserved
loop-reason-preserved c =
    let reason = c.in-Some.reason in
    let rest = c.take_first.new.self in
    record {
      as_many = c.mark_reason.ensures.as_many ∙ c.loop-reason.invariant.as_many;
      there = λ rule t. c.loop-reason.invariant.there rule (subst (λ (rs : List Reason). cites_rule rs rule ≡ true) (sym c.in-Some.ensures.first) (or_right (names_rule reason rule) (cites_rule rest rule) t));
      marked = λ rule.
          ap (λ b. b || cites_rule rest rule) (c.mark_reason.ensures.marked rule)
          ∙ (or_later (has_mark c.loop-reason.cited rule) (names_rule reason rule) (cites_rule rest rule)
          ∙ (ap (λ (rs : List Reason). has_mark c.loop-reason.cited rule || cites_rule rs rule) (sym c.in-Some.ensures.first) ∙ c.loop-reason.invariant.marked rule));
    }
