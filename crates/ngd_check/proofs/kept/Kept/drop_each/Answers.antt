use Rattle.std.proofs.Common.{◌≡◌, ◌≤◌, ◌==◌, None, true, cond, is_some, length, sym, ap, ◌∙◌, subst, All}
use Rattle.std.specs.List.{list_any}
use Rattle.std.proofs.lemmas.Result.{on_ok_weaker}
use Rattle.dcsp_rule.specs.Problems.{csp_of}
use Rattle.ngd_check.specs.Places.{KeptFor, nogood_left, IsNumber}
use Rattle.ngd_check.specs.Progress.{kept_at}
use Rattle.ngd_store.proofs.Below.{below_length}
use Rattle.ngd_check.proofs.KeptLists.{numbered, lists_dropped, kept_dropped, marks_dropped}
use Rattle.ngd_check.proofs.kept.Kept.drop_each.Goals as goal

pub mark_each-requires-clause-numbers : goal.mark_each-requires-clause-numbers
mark_each-requires-clause-numbers c =
    let p = csp_of c.self.inside.problem.now in
    subst (λ n. All (λ number. IsNumber n number) c.args.numbers.now) (sym c.len.ensures.len)
    (numbered p c.self.inside.lists c.self.inside.dropped.items c.args.numbers.now (subst (λ (q : KeptFor). All (λ number. is_some (kept_at q.nogoods number) ≡ true) c.args.numbers.now) (sym c.self.view_is) c.requires))

pub clear_each-requires : goal.clear_each-requires
clear_each-requires c =
    let p = csp_of c.self.inside.problem.now in
    numbered p c.self.inside.lists c.self.inside.dropped.items c.args.numbers.now (subst (λ (q : KeptFor). All (λ number. is_some (kept_at q.nogoods number) ≡ true) c.args.numbers.now) (sym c.self.view_is) c.requires)

pub invariant_of-self-else-self : goal.invariant_of-self-else-self
invariant_of-self-else-self c = record {
  placed = lists_dropped (csp_of c.self.inside.problem.now) c.self.inside.lists c.clear_each.new.lists c.self.inside.dropped.items c.args.numbers.now c.clear_each.ensures.cleared c.self.invariant.placed;
  marked = subst (λ n. length c.self.inside.dropped.items ≤ n) (sym c.clear_each.ensures.lists) c.self.invariant.marked;
  all = λ e. c.self.invariant.all e ∙ sym c.clear_each.ensures.lists;
  none = c.self.invariant.none;
}

pub returns-then-self-clause-count : goal.returns-then-self-clause-count
returns-then-self-clause-count c =
    let p = csp_of c.self.inside.problem.now in
    let lists = c.self.inside.lists in
    below_length (nogood_left p lists c.mark_each.new.marks.items) (length lists) ∙ (sym (below_length (nogood_left p lists c.self.inside.dropped.items) (length lists)) ∙ ap (λ (q : KeptFor). length q.nogoods) c.self.view_is)

pub returns-then-self-clause-dropped : goal.returns-then-self-clause-dropped
returns-then-self-clause-dropped c =
    on_ok_weaker c.mark_each.result (λ marked number.
    marks_dropped (csp_of c.self.inside.problem.now) c.self.inside.lists c.self.inside.dropped.items c.mark_each.new.marks.items c.args.numbers.now marked number
    ∙ ap (λ (q : KeptFor). cond (list_any (λ dropped. number == dropped) c.args.numbers.now) None (kept_at q.nogoods number)) c.self.view_is) c.mark_each.ensures.marked

pub returns-else-self-clause-count : goal.returns-else-self-clause-count
returns-else-self-clause-count c =
    let p = csp_of c.self.inside.problem.now in
    below_length (nogood_left p c.clear_each.new.lists c.self.inside.dropped.items) (length c.clear_each.new.lists) ∙ (c.clear_each.ensures.lists ∙ (sym (below_length (nogood_left p c.self.inside.lists c.self.inside.dropped.items) (length c.self.inside.lists)) ∙ ap (λ (q : KeptFor). length q.nogoods) c.self.view_is))

pub returns-else-self-clause-dropped : goal.returns-else-self-clause-dropped
returns-else-self-clause-dropped c number =
    kept_dropped (csp_of c.self.inside.problem.now) c.self.inside.lists c.clear_each.new.lists c.self.inside.dropped.items c.args.numbers.now c.clear_each.ensures.cleared number
    ∙ ap (λ (q : KeptFor). cond (list_any (λ dropped. number == dropped) c.args.numbers.now) None (kept_at q.nogoods number)) c.self.view_is
