use Rattle.std.proofs.Common.{ℕ, List, subst, ◌∙◌, arith}
use Rattle.std.specs.Prelude.{slice_index_or}
use Rattle.std.proofs.lemmas.List.{with_items_is}
use Rattle.ngd_rewrite.specs.Endings.{Follows}
use Rattle.ngd_rewrite.proofs.GroupLaws.{group_is}
use Rattle.ngd_rewrite.proofs.endings.chains_of.Goals as goal

pub returns : goal.returns
returns c = λ steps are.
    let count = are.count in
    let firsts = c.link_all.new.firsts in
    let nexts = c.link_all.new.nexts in
    let as_many = c.link_all.ensures.firsts in
    let so_many = c.link_all.ensures.nexts in
    let some = c.in_ok-firsts.ensures.count in
    let others = c.in_ok-nexts.ensures.count in
    let some_ok = c.in_ok-firsts.firsts.ok in
    let others_ok = c.in_ok-nexts.nexts.ok in
    rw (with_items_is c.in_ok-firsts.firsts firsts (omega (arith, as_many, some, some_ok)), with_items_is c.in_ok-nexts.nexts nexts (omega (arith, so_many, others, others_ok))) (record {
      count = as_many ∙ count;
      each = λ k lt. subst (λ (ns : List ℕ). Follows nexts (slice_index_or firsts k 0) ns) (group_is c.args.ends.now steps k are) (c.link_all.ensures.each k (omega (arith, lt, count)));
    })
