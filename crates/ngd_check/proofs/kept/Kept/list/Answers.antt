use Rattle.std.proofs.Common.{◌≡◌, ◌<◌, ◌-◌, Bool, List, Some, true, false, get_or, sym, ap, ◌∙◌, subst, arith, All}
use Rattle.std.specs.Option.{option_map}
use Rattle.dcsp_rule.proofs.PartLaws.{if_some_weaker}
use Rattle.dcsp_rule.specs.Problems.{csp_of}
use Rattle.ngd_check.specs.Places.{KeptFor, IsPlaced, pairs_of}
use Rattle.ngd_check.specs.Progress.{kept_at}
use Rattle.ngd_check.proofs.KeptLists.{kept_list, kept_marked, list_before}
use Rattle.ngd_check.proofs.kept.Kept.list.Goals as goal

pub returns-then-is_marked-clause-none : goal.returns-then-is_marked-clause-none
returns-then-is_marked-clause-none c = λ _.
    let marked : get_or c.self.inside.dropped.items (c.args.number - 1) false ≡ true = ap (λ (xs : List Bool). get_or xs (c.args.number - 1) false) (sym c.deref.ensures.value) ∙ (sym c.is_marked.ensures ∙ c.if-is_marked.true) in
    ap (λ (q : KeptFor). kept_at q.nogoods c.args.number) (sym c.self.view_is) ∙ kept_marked (csp_of c.self.inside.problem.now) c.self.inside.lists c.self.inside.dropped.items c.args.number (omega arith) marked

pub returns-clause-some : goal.returns-clause-some
returns-clause-some c =
    let p = csp_of c.self.inside.problem.now in
    let lists = c.self.inside.lists in
    let l : 0 < c.args.number = omega arith in
    let unmarked : get_or c.self.inside.dropped.items (c.args.number - 1) false ≡ false = ap (λ (xs : List Bool). get_or xs (c.args.number - 1) false) (sym c.deref.ensures.value) ∙ (sym c.is_marked.ensures ∙ c.if-is_marked.false) in
    if_some_weaker c.get.result _ _ (λ placed e. record {
      placed_is = subst (λ (q : KeptFor). All (IsPlaced (csp_of q.problem)) placed.now) c.self.view_is (c.self.invariant.placed (c.args.number - 1) placed.now e);
      same =
          ap (λ (q : KeptFor). kept_at q.nogoods c.args.number) (sym c.self.view_is)
          ∙ (kept_list p lists c.self.inside.dropped.items c.args.number l unmarked
          ∙ (ap (option_map (pairs_of p)) (list_before lists c.args.number l ∙ e)
          ∙ ap (λ (q : KeptFor). Some (pairs_of (csp_of q.problem) placed.now)) c.self.view_is));
    }) c.get.ensures.kept

pub returns-clause-none : goal.returns-clause-none
returns-clause-none c = λ n.
    let p = csp_of c.self.inside.problem.now in
    let lists = c.self.inside.lists in
    let l : 0 < c.args.number = omega arith in
    let unmarked : get_or c.self.inside.dropped.items (c.args.number - 1) false ≡ false = ap (λ (xs : List Bool). get_or xs (c.args.number - 1) false) (sym c.deref.ensures.value) ∙ (sym c.is_marked.ensures ∙ c.if-is_marked.false) in
    ap (λ (q : KeptFor). kept_at q.nogoods c.args.number) (sym c.self.view_is)
    ∙ (kept_list p lists c.self.inside.dropped.items c.args.number l unmarked ∙ ap (option_map (pairs_of p)) (list_before lists c.args.number l ∙ c.get.ensures.none n))
