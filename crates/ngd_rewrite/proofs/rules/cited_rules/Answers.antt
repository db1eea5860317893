use Rattle.std.proofs.Common.{◌≡◌, ℕ, List, filter, length, sym, ap, ◌∙◌, subst, arith}
use Rattle.std.proofs.lemmas.Result.{IfOk-weaker}
use Rattle.dcsp_problem.proofs.RisingNumbers.{rising-filter_below, In-filter_below}
use Rattle.dcsp_defs.specs.Words.{In, IsRising, below}
use Rattle.dcsp_defs.proofs.Lists.{In-filter, below-In}
use Rattle.ngd_rewrite.specs.Needed.{is_cited}
use Rattle.ngd_rewrite.specs.Marks.{has_mark}
use Rattle.ngd_rewrite.proofs.rules.cited_rules.Goals as goal

pub returns-clause-rising : goal.returns-clause-rising
returns-clause-rising c =
    let q = has_mark c.deref.result.now in
    let n = length c.deref.result.now in
    IfOk-weaker c.marked_places.result (λ (places : List ℕ). places ≡ filter q (below n)) (λ (cited : List ℕ). IsRising cited) (λ x e. subst IsRising (sym e) (rising-filter_below q n)) c.marked_places.ensures

pub returns-clause-exact : goal.returns-clause-exact
returns-clause-exact c =
    let steps = c.args.steps.now in
    let q = has_mark c.deref.result.now in
    let n = length c.deref.result.now in
    let as_many : n ≡ c.args.rules = ap length c.deref.ensures.value ∙ c.in_ok-cited.ensures.as_many in
    let marked : (rule : ℕ) → q rule ≡ is_cited steps rule = λ rule. ap (λ bs. has_mark bs rule) c.deref.ensures.value ∙ c.in_ok-cited.ensures.marked rule in
    IfOk-weaker c.marked_places.result (λ (places : List ℕ). places ≡ filter q (below n)) _ (λ x e rule. (
      λ u. let r = In-filter_below q n rule (subst (In rule) e u) in sym (marked rule) ∙ r.1,
      λ t. let l = c.requires rule t in subst (In rule) (sym e) (In-filter q rule (below n) (below-In n rule (omega (arith, l, as_many))) (marked rule ∙ t)),
    )) c.marked_places.ensures
