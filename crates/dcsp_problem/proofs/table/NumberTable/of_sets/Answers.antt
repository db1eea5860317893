use Rattle.std.proofs.Common.{◌∙◌, ℕ, ◌<◌, List, [], ◌∷◌, ◌++◌, map, take, arith, ap, length, sym, subst}
use Rattle.std.specs.Prelude.{All}
use Rattle.std.proofs.lemmas.List.{take_all}
use Rattle.dcsp_problem.specs.Lower.{set_below}
use Rattle.dcsp_problem.proofs.PieceLaws.{changed_more}
use Rattle.dcsp_problem.proofs.table.NumberTable.of_sets.Goals as goal

pub loop-list-preserved : goal.loop-list-preserved
loop-list-preserved c = record {
  cuts = c.in_ok-push_list.ensures.cuts;
  made = λ n all.
      let i = c.loop-list.list-index in
      let lists = c.args.lists.now in
      let list = c.list-item.result in
      let within : i < length lists = omega arith in
      let mine = subst (λ (z : List ℕ). All (λ x. x < n) z) (sym c.list-item.is) (all i list within) in
      let set = c.deref.ensures.value ∙ c.in_ok-set.ensures n (subst (λ (z : List ℕ). All (λ x. x < n) z) (sym c.items.ensures) mine) ∙ ap (λ (z : List ℕ). set_below n z) (c.items.ensures ∙ c.list-item.is) in
      c.in_ok-push_list.ensures.list
      ∙ ap (λ (z : List (List ℕ)). z ++ c.deref.result.now ∷ []) (c.loop-list.invariant.made n all)
      ∙ ap (λ (z : List ℕ). map (set_below n) (take i lists) ++ z ∷ []) set
      ∙ changed_more (set_below n) lists i list within;
}

pub returns : goal.returns
returns c = λ n all. c.loop-list.invariant.made n all ∙ ap (λ (z : List (List ℕ)). map (set_below n) z) (take_all c.loop-list.list-index c.args.lists.now (omega arith))
