use Rattle.std.proofs.Common.{◌∙◌, ◌<◌, ℕ, List, [], ◌∷◌, ◌++◌, take, arith, ap, length, sym}
use Rattle.std.proofs.lemmas.List.{take_all, take_more}
use Rattle.dcsp_problem.proofs.table.NumberTable.of_lists.Goals as goal

pub loop-list-preserved : goal.loop-list-preserved
loop-list-preserved c = record {
  cuts = c.in_ok-push_list.ensures.cuts;
  made =
      let i = c.loop-list.list-index in
      let lists = c.args.lists.now in
      let list = c.list-item.result in
      let within : i < length lists = omega arith in
      c.in_ok-push_list.ensures.list
      ∙ ap (λ (z : List (List ℕ)). z ++ c.items.result.now ∷ []) c.loop-list.invariant.made
      ∙ ap (λ (z : List ℕ). take i lists ++ z ∷ []) (c.items.ensures ∙ c.list-item.is)
      ∙ sym (take_more lists i list within);
}

pub returns : goal.returns
returns c = c.loop-list.invariant.made ∙ take_all c.loop-list.list-index c.args.lists.now (omega arith)
