use Rattle.std.proofs.Common.{◌≡◌, ◌∙◌, ◌<◌, ℕ, List, [], ◌∷◌, ◌++◌, map, take, get_or, arith, ap, length, sym, subst}
use Rattle.std.proofs.lemmas.List.{take_all}
use Rattle.std.proofs.lemmas.Option.{get_or_from_slice_get}
use Rattle.dcsp_rule.specs.declared.rule.Rule.{Rule}
use Rattle.dcsp_rule.specs.Rules.{IsRuleOf, scope_of}
use Rattle.dcsp_rule.specs.Lent.{lent_rule}
use Rattle.dcsp_problem.proofs.PieceLaws.{changed_more}
use Rattle.dcsp_problem.proofs.table.NumberTable.of_scopes.Goals as goal

pub loop-place-preserved : goal.loop-place-preserved
loop-place-preserved c = record {
  cuts = c.in_ok-push_list.ensures.cuts;
  made = λ n all.
      let i = c.loop-place.place in
      let given = c.args.rules.now in
      let rule = lent_rule c.rule.result in
      let within : i < length given = omega arith in
      let is : get_or given i rule ≡ rule = get_or_from_slice_get given i rule rule c.rule.ensures in
      let mine = subst (λ (z : Rule). IsRuleOf n z) is (all i rule within) in
      c.in_ok-push_list.ensures.list
      ∙ ap (λ (z : List (List ℕ)). z ++ c.deref.result.now ∷ []) (c.loop-place.invariant.made n all)
      ∙ ap (λ (z : List ℕ). map (scope_of n) (take i given) ++ z ∷ []) (c.deref.ensures.value ∙ c.in_ok-put_scope.ensures n mine ∙ ap (λ (z : Rule). scope_of n z) (sym is))
      ∙ changed_more (scope_of n) given i rule within;
}

pub returns : goal.returns
returns c = λ n all. c.loop-place.invariant.made n all ∙ ap (λ (z : List Rule). map (scope_of n) z) (take_all c.loop-place.place c.args.rules.now (omega arith))
