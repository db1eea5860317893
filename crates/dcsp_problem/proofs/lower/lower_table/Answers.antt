use Rattle.std.proofs.Common.{◌≡◌, ℕ, ◌<◌, List, [], map, arith, ap, length, ◌∙◌, sym, subst, vec_len}
use Rattle.std.specs.Prelude.{All}
use Rattle.std.specs.List.{list_any}
use Rattle.std.proofs.lemmas.List.{take_all}
use Rattle.std.proofs.lemmas.Option.{get_or_from_slice_get}
use Rattle.std.proofs.lemmas.Result.{IfOk-weaker}
use Rattle.dcsp_defs.specs.Words.{below}
use Rattle.dcsp_problem.specs.Owners.{owned_among}
use Rattle.dcsp_problem.specs.Lower.{ends_after, set_below, Adds}
use Rattle.dcsp_problem.proofs.OwnerLists.{length-map_below, get_or-map_below}
use Rattle.dcsp_problem.proofs.LowerLists.{adds_scope, sets_are, lists_inside}
use Rattle.dcsp_problem.proofs.lower.lower_table.Goals as goal

pub push_scope-requires : goal.push_scope-requires
push_scope-requires c =
    let scope = c.list.result.now in
    let within : c.loop-rule.rule < length c.args.scopes.now = omega arith in
    let is = get_or_from_slice_get c.args.scopes.now c.loop-rule.rule scope scope c.list.ensures in
    let all = subst (λ (z : List ℕ). All (λ v. v < c.args.variables) z) is (c.requires c.loop-rule.rule scope within) in
    let many = c.loop-rule.invariant.many in
    let size = length-map_below (owned_among []) c.args.variables in
    let as_many : vec_len c.loop-rule.owners ≡ c.args.variables = omega arith in
    rw as_many all

pub loop-rule-preserved : goal.loop-rule-preserved
loop-rule-preserved c =
    let scope = c.list.result.now in
    let scopes = c.args.scopes.now in
    let within : c.loop-rule.rule < length scopes = omega arith in
    let is = get_or_from_slice_get scopes c.loop-rule.rule scope [] c.list.ensures in
    adds_scope scopes c.loop-rule.rule [] _ _ _ within c.loop-rule.invariant (subst (λ (z : List ℕ). Adds (ends_after z) c.loop-rule.owners.items c.push_scope.new.owners.items) (sym is) c.in_ok-push_scope.ensures)

pub returns : goal.returns
returns c =
    let n = c.args.variables in
    let empty = map (owned_among []) (below n) in
    let size = length-map_below (owned_among []) n in
    let none = λ (v : ℕ) (l : v < n). get_or-map_below (owned_among []) n v [] l in
    let scopes = c.args.scopes.now in
    let adds = subst (λ (z : List (List ℕ)). Adds (λ v j. list_any (λ (s : List ℕ). ends_after s v j) z) empty c.loop-rule.owners.items) (take_all c.loop-rule.rule scopes (omega arith)) c.loop-rule.invariant in
    let inside = lists_inside scopes c.loop-rule.owners.items n empty size none adds c.requires in
    IfOk-weaker c.of_sets.result _ _ (λ table h.
    h n (subst (λ (z : List (List ℕ)). All (λ list. All (λ x. x < n) list) z) (sym c.deref.ensures.value) inside)
    ∙ ap (λ (z : List (List ℕ)). map (set_below n) z) c.deref.ensures.value
    ∙ sets_are scopes c.loop-rule.owners.items n empty size none adds) c.of_sets.ensures
