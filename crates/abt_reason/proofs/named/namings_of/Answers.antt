use Rattle.std.proofs.Common.{◌≡◌, ◌∙◌, ap, subst, List, ℕ, ◌++◌, map, arith, length}
use Rattle.abt_reason.specs.Named.{naming, ListsScopes}
use Rattle.abt_reason.proofs.NamedLaws.{one_listed}
use Rattle.abt_reason.proofs.named.namings_of.Goals as goal

pub loop-place-preserved : goal.loop-place-preserved
loop-place-preserved c =
    let place = c.loop-place.place in
    one_listed c.args.problem.now c.args.rules.now c.loop-place.namings.items c.add_scope.new.namings.items place c.loop-place.invariant c.scope.ensures.constraint
    (c.in_ok-add_scope.ensures ∙ ap (λ (scope : List ℕ). c.loop-place.namings.items ++ map (naming place) scope) c.scope.ensures.scope)

pub returns : goal.returns
returns c =
    let e : c.loop-place.place ≡ length c.args.rules.now = omega arith in
    subst (ListsScopes c.args.problem.now c.args.rules.now c.loop-place.namings.items) e c.loop-place.invariant
