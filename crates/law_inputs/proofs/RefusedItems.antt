-- The refusal of items is at a place of one of them.
use Rattle.std.proofs.Common.{ℕ, ◌&&◌, not, Bool, true, false, List, [], ◌∷◌, length, Option, Some, None, is_some, Result}
use Rattle.std.specs.Prelude.{ℤ, nat_lt}
use Rattle.std.specs.List.{AllByRecursion}
use Rattle.dcsp_domain.specs.Ranges.{count_between}
use Rattle.dcsp_domain.specs.Sets.{set_of as values_in}
use Rattle.fzn_item.specs.declared.item.Expr.{Expr}
use Rattle.fzn_item.specs.declared.item.Base.{Base}
use Rattle.fzn_item.specs.declared.item.Base.TheVariants as base
use Rattle.fzn_item.specs.declared.item.Marked.{Marked}
use Rattle.fzn_item.specs.declared.item.Goal.{Goal}
use Rattle.fzn_item.specs.declared.item.Goal.TheVariants as goals
use Rattle.fzn_item.specs.declared.item.Item.{Item}
use Rattle.fzn_item.specs.declared.item.Item.TheVariants as item
use Rattle.dcsp_rule.specs.declared.rule.Term.{Term}
use Rattle.dcsp_rule.specs.declared.rule.Term.TheVariants.{Var}
use Rattle.dcsp_rule.specs.declared.rule.Rule.TheVariants.{Plain}
use Rattle.dcsp_meaning.specs.declared.kinds.ConstraintKind.TheVariants.{SetIn}
use Rattle.dcsp_rule.specs.declared.rule.Members.{Members}
use Rattle.dcsp_rule.specs.declared.rule.Members.TheVariants as members
use Rattle.dcsp_common.specs.declared.limits.Which.{Which}
use Rattle.dcsp_common.specs.declared.limits.Which.TheVariants as which
use Rattle.dcsp_common.specs.Limits.{most}
use Rattle.dcsp_rule.specs.Problems.{Contents}
use Rattle.fzn_token.specs.declared.refusal.Refusal.TheVariants as refusal
use Rattle.fzn_scope.specs.Checks.{◌>>=◌, refused_if}
use Rattle.fzn_scope.specs.Names.{Scope, declared_as, bytes_at}
use Rattle.fzn_scope.specs.Places.{one_of, count_of, set_of}
use Rattle.fzn_scope.specs.Rules.{constraint_rule}
use Rattle.fzn_model.specs.Building.{with_variable, with_rule}
use Rattle.fzn_model.specs.Declarations.{SoFar, within, is_late, declaration, is_boolean, right_side, constant, value_of, parameter, domain_of, source_of, equality, with_source, variable, check_element, element_set, is_index, is_shaped, with_member, with_members, with_set, elements, array}
use Rattle.fzn_model.specs.Items.{start, declared_by, constraint, an_integer, aim_of, solve, predicate, after, after_all, resolved}
use Rattle.law_inputs.proofs.ItemPlaces.{ExprPlaced, RightPlaced, GoalPlaced, ItemPlaced}
use Rattle.law_inputs.proofs.Refusing.{RefusalPlaced, Refuses, bind_refuses, if_refuses, choice_refuses, one_refuses, list_refuses, count_refuses, set_refuses, constraint_refuses, variable_refuses, rule_refuses}

module _ (P : ℕ → Type 0) where
  within_refuses : (w : Which) (count at : ℕ) → P at → Refuses P (within w count at)
  within_refuses w count at h = if_refuses (RefusalPlaced P) (nat_lt (most w) count) (refusal.Limit w count at) h

  declaration_refuses : (s : SoFar) (at name_at : ℕ) (name : List ℕ) → P at → P name_at → Refuses P (declaration s at name_at name)
  declaration_refuses s at name_at name h k =
      bind_refuses (RefusalPlaced P) (refused_if (is_late s) (refusal.Misplaced at)) _ (if_refuses (RefusalPlaced P) (is_late s) (refusal.Misplaced at) h) (λ _.
      if_refuses (RefusalPlaced P) (is_some (declared_as s.scope name)) (refusal.Duplicate name_at) k)

  -- a right side that there must be is an expression
  with_right : {X : Type 0} (at : ℕ) (right : Option Expr) (f : Expr → Result X _) → P at → RightPlaced P right → ((e : Expr) → ExprPlaced P e → Refuses P (f e)) → Refuses P (right_side at right >>= f)
  with_right at None f h k go_on = h
  with_right at (Some e) f h k go_on = go_on e k

  module _ (text : List ℕ) where
    constant_refuses : (scope : Scope) (boolean : Bool) (e : Expr) → ExprPlaced P e → Refuses P (constant text scope boolean e)
    constant_refuses scope boolean e h = bind_refuses (RefusalPlaced P) (one_of text scope (record { boolean = boolean; constant = true }) e) _ (one_refuses P text scope (record { boolean = boolean; constant = true }) e h) (λ _. tt)

    value_refuses : (scope : Scope) (at : ℕ) (type : Base) (e : Expr) → P at → ExprPlaced P e → Refuses P (value_of text scope at type e)
    value_refuses scope at base.Bool e h k = constant_refuses scope true e k
    value_refuses scope at base.Int e h k = constant_refuses scope false e k
    value_refuses scope at (base.Range low high) e h k = constant_refuses scope false e k
    value_refuses scope at (base.Listed values) e h k = constant_refuses scope false e k
    value_refuses scope at base.Float e h k = h
    value_refuses scope at base.Set e h k = bind_refuses (RefusalPlaced P) (set_of text scope e) _ (set_refuses P text scope e k) (λ _. tt)

    parameter_refuses : (s : SoFar) (at : ℕ) (type : Base) (name_at : ℕ) (name : List ℕ) (right : Option Expr) → P at → P name_at → RightPlaced P right → Refuses P (parameter text s at type name_at name right)
    unfolding parameter
    parameter_refuses s at type name_at name right h k r = with_right name_at right _ k r (λ e each.
        bind_refuses (RefusalPlaced P) (value_of text s.scope at type e) _ (value_refuses s.scope at type e h each) (λ _. tt))

    domain_refuses : (at : ℕ) (type : Base) → P at → Refuses P (domain_of at type)
    domain_refuses at base.Bool h = tt
    domain_refuses at base.Int h = h
    domain_refuses at base.Float h = h
    domain_refuses at base.Set h = h
    domain_refuses at (base.Range low high) h = bind_refuses (RefusalPlaced P) (within which.DomainSize (count_between low high) at) _ (within_refuses which.DomainSize (count_between low high) at h) (λ _. tt)
    domain_refuses at (base.Listed values) h = bind_refuses (RefusalPlaced P) (within which.DomainSize (length (values_in values)) at) _ (within_refuses which.DomainSize (length (values_in values)) at h) (λ _. tt)

    source_refuses : (scope : Scope) (boolean : Bool) (right : Option Expr) → RightPlaced P right → Refuses P (source_of text scope boolean right)
    source_refuses scope boolean None h = tt
    source_refuses scope boolean (Some e) h = bind_refuses (RefusalPlaced P) (one_of text scope (record { boolean = boolean; constant = false }) e) _ (one_refuses P text scope (record { boolean = boolean; constant = false }) e h) (λ _. tt)

    with_source_refuses : (at : ℕ) (problem : Contents) (boolean : Bool) (number : ℕ) (source : Option Term) → P at → Refuses P (with_source at problem boolean number source)
    with_source_refuses at problem boolean number None h = tt
    with_source_refuses at problem boolean number (Some source) h = rule_refuses P at problem (Plain (equality boolean) (Var number ∷ source ∷ []) [] [] (members.Listed [])) h

    variable_is_refused : (s : SoFar) (at : ℕ) (type : Base) (name_at : ℕ) (name : List ℕ) (marked : Marked) (right : Option Expr) → P at → P name_at → RightPlaced P right → Refuses P (variable text s at type name_at name marked right)
    unfolding variable
    variable_is_refused s at type name_at name marked right h k r =
        bind_refuses (RefusalPlaced P) (domain_of at type) _ (domain_refuses at type h) (λ domain.
        bind_refuses (RefusalPlaced P) (source_of text s.scope (is_boolean type) right) _ (source_refuses s.scope (is_boolean type) right r) (λ source.
        bind_refuses (RefusalPlaced P) (with_variable name_at s.problem domain) _ (variable_refuses P name_at s.problem domain k) (λ widened.
        bind_refuses (RefusalPlaced P) (with_source name_at widened (is_boolean type) (length s.problem.domains) source) _ (with_source_refuses name_at widened (is_boolean type) (length s.problem.domains) source k) (λ _. tt))))

    element_refuses : (at : ℕ) (type : Base) → P at → Refuses P (check_element at type)
    element_refuses at base.Bool h = tt
    element_refuses at base.Int h = tt
    element_refuses at base.Float h = h
    element_refuses at base.Set h = h
    element_refuses at (base.Range low high) h = tt
    element_refuses at (base.Listed values) h = tt

    elements_refuse : (scope : Scope) (isvar : Bool) (type : Base) (index : ℤ × ℤ) (name_at : ℕ) (e : Expr) → P name_at → ExprPlaced P e → Refuses P (elements text scope isvar type index name_at e)
    unfolding elements
    elements_refuse scope isvar type index name_at e h k =
        bind_refuses (RefusalPlaced P) (count_of text scope e) _ (count_refuses P text scope e k) (λ count.
        bind_refuses (RefusalPlaced P) (refused_if (not (is_index index count)) (refusal.IllTyped name_at)) _ (if_refuses (RefusalPlaced P) (not (is_index index count)) (refusal.IllTyped name_at) h) (λ _.
        list_refuses P text scope (record { boolean = is_boolean type; constant = not isvar }) e k))

    member_refuses : (at : ℕ) (problem : Contents) (set : Option Members) (term : Term) → P at → Refuses P (with_member at problem set term)
    member_refuses at problem None term h = tt
    member_refuses at problem (Some set) term h = rule_refuses P at problem (Plain SetIn (term ∷ []) [] [] set) h

    members_refuse : (at : ℕ) (problem : Contents) (set : Option Members) (terms : List Term) → P at → Refuses P (with_members at problem set terms)
    members_refuse at problem set [] h = tt
    members_refuse at problem set (term ∷ terms) h = bind_refuses (RefusalPlaced P) (with_member at problem set term) _ (member_refuses at problem set term h) (λ next. members_refuse at next set terms h)

    with_set_refuses : (isvar : Bool) (at : ℕ) (problem : Contents) (set : Option Members) (terms : List Term) → P at → Refuses P (with_set isvar at problem set terms)
    with_set_refuses true at problem set terms h = members_refuse at problem set terms h
    with_set_refuses false at problem set terms h = tt

    array_refuses : (s : SoFar) (at : ℕ) (isvar : Bool) (index : ℤ × ℤ) (type : Base) (name_at : ℕ) (name : List ℕ) (marked : Marked) (right : Option Expr) → P at → P name_at → RightPlaced P right → Refuses P (array text s at isvar index type name_at name marked right)
    unfolding array
    array_refuses s at isvar index type name_at name marked right h k r =
        bind_refuses (RefusalPlaced P) (check_element at type) _ (element_refuses at type h) (λ _.
        with_right name_at right _ k r (λ e each.
        bind_refuses (RefusalPlaced P) (elements text s.scope isvar type index name_at e) _ (elements_refuse s.scope isvar type index name_at e k each) (λ terms.
        bind_refuses (RefusalPlaced P) (refused_if (isvar && not (is_shaped marked (length terms))) (refusal.OutputShape name_at)) _ (if_refuses (RefusalPlaced P) (isvar && not (is_shaped marked (length terms))) (refusal.OutputShape name_at) k) (λ _.
        bind_refuses (RefusalPlaced P) (within which.Elements (length terms) name_at) _ (within_refuses which.Elements (length terms) name_at k) (λ _.
        bind_refuses (RefusalPlaced P) (with_set isvar name_at s.problem (element_set type) terms) _ (with_set_refuses isvar name_at s.problem (element_set type) terms k) (λ _. tt))))))

    declared_by_refuses : (s : SoFar) (at : ℕ) (isvar : Bool) (index : Option (ℤ × ℤ)) (type : Base) (name_at : ℕ) (name : List ℕ) (marked : Marked) (right : Option Expr) → P at → P name_at → RightPlaced P right → Refuses P (declared_by text s at isvar index type name_at name marked right)
    declared_by_refuses s at isvar (Some index) type name_at name marked right h k r = array_refuses s at isvar index type name_at name marked right h k r
    declared_by_refuses s at true None type name_at name marked right h k r = variable_is_refused s at type name_at name marked right h k r
    declared_by_refuses s at false None type name_at name marked right h k r = parameter_refuses s at type name_at name right h k r

    constraint_is_refused : (s : SoFar) (at name_at : ℕ) (name : List ℕ) (es : List Expr) → P at → P name_at → AllByRecursion (ExprPlaced P) es → Refuses P (constraint text s at name_at name es)
    unfolding constraint
    constraint_is_refused s at name_at name es h k each =
        bind_refuses (RefusalPlaced P) (refused_if s.solved (refusal.Misplaced at)) _ (if_refuses (RefusalPlaced P) s.solved (refusal.Misplaced at) h) (λ _.
        bind_refuses (RefusalPlaced P) (constraint_rule text s.scope name_at name es) _ (constraint_refuses P text s.scope name_at name es k each) (λ rule.
        bind_refuses (RefusalPlaced P) (with_rule name_at s.problem rule) _ (rule_refuses P name_at s.problem rule k) (λ _. tt)))

    goal_refuses : (scope : Scope) (goal : Goal) → GoalPlaced P goal → Refuses P (aim_of text scope goal)
    goal_refuses scope goals.Satisfy h = tt
    goal_refuses scope (goals.Minimize at what) h = bind_refuses (RefusalPlaced P) (one_of text scope an_integer what) _ (one_refuses P text scope an_integer what h.1) (λ _. tt)
    goal_refuses scope (goals.Maximize at what) h = bind_refuses (RefusalPlaced P) (one_of text scope an_integer what) _ (one_refuses P text scope an_integer what h.1) (λ _. tt)

    solve_refuses : (s : SoFar) (at : ℕ) (goal : Goal) → P at → GoalPlaced P goal → Refuses P (solve text s at goal)
    unfolding solve
    solve_refuses s at goal h k =
        bind_refuses (RefusalPlaced P) (refused_if s.solved (refusal.Misplaced at)) _ (if_refuses (RefusalPlaced P) s.solved (refusal.Misplaced at) h) (λ _.
        bind_refuses (RefusalPlaced P) (aim_of text s.scope goal) _ (goal_refuses s.scope goal k) (λ _. tt))

    predicate_refuses : (s : SoFar) (at : ℕ) → P at → Refuses P (predicate s at)
    unfolding predicate
    predicate_refuses s at h = bind_refuses (RefusalPlaced P) (refused_if (is_late s) (refusal.Misplaced at)) _ (if_refuses (RefusalPlaced P) (is_late s) (refusal.Misplaced at) h) (λ _. tt)

    item_refuses : (s : SoFar) (i : Item) → ItemPlaced P i → Refuses P (after text s i)
    item_refuses s (item.Predicate at) h = predicate_refuses s at h
    item_refuses s (item.Declare at isvar index type name_at name_to marked right) h =
        bind_refuses (RefusalPlaced P) (declaration s at name_at (bytes_at text name_at name_to)) _ (declaration_refuses s at name_at (bytes_at text name_at name_to) h.0 h.1) (λ _.
        declared_by_refuses s at isvar index type name_at (bytes_at text name_at name_to) marked right h.0 h.1 h.2)
    item_refuses s (item.Constraint at name_at name_to arguments) h = constraint_is_refused s at name_at (bytes_at text name_at name_to) arguments h.0 h.1 h.2
    item_refuses s (item.Solve at goal) h = solve_refuses s at goal h.0 h.1

    items_refuse : (s : SoFar) (is : List Item) → AllByRecursion (ItemPlaced P) is → Refuses P (after_all text s is)
    items_refuse s [] h = tt
    items_refuse s (i ∷ is) h = bind_refuses (RefusalPlaced P) (after text s i) _ (item_refuses s i h.0) (λ next. items_refuse next is h.1)

    pub resolved_refuses : (is : List Item) → AllByRecursion (ItemPlaced P) is → Refuses P (resolved text is)
    unfolding resolved
    resolved_refuses is h = bind_refuses (RefusalPlaced P) (after_all text start is) _ (items_refuse start is h) (λ s. choice_refuses (RefusalPlaced P) s.solved s.problem refusal.NoSolve tt)
