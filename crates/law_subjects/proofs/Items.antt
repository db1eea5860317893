-- One item more: where it is taken, values fit afterwards where they fitted before and the item holds.
use Rattle.std.proofs.Common.{◌≡◌, ℕ, pos, Bool, true, false, not, List, [], ◌∷◌, ◌++◌, length, Option, Some, None, Ok, refl, sym, ap, ◌∙◌, subst, append-nil, arith}
use Rattle.std.specs.Prelude.{◌↔◌, ℤ}
use Rattle.std.specs.Option.{option_map}
use Rattle.fzn_item.specs.declared.item.Expr.{Expr}
use Rattle.fzn_item.specs.declared.item.Base.{Base}
use Rattle.fzn_item.specs.declared.item.Base.TheVariants as base
use Rattle.fzn_item.specs.declared.item.Marked.{Marked}
use Rattle.fzn_item.specs.declared.item.Goal.{Goal}
use Rattle.fzn_item.specs.declared.item.Item.{Item}
use Rattle.fzn_item.specs.declared.item.Item.TheVariants as item
use Rattle.dcsp_defs.specs.Csp.{Assignment}
use Rattle.dcsp_defs.proofs.Lists.{get-last}
use Rattle.fzn_scope.specs.declared.place.Wanted.{Wanted}
use Rattle.dcsp_rule.specs.declared.rule.Term.TheVariants.{Var}
use Rattle.dcsp_rule.specs.declared.rule.Rule.{Rule}
use Rattle.dcsp_rule.specs.declared.aim.Aim.{Aim}
use Rattle.dcsp_problem.specs.Limits.{rule_refusal}
use Rattle.dcsp_rule.specs.Problems.{Contents}
use Rattle.fzn_scope.specs.declared.names.Declared.TheVariants as declared
use Rattle.fzn_token.specs.declared.refusal.Refusal.TheVariants as refusal
use Rattle.fzn_scope.specs.Names.{Scope, declared_as, bytes_at}
use Rattle.fzn_scope.specs.Rules.{constraint_rule}
use Rattle.fzn_model.specs.Building.{refused_at, with_rule}
use Rattle.fzn_model.specs.Declarations.{SoFar, is_late, declaration, domain_of, is_boolean, element_set}
use Rattle.fzn_model.specs.Items.{declared_by, constraint, aim_of, solve, predicate, after}
use Rattle.law_subjects.specs.Environments.{Value, Environment, expr_value}
use Rattle.law_subjects.specs.Meaning.{variable_of}
use Rattle.law_subjects.proofs.Checks.{bind_ok, not_refused}
use Rattle.law_subjects.proofs.MeantNames.{Agrees}
use Rattle.law_subjects.proofs.Sorts.{IsSorted, Sorted, list_fixed}
use Rattle.law_subjects.proofs.MeantConstraints.{constraint_row}
use Rattle.law_subjects.proofs.Growth.{InDomains, Hold, rules_append, rule_alone, no_rules}
use Rattle.law_subjects.proofs.Fits.{Fits, Step, NumberedAt, count_of, step_grown}
use Rattle.law_subjects.proofs.Declared.{is_new, Parameter, parameter_is, parameter_grown, parameter_value, parameter_sorted, Variable, variable_is, source_rules, variable_holds, Array, array_is, array_rules, array_holds}

some_inside : (v w : Value) → Some v ≡ Some w → v ≡ w
some_inside v w e = cc

step_parameter : (text : List ℕ) (s t : SoFar) (at : ℕ) (type : Base) (name_at name_to : ℕ) (marked : Marked) (right : Option Expr) → Sorted s.problem.domains s.scope → declared_as s.scope (bytes_at text name_at name_to) ≡ None
    → Parameter text s t at type (bytes_at text name_at name_to) right → Step text s t (item.Declare at false None type name_at name_to marked right)
step_parameter text s t at type name_at name_to marked right sorted fresh p =
    let name = bytes_at text name_at name_to in
    step_grown text s t (item.Declare at false None type name_at name_to marked right) name p.value None [] (parameter_grown text s t at type name right fresh p) sorted
    (subst (λ (ds : List (List ℤ)). IsSorted ds p.value) (sym (append-nil s.problem.domains)) (parameter_sorted text s.problem.domains s.scope sorted at type p.expr p.value p.value_is))
    refl
    refl
    (λ values env fits.
    let v = parameter_value text values env s.scope fits.agrees at type p.expr p.value p.value_is in
    let o : option_map (expr_value text env) right ≡ Some (expr_value text env p.expr) = ap (option_map (expr_value text env)) p.right_is in (
      (λ h. (o ∙ ap Some (v ∙ sym h.0), tt)),
      (λ h. (sym (some_inside (expr_value text env p.expr) (env name) (sym o ∙ h.0)) ∙ v, tt, no_rules values)),
    ))

-- a variable's term is its own
own_truth : (type : Base) (at : ℕ) (domain : List ℤ) (ds : List (List ℤ)) → domain_of at type ≡ Ok domain → IsSorted (ds ++ domain ∷ []) (declared.One (is_boolean type) (Var (length ds)))
own_truth base.Bool at domain ds e = let is : pos 0 ∷ pos 1 ∷ [] ≡ domain = cc in get-last ds domain ∙ ap Some (sym is)
own_truth base.Int at domain ds e = tt
own_truth base.Float at domain ds e = tt
own_truth base.Set at domain ds e = tt
own_truth (base.Range low high) at domain ds e = tt
own_truth (base.Listed vs) at domain ds e = tt

step_variable : (text : List ℕ) (s t : SoFar) (at : ℕ) (type : Base) (name_at name_to : ℕ) (marked : Marked) (right : Option Expr) → Sorted s.problem.domains s.scope → declared_as s.scope (bytes_at text name_at name_to) ≡ None
    → Variable text s t at type (bytes_at text name_at name_to) right → Step text s t (item.Declare at true None type name_at name_to marked right)
step_variable text s t at type name_at name_to marked right sorted fresh p =
    let name = bytes_at text name_at name_to in
    let n = length s.problem.domains in
    step_grown text s t (item.Declare at true None type name_at name_to marked right) name (declared.One (is_boolean type) (Var n)) (Some p.domain) (source_rules (is_boolean type) n p.source)
    (record { fresh = fresh; scope = p.scope; domains = p.domains; rules = p.rules })
    sorted
    (own_truth type at p.domain s.problem.domains p.domain_is)
    refl
    refl
    (λ values env fits. variable_holds text values env s t fits sorted at type name right p)

numbered_none : (values : Assignment) (env : Environment) (n : ℕ) (o : Option (List ℕ)) → o ≡ None → NumberedAt values env n o
numbered_none values env n None e = tt
numbered_none values env n (Some name) e = absurd cc

step_array : (text : List ℕ) (s t : SoFar) (at : ℕ) (isvar : Bool) (index : ℤ × ℤ) (type : Base) (name_at name_to : ℕ) (marked : Marked) (right : Option Expr) → Sorted s.problem.domains s.scope → declared_as s.scope (bytes_at text name_at name_to) ≡ None
    → variable_of text (item.Declare at isvar (Some index) type name_at name_to marked right) ≡ None
    → Array text s t isvar type (bytes_at text name_at name_to) right → Step text s t (item.Declare at isvar (Some index) type name_at name_to marked right)
step_array text s t at isvar index type name_at name_to marked right sorted fresh none p =
    let name = bytes_at text name_at name_to in
    let wanted : Wanted = record { boolean = is_boolean type; constant = not isvar } in
    step_grown text s t (item.Declare at isvar (Some index) type name_at name_to marked right) name (declared.Many (is_boolean type) isvar p.terms) None (array_rules isvar (element_set type) p.terms)
    (record { fresh = fresh; scope = p.scope; domains = p.domains; rules = p.rules })
    sorted
    (λ e. list_fixed text s.problem.domains s.scope sorted wanted (ap not e) p.expr p.terms p.terms_are)
    (ap (λ (o : Option (List ℕ)). count_of o) (sym none))
    refl
    (λ values env fits.
    let h = array_holds text values env s t fits isvar type name right p in
    ((λ x. let y = h.0 x in (y.0, numbered_none values env (length s.problem.domains) _ none)), (λ y. h.1 (y.0, tt))))

-- what a constraint adds
pub record Constrained (text : List ℕ) (s t : SoFar) (name_at : ℕ) (name : List ℕ) (exprs : List Expr) : Type 0 where
  pub rule : Rule
  pub rule_is : constraint_rule text s.scope name_at name exprs ≡ Ok rule
  pub scope : t.scope ≡ s.scope
  pub domains : t.problem.domains ≡ s.problem.domains
  pub rules : t.problem.rules ≡ s.problem.rules ++ rule ∷ []
  pub solved : t.solved ≡ s.solved

pub constrained_is : (text : List ℕ) (s t : SoFar) (at name_at : ℕ) (name : List ℕ) (exprs : List Expr) → constraint text s at name_at name exprs ≡ Ok t → Constrained text s t name_at name exprs
unfolding constraint
constrained_is text s t at name_at name exprs e =
    let a = not_refused s.solved (refusal.Misplaced at) _ t e in
    let b = bind_ok (constraint_rule text s.scope name_at name exprs) _ t a.1 in
    let c = bind_ok (with_rule name_at s.problem b.0) _ t b.2 in
    let d = bind_ok (refused_at name_at (rule_refusal s.problem b.0)) (λ u. Ok (record s.problem { rules = s.problem.rules ++ b.0 ∷ [] })) c.0 c.1 in
    let ruled : record s.problem { rules = s.problem.rules ++ b.0 ∷ [] } ≡ c.0 = let k = d.2 in cc in
    let is : record s { problem = c.0; constrained = true } ≡ t = let k = c.2 in cc in
    record {
      rule = b.0;
      rule_is = b.1;
      scope = ap (λ (x : SoFar). x.scope) (sym is);
      domains = ap (λ (x : SoFar). x.problem.domains) (sym is) ∙ ap (λ (x : Contents). x.domains) (sym ruled);
      rules = ap (λ (x : SoFar). x.problem.rules) (sym is) ∙ ap (λ (x : Contents). x.rules) (sym ruled);
      solved = ap (λ (x : SoFar). x.solved) (sym is);
    }

same_sorted : (s t : SoFar) → t.scope ≡ s.scope → t.problem.domains ≡ s.problem.domains → Sorted s.problem.domains s.scope → Sorted t.problem.domains t.scope
same_sorted s t a b h = subst (λ (x : List (List ℤ)). Sorted x t.scope) (sym b) (subst (Sorted s.problem.domains) (sym a) h)

step_constraint : (text : List ℕ) (s t : SoFar) (at name_at name_to : ℕ) (exprs : List Expr) → Sorted s.problem.domains s.scope → Constrained text s t name_at (bytes_at text name_at name_to) exprs → Step text s t (item.Constraint at name_at name_to exprs)
step_constraint text s t at name_at name_to exprs sorted p = record {
  keeps = λ n d l. subst (λ (z : Scope). declared_as z n ≡ Some d) (sym p.scope) l;
  declares = λ n e. absurd cc;
  sorted = same_sorted s t p.scope p.domains sorted;
  count = ap (λ (x : List (List ℤ)). length x) p.domains ∙ omega arith;
  fits = λ values env.
      let name = bytes_at text name_at name_to in
      let more = rules_append values s.problem.rules (p.rule ∷ []) in
      let alone = rule_alone values p.rule in (
        (λ h.
            let before : Fits values env s = record { agrees = subst (Agrees values env) p.scope h.agrees; domains = subst (InDomains values) p.domains h.domains; rules = (more.0 (subst (Hold values) p.rules h.rules)).0 } in
            let row = constraint_row text values env s.problem.domains s.scope before.agrees sorted name_at name exprs p.rule p.rule_is in
            (before, (sym row ∙ alone.0 (more.0 (subst (Hold values) p.rules h.rules)).1, tt))),
        (λ h.
            let row = constraint_row text values env s.problem.domains s.scope h.0.agrees sorted name_at name exprs p.rule p.rule_is in
            record { agrees = subst (Agrees values env) (sym p.scope) h.0.agrees; domains = subst (InDomains values) (sym p.domains) h.0.domains; rules = subst (Hold values) (sym p.rules) (more.1 (h.0.rules, alone.1 (row ∙ h.1.0))) }),
      );
}

-- what neither a predicate nor a solve item changes
record Unchanged (s t : SoFar) : Type 0 where
  scope : t.scope ≡ s.scope
  domains : t.problem.domains ≡ s.problem.domains
  rules : t.problem.rules ≡ s.problem.rules

fits_same : (values : Assignment) (env : Environment) (s t : SoFar) → t.scope ≡ s.scope → t.problem.domains ≡ s.problem.domains → t.problem.rules ≡ s.problem.rules → Fits values env s → Fits values env t
fits_same values env s t a b c h = record {
  agrees = subst (Agrees values env) (sym a) h.agrees;
  domains = subst (InDomains values) (sym b) h.domains;
  rules = subst (Hold values) (sym c) h.rules;
}

fits_unchanged : (values : Assignment) (env : Environment) (s t : SoFar) → Unchanged s t → Fits values env t ↔ (Fits values env s × (Unit {0} × Unit {0}))
fits_unchanged values env s t p = (
  (λ h. (fits_same values env t s (sym p.scope) (sym p.domains) (sym p.rules) h, (tt, tt))),
  (λ h. fits_same values env s t p.scope p.domains p.rules h.0),
)

pub predicate_is : (s t : SoFar) (at : ℕ) → predicate s at ≡ Ok t → s ≡ t
unfolding predicate
predicate_is s t at e =
    let a = not_refused (is_late s) (refusal.Misplaced at) (λ u. Ok s) t e in
    let k = a.1 in cc

step_predicate : (text : List ℕ) (s t : SoFar) (at : ℕ) → Sorted s.problem.domains s.scope → s ≡ t → Step text s t (item.Predicate at)
step_predicate text s t at sorted is =
    let p : Unchanged s t = record { scope = ap (λ (x : SoFar). x.scope) (sym is); domains = ap (λ (x : SoFar). x.problem.domains) (sym is); rules = ap (λ (x : SoFar). x.problem.rules) (sym is) } in
    record {
      keeps = λ n d l. subst (λ (z : Scope). declared_as z n ≡ Some d) (sym p.scope) l;
      declares = λ n e. absurd cc;
      sorted = same_sorted s t p.scope p.domains sorted;
      count = ap (λ (x : List (List ℤ)). length x) p.domains ∙ omega arith;
      fits = λ values env. fits_unchanged values env s t p;
    }

-- what a solve item adds: what its goal asks for
pub record Solved (text : List ℕ) (s t : SoFar) (goal : Goal) : Type 0 where
  pub aim : Aim
  pub aim_is : aim_of text s.scope goal ≡ Ok aim
  pub result_is : record s { problem = record s.problem { aim = aim }; solved = true } ≡ t

pub solve_is : (text : List ℕ) (s t : SoFar) (at : ℕ) (goal : Goal) → solve text s at goal ≡ Ok t → Solved text s t goal
unfolding solve
solve_is text s t at goal e =
    let a = not_refused s.solved (refusal.Misplaced at) _ t e in
    let b = bind_ok (aim_of text s.scope goal) (λ aim. Ok (record s { problem = record s.problem { aim = aim }; solved = true })) t a.1 in
    let is : record s { problem = record s.problem { aim = b.0 }; solved = true } ≡ t = let k = b.2 in cc in
    record { aim = b.0; aim_is = b.1; result_is = is }

step_solve : (text : List ℕ) (s t : SoFar) (at : ℕ) (goal : Goal) → Sorted s.problem.domains s.scope → Solved text s t goal → Step text s t (item.Solve at goal)
step_solve text s t at goal sorted q =
    let p : Unchanged s t = record { scope = ap (λ (x : SoFar). x.scope) (sym q.result_is); domains = ap (λ (x : SoFar). x.problem.domains) (sym q.result_is); rules = ap (λ (x : SoFar). x.problem.rules) (sym q.result_is) } in
    record {
      keeps = λ n d l. subst (λ (z : Scope). declared_as z n ≡ Some d) (sym p.scope) l;
      declares = λ n e. absurd cc;
      sorted = same_sorted s t p.scope p.domains sorted;
      count = ap (λ (x : List (List ℤ)). length x) p.domains ∙ omega arith;
      fits = λ values env. fits_unchanged values env s t p;
    }

step_declared : (text : List ℕ) (s t : SoFar) (at : ℕ) (isvar : Bool) (index : Option (ℤ × ℤ)) (type : Base) (name_at name_to : ℕ) (marked : Marked) (right : Option Expr) → Sorted s.problem.domains s.scope → declared_as s.scope (bytes_at text name_at name_to) ≡ None
    → declared_by text s at isvar index type name_at (bytes_at text name_at name_to) marked right ≡ Ok t → Step text s t (item.Declare at isvar index type name_at name_to marked right)
step_declared text s t at true (Some index) type name_at name_to marked right sorted fresh e =
    step_array text s t at true index type name_at name_to marked right sorted fresh refl (array_is text s t at true index type name_at (bytes_at text name_at name_to) marked right e)
step_declared text s t at false (Some index) type name_at name_to marked right sorted fresh e =
    step_array text s t at false index type name_at name_to marked right sorted fresh refl (array_is text s t at false index type name_at (bytes_at text name_at name_to) marked right e)
step_declared text s t at true None type name_at name_to marked right sorted fresh e =
    step_variable text s t at type name_at name_to marked right sorted fresh (variable_is text s t at type name_at (bytes_at text name_at name_to) marked right e)
step_declared text s t at false None type name_at name_to marked right sorted fresh e =
    step_parameter text s t at type name_at name_to marked right sorted fresh (parameter_is text s t at type name_at (bytes_at text name_at name_to) right e)

pub step_of : (text : List ℕ) (s t : SoFar) (i : Item) → Sorted s.problem.domains s.scope → after text s i ≡ Ok t → Step text s t i
step_of text s t (item.Predicate at) sorted e = step_predicate text s t at sorted (predicate_is s t at e)
step_of text s t (item.Declare at isvar index type name_at name_to marked right) sorted e =
    let name = bytes_at text name_at name_to in
    let b = bind_ok (declaration s at name_at name) (λ u. declared_by text s at isvar index type name_at name marked right) t e in
    step_declared text s t at isvar index type name_at name_to marked right sorted (is_new s at name_at name b.0 b.1) b.2
step_of text s t (item.Constraint at name_at name_to exprs) sorted e = step_constraint text s t at name_at name_to exprs sorted (constrained_is text s t at name_at (bytes_at text name_at name_to) exprs e)
step_of text s t (item.Solve at goal) sorted e = step_solve text s t at goal sorted (solve_is text s t at goal e)
