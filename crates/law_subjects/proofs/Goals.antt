-- The one goal of items, and what it asks for.
use Rattle.std.proofs.Common.{◌≡◌, ℕ, ◌||◌, Bool, true, false, List, [], ◌∷◌, Option, Some, None, Ok, refl, sym, ap, ◌∙◌, subst}
use Rattle.std.specs.Prelude.{ℤ}
use Rattle.fzn_item.specs.declared.item.Expr.{Expr}
use Rattle.fzn_item.specs.declared.item.Base.{Base}
use Rattle.fzn_item.specs.declared.item.Marked.{Marked}
use Rattle.fzn_item.specs.declared.item.Goal.{Goal}
use Rattle.fzn_item.specs.declared.item.Goal.TheVariants as goals
use Rattle.fzn_item.specs.declared.item.Item.{Item}
use Rattle.fzn_item.specs.declared.item.Item.TheVariants as item
use Rattle.dcsp_defs.specs.Csp.{Assignment}
use Rattle.dcsp_rule.specs.declared.aim.Aim.{Aim}
use Rattle.dcsp_rule.specs.declared.aim.Aim.TheVariants.{Satisfy, Least, Greatest}
use Rattle.dcsp_rule.specs.Problems.{Contents}
use Rattle.fzn_token.specs.declared.refusal.Refusal.TheVariants as refusal
use Rattle.fzn_scope.specs.Names.{Scope, bytes_at}
use Rattle.fzn_scope.specs.Places.{one_of}
use Rattle.fzn_model.specs.Declarations.{SoFar, is_late, declaration}
use Rattle.fzn_model.specs.Items.{start, an_integer, aim_of, declared_by, constraint, solve, predicate, after, after_all, finished, resolved}
use Rattle.law_subjects.specs.Environments.{Environment}
use Rattle.law_subjects.specs.Meaning.{Satisfies, goal_of, goals_of, IsAskedBy, AimsAtItsGoal}
use Rattle.law_subjects.proofs.Checks.{bind_ok, not_refused}
use Rattle.law_subjects.proofs.MeantNames.{Agrees}
use Rattle.law_subjects.proofs.Values.{one_value}
use Rattle.law_subjects.proofs.Declared.{parameter_is, variable_is, array_is}
use Rattle.law_subjects.proofs.Items.{constrained_is, predicate_is, Solved, solve_is}
use Rattle.law_subjects.proofs.MeantSteps.{satisfied_fits, problem_is}

-- ---- a solve item is the last

declared_solved : (text : List ℕ) (s t : SoFar) (at : ℕ) (isvar : Bool) (index : Option (ℤ × ℤ)) (type : Base) (name_at : ℕ) (name : List ℕ) (marked : Marked) (right : Option Expr) → declared_by text s at isvar index type name_at name marked right ≡ Ok t → t.solved ≡ s.solved
declared_solved text s t at true (Some index) type name_at name marked right e = (array_is text s t at true index type name_at name marked right e).solved
declared_solved text s t at false (Some index) type name_at name marked right e = (array_is text s t at false index type name_at name marked right e).solved
declared_solved text s t at true None type name_at name marked right e = (variable_is text s t at type name_at name marked right e).solved
declared_solved text s t at false None type name_at name marked right e = ap (λ (x : SoFar). x.solved) (sym (parameter_is text s t at type name_at name right e).result_is)

-- an item that states no goal leaves it as it is whether there was a solve item
solved_kept : (text : List ℕ) (s t : SoFar) (i : Item) → goal_of i ≡ None → after text s i ≡ Ok t → t.solved ≡ s.solved
solved_kept text s t (item.Predicate at) none e = ap (λ (x : SoFar). x.solved) (sym (predicate_is s t at e))
solved_kept text s t (item.Declare at isvar index type name_at name_to marked right) none e =
    let name = bytes_at text name_at name_to in
    let b = bind_ok (declaration s at name_at name) (λ u. declared_by text s at isvar index type name_at name marked right) t e in
    declared_solved text s t at isvar index type name_at name marked right b.2
solved_kept text s t (item.Constraint at name_at name_to exprs) none e = (constrained_is text s t at name_at (bytes_at text name_at name_to) exprs e).solved
solved_kept text s t (item.Solve at goal) none e = absurd cc

neither : (a b : Bool) → (a || b) ≡ false → a ≡ false
neither true b e = absurd cc
neither false b e = refl

constraint_before : (text : List ℕ) (s t : SoFar) (at name_at : ℕ) (name : List ℕ) (exprs : List Expr) → constraint text s at name_at name exprs ≡ Ok t → s.solved ≡ false
unfolding constraint
constraint_before text s t at name_at name exprs e = (not_refused s.solved (refusal.Misplaced at) _ t e).0

solve_before : (text : List ℕ) (s t : SoFar) (at : ℕ) (goal : Goal) → solve text s at goal ≡ Ok t → s.solved ≡ false
unfolding solve
solve_before text s t at goal e = (not_refused s.solved (refusal.Misplaced at) _ t e).0

predicate_before : (s t : SoFar) (at : ℕ) → predicate s at ≡ Ok t → s.solved ≡ false
unfolding predicate
predicate_before s t at e = neither s.solved s.constrained (not_refused (is_late s) (refusal.Misplaced at) _ t e).0

-- an item that is taken stands before the solve item, or is it
none_before : (text : List ℕ) (s t : SoFar) (i : Item) → after text s i ≡ Ok t → s.solved ≡ false
none_before text s t (item.Predicate at) e = predicate_before s t at e
none_before text s t (item.Declare at isvar index type name_at name_to marked right) e =
    let name = bytes_at text name_at name_to in
    let b = bind_ok (declaration s at name_at name) (λ u. declared_by text s at isvar index type name_at name marked right) t e in
    neither s.solved s.constrained (not_refused (is_late s) (refusal.Misplaced at) _ b.0 b.1).0
none_before text s t (item.Constraint at name_at name_to exprs) e = constraint_before text s t at name_at (bytes_at text name_at name_to) exprs e
none_before text s t (item.Solve at goal) e = solve_before text s t at goal e

-- ---- the one goal

-- items that end with a solve item state its goal alone, and the aim is what it asks for
record Stated (text : List ℕ) (t : SoFar) (items : List Item) : Type 0 where
  goal : Goal
  only : goals_of items ≡ goal ∷ []
  aim_is : aim_of text t.scope goal ≡ Ok t.problem.aim

last : (text : List ℕ) (s r t : SoFar) (at : ℕ) (goal : Goal) (rest : List Item) → Solved text s r goal → after_all text r rest ≡ Ok t → Stated text t (item.Solve at goal ∷ rest)
last text s r t at goal [] p e =
    let is : r ≡ t = cc in
    record {
      goal = goal;
      only = refl;
      aim_is = subst (λ (x : SoFar). aim_of text x.scope goal ≡ Ok x.problem.aim) (p.result_is ∙ is) p.aim_is;
    }
last text s r t at goal (i ∷ rest) p e =
    let b = bind_ok (after text r i) (λ next. after_all text next rest) t e in
    let before = none_before text r b.0 i b.1 in
    let now : true ≡ r.solved = ap (λ (x : SoFar). x.solved) p.result_is in
    absurd (let clash = now ∙ before in cc)

stated : (text : List ℕ) (items : List Item) (s t : SoFar) → after_all text s items ≡ Ok t → s.solved ≡ false → t.solved ≡ true → Stated text t items
stated text [] s t e none some =
    let is : s ≡ t = cc in
    absurd (let clash = sym none ∙ ap (λ (x : SoFar). x.solved) is ∙ some in cc)
stated text (item.Solve at goal ∷ rest) s t e none some =
    let b = bind_ok (solve text s at goal) (λ next. after_all text next rest) t e in
    last text s b.0 t at goal rest (solve_is text s b.0 at goal b.1) b.2
stated text (item.Predicate at ∷ rest) s t e none some =
    let b = bind_ok (after text s (item.Predicate at)) (λ next. after_all text next rest) t e in
    let more = stated text rest b.0 t b.2 (solved_kept text s b.0 (item.Predicate at) refl b.1 ∙ none) some in
    record { goal = more.goal; only = more.only; aim_is = more.aim_is }
stated text (item.Declare at isvar index type name_at name_to marked right ∷ rest) s t e none some =
    let i = item.Declare at isvar index type name_at name_to marked right in
    let b = bind_ok (after text s i) (λ next. after_all text next rest) t e in
    let more = stated text rest b.0 t b.2 (solved_kept text s b.0 i refl b.1 ∙ none) some in
    record { goal = more.goal; only = more.only; aim_is = more.aim_is }
stated text (item.Constraint at name_at name_to exprs ∷ rest) s t e none some =
    let i = item.Constraint at name_at name_to exprs in
    let b = bind_ok (after text s i) (λ next. after_all text next rest) t e in
    let more = stated text rest b.0 t b.2 (solved_kept text s b.0 i refl b.1 ∙ none) some in
    record { goal = more.goal; only = more.only; aim_is = more.aim_is }

-- ---- what it asks for

asked : (text : List ℕ) (items : List Item) (goal : Goal) (aim : Aim) (scope : Scope) → ((values : Assignment) (env : Environment) → Satisfies text items values env → Agrees values env scope) → aim_of text scope goal ≡ Ok aim → IsAskedBy text items goal aim
asked text items goals.Satisfy aim scope agrees e = let is : Satisfy ≡ aim = cc in sym is
asked text items (goals.Minimize at what) aim scope agrees e =
    let b = bind_ok (one_of text scope an_integer what) (λ term. Ok (Least term)) aim e in
    let is : Least b.0 ≡ aim = let k = b.2 in cc in
    (b.0, sym is, λ values env h. one_value text values env scope (agrees values env h) an_integer what b.0 b.1)
asked text items (goals.Maximize at what) aim scope agrees e =
    let b = bind_ok (one_of text scope an_integer what) (λ term. Ok (Greatest term)) aim e in
    let is : Greatest b.0 ≡ aim = let k = b.2 in cc in
    (b.0, sym is, λ values env h. one_value text values env scope (agrees values env h) an_integer what b.0 b.1)

pub aims_at_its_goal : AimsAtItsGoal
unfolding resolved
aims_at_its_goal text items p e =
    let b = bind_ok (after_all text start items) finished p e in
    let f = problem_is b.0 p b.2 in
    let m = stated text items start b.0 b.1 refl f.0 in
    let aim_is : aim_of text b.0.scope m.goal ≡ Ok p.aim = m.aim_is ∙ ap (λ (q : Contents). Ok q.aim) f.1 in
    record {
      goal = m.goal;
      only = m.only;
      asked = asked text items m.goal p.aim b.0.scope (λ values env h. (satisfied_fits text items b.0 b.1 values env h).agrees) aim_is;
    }
