-- Where P holds of the places in an item, it holds of the place of each refusal of the item.
use Rattle.std.proofs.Common.{ℕ, ◌&&◌, ◌||◌, not, Bool, true, false, List, [], ◌∷◌, ◌++◌, length, Option, Some, None, Result, Ok, Err}
use Rattle.std.specs.Prelude.{ℤ, ◌==◌, if◌then◌else◌}
use Rattle.std.specs.List.{AllByRecursion}
use Rattle.fzn_item.specs.declared.item.Atom.{Atom}
use Rattle.fzn_item.specs.declared.item.Atom.TheVariants as atom
use Rattle.fzn_item.specs.declared.item.Expr.{Expr}
use Rattle.fzn_item.specs.declared.item.Expr.TheVariants as expr
use Rattle.dcsp_rule.specs.declared.rule.Term.{Term}
use Rattle.dcsp_rule.specs.declared.rule.Term.TheVariants.{Const}
use Rattle.dcsp_rule.specs.declared.rule.Rule.{Rule}
use Rattle.dcsp_problem.specs.declared.limits.BuildError.{BuildError}
use Rattle.dcsp_problem.specs.declared.limits.BuildError.TheVariants as build
use Rattle.dcsp_problem.specs.Limits.{variable_refusal, rule_refusal}
use Rattle.dcsp_rule.specs.Problems.{Contents}
use Rattle.fzn_scope.specs.declared.names.Declared.{Declared}
use Rattle.fzn_scope.specs.declared.names.Declared.TheVariants as declared
use Rattle.fzn_scope.specs.declared.place.Wanted.{Wanted}
use Rattle.fzn_scope.specs.declared.form.Place.{Place}
use Rattle.fzn_scope.specs.declared.form.Place.TheVariants as place
use Rattle.fzn_scope.specs.declared.form.Form.{Form}
use Rattle.fzn_scope.specs.Arguments.{Arguments}
use Rattle.fzn_token.specs.declared.refusal.Refusal.{Refusal}
use Rattle.fzn_token.specs.declared.refusal.Refusal.TheVariants as refusal
use Rattle.fzn_scope.specs.Checks.{◌>>=◌, refused_if}
use Rattle.fzn_scope.specs.Names.{Scope, declared_as, bytes_at}
use Rattle.fzn_scope.specs.Places.{is_constant, same, truth_term, wanted_term, term_named, term_of, one_of, terms_after, terms_named, list_of, count_named, count_of, set_named, set_of}
use Rattle.fzn_scope.specs.Forms.{form_named, places_of}
use Rattle.fzn_scope.specs.Rules.{no_arguments, with_argument, arguments_after, known_form, form_at, lengths_agree, constraint_rule}
use Rattle.fzn_model.specs.Building.{refused_at, with_variable, with_rule}
use Rattle.law_inputs.proofs.ItemPlaces.{AtomPlaced, ExprPlaced}

-- P holds of the place of a refusal of what items mean, if it has one; no token and no item is refused there
abbrev pub RefusalPlaced : (ℕ → Type 0) → Refusal → Type 0
RefusalPlaced P (refusal.Lex at) = ⊥
RefusalPlaced P (refusal.IntRange at) = ⊥
RefusalPlaced P (refusal.Syntax at) = ⊥
RefusalPlaced P (refusal.Undeclared at) = P at
RefusalPlaced P (refusal.UnknownConstraint at) = P at
RefusalPlaced P (refusal.IllTyped at) = P at
RefusalPlaced P (refusal.Misplaced at) = P at
RefusalPlaced P (refusal.Duplicate at) = P at
RefusalPlaced P (refusal.Unbounded at) = P at
RefusalPlaced P (refusal.Unsupported at) = P at
RefusalPlaced P (refusal.OutputShape at) = P at
RefusalPlaced P (refusal.WideSum at) = P at
RefusalPlaced P (refusal.Limit which count at) = P at
RefusalPlaced P refusal.NoSolve = Unit {0}

-- Q holds of what a check refuses for, if it does
abbrev pub RefusesFor : {X E : Type 0} → (E → Type 0) → Result X E → Type 0
RefusesFor Q (Ok x) = Unit {0}
RefusesFor Q (Err e) = Q e

-- a check refuses, if it does, at a place of which P holds
abbrev pub Refuses : {X : Type 0} → (ℕ → Type 0) → Result X Refusal → Type 0
Refuses P x = RefusesFor (RefusalPlaced P) x

module _ {E : Type 0} (Q : E → Type 0) where
  pub bind_refuses : {A B : Type 0} (x : Result A E) (f : A → Result B E) → RefusesFor Q x → ((a : A) → RefusesFor Q (f a)) → RefusesFor Q (x >>= f)
  bind_refuses (Ok a) f first second = second a
  bind_refuses (Err e) f first second = first

  pub if_refuses : (b : Bool) (e : E) → Q e → RefusesFor Q (refused_if b e)
  if_refuses true e h = h
  if_refuses false e h = tt

  pub choice_refuses : {X : Type 0} (b : Bool) (x : X) (e : E) → Q e → RefusesFor Q (if b then Ok x else Err e)
  choice_refuses true x e h = tt
  choice_refuses false x e h = h

module _ (P : ℕ → Type 0) where
  -- ---- expressions

  wanted_refuses : (wanted : Wanted) (at : ℕ) (boolean : Bool) (term : Term) → P at → RefusesFor (RefusalPlaced P) (wanted_term wanted at boolean term)
  wanted_refuses wanted at boolean term h = choice_refuses (RefusalPlaced P) (same boolean wanted.boolean && (not wanted.constant || is_constant term)) term (refusal.IllTyped at) h

  term_named_refuses : (wanted : Wanted) (at : ℕ) (d : Option Declared) → P at → RefusesFor (RefusalPlaced P) (term_named wanted at d)
  term_named_refuses wanted at None h = h
  term_named_refuses wanted at (Some (declared.One boolean term)) h = wanted_refuses wanted at boolean term h
  term_named_refuses wanted at (Some (declared.Set set)) h = h
  term_named_refuses wanted at (Some (declared.Many boolean isvar terms)) h = h

  module _ (text : List ℕ) (scope : Scope) where
    term_refuses : (wanted : Wanted) (a : Atom) → AtomPlaced P a → RefusesFor (RefusalPlaced P) (term_of text scope wanted a)
    term_refuses wanted (atom.Truth at value) h = wanted_refuses wanted at true (truth_term value) h
    term_refuses wanted (atom.Whole at value) h = wanted_refuses wanted at false (Const value) h
    term_refuses wanted (atom.Float at) h = h
    term_refuses wanted (atom.Name at to) h = term_named_refuses wanted at (declared_as scope (bytes_at text at to)) h
    term_refuses wanted (atom.Range at low high) h = h
    term_refuses wanted (atom.Listed at values) h = h

    pub one_refuses : (wanted : Wanted) (e : Expr) → ExprPlaced P e → RefusesFor (RefusalPlaced P) (one_of text scope wanted e)
    one_refuses wanted (expr.One a) h = term_refuses wanted a h
    one_refuses wanted (expr.List at atoms) h = h.0

    terms_refuse : (wanted : Wanted) (done : List Term) (atoms : List Atom) → AllByRecursion (AtomPlaced P) atoms → RefusesFor (RefusalPlaced P) (terms_after text scope wanted done atoms)
    terms_refuse wanted done [] h = tt
    terms_refuse wanted done (a ∷ atoms) h = bind_refuses (RefusalPlaced P) (term_of text scope wanted a) _ (term_refuses wanted a h.0) (λ term. terms_refuse wanted (done ++ term ∷ []) atoms h.1)

    terms_named_refuse : (wanted : Wanted) (at : ℕ) (d : Option Declared) → P at → RefusesFor (RefusalPlaced P) (terms_named wanted at d)
    terms_named_refuse wanted at None h = h
    terms_named_refuse wanted at (Some (declared.One boolean term)) h = h
    terms_named_refuse wanted at (Some (declared.Set set)) h = h
    terms_named_refuse wanted at (Some (declared.Many boolean isvar terms)) h = choice_refuses (RefusalPlaced P) (same boolean wanted.boolean && (not wanted.constant || not isvar)) terms (refusal.IllTyped at) h

    pub list_refuses : (wanted : Wanted) (e : Expr) → ExprPlaced P e → RefusesFor (RefusalPlaced P) (list_of text scope wanted e)
    list_refuses wanted (expr.List at atoms) h = terms_refuse wanted [] atoms h.1
    list_refuses wanted (expr.One (atom.Name at to)) h = terms_named_refuse wanted at (declared_as scope (bytes_at text at to)) h
    list_refuses wanted (expr.One (atom.Truth at value)) h = h
    list_refuses wanted (expr.One (atom.Whole at value)) h = h
    list_refuses wanted (expr.One (atom.Float at)) h = h
    list_refuses wanted (expr.One (atom.Range at low high)) h = h
    list_refuses wanted (expr.One (atom.Listed at values)) h = h

    count_named_refuses : (at : ℕ) (d : Option Declared) → P at → RefusesFor (RefusalPlaced P) (count_named at d)
    count_named_refuses at None h = h
    count_named_refuses at (Some (declared.One boolean term)) h = h
    count_named_refuses at (Some (declared.Set set)) h = h
    count_named_refuses at (Some (declared.Many boolean isvar terms)) h = tt

    pub count_refuses : (e : Expr) → ExprPlaced P e → RefusesFor (RefusalPlaced P) (count_of text scope e)
    count_refuses (expr.List at atoms) h = tt
    count_refuses (expr.One (atom.Name at to)) h = count_named_refuses at (declared_as scope (bytes_at text at to)) h
    count_refuses (expr.One (atom.Truth at value)) h = h
    count_refuses (expr.One (atom.Whole at value)) h = h
    count_refuses (expr.One (atom.Float at)) h = h
    count_refuses (expr.One (atom.Range at low high)) h = h
    count_refuses (expr.One (atom.Listed at values)) h = h

    set_named_refuses : (at : ℕ) (d : Option Declared) → P at → RefusesFor (RefusalPlaced P) (set_named at d)
    set_named_refuses at None h = h
    set_named_refuses at (Some (declared.One boolean term)) h = h
    set_named_refuses at (Some (declared.Set set)) h = tt
    set_named_refuses at (Some (declared.Many boolean isvar terms)) h = h

    pub set_refuses : (e : Expr) → ExprPlaced P e → RefusesFor (RefusalPlaced P) (set_of text scope e)
    set_refuses (expr.List at atoms) h = h.0
    set_refuses (expr.One (atom.Name at to)) h = set_named_refuses at (declared_as scope (bytes_at text at to)) h
    set_refuses (expr.One (atom.Truth at value)) h = h
    set_refuses (expr.One (atom.Whole at value)) h = h
    set_refuses (expr.One (atom.Float at)) h = h
    set_refuses (expr.One (atom.Range at low high)) h = tt
    set_refuses (expr.One (atom.Listed at values)) h = tt

    -- ---- constraints

    argument_refuses : (done : Arguments) (p : Place) (e : Expr) → ExprPlaced P e → RefusesFor (RefusalPlaced P) (with_argument text scope done p e)
    argument_refuses done (place.Scalar boolean) e h = bind_refuses (RefusalPlaced P) (one_of text scope (record { boolean = boolean; constant = false }) e) _ (one_refuses (record { boolean = boolean; constant = false }) e h) (λ term. tt)
    argument_refuses done (place.First wanted) e h = bind_refuses (RefusalPlaced P) (list_of text scope wanted e) _ (list_refuses wanted e h) (λ terms. tt)
    argument_refuses done (place.Second wanted) e h = bind_refuses (RefusalPlaced P) (list_of text scope wanted e) _ (list_refuses wanted e h) (λ terms. tt)
    argument_refuses done place.Set e h = bind_refuses (RefusalPlaced P) (set_of text scope e) _ (set_refuses e h) (λ members. tt)

    arguments_refuse : (done : Arguments) (ps : List Place) (es : List Expr) → AllByRecursion (ExprPlaced P) es → RefusesFor (RefusalPlaced P) (arguments_after text scope done ps es)
    arguments_refuse done [] es h = tt
    arguments_refuse done (p ∷ ps) [] h = tt
    arguments_refuse done (p ∷ ps) (e ∷ es) h = bind_refuses (RefusalPlaced P) (with_argument text scope done p e) _ (argument_refuses done p e h.0) (λ next. arguments_refuse next ps es h.1)

    form_refuses : (at : ℕ) (o : Option Form) → P at → RefusesFor (RefusalPlaced P) (known_form at o)
    form_refuses at None h = h
    form_refuses at (Some form) h = tt

    pub constraint_refuses : (at : ℕ) (name : List ℕ) (es : List Expr) → P at → AllByRecursion (ExprPlaced P) es → RefusesFor (RefusalPlaced P) (constraint_rule text scope at name es)
    unfolding constraint_rule
    constraint_refuses at name es h each =
        bind_refuses (RefusalPlaced P) (form_at at name) _ (form_refuses at (form_named name) h) (λ form.
        bind_refuses (RefusalPlaced P) (refused_if (not (length es == length (places_of form (length es)))) (refusal.IllTyped at)) _ (if_refuses (RefusalPlaced P) _ (refusal.IllTyped at) h) (λ _.
        bind_refuses (RefusalPlaced P) (arguments_after text scope no_arguments (places_of form (length es)) es) _ (arguments_refuse no_arguments (places_of form (length es)) es each) (λ arguments.
        bind_refuses (RefusalPlaced P) (refused_if (not (lengths_agree form arguments)) (refusal.IllTyped at)) _ (if_refuses (RefusalPlaced P) _ (refusal.IllTyped at) h) (λ _. tt))))

  -- ---- the problem

  build_refuses : (at : ℕ) (o : Option BuildError) → P at → Refuses P (refused_at at o)
  build_refuses at None h = tt
  build_refuses at (Some (build.Limit which count)) h = h
  build_refuses at (Some build.WideSum) h = h
  build_refuses at (Some build.Memory) h = tt

  pub variable_refuses : (at : ℕ) (problem : Contents) (domain : List ℤ) → P at → Refuses P (with_variable at problem domain)
  variable_refuses at problem domain h = bind_refuses (RefusalPlaced P) (refused_at at (variable_refusal problem domain)) _ (build_refuses at (variable_refusal problem domain) h) (λ _. tt)

  pub rule_refuses : (at : ℕ) (problem : Contents) (rule : Rule) → P at → Refuses P (with_rule at problem rule)
  rule_refuses at problem rule h = bind_refuses (RefusalPlaced P) (refused_at at (rule_refusal problem rule)) _ (build_refuses at (rule_refusal problem rule) h) (λ _. tt)
