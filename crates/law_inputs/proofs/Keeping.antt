-- Items that are alike are taken alike: where one adds something, the other adds the same.
use Rattle.std.proofs.Common.{◌≡◌, ℕ, ◌&&◌, ◌||◌, not, Bool, true, false, List, [], ◌∷◌, ◌++◌, length, Option, Some, None, Result, Ok, Err, refl, sym, ap, subst, arith}
use Rattle.std.specs.Prelude.{ℤ, ◌==◌, if◌then◌else◌}
use Rattle.fzn_item.specs.declared.item.Atom.{Atom}
use Rattle.fzn_item.specs.declared.item.Expr.{Expr}
use Rattle.fzn_item.specs.declared.item.Expr.TheVariants as expr
use Rattle.dcsp_rule.specs.declared.rule.Term.{Term}
use Rattle.dcsp_rule.specs.declared.rule.Term.TheVariants.{Const}
use Rattle.dcsp_rule.specs.declared.rule.Rule.{Rule}
use Rattle.dcsp_problem.specs.declared.limits.BuildError.{BuildError}
use Rattle.dcsp_problem.specs.declared.limits.BuildError.TheVariants as build
use Rattle.dcsp_problem.specs.Limits.{variable_refusal, rule_refusal}
use Rattle.dcsp_rule.specs.Problems.{Contents}
use Rattle.fzn_scope.specs.declared.names.Declared.{Declared}
use Rattle.fzn_scope.specs.declared.names.Declared.TheVariants as declared
use Rattle.fzn_scope.specs.declared.place.Wanted.{Wanted}
use Rattle.fzn_scope.specs.declared.form.Place.{Place}
use Rattle.fzn_scope.specs.declared.form.Place.TheVariants as place
use Rattle.fzn_scope.specs.declared.form.Form.{Form}
use Rattle.fzn_scope.specs.Arguments.{Arguments}
use Rattle.fzn_token.specs.declared.refusal.Refusal.{Refusal}
use Rattle.fzn_token.specs.declared.refusal.Refusal.TheVariants as refusal
use Rattle.fzn_scope.specs.Checks.{◌>>=◌, refused_if}
use Rattle.fzn_scope.specs.Names.{Scope, declared_as, bytes_at}
use Rattle.fzn_scope.specs.Places.{is_constant, same, truth_term, wanted_term, term_named, term_of, one_of, terms_after, terms_named, list_of, count_named, count_of, set_named, set_of}
use Rattle.fzn_scope.specs.Forms.{form_named, places_of}
use Rattle.fzn_scope.specs.Rules.{no_arguments, with_argument, arguments_after, known_form, form_at, lengths_agree, constraint_rule}
use Rattle.fzn_model.specs.Building.{refused_at, with_variable, with_rule}
use Rattle.law_inputs.proofs.Carrying.{Pairwise}
use Rattle.law_inputs.proofs.AlikeItems.{AtomsAlike, both_truth, both_whole, both_float, both_name, both_range, both_listed, ExprsAlike, both_one, both_list}

-- where one check gives something, the other gives the same
abbrev pub Keeps : {X E : Type 0} → Result X E → Result X E → Type 0
Keeps (Ok a) y = y ≡ Ok a
Keeps (Err e) y = Unit {0}

-- so a value is kept
pub kept_value : {X E : Type 0} (x y : Result X E) (a : X) → Keeps x y → x ≡ Ok a → y ≡ Ok a
kept_value x y a h e = subst (λ z. Keeps z y) e h

pub keeps_itself : {X E : Type 0} (x : Result X E) → Keeps x x
keeps_itself (Ok a) = refl
keeps_itself (Err e) = tt

pub keeps_bind : {A B E : Type 0} (x y : Result A E) (f g : A → Result B E) → Keeps x y → ((a : A) → Keeps (f a) (g a)) → Keeps (x >>= f) (y >>= g)
keeps_bind (Ok a) y f g h k = subst (λ z. Keeps (f a) (z >>= g)) (sym h) (k a)
keeps_bind (Err e) y f g h k = tt

pub keeps_if : {E : Type 0} (b : Bool) (e d : E) → Keeps (refused_if b e) (refused_if b d)
keeps_if true e d = tt
keeps_if false e d = refl

pub keeps_choice : {X E : Type 0} (b : Bool) (x : X) (e d : E) → Keeps (if b then Ok x else Err e) (if b then Ok x else Err d)
keeps_choice true x e d = refl
keeps_choice false x e d = tt

wanted_keeps : (wanted : Wanted) (at to : ℕ) (boolean : Bool) (term : Term) → Keeps (wanted_term wanted at boolean term) (wanted_term wanted to boolean term)
wanted_keeps wanted at to boolean term = keeps_choice (same boolean wanted.boolean && (not wanted.constant || is_constant term)) term (refusal.IllTyped at) (refusal.IllTyped to)

term_named_keeps : (wanted : Wanted) (at to : ℕ) (d : Option Declared) → Keeps (term_named wanted at d) (term_named wanted to d)
term_named_keeps wanted at to None = tt
term_named_keeps wanted at to (Some (declared.One boolean term)) = wanted_keeps wanted at to boolean term
term_named_keeps wanted at to (Some (declared.Set set)) = tt
term_named_keeps wanted at to (Some (declared.Many boolean isvar terms)) = tt

terms_named_keep : (wanted : Wanted) (at to : ℕ) (d : Option Declared) → Keeps (terms_named wanted at d) (terms_named wanted to d)
terms_named_keep wanted at to None = tt
terms_named_keep wanted at to (Some (declared.One boolean term)) = tt
terms_named_keep wanted at to (Some (declared.Set set)) = tt
terms_named_keep wanted at to (Some (declared.Many boolean isvar terms)) = keeps_choice (same boolean wanted.boolean && (not wanted.constant || not isvar)) terms (refusal.IllTyped at) (refusal.IllTyped to)

count_named_keeps : (at to : ℕ) (d : Option Declared) → Keeps (count_named at d) (count_named to d)
count_named_keeps at to None = tt
count_named_keeps at to (Some (declared.One boolean term)) = tt
count_named_keeps at to (Some (declared.Set set)) = tt
count_named_keeps at to (Some (declared.Many boolean isvar terms)) = refl

set_named_keeps : (at to : ℕ) (d : Option Declared) → Keeps (set_named at d) (set_named to d)
set_named_keeps at to None = tt
set_named_keeps at to (Some (declared.One boolean term)) = tt
set_named_keeps at to (Some (declared.Set set)) = refl
set_named_keeps at to (Some (declared.Many boolean isvar terms)) = tt

form_keeps : (at to : ℕ) (o : Option Form) → Keeps (known_form at o) (known_form to o)
form_keeps at to None = tt
form_keeps at to (Some form) = refl

build_keeps : (at to : ℕ) (o : Option BuildError) → Keeps (refused_at at o) (refused_at to o)
build_keeps at to None = refl
build_keeps at to (Some (build.Limit which count)) = tt
build_keeps at to (Some build.WideSum) = tt
build_keeps at to (Some build.Memory) = refl

pub variable_keeps : (at to : ℕ) (problem : Contents) (domain : List ℤ) → Keeps (with_variable at problem domain) (with_variable to problem domain)
variable_keeps at to problem domain = keeps_bind (refused_at at (variable_refusal problem domain)) (refused_at to (variable_refusal problem domain)) _ _ (build_keeps at to (variable_refusal problem domain)) (λ _. refl)

pub rule_keeps : (at to : ℕ) (problem : Contents) (rule : Rule) → Keeps (with_rule at problem rule) (with_rule to problem rule)
rule_keeps at to problem rule = keeps_bind (refused_at at (rule_refusal problem rule)) (refused_at to (rule_refusal problem rule)) _ _ (build_keeps at to (rule_refusal problem rule)) (λ _. refl)

module _ (text other : List ℕ) (scope : Scope) where
  -- what a name stands for is found by its bytes
  by_name : {X : Type 0} (f g : Option Declared → Result X Refusal) (a b : List ℕ) → a ≡ b → ((d : Option Declared) → Keeps (f d) (g d)) → Keeps (f (declared_as scope a)) (g (declared_as scope b))
  by_name f g a b e each = subst (λ bs. Keeps (f (declared_as scope a)) (g (declared_as scope bs))) e (each (declared_as scope a))

  term_keeps : (wanted : Wanted) (a b : Atom) → AtomsAlike text other a b → Keeps (term_of text scope wanted a) (term_of other scope wanted b)
  term_keeps wanted _ _ (both_truth {at = at} {to = to} {value = value}) = wanted_keeps wanted at to true (truth_term value)
  term_keeps wanted _ _ (both_whole {at = at} {to = to} {value = value}) = wanted_keeps wanted at to false (Const value)
  term_keeps wanted _ _ both_float = tt
  term_keeps wanted _ _ (both_name {at = at} {end = end} {to = to} {last = last} h) = by_name (term_named wanted at) (term_named wanted to) (bytes_at text at end) (bytes_at other to last) h (term_named_keeps wanted at to)
  term_keeps wanted _ _ both_range = tt
  term_keeps wanted _ _ both_listed = tt

  pub one_keeps : (wanted : Wanted) (a b : Expr) → ExprsAlike text other a b → Keeps (one_of text scope wanted a) (one_of other scope wanted b)
  one_keeps wanted _ _ (both_one {a = a} {b = b} h) = term_keeps wanted a b h
  one_keeps wanted _ _ (both_list h) = tt

  terms_keep : (wanted : Wanted) (done : List Term) (xs ys : List Atom) → Pairwise (AtomsAlike text other) xs ys → Keeps (terms_after text scope wanted done xs) (terms_after other scope wanted done ys)
  terms_keep wanted done [] [] h = refl
  terms_keep wanted done [] (y ∷ ys) h = absurd h
  terms_keep wanted done (x ∷ xs) [] h = absurd h
  terms_keep wanted done (x ∷ xs) (y ∷ ys) h = keeps_bind (term_of text scope wanted x) (term_of other scope wanted y) _ _ (term_keeps wanted x y h.0) (λ term. terms_keep wanted (done ++ term ∷ []) xs ys h.1)

  list_of_atom : (wanted : Wanted) (a b : Atom) → AtomsAlike text other a b → Keeps (list_of text scope wanted (expr.One a)) (list_of other scope wanted (expr.One b))
  list_of_atom wanted _ _ both_truth = tt
  list_of_atom wanted _ _ both_whole = tt
  list_of_atom wanted _ _ both_float = tt
  list_of_atom wanted _ _ (both_name {at = at} {end = end} {to = to} {last = last} h) = by_name (terms_named wanted at) (terms_named wanted to) (bytes_at text at end) (bytes_at other to last) h (terms_named_keep wanted at to)
  list_of_atom wanted _ _ both_range = tt
  list_of_atom wanted _ _ both_listed = tt

  pub list_keeps : (wanted : Wanted) (a b : Expr) → ExprsAlike text other a b → Keeps (list_of text scope wanted a) (list_of other scope wanted b)
  list_keeps wanted _ _ (both_one {a = a} {b = b} h) = list_of_atom wanted a b h
  list_keeps wanted _ _ (both_list {as_list = xs} {bs = ys} h) = terms_keep wanted [] xs ys h

  count_of_atom : (a b : Atom) → AtomsAlike text other a b → Keeps (count_of text scope (expr.One a)) (count_of other scope (expr.One b))
  count_of_atom _ _ both_truth = tt
  count_of_atom _ _ both_whole = tt
  count_of_atom _ _ both_float = tt
  count_of_atom _ _ (both_name {at = at} {end = end} {to = to} {last = last} h) = by_name (count_named at) (count_named to) (bytes_at text at end) (bytes_at other to last) h (count_named_keeps at to)
  count_of_atom _ _ both_range = tt
  count_of_atom _ _ both_listed = tt

  same_length : (xs ys : List Atom) → Pairwise (AtomsAlike text other) xs ys → length xs ≡ length ys
  same_length [] [] h = refl
  same_length [] (y ∷ ys) h = absurd h
  same_length (x ∷ xs) [] h = absurd h
  same_length (x ∷ xs) (y ∷ ys) h = let e = same_length xs ys h.1 in omega (arith, e)

  pub count_keeps : (a b : Expr) → ExprsAlike text other a b → Keeps (count_of text scope a) (count_of other scope b)
  count_keeps _ _ (both_one {a = a} {b = b} h) = count_of_atom a b h
  count_keeps _ _ (both_list {as_list = xs} {bs = ys} h) = ap Ok (sym (same_length xs ys h))

  set_of_atom : (a b : Atom) → AtomsAlike text other a b → Keeps (set_of text scope (expr.One a)) (set_of other scope (expr.One b))
  set_of_atom _ _ both_truth = tt
  set_of_atom _ _ both_whole = tt
  set_of_atom _ _ both_float = tt
  set_of_atom _ _ (both_name {at = at} {end = end} {to = to} {last = last} h) = by_name (set_named at) (set_named to) (bytes_at text at end) (bytes_at other to last) h (set_named_keeps at to)
  set_of_atom _ _ both_range = refl
  set_of_atom _ _ both_listed = refl

  pub set_keeps : (a b : Expr) → ExprsAlike text other a b → Keeps (set_of text scope a) (set_of other scope b)
  set_keeps _ _ (both_one {a = a} {b = b} h) = set_of_atom a b h
  set_keeps _ _ (both_list h) = tt

  -- ---- constraints

  argument_keeps : (done : Arguments) (p : Place) (a b : Expr) → ExprsAlike text other a b → Keeps (with_argument text scope done p a) (with_argument other scope done p b)
  argument_keeps done (place.Scalar boolean) a b h = let w : Wanted = record { boolean = boolean; constant = false } in keeps_bind (one_of text scope w a) (one_of other scope w b) _ _ (one_keeps w a b h) (λ _. refl)
  argument_keeps done (place.First wanted) a b h = keeps_bind (list_of text scope wanted a) (list_of other scope wanted b) _ _ (list_keeps wanted a b h) (λ _. refl)
  argument_keeps done (place.Second wanted) a b h = keeps_bind (list_of text scope wanted a) (list_of other scope wanted b) _ _ (list_keeps wanted a b h) (λ _. refl)
  argument_keeps done place.Set a b h = keeps_bind (set_of text scope a) (set_of other scope b) _ _ (set_keeps a b h) (λ _. refl)

  arguments_keep : (done : Arguments) (ps : List Place) (xs ys : List Expr) → Pairwise (ExprsAlike text other) xs ys → Keeps (arguments_after text scope done ps xs) (arguments_after other scope done ps ys)
  arguments_keep done [] xs ys h = refl
  arguments_keep done (p ∷ ps) [] [] h = refl
  arguments_keep done (p ∷ ps) [] (y ∷ ys) h = absurd h
  arguments_keep done (p ∷ ps) (x ∷ xs) [] h = absurd h
  arguments_keep done (p ∷ ps) (x ∷ xs) (y ∷ ys) h = keeps_bind (with_argument text scope done p x) (with_argument other scope done p y) _ _ (argument_keeps done p x y h.0) (λ next. arguments_keep next ps xs ys h.1)

  same_count : (xs ys : List Expr) → Pairwise (ExprsAlike text other) xs ys → length xs ≡ length ys
  same_count [] [] h = refl
  same_count [] (y ∷ ys) h = absurd h
  same_count (x ∷ xs) [] h = absurd h
  same_count (x ∷ xs) (y ∷ ys) h = let e = same_count xs ys h.1 in omega (arith, e)

  -- so many arguments, given at so many places
  counted_keeps : (at to n m : ℕ) (form : Form) → n ≡ m → Keeps (refused_if (not (n == length (places_of form n))) (refusal.IllTyped at)) (refused_if (not (m == length (places_of form m))) (refusal.IllTyped to))
  counted_keeps at to n m form e = subst (λ k. Keeps (refused_if (not (n == length (places_of form n))) (refusal.IllTyped at)) (refused_if (not (k == length (places_of form k))) (refusal.IllTyped to))) e (keeps_if (not (n == length (places_of form n))) (refusal.IllTyped at) (refusal.IllTyped to))

  pub constraint_keeps : (at to : ℕ) (name : List ℕ) (xs ys : List Expr) → Pairwise (ExprsAlike text other) xs ys → Keeps (constraint_rule text scope at name xs) (constraint_rule other scope to name ys)
  unfolding constraint_rule
  constraint_keeps at to name xs ys h =
      let many = same_count xs ys h in
      keeps_bind (form_at at name) (form_at to name) _ _ (form_keeps at to (form_named name)) (λ form.
      keeps_bind _ _ _ _ (counted_keeps at to (length xs) (length ys) form many) (λ _.
      keeps_bind (arguments_after text scope no_arguments (places_of form (length xs)) xs) (arguments_after other scope no_arguments (places_of form (length ys)) ys) _ _
      (subst (λ k. Keeps (arguments_after text scope no_arguments (places_of form (length xs)) xs) (arguments_after other scope no_arguments (places_of form k) ys)) many (arguments_keep no_arguments (places_of form (length xs)) xs ys h)) (λ arguments.
      keeps_bind (refused_if (not (lengths_agree form arguments)) (refusal.IllTyped at)) (refused_if (not (lengths_agree form arguments)) (refusal.IllTyped to)) _ _ (keeps_if (not (lengths_agree form arguments)) (refusal.IllTyped at) (refusal.IllTyped to)) (λ _. refl))))
