-- Names that stand for terms over so many variables give such terms at each place.
use Rattle.std.proofs.Common.{ℕ, zero, suc, ◌<◌, ◌≤◌, pos, Bool, true, false, not, ◌&&◌, ◌||◌, List, [], ◌∷◌, ◌++◌, Option, Some, None, Ok, IfSome, IfOk, arith}
use Rattle.std.specs.Prelude.{All, slice_index_or, length, ◌==◌}
use Rattle.std.specs.Str.{bytes_eq}
use Rattle.std.specs.Option.{option_to_list}
use Rattle.std.proofs.lemmas.List.Elements.{All-nil, All-cons, All-head, All-tail, All-append, All-push, All-weaker}
use Rattle.fzn_item.specs.declared.item.Atom.{Atom}
use Rattle.fzn_item.specs.declared.item.Atom.TheVariants as atom
use Rattle.fzn_item.specs.declared.item.Expr.{Expr}
use Rattle.fzn_item.specs.declared.item.Expr.TheVariants as expr
use Rattle.dcsp_rule.specs.declared.rule.Term.{Term}
use Rattle.dcsp_rule.specs.declared.rule.Term.TheVariants.{Const, Var}
use Rattle.dcsp_rule.specs.declared.rule.Rule.{Rule}
use Rattle.dcsp_rule.specs.Rules.{IsTermOf, terms_of}
use Rattle.fzn_scope.specs.declared.names.Declared.{Declared}
use Rattle.fzn_scope.specs.declared.names.Declared.TheVariants as declared
use Rattle.fzn_scope.specs.declared.place.Wanted.{Wanted}
use Rattle.fzn_scope.specs.declared.form.Place.{Place}
use Rattle.fzn_scope.specs.declared.form.Place.TheVariants.{Scalar, First, Second, Set}
use Rattle.fzn_scope.specs.declared.form.Form.{Form}
use Rattle.fzn_scope.specs.declared.form.Form.TheVariants.{Plain, Sum}
use Rattle.fzn_scope.specs.Arguments.{Arguments}
use Rattle.fzn_token.specs.declared.refusal.Refusal.TheVariants as refusal
use Rattle.fzn_scope.specs.Names.{Scope, declared_as, bytes_at}
use Rattle.fzn_scope.specs.Places.{is_constant, same, truth_term, wanted_term, term_named, term_of, one_of, terms_after, terms_named, list_of, set_of}
use Rattle.fzn_scope.specs.Forms.{places_of}
use Rattle.fzn_scope.specs.Known.{IsKnown, AreKnown}
use Rattle.fzn_scope.specs.Rules.{no_arguments, with_argument, arguments_after, scalar_at, truth_of, rule_of, lengths_agree, form_at, constraint_rule}
use Rattle.fzn_scope.proofs.Steps.{ok_then, ok_each, ok_unless, ok_if, some_if}

-- with more variables a term is still one
pub term_of_more : (m n : ℕ) → m ≤ n → (t : Term) → IsTermOf m t → IsTermOf n t
term_of_more m n more (Const value) h = tt
term_of_more m n more (Var var) h = let below : var < m = h in omega arith

-- and a name stands for such terms still
pub known_of_more : (m n : ℕ) → m ≤ n → (d : Declared) → IsKnown m d → IsKnown n d
known_of_more m n more (declared.One boolean term) h = term_of_more m n more term h
known_of_more m n more (declared.Set set) h = tt
known_of_more m n more (declared.Many boolean variable terms) h = All-weaker (IsTermOf m) (IsTermOf n) (term_of_more m n more) terms h

-- and so does each name
pub scope_of_more : (m n : ℕ) → m ≤ n → (scope : Scope) → AreKnown m scope → AreKnown n scope
scope_of_more m n more scope h = All-weaker (λ (d : List ℕ × Declared). IsKnown m d.1) (λ (d : List ℕ × Declared). IsKnown n d.1) (λ d. known_of_more m n more d.1) scope h

-- no names
pub no_names_known : (n : ℕ) → AreKnown n []
no_names_known n = All-nil (λ (d : List ℕ × Declared). IsKnown n d.1)

-- one name more
pub scope_with_more : (n : ℕ) (scope : Scope) (name : List ℕ) (d : Declared) → AreKnown n scope → IsKnown n d → AreKnown n (scope ++ (name, d) ∷ [])
scope_with_more n scope name d h k = All-push (λ (d : List ℕ × Declared). IsKnown n d.1) scope (name, d) h k

-- a name's look-up
pub name_known : (n : ℕ) (scope : Scope) (name : List ℕ) → AreKnown n scope → IfSome (declared_as scope name) (IsKnown n)
name_known n [] name h = tt
name_known n (d ∷ ds) name h =
    let P : List ℕ × Declared → Type 0 = λ e. IsKnown n e.1 in
    some_if (IsKnown n) (bytes_eq name d.0) d.1 (declared_as ds name) (All-head P d ds h) (name_known n ds name (All-tail P d ds h))

-- a truth is a constant
truth_known : (n : ℕ) (value : Bool) → IsTermOf n (truth_term value)
truth_known n true = tt
truth_known n false = tt

-- a term that is wanted
wanted_known : (n : ℕ) (wanted : Wanted) (at : ℕ) (boolean : Bool) (term : Term) → IsTermOf n term → IfOk (wanted_term wanted at boolean term) (IsTermOf n)
wanted_known n wanted at boolean term h = ok_if (IsTermOf n) (same boolean wanted.boolean && (not wanted.constant || is_constant term)) term (refusal.IllTyped at) h

-- a name's term
named_known : (n : ℕ) (wanted : Wanted) (at : ℕ) (d : Option Declared) → IfSome d (IsKnown n) → IfOk (term_named wanted at d) (IsTermOf n)
named_known n wanted at None h = tt
named_known n wanted at (Some (declared.One boolean term)) h = wanted_known n wanted at boolean term h
named_known n wanted at (Some (declared.Set set)) h = tt
named_known n wanted at (Some (declared.Many boolean variable terms)) h = tt

-- an atom's term
pub term_known : (n : ℕ) (text : List ℕ) (scope : Scope) (wanted : Wanted) (a : Atom) → AreKnown n scope → IfOk (term_of text scope wanted a) (IsTermOf n)
term_known n text scope wanted (atom.Truth at value) h = wanted_known n wanted at true (truth_term value) (truth_known n value)
term_known n text scope wanted (atom.Whole at value) h = wanted_known n wanted at false (Const value) tt
term_known n text scope wanted (atom.Float at) h = tt
term_known n text scope wanted (atom.Name at to) h = named_known n wanted at (declared_as scope (bytes_at text at to)) (name_known n scope (bytes_at text at to) h)
term_known n text scope wanted (atom.Range at low high) h = tt
term_known n text scope wanted (atom.Listed at values) h = tt

-- the term of an expression
pub one_known : (n : ℕ) (text : List ℕ) (scope : Scope) (wanted : Wanted) (e : Expr) → AreKnown n scope → IfOk (one_of text scope wanted e) (IsTermOf n)
one_known n text scope wanted (expr.One a) h = term_known n text scope wanted a h
one_known n text scope wanted (expr.List at atoms) h = tt

-- the terms of atoms
pub terms_known : (n : ℕ) (text : List ℕ) (scope : Scope) (wanted : Wanted) (done : List Term) (atoms : List Atom) → AreKnown n scope → All (IsTermOf n) done → IfOk (terms_after text scope wanted done atoms) (All (IsTermOf n))
terms_known n text scope wanted done [] h k = k
terms_known n text scope wanted done (a ∷ atoms) h k =
    ok_then (IsTermOf n) (All (IsTermOf n)) (term_of text scope wanted a) (λ term. terms_after text scope wanted (done ++ term ∷ []) atoms) (term_known n text scope wanted a h)
    (λ term t. terms_known n text scope wanted (done ++ term ∷ []) atoms h (All-push (IsTermOf n) done term k t))

-- the terms of a name
pub many_known : (n : ℕ) (wanted : Wanted) (at : ℕ) (d : Option Declared) → IfSome d (IsKnown n) → IfOk (terms_named wanted at d) (All (IsTermOf n))
many_known n wanted at None h = tt
many_known n wanted at (Some (declared.One boolean term)) h = tt
many_known n wanted at (Some (declared.Set set)) h = tt
many_known n wanted at (Some (declared.Many boolean variable terms)) h =
    ok_if (All (IsTermOf n)) (same boolean wanted.boolean && (not wanted.constant || not variable)) terms (refusal.IllTyped at) h

-- the terms of an expression
pub list_known : (n : ℕ) (text : List ℕ) (scope : Scope) (wanted : Wanted) (e : Expr) → AreKnown n scope → IfOk (list_of text scope wanted e) (All (IsTermOf n))
list_known n text scope wanted (expr.List at atoms) h = terms_known n text scope wanted [] atoms h (All-nil (IsTermOf n))
list_known n text scope wanted (expr.One (atom.Name at to)) h = many_known n wanted at (declared_as scope (bytes_at text at to)) (name_known n scope (bytes_at text at to) h)
list_known n text scope wanted (expr.One (atom.Truth at value)) h = tt
list_known n text scope wanted (expr.One (atom.Whole at value)) h = tt
list_known n text scope wanted (expr.One (atom.Float at)) h = tt
list_known n text scope wanted (expr.One (atom.Range at low high)) h = tt
list_known n text scope wanted (expr.One (atom.Listed at values)) h = tt

-- all terms of arguments are over so many variables
record IsArgumentsOf (n : ℕ) (arguments : Arguments) : Type 0 where
  scalars : All (IsTermOf n) arguments.scalars
  first : All (IsTermOf n) arguments.first
  second : All (IsTermOf n) arguments.second

-- one argument more
argument_known : (n : ℕ) (text : List ℕ) (scope : Scope) (done : Arguments) (place : Place) (e : Expr) → AreKnown n scope → IsArgumentsOf n done → IfOk (with_argument text scope done place e) (IsArgumentsOf n)
argument_known n text scope done (Scalar boolean) e h k =
    let wanted : Wanted = record { boolean = boolean; constant = false } in
    ok_then (IsTermOf n) (IsArgumentsOf n) (one_of text scope wanted e) (λ term. Ok (record done { scalars = done.scalars ++ term ∷ [] })) (one_known n text scope wanted e h)
    (λ term t. record { scalars = All-push (IsTermOf n) done.scalars term k.scalars t; first = k.first; second = k.second })
argument_known n text scope done (First wanted) e h k =
    ok_then (All (IsTermOf n)) (IsArgumentsOf n) (list_of text scope wanted e) (λ terms. Ok (record done { first = terms })) (list_known n text scope wanted e h)
    (λ terms t. record { scalars = k.scalars; first = t; second = k.second })
argument_known n text scope done (Second wanted) e h k =
    ok_then (All (IsTermOf n)) (IsArgumentsOf n) (list_of text scope wanted e) (λ terms. Ok (record done { second = terms })) (list_known n text scope wanted e h)
    (λ terms t. record { scalars = k.scalars; first = k.first; second = t })
argument_known n text scope done Set e h k =
    ok_each (IsArgumentsOf n) (set_of text scope e) (λ members. Ok (record done { members = members }))
    (λ members. record { scalars = k.scalars; first = k.first; second = k.second })

-- all arguments
arguments_known : (n : ℕ) (text : List ℕ) (scope : Scope) (done : Arguments) (places : List Place) (exprs : List Expr) → AreKnown n scope → IsArgumentsOf n done → IfOk (arguments_after text scope done places exprs) (IsArgumentsOf n)
arguments_known n text scope done [] exprs h k = k
arguments_known n text scope done (place ∷ places) [] h k = k
arguments_known n text scope done (place ∷ places) (e ∷ exprs) h k =
    ok_then (IsArgumentsOf n) (IsArgumentsOf n) (with_argument text scope done place e) (λ next. arguments_after text scope next places exprs) (argument_known n text scope done place e h k)
    (λ next t. arguments_known n text scope next places exprs h t)

-- the term at a place, or a constant past the end
at_known : (n : ℕ) (terms : List Term) (place : ℕ) → All (IsTermOf n) terms → IsTermOf n (slice_index_or terms place (Const (pos 0)))
at_known n [] place h = tt
at_known n (t ∷ ts) zero h = All-head (IsTermOf n) t ts h
at_known n (t ∷ ts) (suc place) h = at_known n ts place (All-tail (IsTermOf n) t ts h)

-- the truth of a reified sum
truth_of_known : (n : ℕ) (reified : Bool) (arguments : Arguments) → IsArgumentsOf n arguments → All (IsTermOf n) (option_to_list (truth_of reified arguments))
truth_of_known n true arguments h = All-cons (IsTermOf n) (scalar_at arguments 1) [] (at_known n arguments.scalars 1 h.scalars) (All-nil (IsTermOf n))
truth_of_known n false arguments h = All-nil (IsTermOf n)

-- the rule of arguments
rule_known : (n : ℕ) (form : Form) (arguments : Arguments) → IsArgumentsOf n arguments → All (IsTermOf n) (terms_of (rule_of form arguments))
rule_known n (Plain kind) arguments h =
    All-append (IsTermOf n) (arguments.scalars ++ arguments.first) arguments.second (All-append (IsTermOf n) arguments.scalars arguments.first h.scalars h.first) h.second
rule_known n (Sum rel boolean reified) arguments h =
    All-append (IsTermOf n) arguments.second (scalar_at arguments 0 ∷ option_to_list (truth_of reified arguments)) h.second
    (All-cons (IsTermOf n) (scalar_at arguments 0) (option_to_list (truth_of reified arguments)) (at_known n arguments.scalars 0 h.scalars) (truth_of_known n reified arguments h))

-- no arguments
no_arguments_known : (n : ℕ) → IsArgumentsOf n no_arguments
no_arguments_known n = record { scalars = All-nil (IsTermOf n); first = All-nil (IsTermOf n); second = All-nil (IsTermOf n) }

-- the rule of a constraint
pub constraint_known : (n : ℕ) (text : List ℕ) (scope : Scope) (at : ℕ) (name : List ℕ) (exprs : List Expr) → AreKnown n scope → IfOk (constraint_rule text scope at name exprs) (λ rule. All (IsTermOf n) (terms_of rule))
unfolding constraint_rule
constraint_known n text scope at name exprs h =
    let Q : Rule → Type 0 = λ rule. All (IsTermOf n) (terms_of rule) in
    ok_each Q (form_at at name) _ (λ form.
    ok_unless Q (not (length exprs == length (places_of form (length exprs)))) (refusal.IllTyped at) _ (λ _.
    ok_then (IsArgumentsOf n) Q (arguments_after text scope no_arguments (places_of form (length exprs)) exprs) _ (arguments_known n text scope no_arguments (places_of form (length exprs)) exprs h (no_arguments_known n)) (λ arguments k.
    ok_unless Q (not (lengths_agree form arguments)) (refusal.IllTyped at) (Ok (rule_of form arguments)) (λ _. rule_known n form arguments k))))
