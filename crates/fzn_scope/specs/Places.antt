-- What expressions mean at the places that ask for them. A truth is a number: true is 1, and false is 0.
use Rattle.std.specs.Prelude.{ℕ, pos, Bool, true, false, not, ◌&&◌, ◌||◌, List, [], ◌∷◌, ◌++◌, length, Option, Some, None, Result, Ok, Err, if◌then◌else◌}
use Rattle.fzn_item.specs.declared.item.Atom.{Atom}
use Rattle.fzn_item.specs.declared.item.Atom.TheVariants as atom
use Rattle.fzn_item.specs.declared.item.Expr.{Expr}
use Rattle.fzn_item.specs.declared.item.Expr.TheVariants as expr
use Rattle.dcsp_rule.specs.declared.rule.Term.{Term}
use Rattle.dcsp_rule.specs.declared.rule.Term.TheVariants.{Const, Var}
use Rattle.dcsp_rule.specs.declared.rule.Members.{Members}
use Rattle.dcsp_rule.specs.declared.rule.Members.TheVariants as members
use Rattle.fzn_scope.specs.declared.names.Declared.{Declared}
use Rattle.fzn_scope.specs.declared.names.Declared.TheVariants as declared
use Rattle.fzn_scope.specs.declared.place.Wanted.{Wanted}
use Rattle.fzn_token.specs.declared.refusal.Refusal.{Refusal}
use Rattle.fzn_token.specs.declared.refusal.Refusal.TheVariants as refusal
use Rattle.fzn_scope.specs.Checks.{◌>>=◌}
use Rattle.fzn_scope.specs.Names.{Scope, declared_as, bytes_at}

-- the place of an atom's first byte
abbrev pub atom_at : Atom → ℕ
atom_at (atom.Truth at value) = at
atom_at (atom.Whole at value) = at
atom_at (atom.Float at) = at
atom_at (atom.Name at to) = at
atom_at (atom.Range at low high) = at
atom_at (atom.Listed at values) = at

-- the term of a truth
abbrev pub truth_term : Bool → Term
truth_term true = Const (pos 1)
truth_term false = Const (pos 0)

-- whether the term is a constant
abbrev pub is_constant : Term → Bool
is_constant (Const value) = true
is_constant (Var var) = false

-- both or neither
abbrev pub same : Bool → Bool → Bool
same true b = b
same false b = not b

-- the term, of an integer or of a Boolean, where one is wanted that is so
abbrev pub wanted_term : Wanted → ℕ → Bool → Term → Result Term Refusal
wanted_term wanted at boolean term =
    if same boolean wanted.boolean && (not wanted.constant || is_constant term) then Ok term else Err (refusal.IllTyped at)

-- the term of a name that stands for this
abbrev pub term_named : Wanted → ℕ → Option Declared → Result Term Refusal
term_named wanted at None = Err (refusal.Undeclared at)
term_named wanted at (Some (declared.One boolean term)) = wanted_term wanted at boolean term
term_named wanted at (Some (declared.Set set)) = Err (refusal.IllTyped at)
term_named wanted at (Some (declared.Many boolean variable terms)) = Err (refusal.IllTyped at)

-- the term of an atom: a constant, or a name's
abbrev pub term_of : List ℕ → Scope → Wanted → Atom → Result Term Refusal
term_of text scope wanted (atom.Truth at value) = wanted_term wanted at true (truth_term value)
term_of text scope wanted (atom.Whole at value) = wanted_term wanted at false (Const value)
term_of text scope wanted (atom.Float at) = Err (refusal.IllTyped at)
term_of text scope wanted (atom.Name at to) = term_named wanted at (declared_as scope (bytes_at text at to))
term_of text scope wanted (atom.Range at low high) = Err (refusal.IllTyped at)
term_of text scope wanted (atom.Listed at values) = Err (refusal.IllTyped at)

-- the term of an expression at a place that asks for one
abbrev pub one_of : List ℕ → Scope → Wanted → Expr → Result Term Refusal
one_of text scope wanted (expr.One atom) = term_of text scope wanted atom
one_of text scope wanted (expr.List at atoms) = Err (refusal.IllTyped at)

-- the terms of atoms, from left to right, after those that were read before
abbrev pub terms_after : List ℕ → Scope → Wanted → List Term → List Atom → Result (List Term) Refusal
terms_after text scope wanted done [] = Ok done
terms_after text scope wanted done (atom ∷ atoms) = do
  term ← term_of text scope wanted atom
  terms_after text scope wanted (done ++ term ∷ []) atoms

-- the terms of a name that stands for this. The array's sort decides, and not its elements: an array of variables is none of constants
abbrev pub terms_named : Wanted → ℕ → Option Declared → Result (List Term) Refusal
terms_named wanted at None = Err (refusal.Undeclared at)
terms_named wanted at (Some (declared.One boolean term)) = Err (refusal.IllTyped at)
terms_named wanted at (Some (declared.Set set)) = Err (refusal.IllTyped at)
terms_named wanted at (Some (declared.Many boolean variable terms)) =
    if same boolean wanted.boolean && (not wanted.constant || not variable) then Ok terms else Err (refusal.IllTyped at)

-- the terms of an expression at a place that asks for a list
abbrev pub list_of : List ℕ → Scope → Wanted → Expr → Result (List Term) Refusal
list_of text scope wanted (expr.List at atoms) = terms_after text scope wanted [] atoms
list_of text scope wanted (expr.One (atom.Name at to)) = terms_named wanted at (declared_as scope (bytes_at text at to))
list_of text scope wanted (expr.One (atom.Truth at value)) = Err (refusal.IllTyped at)
list_of text scope wanted (expr.One (atom.Whole at value)) = Err (refusal.IllTyped at)
list_of text scope wanted (expr.One (atom.Float at)) = Err (refusal.IllTyped at)
list_of text scope wanted (expr.One (atom.Range at low high)) = Err (refusal.IllTyped at)
list_of text scope wanted (expr.One (atom.Listed at values)) = Err (refusal.IllTyped at)

-- how many elements a name's array has
abbrev pub count_named : ℕ → Option Declared → Result ℕ Refusal
count_named at None = Err (refusal.Undeclared at)
count_named at (Some (declared.One boolean term)) = Err (refusal.IllTyped at)
count_named at (Some (declared.Set set)) = Err (refusal.IllTyped at)
count_named at (Some (declared.Many boolean variable terms)) = Ok (length terms)

-- how many elements the right side of an array has: a list, or the name of an array
abbrev pub count_of : List ℕ → Scope → Expr → Result ℕ Refusal
count_of text scope (expr.List at atoms) = Ok (length atoms)
count_of text scope (expr.One (atom.Name at to)) = count_named at (declared_as scope (bytes_at text at to))
count_of text scope (expr.One (atom.Truth at value)) = Err (refusal.IllTyped at)
count_of text scope (expr.One (atom.Whole at value)) = Err (refusal.IllTyped at)
count_of text scope (expr.One (atom.Float at)) = Err (refusal.IllTyped at)
count_of text scope (expr.One (atom.Range at low high)) = Err (refusal.IllTyped at)
count_of text scope (expr.One (atom.Listed at values)) = Err (refusal.IllTyped at)

-- the set of a name that stands for this
abbrev pub set_named : ℕ → Option Declared → Result Members Refusal
set_named at None = Err (refusal.Undeclared at)
set_named at (Some (declared.One boolean term)) = Err (refusal.IllTyped at)
set_named at (Some (declared.Set set)) = Ok set
set_named at (Some (declared.Many boolean variable terms)) = Err (refusal.IllTyped at)

-- the set of an expression at a place that asks for one
abbrev pub set_of : List ℕ → Scope → Expr → Result Members Refusal
set_of text scope (expr.List at atoms) = Err (refusal.IllTyped at)
set_of text scope (expr.One (atom.Name at to)) = set_named at (declared_as scope (bytes_at text at to))
set_of text scope (expr.One (atom.Truth at value)) = Err (refusal.IllTyped at)
set_of text scope (expr.One (atom.Whole at value)) = Err (refusal.IllTyped at)
set_of text scope (expr.One (atom.Float at)) = Err (refusal.IllTyped at)
set_of text scope (expr.One (atom.Range at low high)) = Ok (members.Between low high)
set_of text scope (expr.One (atom.Listed at values)) = Ok (members.Listed values)
