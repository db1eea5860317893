-- Expressions are judged by the sorts of names.
use Rattle.std.proofs.Common.{◌≡◌, ℕ, Bool, true, false, not, ◌&&◌, ◌||◌, List, [], ◌∷◌, ◌++◌, map, length, Option, Some, None, refl, sym, subst, append_assoc, append-nil}
use Rattle.std.specs.Prelude.{ℤ, unsigned_abs}
use Rattle.std.specs.List.{list_all}
use Rattle.std.proofs.lemmas.List.{length-map}
use Rattle.dcsp_defs.proofs.Lists.{and_right}
use Rattle.fzn_item.specs.declared.item.Atom.{Atom}
use Rattle.fzn_item.specs.declared.item.Atom.TheVariants as atom
use Rattle.fzn_item.specs.declared.item.Expr.{Expr}
use Rattle.fzn_item.specs.declared.item.Expr.TheVariants as expr
use Rattle.dcsp_rule.specs.declared.rule.Term.{Term}
use Rattle.dcsp_rule.specs.declared.rule.Term.TheVariants.{Const}
use Rattle.dcsp_rule.specs.declared.rule.Members.{Members}
use Rattle.dcsp_rule.specs.Members.{values_of}
use Rattle.fzn_scope.specs.declared.names.Declared.{Declared}
use Rattle.fzn_scope.specs.declared.names.Declared.TheVariants as declared
use Rattle.fzn_scope.specs.declared.place.Wanted.{Wanted}
use Rattle.fzn_token.specs.declared.refusal.Refusal.TheVariants as refusal
use Rattle.fzn_scope.specs.Names.{Scope, declared_as, bytes_at}
use Rattle.fzn_scope.specs.Places.{truth_term, is_constant, same, wanted_term, term_named, term_of, one_of, terms_after, terms_named, list_of, count_named, count_of, set_named, set_of}
use Rattle.law_inputs.specs.Sorts.{Sort, One, Set, Many, Names, sort_named, suits, name_suits, atom_suits, one_suits, name_size, truth_size, atom_size, one_size, array_suits, list_suits, array_sizes, list_sizes, set_named_suits, set_suits, set_named_count, set_count}
use Rattle.law_inputs.proofs.Judging.{Judged, judged_bind, judged_choice}
use Rattle.law_inputs.proofs.SortedNames.{IsSized, AreSized, AreConstant, HaveSorts, Looked, looked, pairwise_push, pairwise_length, constant_push}

-- the term is of this size, and a constant where one is wanted
abbrev pub IsGiven : List (List ℤ) → Wanted → ℕ → Term → Type 0
IsGiven domains wanted n term = IsSized domains term n × (wanted.constant ≡ true → is_constant term ≡ true)

abbrev pub AreGiven : List (List ℤ) → Wanted → List ℕ → List Term → Type 0
AreGiven domains wanted ns terms = AreSized domains terms ns × (wanted.constant ≡ true → AreConstant terms)

constant_if : (c k : Bool) → (not c || k) ≡ true → c ≡ true → k ≡ true
constant_if true k e h = e
constant_if false k e h = absurd cc

not_variable : (b : Bool) → not b ≡ true → b ≡ false
not_variable true e = absurd cc
not_variable false e = refl

given_push : (domains : List (List ℤ)) (wanted : Wanted) (ns : List ℕ) (terms : List Term) (n : ℕ) (term : Term) → AreGiven domains wanted ns terms → IsGiven domains wanted n term → AreGiven domains wanted (ns ++ n ∷ []) (terms ++ term ∷ [])
given_push domains wanted ns terms n term h k = (pairwise_push (IsSized domains) terms ns term n h.0 k.0, λ c. constant_push terms term (h.1 c) (k.1 c))

-- ---- what a name stands for

wanted_judged : (domains : List (List ℤ)) (wanted : Wanted) (at : ℕ) (boolean : Bool) (term : Term) (b c : Bool) (n : ℕ) → boolean ≡ b → is_constant term ≡ c → IsSized domains term n → Judged (wanted_term wanted at boolean term) (suits wanted b c) (IsGiven domains wanted n)
wanted_judged domains wanted at boolean term b c n e k h =
    subst (λ (x : Bool). Judged (wanted_term wanted at boolean term) (suits wanted x c) (IsGiven domains wanted n)) e
    (subst (λ (y : Bool). Judged (wanted_term wanted at boolean term) (suits wanted boolean y) (IsGiven domains wanted n)) k
    (judged_choice (same boolean wanted.boolean && (not wanted.constant || is_constant term)) term (refusal.IllTyped at) (IsGiven domains wanted n)
    (λ t. (h, constant_if wanted.constant (is_constant term) (and_right (same boolean wanted.boolean) (not wanted.constant || is_constant term) t)))))

named_judged : (domains : List (List ℤ)) (wanted : Wanted) (at : ℕ) (d : Option Declared) (s : Option Sort) → Looked domains d s → Judged (term_named wanted at d) (name_suits wanted s) (IsGiven domains wanted (name_size s))
named_judged domains wanted at None None h = refl
named_judged domains wanted at None (Some s) h = absurd h
named_judged domains wanted at (Some d) None h = absurd h
named_judged domains wanted at (Some (declared.One boolean term)) (Some (One b c n)) h = wanted_judged domains wanted at boolean term b c n h.0 h.1 h.2
named_judged domains wanted at (Some (declared.One boolean term)) (Some (Set n)) h = absurd h
named_judged domains wanted at (Some (declared.One boolean term)) (Some (Many b v ns)) h = absurd h
named_judged domains wanted at (Some (declared.Set set)) (Some (One b c n)) h = absurd h
named_judged domains wanted at (Some (declared.Set set)) (Some (Set n)) h = refl
named_judged domains wanted at (Some (declared.Set set)) (Some (Many b v ns)) h = absurd h
named_judged domains wanted at (Some (declared.Many boolean isvar terms)) (Some (One b c n)) h = absurd h
named_judged domains wanted at (Some (declared.Many boolean isvar terms)) (Some (Set n)) h = absurd h
named_judged domains wanted at (Some (declared.Many boolean isvar terms)) (Some (Many b v ns)) h = refl

-- an array that is of no variables, where constants are wanted
array_chosen : (domains : List (List ℤ)) (wanted : Wanted) (at : ℕ) (boolean isvar : Bool) (terms : List Term) (b v : Bool) (ns : List ℕ) → boolean ≡ b → isvar ≡ v → AreSized domains terms ns → (isvar ≡ false → AreConstant terms)
    → Judged (terms_named wanted at (Some (declared.Many boolean isvar terms))) (suits wanted b (not v)) (AreGiven domains wanted ns)
array_chosen domains wanted at boolean isvar terms b v ns e k h c =
    let x = Some (declared.Many boolean isvar terms) in
    subst (λ (y : Bool). Judged (terms_named wanted at x) (suits wanted y (not v)) (AreGiven domains wanted ns)) e
    (subst (λ (z : Bool). Judged (terms_named wanted at x) (suits wanted boolean (not z)) (AreGiven domains wanted ns)) k
    (judged_choice (same boolean wanted.boolean && (not wanted.constant || not isvar)) terms (refusal.IllTyped at) (AreGiven domains wanted ns)
    (λ t. (h, λ w. c (not_variable isvar (constant_if wanted.constant (not isvar) (and_right (same boolean wanted.boolean) (not wanted.constant || not isvar) t) w))))))

array_judged : (domains : List (List ℤ)) (wanted : Wanted) (at : ℕ) (d : Option Declared) (s : Option Sort) → Looked domains d s → Judged (terms_named wanted at d) (array_suits wanted s) (AreGiven domains wanted (array_sizes s))
array_judged domains wanted at None None h = refl
array_judged domains wanted at None (Some s) h = absurd h
array_judged domains wanted at (Some d) None h = absurd h
array_judged domains wanted at (Some (declared.One boolean term)) (Some (One b c n)) h = refl
array_judged domains wanted at (Some (declared.One boolean term)) (Some (Set n)) h = absurd h
array_judged domains wanted at (Some (declared.One boolean term)) (Some (Many b v ns)) h = absurd h
array_judged domains wanted at (Some (declared.Set set)) (Some (One b c n)) h = absurd h
array_judged domains wanted at (Some (declared.Set set)) (Some (Set n)) h = refl
array_judged domains wanted at (Some (declared.Set set)) (Some (Many b v ns)) h = absurd h
array_judged domains wanted at (Some (declared.Many boolean isvar terms)) (Some (One b c n)) h = absurd h
array_judged domains wanted at (Some (declared.Many boolean isvar terms)) (Some (Set n)) h = absurd h
array_judged domains wanted at (Some (declared.Many boolean isvar terms)) (Some (Many b v ns)) h = array_chosen domains wanted at boolean isvar terms b v ns h.0 h.1 h.2 h.3

-- whether a name is an array, whatever its elements are
abbrev is_array : Option Sort → Bool
is_array None = false
is_array (Some (One boolean constant size)) = false
is_array (Some (Set count)) = false
is_array (Some (Many boolean variable sizes)) = true

count_named_judged : (domains : List (List ℤ)) (at : ℕ) (d : Option Declared) (s : Option Sort) → Looked domains d s → Judged (count_named at d) (is_array s) (λ n. n ≡ length (array_sizes s))
count_named_judged domains at None None h = refl
count_named_judged domains at None (Some s) h = absurd h
count_named_judged domains at (Some d) None h = absurd h
count_named_judged domains at (Some (declared.One boolean term)) (Some (One b c n)) h = refl
count_named_judged domains at (Some (declared.One boolean term)) (Some (Set n)) h = absurd h
count_named_judged domains at (Some (declared.One boolean term)) (Some (Many b v ns)) h = absurd h
count_named_judged domains at (Some (declared.Set set)) (Some (One b c n)) h = absurd h
count_named_judged domains at (Some (declared.Set set)) (Some (Set n)) h = refl
count_named_judged domains at (Some (declared.Set set)) (Some (Many b v ns)) h = absurd h
count_named_judged domains at (Some (declared.Many boolean isvar terms)) (Some (One b c n)) h = absurd h
count_named_judged domains at (Some (declared.Many boolean isvar terms)) (Some (Set n)) h = absurd h
count_named_judged domains at (Some (declared.Many boolean isvar terms)) (Some (Many b v ns)) h = (refl, pairwise_length (IsSized domains) terms ns h.2)

set_named_judged : (domains : List (List ℤ)) (at : ℕ) (d : Option Declared) (s : Option Sort) → Looked domains d s → Judged (set_named at d) (set_named_suits s) (λ (m : Members). length (values_of m) ≡ set_named_count s)
set_named_judged domains at None None h = refl
set_named_judged domains at None (Some s) h = absurd h
set_named_judged domains at (Some d) None h = absurd h
set_named_judged domains at (Some (declared.One boolean term)) (Some (One b c n)) h = refl
set_named_judged domains at (Some (declared.One boolean term)) (Some (Set n)) h = absurd h
set_named_judged domains at (Some (declared.One boolean term)) (Some (Many b v ns)) h = absurd h
set_named_judged domains at (Some (declared.Set set)) (Some (One b c n)) h = absurd h
set_named_judged domains at (Some (declared.Set set)) (Some (Set n)) h = (refl, h)
set_named_judged domains at (Some (declared.Set set)) (Some (Many b v ns)) h = absurd h
set_named_judged domains at (Some (declared.Many boolean isvar terms)) (Some (One b c n)) h = absurd h
set_named_judged domains at (Some (declared.Many boolean isvar terms)) (Some (Set n)) h = absurd h
set_named_judged domains at (Some (declared.Many boolean isvar terms)) (Some (Many b v ns)) h = refl

truth_constant : (value : Bool) → is_constant (truth_term value) ≡ true
truth_constant true = refl
truth_constant false = refl

truth_sized : (domains : List (List ℤ)) (value : Bool) → IsSized domains (truth_term value) (truth_size value)
truth_sized domains true = (refl, tt)
truth_sized domains false = (refl, tt)

-- an array has elements that can be counted
array_counted : (wanted : Wanted) (s : Option Sort) → array_suits wanted s ≡ true → is_array s ≡ true
array_counted wanted None h = h
array_counted wanted (Some (One boolean constant size)) h = h
array_counted wanted (Some (Set count)) h = h
array_counted wanted (Some (Many boolean variable sizes)) h = refl

-- whether an expression has elements
abbrev pub is_counted : List ℕ → Names → Expr → Bool
is_counted text names (expr.List at atoms) = true
is_counted text names (expr.One (atom.Name at to)) = is_array (sort_named names (bytes_at text at to))
is_counted text names (expr.One (atom.Truth at value)) = false
is_counted text names (expr.One (atom.Whole at value)) = false
is_counted text names (expr.One (atom.Float at)) = false
is_counted text names (expr.One (atom.Range at low high)) = false
is_counted text names (expr.One (atom.Listed at values)) = false

pub list_counted : (text : List ℕ) (names : Names) (wanted : Wanted) (x : Expr) → list_suits text names wanted x ≡ true → is_counted text names x ≡ true
list_counted text names wanted (expr.List at atoms) h = refl
list_counted text names wanted (expr.One (atom.Name at to)) h = array_counted wanted (sort_named names (bytes_at text at to)) h
list_counted text names wanted (expr.One (atom.Truth at value)) h = h
list_counted text names wanted (expr.One (atom.Whole at value)) h = h
list_counted text names wanted (expr.One (atom.Float at)) h = h
list_counted text names wanted (expr.One (atom.Range at low high)) h = h
list_counted text names wanted (expr.One (atom.Listed at values)) h = h

module _ (text : List ℕ) (domains : List (List ℤ)) (scope : Scope) (names : Names) (sorted : HaveSorts domains scope names) where
  term_judged : (wanted : Wanted) (a : Atom) → Judged (term_of text scope wanted a) (atom_suits text names wanted a) (IsGiven domains wanted (atom_size text names a))
  term_judged wanted (atom.Truth at value) = wanted_judged domains wanted at true (truth_term value) true true (truth_size value) refl (truth_constant value) (truth_sized domains value)
  term_judged wanted (atom.Whole at value) = wanted_judged domains wanted at false (Const value) false true (unsigned_abs value) refl refl (refl, tt)
  term_judged wanted (atom.Float at) = refl
  term_judged wanted (atom.Name at to) = named_judged domains wanted at (declared_as scope (bytes_at text at to)) (sort_named names (bytes_at text at to)) (looked domains scope names sorted (bytes_at text at to))
  term_judged wanted (atom.Range at low high) = refl
  term_judged wanted (atom.Listed at values) = refl

  pub one_judged : (wanted : Wanted) (x : Expr) → Judged (one_of text scope wanted x) (one_suits text names wanted x) (IsGiven domains wanted (one_size text names x))
  one_judged wanted (expr.One a) = term_judged wanted a
  one_judged wanted (expr.List at atoms) = refl

  terms_judged : (wanted : Wanted) (done : List Term) (ns : List ℕ) (atoms : List Atom) → AreGiven domains wanted ns done
      → Judged (terms_after text scope wanted done atoms) (list_all (atom_suits text names wanted) atoms) (AreGiven domains wanted (ns ++ map (atom_size text names) atoms))
  terms_judged wanted done ns [] h = (refl, subst (λ (ms : List ℕ). AreGiven domains wanted ms done) (sym (append-nil ns)) h)
  terms_judged wanted done ns (a ∷ atoms) h =
      let n = atom_size text names a in
      let rest = map (atom_size text names) atoms in
      judged_bind (term_of text scope wanted a) (λ term. terms_after text scope wanted (done ++ term ∷ []) atoms) (atom_suits text names wanted a) (list_all (atom_suits text names wanted) atoms) (IsGiven domains wanted n) (AreGiven domains wanted (ns ++ n ∷ rest))
      (term_judged wanted a)
      (λ term k. subst (λ (ms : List ℕ). Judged (terms_after text scope wanted (done ++ term ∷ []) atoms) (list_all (atom_suits text names wanted) atoms) (AreGiven domains wanted ms)) (append_assoc ns (n ∷ []) rest)
      (terms_judged wanted (done ++ term ∷ []) (ns ++ n ∷ []) atoms (given_push domains wanted ns done n term h k)))

  pub list_judged : (wanted : Wanted) (x : Expr) → Judged (list_of text scope wanted x) (list_suits text names wanted x) (AreGiven domains wanted (list_sizes text names x))
  list_judged wanted (expr.List at atoms) = terms_judged wanted [] [] atoms (tt, λ _. tt)
  list_judged wanted (expr.One (atom.Name at to)) = array_judged domains wanted at (declared_as scope (bytes_at text at to)) (sort_named names (bytes_at text at to)) (looked domains scope names sorted (bytes_at text at to))
  list_judged wanted (expr.One (atom.Truth at value)) = refl
  list_judged wanted (expr.One (atom.Whole at value)) = refl
  list_judged wanted (expr.One (atom.Float at)) = refl
  list_judged wanted (expr.One (atom.Range at low high)) = refl
  list_judged wanted (expr.One (atom.Listed at values)) = refl

  pub count_judged : (x : Expr) → Judged (count_of text scope x) (is_counted text names x) (λ n. n ≡ length (list_sizes text names x))
  count_judged (expr.List at atoms) = (refl, sym (length-map atoms (atom_size text names)))
  count_judged (expr.One (atom.Name at to)) = count_named_judged domains at (declared_as scope (bytes_at text at to)) (sort_named names (bytes_at text at to)) (looked domains scope names sorted (bytes_at text at to))
  count_judged (expr.One (atom.Truth at value)) = refl
  count_judged (expr.One (atom.Whole at value)) = refl
  count_judged (expr.One (atom.Float at)) = refl
  count_judged (expr.One (atom.Range at low high)) = refl
  count_judged (expr.One (atom.Listed at values)) = refl

  pub set_judged : (x : Expr) → Judged (set_of text scope x) (set_suits text names x) (λ (m : Members). length (values_of m) ≡ set_count text names x)
  set_judged (expr.List at atoms) = refl
  set_judged (expr.One (atom.Name at to)) = set_named_judged domains at (declared_as scope (bytes_at text at to)) (sort_named names (bytes_at text at to)) (looked domains scope names sorted (bytes_at text at to))
  set_judged (expr.One (atom.Truth at value)) = refl
  set_judged (expr.One (atom.Whole at value)) = refl
  set_judged (expr.One (atom.Float at)) = refl
  set_judged (expr.One (atom.Range at low high)) = (refl, refl)
  set_judged (expr.One (atom.Listed at values)) = (refl, refl)
