-- What one item adds that says a line.
use Rattle.std.proofs.Common.{◌≡◌, ℕ, zero, suc, ◌+◌, ◌*◌, ◌<◌, ◌≤◌, ◌-◌, ◌%◌, ◌==◌, Bool, true, false, List, [], ◌∷◌, ◌++◌, map, length, Some, None, Ok, refl, sym, ap, ◌∙◌, append_assoc, append-nil, eq-eqb, arith}
use Rattle.std.specs.Prelude.{ℤ, pos, neg_ℤ, nat_lt, codes}
use Rattle.std.specs.List.{range_with_len}
use Rattle.std.specs.Ordering.{int_eq}
use Rattle.std.proofs.lemmas.Bool.Decides.{Decides-int_eq}
use Rattle.std.proofs.Math.Nat.{mul-mod_right}
use Rattle.std.proofs.lemmas.List.FromFn.{length-map-range_with_len}
use Rattle.fzn_item.specs.declared.item.Atom.{Atom}
use Rattle.fzn_item.specs.declared.item.Atom.TheVariants.{Whole}
use Rattle.fzn_item.specs.declared.item.Expr.{Expr}
use Rattle.fzn_item.specs.declared.item.Expr.TheVariants as expr
use Rattle.fzn_item.specs.declared.item.Base.TheVariants as base
use Rattle.fzn_item.specs.declared.item.Marked.TheVariants as marked
use Rattle.fzn_item.specs.declared.item.Item.{Item}
use Rattle.dcsp_domain.specs.Ranges.{count_between, numbers_between}
use Rattle.dcsp_rule.specs.declared.rule.Term.{Term}
use Rattle.dcsp_rule.specs.declared.rule.Term.TheVariants.{Const, Var}
use Rattle.dcsp_rule.specs.declared.rule.Rule.{Rule}
use Rattle.dcsp_rule.specs.declared.output.Output.{Output}
use Rattle.dcsp_rule.specs.declared.aim.Aim.TheVariants.{Satisfy}
use Rattle.dcsp_problem.specs.Limits.{variable_refusal, rule_refusal}
use Rattle.dcsp_rule.specs.Problems.{Contents}
use Rattle.dcsp_gen.specs.Lines.{name}
use Rattle.fzn_scope.specs.declared.names.Declared.TheVariants as declared
use Rattle.fzn_scope.specs.Checks.{◌>>=◌}
use Rattle.fzn_scope.specs.Names.{Scope, declared_as}
use Rattle.fzn_scope.specs.Places.{term_of, terms_after}
use Rattle.fzn_scope.specs.Rules.{constraint_rule}
use Rattle.fzn_model.specs.Declarations.{SoFar, variable as with_one, array, elements, with_members}
use Rattle.fzn_model.specs.Items.{declare, after, after_all, constraint, solve, finished}
use Rattle.law_subjects.specs.Says.{IsNamed, AreNamed, IsVariable, IsArray, IsDiffer, IsDifferNotBy, AreWhole, entries_of, IsTable, IsSolve}
use Rattle.law_subjects.specs.Problems.{variable, differ_rule, differ_not_by_rule, table_rule, array_output}
use Rattle.law_subjects.proofs.Limits.{within_test, count_is, count_from}

-- what the items so far gave
abbrev pub problem_so_far : List (List ℤ) → List Rule → List Output → Contents
problem_so_far domains rules outputs = record { domains = domains; rules = rules; outputs = outputs; aim = Satisfy }

abbrev pub so_far : Scope → List (List ℤ) → List Rule → List Output → Bool → SoFar
so_far scope domains rules outputs constrained = record { scope = scope; problem = problem_so_far domains rules outputs; constrained = constrained; solved = false }

-- the name stands for a variable
abbrev pub StandsFor : Scope → List ℕ → ℕ → Type 0
StandsFor scope written number = declared_as scope written ≡ Some (declared.One false (variable number))

pub after_one : (text : List ℕ) (s t : SoFar) (x : Item) (ys : List Item) → after text s x ≡ Ok t → after_all text s (x ∷ ys) ≡ after_all text t ys
after_one text s t x ys e = rw e refl

same_number : (n : ℕ) → int_eq (pos n) (pos n) ≡ true
same_number n = (Decides-int_eq (pos n) (pos n)).1 refl

same_count : (n m : ℕ) → n ≡ m → (n * 1 == m) ≡ true
same_count n m e = eq-eqb (n * 1) m (omega (arith, e))

-- rows have two entries each
pub many_entries : (rows : List (ℕ × ℕ)) → length (map {B = Term} (λ entry. Const (pos entry)) (entries_of rows)) ≡ 2 * length rows
many_entries [] = omega arith
many_entries (row ∷ rows) = let rest = many_entries rows in omega (arith, rest)

even_entries : (rows : List (ℕ × ℕ)) → (length (map {B = Term} (λ entry. Const (pos entry)) (entries_of rows)) % 2 == 0) ≡ true
even_entries rows = eq-eqb _ 0 (ap (λ n. n % 2) (many_entries rows) ∙ mul-mod_right 2 (length rows))

module _ (text : List ℕ) where
  -- there is one atom for each name
  named_count : (letter : List ℕ) (first count : ℕ) (atoms : List Atom) → AreNamed text letter first count atoms → length atoms ≡ count
  named_count letter first zero atoms says = rw says refl
  named_count letter first (suc count) [] says = absurd says
  named_count letter first (suc count) (atom ∷ atoms) says = let rest = named_count letter (first + 1) count atoms says.1 in omega (arith, rest)

  -- a variable's declaration adds its name and its domain
  declared_step : (scope : Scope) (domains : List (List ℤ)) (low k at from : ℕ) (written : List ℕ) → suc k - low ≤ 65536 → declared_as scope written ≡ None
      → variable_refusal (problem_so_far domains [] []) (numbers_between (pos low) (pos k)) ≡ None
      → declare text (so_far scope domains [] [] false) at true None (base.Range (pos low) (pos k)) from written marked.Nothing None
      ≡ Ok (so_far (scope ++ (written, declared.One false (Var (length domains))) ∷ []) (domains ++ numbers_between (pos low) (pos k) ∷ []) [] [] false)
  unfolding with_one
  declared_step scope domains low k at from written small fresh free =
      let test : nat_lt 65536 (count_between (pos low) (pos k)) ≡ false = within_test 65536 (count_between (pos low) (pos k)) (rw (count_from low k) small) in
      rw (fresh, test, free) refl

  pub variable_step : (scope : Scope) (domains : List (List ℤ)) (low k : ℕ) (written : List ℕ) (i : Item) → IsVariable text written low k i → suc k - low ≤ 65536 → declared_as scope written ≡ None
      → variable_refusal (problem_so_far domains [] []) (numbers_between (pos low) (pos k)) ≡ None
      → after text (so_far scope domains [] [] false) i
      ≡ Ok (so_far (scope ++ (written, declared.One false (Var (length domains))) ∷ []) (domains ++ numbers_between (pos low) (pos k) ∷ []) [] [] false)
  variable_step scope domains low k written i says small fresh free =
      ap (after text (so_far scope domains [] [] false)) says.item_is
      ∙ ap (λ (w : List ℕ). declare text (so_far scope domains [] [] false) says.at true None (base.Range (pos low) (pos k)) says.from w marked.Nothing None) says.written_is
      ∙ declared_step scope domains low k says.at says.from written small fresh free

  -- a name's term
  pub name_term : (scope : Scope) (written : List ℕ) (number : ℕ) (atom : Atom) → IsNamed text written atom → StandsFor scope written number
      → term_of text scope (record { boolean = false; constant = false }) atom ≡ Ok (variable number)
  name_term scope written number atom says there = rw (says.atom_is, says.written_is, there) refl

  -- the terms of names
  name_terms : (scope : Scope) (letter : List ℕ) (done : List Term) (first count : ℕ) (atoms : List Atom) → AreNamed text letter first count atoms
      → ((i : ℕ) → first ≤ i → i < first + count → StandsFor scope (name letter i) i)
      → terms_after text scope (record { boolean = false; constant = false }) done atoms ≡ Ok (done ++ map variable (range_with_len first count))
  name_terms scope letter done first zero atoms says there = rw (says, append-nil done) refl
  name_terms scope letter done first (suc count) [] says there = absurd says
  name_terms scope letter done first (suc count) (atom ∷ atoms) says there =
      let here = name_term scope (name letter first) first atom says.0 (there first (omega arith) (omega arith)) in
      rw here (
      name_terms scope letter (done ++ variable first ∷ []) (first + 1) count atoms says.1 (λ i l r. there i (omega (arith, l)) (omega (arith, r)))
      ∙ ap (λ (ts : List Term). Ok ts) (append_assoc done (variable first ∷ []) (map variable (range_with_len (first + 1) count))))

  -- elements of any integer add no rule
  no_members : (at : ℕ) (p : Contents) (terms : List Term) → with_members at p None terms ≡ Ok p
  no_members at p [] = refl
  no_members at p (term ∷ terms) = no_members at p terms

  -- the elements of an array of names
  elements_are : (scope : Scope) (letter : List ℕ) (count at list_at : ℕ) (atoms : List Atom) → AreNamed text letter 1 count atoms → ((i : ℕ) → 1 ≤ i → i ≤ count → StandsFor scope (name letter i) i)
      → elements text scope true base.Int (pos 1, pos count) at (expr.List list_at atoms) ≡ Ok (map variable (range_with_len 1 count))
  unfolding elements
  elements_are scope letter count at list_at atoms says there =
      let many : length atoms ≡ count = named_count letter 1 count atoms says in
      let same : int_eq (pos count) (pos count) ≡ true = same_number count in
      let terms = name_terms scope letter [] 1 count atoms says (λ i l r. there i l (omega (arith, r))) in
      rw (many, same, terms) refl

  -- an array's declaration adds its name and what is printed
  array_after : (scope : Scope) (domains : List (List ℤ)) (count at from list_at : ℕ) (written : List ℕ) (atoms : List Atom) → count ≤ 65536 → declared_as scope written ≡ None
      → elements text scope true base.Int (pos 1, pos count) from (expr.List list_at atoms) ≡ Ok (map variable (range_with_len 1 count))
      → declare text (so_far scope domains [] [] false) at true (Some (pos 1, pos count)) base.Int from written (marked.Ranges ((pos 1, pos count) ∷ [])) (Some (expr.List list_at atoms))
      ≡ Ok (so_far (scope ++ (written, declared.Many false true (map variable (range_with_len 1 count))) ∷ []) domains [] (array_output written count ∷ []) false)
  unfolding array
  array_after scope domains count at from list_at written atoms small fresh is =
      let long : length (map variable (range_with_len 1 count)) ≡ count = length-map-range_with_len variable 1 count in
      let shaped : (count_between (pos 1) (pos count) * 1 == length (map variable (range_with_len 1 count))) ≡ true = same_count (count_between (pos 1) (pos count)) (length (map variable (range_with_len 1 count))) (count_is count ∙ sym long) in
      let test : nat_lt 65536 (length (map variable (range_with_len 1 count))) ≡ false = within_test 65536 (length (map variable (range_with_len 1 count))) (rw long small) in
      rw (fresh, is, shaped, test, no_members from (problem_so_far domains [] []) (map variable (range_with_len 1 count))) refl

  pub array_step : (scope : Scope) (domains : List (List ℤ)) (count : ℕ) (letter : List ℕ) (i : Item) → IsArray text letter count i → count ≤ 65536 → declared_as scope letter ≡ None
      → ((i : ℕ) → 1 ≤ i → i ≤ count → StandsFor scope (name letter i) i)
      → after text (so_far scope domains [] [] false) i
      ≡ Ok (so_far (scope ++ (letter, declared.Many false true (map variable (range_with_len 1 count))) ∷ []) domains [] (array_output letter count ∷ []) false)
  array_step scope domains count letter i says small fresh there =
      ap (after text (so_far scope domains [] [] false)) says.item_is
      ∙ ap (λ (w : List ℕ). declare text (so_far scope domains [] [] false) says.at true (Some (pos 1, pos count)) base.Int says.from w (marked.Ranges ((pos 1, pos count) ∷ [])) (Some (expr.List says.list_at says.atoms))) says.written_is
      ∙ array_after scope domains count says.at says.from says.list_at letter says.atoms small fresh (elements_are scope letter count says.from says.list_at says.atoms says.atoms_are there)

  -- the rule of two names
  differ_rule_is : (scope : Scope) (a b at : ℕ) (x y : Atom) (first second : List ℕ) → IsNamed text first x → IsNamed text second y → StandsFor scope first a → StandsFor scope second b
      → constraint_rule text scope at (codes "int_ne") (expr.One x ∷ expr.One y ∷ []) ≡ Ok (differ_rule a b)
  unfolding constraint_rule
  differ_rule_is scope a b at x y first second x_is y_is there also =
      rw (name_term scope first a x x_is there, name_term scope second b y y_is also) refl

  -- the rule of two names and a difference
  differ_not_by_rule_is : (scope : Scope) (a b at factors_at one_at minus_at variables_at difference_at : ℕ) (difference : ℤ) (x y : Atom) (first second : List ℕ)
      → IsNamed text first x → IsNamed text second y → StandsFor scope first a → StandsFor scope second b
      → constraint_rule text scope at (codes "int_lin_ne") (
      expr.List factors_at (Whole one_at (pos 1) ∷ Whole minus_at (neg_ℤ (pos 1)) ∷ [])
      ∷ expr.List variables_at (x ∷ y ∷ []) ∷ expr.One (Whole difference_at difference) ∷ [])
      ≡ Ok (differ_not_by_rule a b difference)
  unfolding constraint_rule
  differ_not_by_rule_is scope a b at factors_at one_at minus_at variables_at difference_at difference x y first second x_is y_is there also =
      rw (name_term scope first a x x_is there, name_term scope second b y y_is also) refl

  -- a constraint adds its rule
  pub rule_after : (scope : Scope) (domains : List (List ℤ)) (rules : List Rule) (outputs : List Output) (c : Bool) (rule : Rule) (at from : ℕ) (written : List ℕ) (exprs : List Expr)
      → constraint_rule text scope from written exprs ≡ Ok rule → rule_refusal (problem_so_far domains rules outputs) rule ≡ None
      → constraint text (so_far scope domains rules outputs c) at from written exprs ≡ Ok (so_far scope domains (rules ++ rule ∷ []) outputs true)
  unfolding constraint
  rule_after scope domains rules outputs c rule at from written exprs is free = rw (is, free) refl

  pub differ_step : (scope : Scope) (domains : List (List ℤ)) (rules : List Rule) (outputs : List Output) (c : Bool) (a b : ℕ) (first second : List ℕ) (i : Item)
      → IsDiffer text first second i → StandsFor scope first a → StandsFor scope second b → rule_refusal (problem_so_far domains rules outputs) (differ_rule a b) ≡ None
      → after text (so_far scope domains rules outputs c) i ≡ Ok (so_far scope domains (rules ++ differ_rule a b ∷ []) outputs true)
  differ_step scope domains rules outputs c a b first second i says there also free =
      ap (after text (so_far scope domains rules outputs c)) says.item_is
      ∙ ap (λ (w : List ℕ). constraint text (so_far scope domains rules outputs c) says.at says.from w (expr.One says.x ∷ expr.One says.y ∷ [])) says.written_is
      ∙ rule_after scope domains rules outputs c (differ_rule a b) says.at says.from (codes "int_ne") (expr.One says.x ∷ expr.One says.y ∷ [])
      (differ_rule_is scope a b says.from says.x says.y first second says.x_is says.y_is there also) free

  pub differ_not_by_step : (scope : Scope) (domains : List (List ℤ)) (rules : List Rule) (outputs : List Output) (c : Bool) (a b : ℕ) (difference : ℤ) (first second : List ℕ) (i : Item)
      → IsDifferNotBy text first second difference i → StandsFor scope first a → StandsFor scope second b
      → rule_refusal (problem_so_far domains rules outputs) (differ_not_by_rule a b difference) ≡ None
      → after text (so_far scope domains rules outputs c) i ≡ Ok (so_far scope domains (rules ++ differ_not_by_rule a b difference ∷ []) outputs true)
  differ_not_by_step scope domains rules outputs c a b difference first second i says there also free =
      let exprs : List Expr =
      expr.List says.factors_at (Whole says.one_at (pos 1) ∷ Whole says.minus_at (neg_ℤ (pos 1)) ∷ [])
      ∷ expr.List says.variables_at (says.x ∷ says.y ∷ []) ∷ expr.One (Whole says.difference_at difference) ∷ [] in
      ap (after text (so_far scope domains rules outputs c)) says.item_is
      ∙ ap (λ (w : List ℕ). constraint text (so_far scope domains rules outputs c) says.at says.from w exprs) says.written_is
      ∙ rule_after scope domains rules outputs c (differ_not_by_rule a b difference) says.at says.from (codes "int_lin_ne") exprs
      (differ_not_by_rule_is scope a b says.from says.factors_at says.one_at says.minus_at says.variables_at says.difference_at difference says.x says.y first second says.x_is says.y_is there also) free

  -- the terms of numbers
  whole_terms : (scope : Scope) (done : List Term) (numbers : List ℕ) (atoms : List Atom) → AreWhole numbers atoms
      → terms_after text scope (record { boolean = false; constant = true }) done atoms ≡ Ok (done ++ map (λ entry. Const (pos entry)) numbers)
  whole_terms scope done [] atoms says = rw (says, append-nil done) refl
  whole_terms scope done (number ∷ numbers) [] says = absurd says
  whole_terms scope done (number ∷ numbers) (atom ∷ atoms) says =
      rw says.0.1 (
      whole_terms scope (done ++ Const (pos number) ∷ []) numbers atoms says.1
      ∙ ap (λ (ts : List Term). Ok ts) (append_assoc done (Const (pos number) ∷ []) (map (λ entry. Const (pos entry)) numbers)))

  -- the rule of two names and rows
  table_rule_is : (scope : Scope) (a b at variables_at table_at : ℕ) (rows : List (ℕ × ℕ)) (x y : Atom) (atoms : List Atom) (first second : List ℕ)
      → IsNamed text first x → IsNamed text second y → AreWhole (entries_of rows) atoms → StandsFor scope first a → StandsFor scope second b
      → constraint_rule text scope at (codes "fzn_table_int") (expr.List variables_at (x ∷ y ∷ []) ∷ expr.List table_at atoms ∷ []) ≡ Ok (table_rule a b rows)
  unfolding constraint_rule
  table_rule_is scope a b at variables_at table_at rows x y atoms first second x_is y_is whole there also =
      let even : (length (map {B = Term} (λ entry. Const (pos entry)) (entries_of rows)) % 2 == 0) ≡ true = even_entries rows in
      rw (name_term scope first a x x_is there, name_term scope second b y y_is also, whole_terms scope [] (entries_of rows) atoms whole, even) refl

  pub table_step : (scope : Scope) (domains : List (List ℤ)) (rules : List Rule) (outputs : List Output) (c : Bool) (a b : ℕ) (rows : List (ℕ × ℕ)) (first second : List ℕ) (i : Item)
      → IsTable text first second rows i → StandsFor scope first a → StandsFor scope second b → rule_refusal (problem_so_far domains rules outputs) (table_rule a b rows) ≡ None
      → after text (so_far scope domains rules outputs c) i ≡ Ok (so_far scope domains (rules ++ table_rule a b rows ∷ []) outputs true)
  table_step scope domains rules outputs c a b rows first second i says there also free =
      let exprs : List Expr = expr.List says.variables_at (says.x ∷ says.y ∷ []) ∷ expr.List says.table_at says.atoms ∷ [] in
      ap (after text (so_far scope domains rules outputs c)) says.item_is
      ∙ ap (λ (w : List ℕ). constraint text (so_far scope domains rules outputs c) says.at says.from w exprs) says.written_is
      ∙ rule_after scope domains rules outputs c (table_rule a b rows) says.at says.from (codes "fzn_table_int") exprs
      (table_rule_is scope a b says.from says.variables_at says.table_at rows says.x says.y says.atoms first second says.x_is says.y_is says.atoms_are there also) free

  -- the solve item ends the problem
  pub solve_step : (scope : Scope) (domains : List (List ℤ)) (rules : List Rule) (outputs : List Output) (c : Bool) (i : Item) → IsSolve i
      → (after_all text (so_far scope domains rules outputs c) (i ∷ []) >>= finished) ≡ Ok (problem_so_far domains rules outputs)
  unfolding solve
  solve_step scope domains rules outputs c i says = ap (λ (x : Item). after_all text (so_far scope domains rules outputs c) (x ∷ []) >>= finished) says.item_is
