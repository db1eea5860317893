-- Items that say lines with names of their own have the problem of these lines.
use Rattle.std.proofs.Common.{◌≡◌, ℕ, suc, ◌+◌, ◌-◌, ◌≤◌, ◌^◌, inl, inr, Bool, true, false, if◌then◌else◌, List, [], ◌∷◌, ◌++◌, map, flat_map, length, sum_by, Some, None, Ok, Result, refl, sym, ap, ◌∙◌, subst, append_assoc, append-nil, length-append, arith}
use Rattle.std.specs.Prelude.{ℤ, pos, nat_lt}
use Rattle.std.specs.List.{AllByRecursion}
use Rattle.std.specs.Ordering.{int_eq, int_cmp, is_lt}
use Rattle.std.specs.Str.{bytes_eq}
use Rattle.std.proofs.lemmas.Bool.{false≢true}
use Rattle.std.proofs.lemmas.Grind.{flat_map-append}
use Rattle.std.proofs.lemmas.List.Sums.{sum_by-append, sum_by_push}
use Rattle.std.proofs.lemmas.Slice.Eq.{bytes_eq-Decides}
use Rattle.dcsp_defs.specs.Words.{In}
use Rattle.dcsp_domain.specs.Sets.{put, set_of}
use Rattle.dcsp_common.specs.declared.limits.Which.TheVariants.{Rules, Terms, Elements}
use Rattle.dcsp_problem.specs.Limits.{variable_refusal, rule_refusal}
use Rattle.dcsp_problem.proofs.Counts.{past_later}
use Rattle.dcsp_rule.specs.declared.output.Output.{Output}
use Rattle.dcsp_rule.specs.declared.output.Shape.TheVariants.{One}
use Rattle.dcsp_rule.specs.declared.rule.Rule.{Rule}
use Rattle.dcsp_rule.specs.declared.rule.Term.{Term}
use Rattle.dcsp_rule.specs.declared.rule.Term.TheVariants.{Const, Var}
use Rattle.dcsp_rule.specs.Problems.{Contents}
use Rattle.dcsp_rule.specs.Rules.{size_of}
use Rattle.fzn_item.specs.declared.item.Atom.{Atom}
use Rattle.fzn_item.specs.declared.item.Base.TheVariants as base
use Rattle.fzn_item.specs.declared.item.Expr.TheVariants as expr
use Rattle.fzn_item.specs.declared.item.Marked.TheVariants as marked
use Rattle.fzn_item.specs.declared.item.Item.{Item}
use Rattle.fzn_scope.specs.declared.names.Declared.{Declared}
use Rattle.fzn_scope.specs.declared.names.Declared.TheVariants as declared
use Rattle.fzn_scope.specs.Checks.{◌>>=◌}
use Rattle.fzn_scope.specs.Names.{Scope, declared_as}
use Rattle.fzn_scope.specs.Rules.{constraint_rule}
use Rattle.fzn_token.specs.declared.refusal.Refusal.{Refusal}
use Rattle.fzn_model.specs.Declarations.{SoFar, variable as with_one}
use Rattle.fzn_model.specs.Items.{declare, after, after_all, constraint, finished, resolved}
use Rattle.law_subjects.specs.Says.{IsNamed, entries_of}
use Rattle.law_subjects.specs.Problems.{variable, table_rule}
use Rattle.law_subjects.specs.RandomBinary.{AreApart}
use Rattle.law_subjects.specs.Named.{Comparison, Equal, Less, Different, comparison_name, NamedLine, Choose, Compare, Allow, Finish, IsChoice, IsComparison, SaysNamed, AreNamedSaid, name_of, number_of, compare_rule, named_domains, named_rules, named_outputs, named_problem, Choice, choose, names_of, named_lines, IsConstraintOn, NamedLinesSayProblem, NamedLinesHaveProblem}
use Rattle.law_subjects.proofs.Limits.{within_test, free_variable, free_rule}
use Rattle.law_subjects.proofs.Names.{declared-not}
use Rattle.law_subjects.proofs.Steps.{so_far, problem_so_far, StandsFor, after_one, many_entries, name_term, rule_after, table_step, solve_step}

-- ---- sets of values

-- a set has at most as many values as its list
put_length : (x : ℤ) (ys : List ℤ) → length (put x ys) ≤ suc (length ys)
put_length x [] = omega arith
put_length x (y ∷ ys) = by (is_lt (int_cmp x y)) (int_eq x y) (put_length x ys) where
  by : (a b : Bool) → length (put x ys) ≤ suc (length ys) → length (if a then x ∷ y ∷ ys else (if b then y ∷ ys else y ∷ put x ys)) ≤ suc (suc (length ys))
  by true b rest = omega arith
  by false true rest = omega arith
  by false false rest = omega (arith, rest)

-- so has the set of a list
pub set_length : (xs : List ℤ) → length (set_of xs) ≤ length xs
set_length [] = omega arith
set_length (x ∷ xs) = let here = put_length x (set_of xs) in let rest = set_length xs in omega (arith, here, rest)

-- numbers as integers
abbrev pub whole_values : List ℕ → List ℤ
whole_values values = map (λ value. pos value) values

-- there are as many integers as numbers
whole_length : (values : List ℕ) → length (whole_values values) ≡ length values
whole_length [] = refl
whole_length (value ∷ values) = ap suc (whole_length values)

-- the domain of a variable
abbrev pub domain_of : Choice → List ℤ
domain_of choice = set_of (whole_values choice.0)

-- a domain is at most as long as the list of its values
domain_length : (choice : Choice) → length (domain_of choice) ≤ length choice.0
domain_length choice = let few = set_length (whole_values choice.0) in let same = whole_length choice.0 in omega (arith, few, same)

-- ---- names and numbers

-- variables of these names, numbered from a number on
abbrev pub numbered : ℕ → List (List ℕ) → Scope
numbered n [] = []
numbered n (name ∷ names) = (name, declared.One false (Var n)) ∷ numbered (suc n) names

-- numbers count from 1
pub number_some : (names : List (List ℕ)) (name : List ℕ) → 1 ≤ number_of names name
number_some [] name = omega arith
number_some (other ∷ others) name = by (bytes_eq name other) where
  by : (b : Bool) → 1 ≤ (if b then 1 else suc (number_of others name))
  by true = omega arith
  by false = omega arith

-- a declared name stands for its number
numbered_as : (n : ℕ) (names : List (List ℕ)) (name : List ℕ) → In name names → declared_as (numbered n names) name ≡ Some (declared.One false (Var (n + (number_of names name - 1))))
numbered_as n [] name i = absurd i
numbered_as n (other ∷ others) name i = by (bytes_eq name other) refl i (numbered_as (suc n) others name) where
  by : (b : Bool) → bytes_eq name other ≡ b → In name (other ∷ others) → (In name others → declared_as (numbered (suc n) others) name ≡ Some (declared.One false (Var (suc n + (number_of others name - 1)))))
      → (if b then Some (declared.One false (Var n)) else declared_as (numbered (suc n) others) name) ≡ Some (declared.One false (Var (n + ((if b then 1 else suc (number_of others name)) - 1))))
  by true e j rest = let same : n ≡ n + (1 - 1) = omega arith in ap (λ (k : ℕ). Some (declared.One false (Var k))) same
  by false e (inl here) rest = absurd (false≢true (sym e ∙ (bytes_eq-Decides name other).1 here))
  by false e (inr later) rest =
      let some = number_some others name in
      let same : suc n + (number_of others name - 1) ≡ n + (suc (number_of others name) - 1) = omega (arith, some) in
      rest later ∙ ap (λ (k : ℕ). Some (declared.One false (Var k))) same

-- the same where numbers begin at the first variable
stands_for : (names : List (List ℕ)) (name : List ℕ) → In name names → StandsFor (numbered 0 names) name (number_of names name)
stands_for names name i =
    let same : 0 + (number_of names name - 1) ≡ number_of names name - 1 = omega arith in
    numbered_as 0 names name i ∙ ap (λ (k : ℕ). Some (declared.One false (Var k))) same

-- ---- declarations

-- what is printed for the variable with this number, counted from 0
abbrev printed : List ℕ → ℕ → Output
printed name n = record { name = name; boolean = false; shape = One; terms = Var n ∷ [] }

-- for variables from this number on
abbrev all_printed : ℕ → List Choice → List Output
all_printed n [] = []
all_printed n (choice ∷ choices) = printed choice.1 n ∷ all_printed (suc n) choices

module _ (text : List ℕ) where
  -- a declaration adds its name, its domain and what is printed
  declared_step : (scope : Scope) (domains : List (List ℤ)) (outputs : List Output) (values : List ℤ) (at from : ℕ) (name : List ℕ) → length (set_of values) ≤ 65536 → declared_as scope name ≡ None
      → variable_refusal (problem_so_far domains [] outputs) (set_of values) ≡ None
      → declare text (so_far scope domains [] outputs false) at true None (base.Listed values) from name marked.Variable None
      ≡ Ok (so_far (scope ++ (name, declared.One false (Var (length domains))) ∷ []) (domains ++ set_of values ∷ []) [] (outputs ++ printed name (length domains) ∷ []) false)
  unfolding with_one
  declared_step scope domains outputs values at from name small fresh free =
      let test : nat_lt 65536 (length (set_of values)) ≡ false = within_test 65536 (length (set_of values)) small in
      rw (fresh, test, free) refl

  -- an item that says so
  choice_step : (scope : Scope) (domains : List (List ℤ)) (outputs : List Output) (values name : List ℕ) (i : Item) → IsChoice text name values i → length (set_of (whole_values values)) ≤ 65536 → declared_as scope name ≡ None
      → variable_refusal (problem_so_far domains [] outputs) (set_of (whole_values values)) ≡ None
      → after text (so_far scope domains [] outputs false) i
      ≡ Ok (so_far (scope ++ (name, declared.One false (Var (length domains))) ∷ []) (domains ++ set_of (whole_values values) ∷ []) [] (outputs ++ printed name (length domains) ∷ []) false)
  choice_step scope domains outputs values name i says small fresh free =
      ap (after text (so_far scope domains [] outputs false)) says.item_is
      ∙ ap (λ (w : List ℕ). declare text (so_far scope domains [] outputs false) says.at true None (base.Listed (whole_values values)) says.from w marked.Variable None) says.written_is
      ∙ declared_step scope domains outputs (whole_values values) says.at says.from name small fresh free

  -- what items leave that declare these variables, and then say the rest
  record AfterChoices (scope : Scope) (domains : List (List ℤ)) (outputs : List Output) (choices : List Choice) (rest : List NamedLine) (items : List Item) : Type 0 where
    left : List Item
    said : AreNamedSaid text rest left
    reached : after_all text (so_far scope domains [] outputs false) items ≡ after_all text (so_far (scope ++ numbered (length domains) (names_of choices)) (domains ++ map domain_of choices) [] (outputs ++ all_printed (length domains) choices) false) left

  -- declarations one after another
  choices_after : (choices : List Choice) (scope : Scope) (domains : List (List ℤ)) (outputs : List Output) (rest : List NamedLine) (items : List Item) → AreApart (names_of choices)
      → ((name : List ℕ) → In name (names_of choices) → declared_as scope name ≡ None) → length domains + length choices ≤ 4096
      → sum_by length domains + sum_by (λ (choice : Choice). length choice.0) choices ≤ 1048576 → AllByRecursion (λ (choice : Choice). length choice.0 ≤ 65536) choices
      → AreNamedSaid text (map choose choices ++ rest) items → AfterChoices scope domains outputs choices rest items
  choices_after [] scope domains outputs rest items apart fresh few total small says = record {
    left = items;
    said = says;
    reached =
        ap (λ (s : Scope). after_all text (so_far s domains [] outputs false) items) (sym (append-nil scope))
        ∙ ap (λ (ds : List (List ℤ)). after_all text (so_far (scope ++ []) ds [] outputs false) items) (sym (append-nil domains))
        ∙ ap (λ (os : List Output). after_all text (so_far (scope ++ []) (domains ++ []) [] os false) items) (sym (append-nil outputs));
  }
  choices_after (choice ∷ choices) scope domains outputs rest [] apart fresh few total small says = absurd says
  choices_after (choice ∷ choices) scope domains outputs rest (i ∷ items) apart fresh few total small says =
      let n = length domains in
      let d = domain_of choice in
      let e : List ℕ × Declared = (choice.1, declared.One false (Var n)) in
      let size = domain_length choice in
      let here = small.0 in
      let sum : sum_by (λ (c : Choice). length c.0) (choice ∷ choices) ≡ 0 + length choice.0 + sum_by (λ (c : Choice). length c.0) choices = sum_by-append (λ (c : Choice). length c.0) (choice ∷ []) choices in
      let free = free_variable (problem_so_far domains [] outputs) d (omega (arith, few)) (omega (arith, total, sum, size)) in
      let step = choice_step scope domains outputs choice.0 choice.1 i says.0 (omega (arith, size, here)) (fresh choice.1 (inl refl)) free in
      let one : length (domains ++ d ∷ []) ≡ n + 1 = length-append domains (d ∷ []) in
      let long : length (domains ++ d ∷ []) ≡ suc n = omega (arith, one) in
      let grown : sum_by length (domains ++ d ∷ []) ≡ sum_by length domains + length d = sum_by_push length domains d in
      let later = choices_after choices (scope ++ e ∷ []) (domains ++ d ∷ []) (outputs ++ printed choice.1 n ∷ []) rest items apart.1
      (λ name j. declared-not scope choice.1 name e.1 (λ same. apart.0 (subst (λ (w : List ℕ). In w (names_of choices)) same j)) (fresh name (inr j)))
      (omega (arith, few, long)) (omega (arith, total, sum, size, grown)) small.1 says.1 in
      let scope_is : (scope ++ e ∷ []) ++ numbered (length (domains ++ d ∷ [])) (names_of choices) ≡ scope ++ (e ∷ numbered (suc n) (names_of choices)) =
      ap (λ (k : ℕ). (scope ++ e ∷ []) ++ numbered k (names_of choices)) long ∙ append_assoc scope (e ∷ []) (numbered (suc n) (names_of choices)) in
      let domains_are : (domains ++ d ∷ []) ++ map domain_of choices ≡ domains ++ (d ∷ map domain_of choices) = append_assoc domains (d ∷ []) (map domain_of choices) in
      let outputs_are : (outputs ++ printed choice.1 n ∷ []) ++ all_printed (length (domains ++ d ∷ [])) choices ≡ outputs ++ (printed choice.1 n ∷ all_printed (suc n) choices) =
      ap (λ (k : ℕ). (outputs ++ printed choice.1 n ∷ []) ++ all_printed k choices) long ∙ append_assoc outputs (printed choice.1 n ∷ []) (all_printed (suc n) choices) in
      record {
        left = later.left;
        said = later.said;
        reached =
            after_one text (so_far scope domains [] outputs false) (so_far (scope ++ e ∷ []) (domains ++ d ∷ []) [] (outputs ++ printed choice.1 n ∷ []) false) i items step
            ∙ later.reached
            ∙ ap (λ (s : Scope). after_all text (so_far s ((domains ++ d ∷ []) ++ map domain_of choices) [] ((outputs ++ printed choice.1 n ∷ []) ++ all_printed (length (domains ++ d ∷ [])) choices) false) later.left) scope_is
            ∙ ap (λ (ds : List (List ℤ)). after_all text (so_far (scope ++ (e ∷ numbered (suc n) (names_of choices))) ds [] ((outputs ++ printed choice.1 n ∷ []) ++ all_printed (length (domains ++ d ∷ [])) choices) false) later.left) domains_are
            ∙ ap (λ (os : List Output). after_all text (so_far (scope ++ (e ∷ numbered (suc n) (names_of choices))) (domains ++ (d ∷ map domain_of choices)) [] os false) later.left) outputs_are;
      }

  -- ---- constraints

  -- the rule of two names
  compare_rule_is : (scope : Scope) (comparison : Comparison) (a b at : ℕ) (x y : Atom) (first second : List ℕ) → IsNamed text first x → IsNamed text second y → StandsFor scope first a → StandsFor scope second b
      → constraint_rule text scope at (comparison_name comparison) (expr.One x ∷ expr.One y ∷ []) ≡ Ok (compare_rule comparison a b)
  unfolding constraint_rule
  compare_rule_is scope Equal a b at x y first second x_is y_is there also = rw (name_term text scope first a x x_is there, name_term text scope second b y y_is also) refl
  compare_rule_is scope Less a b at x y first second x_is y_is there also = rw (name_term text scope first a x x_is there, name_term text scope second b y y_is also) refl
  compare_rule_is scope Different a b at x y first second x_is y_is there also = rw (name_term text scope first a x x_is there, name_term text scope second b y y_is also) refl

  -- an item that compares two values adds its rule
  compare_step : (scope : Scope) (domains : List (List ℤ)) (rules : List Rule) (outputs : List Output) (c : Bool) (comparison : Comparison) (a b : ℕ) (first second : List ℕ) (i : Item)
      → IsComparison text comparison first second i → StandsFor scope first a → StandsFor scope second b → rule_refusal (problem_so_far domains rules outputs) (compare_rule comparison a b) ≡ None
      → after text (so_far scope domains rules outputs c) i ≡ Ok (so_far scope domains (rules ++ compare_rule comparison a b ∷ []) outputs true)
  compare_step scope domains rules outputs c comparison a b first second i says there also free =
      ap (after text (so_far scope domains rules outputs c)) says.item_is
      ∙ ap (λ (w : List ℕ). constraint text (so_far scope domains rules outputs c) says.at says.from w (expr.One says.x ∷ expr.One says.y ∷ [])) says.written_is
      ∙ rule_after text scope domains rules outputs c (compare_rule comparison a b) says.at says.from (comparison_name comparison) (expr.One says.x ∷ expr.One says.y ∷ [])
      (compare_rule_is scope comparison a b says.from says.x says.y first second says.x_is says.y_is there also) free

-- a constraint is one rule
one_rule : (names : List (List ℕ)) (line : NamedLine) → IsConstraintOn names line → length (named_rules names line) ≡ 1
one_rule names (Choose values name) h = absurd h
one_rule names (Compare comparison first second) h = refl
one_rule names (Allow first second rows) h = refl
one_rule names Finish h = absurd h

-- what items leave that state these constraints, and then say the rest
record AfterNamed (text : List ℕ) (names : List (List ℕ)) (scope : Scope) (domains : List (List ℤ)) (outputs : List Output) (rules : List Rule) (c : Bool) (lines rest : List NamedLine) (items : List Item) : Type 0 where
  left : List Item
  constrained : Bool
  said : AreNamedSaid text rest left
  reached : after_all text (so_far scope domains rules outputs c) items ≡ after_all text (so_far scope domains (rules ++ flat_map (named_rules names) lines) outputs constrained) left

module _ (text : List ℕ) (names : List (List ℕ)) (scope : Scope) (domains : List (List ℤ)) (outputs : List Output) (there : (name : List ℕ) → In name names → StandsFor scope name (number_of names name)) where
  -- a comparison that is within the limits
  free_compare : (rules : List Rule) → length rules + 1 ≤ 262144 → (comparison : Comparison) (a b : ℕ) → sum_by size_of rules + 2 ≤ 1048576 → rule_refusal (problem_so_far domains rules outputs) (compare_rule comparison a b) ≡ None
  free_compare rules few comparison a b sizes =
      free_rule (problem_so_far domains rules outputs) (compare_rule comparison a b) (omega arith) (
      past_later Rules (length rules + 1) ((Terms, sum_by size_of rules + 2) ∷ []) few ∙ past_later Terms (sum_by size_of rules + 2) [] sizes)

  -- a table that is
  free_table : (rules : List Rule) → length rules + 1 ≤ 262144 → (a b : ℕ) (rows : List (ℕ × ℕ)) → length rows ≤ 2 ^ 15 → sum_by size_of rules + size_of (table_rule a b rows) ≤ 1048576
      → rule_refusal (problem_so_far domains rules outputs) (table_rule a b rows) ≡ None
  free_table rules few a b rows short sizes =
      let many = many_entries rows in
      let entries = length (map {B = Term} (λ entry. Const (pos entry)) (entries_of rows)) in
      let terms = sum_by size_of rules + size_of (table_rule a b rows) in
      free_rule (problem_so_far domains rules outputs) (table_rule a b rows) (omega arith) (
      past_later Elements entries ((Rules, length rules + 1) ∷ (Terms, terms) ∷ []) (omega (arith, many, short))
      ∙ past_later Rules (length rules + 1) ((Terms, terms) ∷ []) few ∙ past_later Terms terms [] sizes)

  -- one constraint more
  constraint_step : (rules : List Rule) → length rules + 1 ≤ 262144 → (c : Bool) (line : NamedLine) (i : Item) → IsConstraintOn names line → sum_by size_of rules + sum_by size_of (named_rules names line) ≤ 1048576 → SaysNamed text line i
      → after text (so_far scope domains rules outputs c) i ≡ Ok (so_far scope domains (rules ++ named_rules names line) outputs true)
  constraint_step rules few c (Choose values name) i h sizes says = absurd h
  constraint_step rules few c (Compare comparison first second) i h sizes says =
      compare_step text scope domains rules outputs c comparison (number_of names first) (number_of names second) first second i says (there first h.0) (there second h.1)
      (free_compare rules few comparison (number_of names first) (number_of names second) (omega (arith, sizes)))
  constraint_step rules few c (Allow first second rows) i h sizes says =
      table_step text scope domains rules outputs c (number_of names first) (number_of names second) rows first second i says (there first h.0) (there second h.1)
      (free_table rules few (number_of names first) (number_of names second) rows h.2 (omega (arith, sizes)))
  constraint_step rules few c Finish i h sizes says = absurd h

  -- constraints one after another
  constraints_after : (lines : List NamedLine) (rules : List Rule) (c : Bool) (items : List Item) (rest : List NamedLine) → AllByRecursion (IsConstraintOn names) lines → length rules + length lines ≤ 262144
      → sum_by size_of rules + sum_by size_of (flat_map (named_rules names) lines) ≤ 1048576
      → AreNamedSaid text (lines ++ rest) items → AfterNamed text names scope domains outputs rules c lines rest items
  constraints_after [] rules c items rest each_is few sizes says = record {
    left = items;
    constrained = c;
    said = says;
    reached = ap (λ (rs : List Rule). after_all text (so_far scope domains rs outputs c) items) (sym (append-nil rules));
  }
  constraints_after (line ∷ lines) rules c [] rest each_is few sizes says = absurd says
  constraints_after (line ∷ lines) rules c (i ∷ items) rest each_is few sizes says =
      let own = named_rules names line in
      let others = flat_map (named_rules names) lines in
      let split : sum_by size_of (own ++ others) ≡ sum_by size_of own + sum_by size_of others = sum_by-append size_of own others in
      let step = constraint_step rules (omega (arith, few)) c line i each_is.0 (omega (arith, sizes, split)) says.0 in
      let single = one_rule names line each_is.0 in
      let more : length (rules ++ own) ≡ length rules + length own = length-append rules own in
      let sum : sum_by size_of (rules ++ own) ≡ sum_by size_of rules + sum_by size_of own = sum_by-append size_of rules own in
      let next = constraints_after lines (rules ++ own) true items rest each_is.1 (omega (arith, few, more, single)) (omega (arith, sizes, split, sum)) says.1 in
      record {
        left = next.left;
        constrained = next.constrained;
        said = next.said;
        reached =
            after_one text (so_far scope domains rules outputs c) (so_far scope domains (rules ++ own) outputs true) i items step
            ∙ next.reached
            ∙ ap (λ (rs : List Rule). after_all text (so_far scope domains rs outputs next.constrained) next.left) (append_assoc rules own others);
      }

  -- constraints and the solve item
  ended : (constraints : List NamedLine) (items : List Item) → AllByRecursion (IsConstraintOn names) constraints → length constraints ≤ 262144 → sum_by size_of (flat_map (named_rules names) constraints) ≤ 1048576
      → AreNamedSaid text (constraints ++ Finish ∷ []) items → (after_all text (so_far scope domains [] outputs false) items >>= finished) ≡ Ok (problem_so_far domains (flat_map (named_rules names) constraints) outputs)
  ended constraints items are rules terms says =
      let ruled = constraints_after constraints [] false items (Finish ∷ []) are (omega (arith, rules)) (omega (arith, terms)) says in
      ap (λ (r : Result SoFar Refusal). r >>= finished) ruled.reached ∙ last ruled.constrained ruled.left ruled.said
    where
      -- the solve item alone
      last : (c : Bool) (left : List Item) → AreNamedSaid text (Finish ∷ []) left
          → (after_all text (so_far scope domains (flat_map (named_rules names) constraints) outputs c) left >>= finished) ≡ Ok (problem_so_far domains (flat_map (named_rules names) constraints) outputs)
      last c [] said = absurd said
      last c (i ∷ left) said =
          ap (λ (xs : List Item). after_all text (so_far scope domains (flat_map (named_rules names) constraints) outputs c) (i ∷ xs) >>= finished) said.1
          ∙ solve_step text scope domains (flat_map (named_rules names) constraints) outputs c i said.0

-- ---- what lines add

-- constraints declare nothing
nothing_else : (names : List (List ℕ)) (lines : List NamedLine) → AllByRecursion (IsConstraintOn names) lines → (flat_map name_of lines ≡ []) × (flat_map named_domains lines ≡ [])
nothing_else names [] h = (refl, refl)
nothing_else names (Choose values name ∷ lines) h = absurd h.0
nothing_else names (Compare comparison first second ∷ lines) h = nothing_else names lines h.1
nothing_else names (Allow first second rows ∷ lines) h = nothing_else names lines h.1
nothing_else names (Finish ∷ lines) h = absurd h.0

-- nor do they print anything
nothing_printed : (n : ℕ) (names : List (List ℕ)) (lines : List NamedLine) → AllByRecursion (IsConstraintOn names) lines → named_outputs n (lines ++ Finish ∷ []) ≡ []
nothing_printed n names [] h = refl
nothing_printed n names (Choose values name ∷ lines) h = absurd h.0
nothing_printed n names (Compare comparison first second ∷ lines) h = nothing_printed n names lines h.1
nothing_printed n names (Allow first second rows ∷ lines) h = nothing_printed n names lines h.1
nothing_printed n names (Finish ∷ lines) h = absurd h.0

-- declarations add their names and domains, and no rules
choices_names : (choices : List Choice) → flat_map name_of (map choose choices) ≡ names_of choices
choices_names [] = refl
choices_names (choice ∷ choices) = ap (λ (ns : List (List ℕ)). choice.1 ∷ ns) (choices_names choices)

-- their domains
choices_domains : (choices : List Choice) → flat_map named_domains (map choose choices) ≡ map domain_of choices
choices_domains [] = refl
choices_domains (choice ∷ choices) = ap (λ (ds : List (List ℤ)). domain_of choice ∷ ds) (choices_domains choices)

-- no rules
choices_rules : (names : List (List ℕ)) (choices : List Choice) → flat_map (named_rules names) (map choose choices) ≡ []
choices_rules names [] = refl
choices_rules names (choice ∷ choices) = choices_rules names choices

-- what they print
choices_outputs : (n : ℕ) (choices : List Choice) → named_outputs (suc n) (map choose choices) ≡ all_printed n choices
choices_outputs n [] = refl
choices_outputs n (choice ∷ choices) =
    let same : suc n - 1 ≡ n = omega arith in
    ap (λ (k : ℕ). printed choice.1 k ∷ named_outputs (suc (suc n)) (map choose choices)) same ∙ ap (λ (os : List Output). printed choice.1 n ∷ os) (choices_outputs (suc n) choices)

-- what stands behind them prints nothing
outputs_front : (n : ℕ) (choices : List Choice) (rest : List NamedLine) → ((k : ℕ) → named_outputs k rest ≡ []) → named_outputs n (map choose choices ++ rest) ≡ named_outputs n (map choose choices)
outputs_front n [] rest none = none n
outputs_front n (choice ∷ choices) rest none = ap (λ (os : List Output). record { name = choice.1; boolean = false; shape = One; terms = variable n ∷ [] } ∷ os) (outputs_front (suc n) choices rest none)

-- what all lines add
parts : {A : Type 0} (f : NamedLine → List A) (choices : List Choice) (constraints : List NamedLine) → f Finish ≡ []
    → flat_map f (named_lines choices constraints) ≡ flat_map f (map choose choices) ++ flat_map f constraints
parts f choices constraints none =
    let last : flat_map f (Finish ∷ []) ≡ [] = rw none refl in
    flat_map-append f (map choose choices) (constraints ++ Finish ∷ [])
    ∙ ap (λ xs. flat_map f (map choose choices) ++ xs) (flat_map-append f constraints (Finish ∷ []) ∙ ap (λ xs. flat_map f constraints ++ xs) last ∙ append-nil (flat_map f constraints))

module _ (choices : List Choice) (constraints : List NamedLine) (are : AllByRecursion (IsConstraintOn (names_of choices)) constraints) where
  -- the names of all lines
  names_are : flat_map name_of (named_lines choices constraints) ≡ names_of choices
  names_are =
      let none = (nothing_else (names_of choices) constraints are).0 in
      parts name_of choices constraints refl ∙ rw none (append-nil (flat_map name_of (map choose choices)) ∙ choices_names choices)

  -- their domains
  domains_are : flat_map named_domains (named_lines choices constraints) ≡ map domain_of choices
  domains_are =
      let none = (nothing_else (names_of choices) constraints are).1 in
      parts named_domains choices constraints refl ∙ rw none (append-nil (flat_map named_domains (map choose choices)) ∙ choices_domains choices)

  -- their rules
  rules_are : (names : List (List ℕ)) → flat_map (named_rules names) (named_lines choices constraints) ≡ flat_map (named_rules names) constraints
  rules_are names = parts (named_rules names) choices constraints refl ∙ ap (λ (rs : List Rule). rs ++ flat_map (named_rules names) constraints) (choices_rules names choices)

  -- what they print
  outputs_are : named_outputs 1 (named_lines choices constraints) ≡ named_outputs 1 (map choose choices)
  outputs_are = outputs_front 1 choices (constraints ++ Finish ∷ []) (λ k. nothing_printed k (names_of choices) constraints are)

  -- their problem
  problem_is : named_problem (named_lines choices constraints) ≡ problem_so_far (map domain_of choices) (flat_map (named_rules (names_of choices)) constraints) (named_outputs 1 (map choose choices))
  problem_is =
      ap (λ (ds : List (List ℤ)). problem_so_far ds (flat_map (named_rules (flat_map name_of (named_lines choices constraints))) (named_lines choices constraints)) (named_outputs 1 (named_lines choices constraints))) domains_are
      ∙ ap (λ (ns : List (List ℕ)). problem_so_far (map domain_of choices) (flat_map (named_rules ns) (named_lines choices constraints)) (named_outputs 1 (named_lines choices constraints))) names_are
      ∙ ap (λ (rs : List Rule). problem_so_far (map domain_of choices) rs (named_outputs 1 (named_lines choices constraints))) (rules_are (names_of choices))
      ∙ ap (λ (os : List Output). problem_so_far (map domain_of choices) (flat_map (named_rules (names_of choices)) constraints) os) outputs_are

-- Lines say their problem.
pub named_lines_say_problem : NamedLinesSayProblem
named_lines_say_problem choices constraints within = problem_is choices constraints within.constrained

-- Items that say lines have their problem.
pub named_lines_have_problem : NamedLinesHaveProblem
unfolding resolved
named_lines_have_problem text choices constraints items within says =
    let names = names_of choices in
    let variables = within.variables in
    let values = within.all_values in
    let begun = choices_after text choices [] [] [] (constraints ++ Finish ∷ []) items within.apart (λ name i. refl) (omega (arith, variables)) (omega (arith, values)) within.values says in
    ap (λ (r : Result SoFar Refusal). r >>= finished) begun.reached
    ∙ ended text names (numbered 0 names) (map domain_of choices) (all_printed 0 choices) (stands_for names) constraints begun.left within.constrained within.rules within.terms begun.said
    ∙ ap (λ (os : List Output). Ok (problem_so_far (map domain_of choices) (flat_map (named_rules names) constraints) os)) (sym (choices_outputs 0 choices))
    ∙ ap (λ (p : Contents). Ok p) (sym (problem_is choices constraints within.constrained))
