-- Items that say the lines of a problem have this problem.
use Rattle.std.proofs.Common.{◌≡◌, ℕ, ◌<◌, ◌≤◌, ◌⊎◌, inl, inr, Bool, true, false, List, [], ◌∷◌, ◌++◌, map, flat_map, length, sum_by, Ok, Result, refl, sym, ap, ◌∙◌, subst, append-nil, arith}
use Rattle.std.specs.Prelude.{ℤ, pos, slice_index_or}
use Rattle.std.specs.List.{range_with_len, AllByRecursion}
use Rattle.std.proofs.lemmas.Grind.{flat_map-append}
use Rattle.fzn_item.specs.declared.item.Item.{Item}
use Rattle.dcsp_domain.specs.Ranges.{numbers_between}
use Rattle.dcsp_rule.specs.declared.output.Output.{Output}
use Rattle.dcsp_rule.specs.Problems.{Contents}
use Rattle.dcsp_rule.specs.Rules.{size_of}
use Rattle.dcsp_gen.specs.Lines.{name}
use Rattle.fzn_scope.specs.declared.names.Declared.{Declared}
use Rattle.fzn_scope.specs.declared.names.Declared.TheVariants as declared
use Rattle.fzn_token.specs.declared.refusal.Refusal.{Refusal}
use Rattle.fzn_scope.specs.Checks.{◌>>=◌}
use Rattle.fzn_scope.specs.Names.{Scope}
use Rattle.fzn_model.specs.Declarations.{SoFar}
use Rattle.fzn_model.specs.Items.{after_all, finished, resolved}
use Rattle.law_subjects.specs.Lines.{ModelLine, Declare, Print, Differ, Above, Below, Table, Solve, variables}
use Rattle.law_subjects.specs.Says.{AreSaid}
use Rattle.law_subjects.specs.Problems.{variable, domains_of, rules_of, outputs_of, array_output, problem_of, IsConstraint, width, all_lines, LinesSayProblem, LinesHaveProblem}
use Rattle.fzn_scope.proofs.Declaring.{declared-old}
use Rattle.law_subjects.proofs.Limits.{length_between}
use Rattle.law_subjects.proofs.Steps.{so_far, problem_so_far, StandsFor, after_one, array_step, solve_step}
use Rattle.law_subjects.proofs.Variables.{AreDeclared, none_declared, variables_after}
use Rattle.law_subjects.proofs.Constraints.{constraints_after}

-- ---- what each part of the lines adds

nothing_declared : {A : Type 0} (f : ModelLine → List A) (low high : ℕ) (numbers : List ℕ) → ((number : ℕ) → f (Declare low high number) ≡ []) → flat_map f (map (Declare low high) numbers) ≡ []
nothing_declared f low high [] none = refl
nothing_declared f low high (number ∷ numbers) none = rw (none number) (nothing_declared f low high numbers none)

-- constraints add rules alone
rule_alone : (n : ℕ) (letter : List ℕ) (line : ModelLine) → IsConstraint n line → (domains_of line ≡ []) × (outputs_of letter line ≡ [])
rule_alone n letter (Declare low high number) h = absurd h
rule_alone n letter (Print count) h = absurd h
rule_alone n letter (Differ first second) h = (refl, refl)
rule_alone n letter (Above first second distance) h = (refl, refl)
rule_alone n letter (Below first second distance) h = (refl, refl)
rule_alone n letter (Table first second rows) h = (refl, refl)
rule_alone n letter Solve h = absurd h

rules_alone : (n : ℕ) (letter : List ℕ) (lines : List ModelLine) → AllByRecursion (IsConstraint n) lines → (flat_map domains_of lines ≡ []) × (flat_map (outputs_of letter) lines ≡ [])
rules_alone n letter [] h = (refl, refl)
rules_alone n letter (line ∷ lines) h =
    let here = rule_alone n letter line h.0 in
    let rest = rules_alone n letter lines h.1 in
    (rw (here.0) (rest.0), rw (here.1) (rest.1))

-- what all lines add
parts : {A : Type 0} (f : ModelLine → List A) (low high n : ℕ) (printed constraints : List ModelLine) → f Solve ≡ []
    → flat_map f (all_lines low high n printed constraints) ≡ flat_map f (variables low high n) ++ (flat_map f printed ++ flat_map f constraints)
parts f low high n printed constraints none =
    let last : flat_map f (Solve ∷ []) ≡ [] = rw none refl in
    flat_map-append f (variables low high n) (printed ++ (constraints ++ Solve ∷ []))
    ∙ ap (λ xs. flat_map f (variables low high n) ++ xs) (
    flat_map-append f printed (constraints ++ Solve ∷ [])
    ∙ ap (λ xs. flat_map f printed ++ xs) (flat_map-append f constraints (Solve ∷ []) ∙ ap (λ xs. flat_map f constraints ++ xs) last ∙ append-nil (flat_map f constraints)))

module _ (letter : List ℕ) (low high n : ℕ) (constraints : List ModelLine) (are : AllByRecursion (IsConstraint n) constraints) where
  domains_are : (printed : List ModelLine) → flat_map domains_of printed ≡ [] → flat_map domains_of (all_lines low high n printed constraints) ≡ flat_map domains_of (variables low high n)
  domains_are printed none =
      let alone = rules_alone n letter constraints are in
      parts domains_of low high n printed constraints refl ∙ rw (none, alone.0) (append-nil (flat_map domains_of (variables low high n)))

  rules_are : (printed : List ModelLine) → flat_map rules_of printed ≡ [] → flat_map rules_of (all_lines low high n printed constraints) ≡ flat_map rules_of constraints
  rules_are printed none =
      let before = nothing_declared rules_of low high (range_with_len 1 n) (λ number. refl) in
      parts rules_of low high n printed constraints refl ∙ rw (before, none) refl

  outputs_are : (printed : List ModelLine) → flat_map (outputs_of letter) (all_lines low high n printed constraints) ≡ flat_map (outputs_of letter) printed
  outputs_are printed =
      let before = nothing_declared (outputs_of letter) low high (range_with_len 1 n) (λ number. refl) in
      let alone = rules_alone n letter constraints are in
      parts (outputs_of letter) low high n printed constraints refl ∙ rw (before, alone.1) (append-nil (flat_map (outputs_of letter) printed))

  problem_is : (printed : List ModelLine) → flat_map domains_of printed ≡ [] → flat_map rules_of printed ≡ []
      → problem_so_far (flat_map domains_of (variables low high n)) (flat_map rules_of constraints) (flat_map (outputs_of letter) printed) ≡ problem_of letter (all_lines low high n printed constraints)
  problem_is printed no_domains no_rules =
      let d = domains_are printed no_domains in
      let r = rules_are printed no_rules in
      let o = outputs_are printed in
      rw (d, r, o) refl

-- ---- the items of the lines

module _ (text letter : List ℕ) (low high n : ℕ) (constraints : List ModelLine) (are : AllByRecursion (IsConstraint n) constraints) (small : high ≤ 65536) (few : n ≤ 4096) (rules : length constraints ≤ 262144) (terms : sum_by size_of (flat_map rules_of constraints) ≤ 1048576) (domains : List (List ℤ)) where
  -- constraints and the solve item
  ended : (scope : Scope) (outputs : List Output) (items : List Item) → ((i : ℕ) → 1 ≤ i → i ≤ n → StandsFor scope (name letter i) i) → ((i : ℕ) → i < n → slice_index_or domains i [] ≡ numbers_between (pos low) (pos high))
      → AreSaid text letter (constraints ++ Solve ∷ []) items → (after_all text (so_far scope domains [] outputs false) items >>= finished) ≡ Ok (problem_so_far domains (flat_map rules_of constraints) outputs)
  ended scope outputs items there each says =
      let ruled = constraints_after text letter low high n small scope domains outputs there each constraints [] false items (Solve ∷ []) are (omega (arith, rules)) (omega (arith, terms)) says in
      ap (λ (r : Result SoFar Refusal). r >>= finished) ruled.reached ∙ last scope outputs ruled.constrained ruled.left ruled.said
    where
      last : (scope : Scope) (outputs : List Output) (c : Bool) (left : List Item) → AreSaid text letter (Solve ∷ []) left
          → (after_all text (so_far scope domains (flat_map rules_of constraints) outputs c) left >>= finished) ≡ Ok (problem_so_far domains (flat_map rules_of constraints) outputs)
      last scope outputs c [] says = absurd says
      last scope outputs c (i ∷ left) says =
          ap (λ (xs : List Item). after_all text (so_far scope domains (flat_map rules_of constraints) outputs c) (i ∷ xs) >>= finished) says.1
          ∙ solve_step text scope domains (flat_map rules_of constraints) outputs c i says.0

  -- with the array before them
  ended_printed : (scope : Scope) (items : List Item) → AreDeclared letter low high (width low high) n scope domains → AreSaid text letter (Print n ∷ (constraints ++ Solve ∷ [])) items
      → (after_all text (so_far scope domains [] [] false) items >>= finished) ≡ Ok (problem_so_far domains (flat_map rules_of constraints) (array_output letter n ∷ []))
  ended_printed scope [] so says = absurd says
  ended_printed scope (i ∷ items) so says =
      let entry : List ℕ × Declared = (letter, declared.Many false true (map variable (range_with_len 1 n))) in
      let step = array_step text scope domains n letter i says.0 (omega (arith, few)) so.free so.there in
      ap (λ (r : Result SoFar Refusal). r >>= finished) (after_one text (so_far scope domains [] [] false) (so_far (scope ++ entry ∷ []) domains [] (array_output letter n ∷ []) false) i items step)
      ∙ ended (scope ++ entry ∷ []) (array_output letter n ∷ []) items (λ j l r. declared-old scope (entry ∷ []) (name letter j) (declared.One false (variable j)) (so.there j l r)) so.each says.1

  -- or without
  ended_either : (scope : Scope) (printed : List ModelLine) (items : List Item) → (printed ≡ []) ⊎ (printed ≡ Print n ∷ []) → AreDeclared letter low high (width low high) n scope domains → AreSaid text letter (printed ++ (constraints ++ Solve ∷ [])) items
      → (after_all text (so_far scope domains [] [] false) items >>= finished) ≡ Ok (problem_so_far domains (flat_map rules_of constraints) (flat_map (outputs_of letter) printed))
  ended_either scope printed items (inl none) so says =
      let plain = subst (λ (ls : List ModelLine). AreSaid text letter (ls ++ (constraints ++ Solve ∷ [])) items) none says in
      ended scope [] items so.there so.each plain
      ∙ ap (λ (ls : List ModelLine). Ok (problem_so_far domains (flat_map rules_of constraints) (flat_map (outputs_of letter) ls))) (sym none)
  ended_either scope printed items (inr some) so says =
      let array = subst (λ (ls : List ModelLine). AreSaid text letter (ls ++ (constraints ++ Solve ∷ [])) items) some says in
      ended_printed scope items so array
      ∙ ap (λ (ls : List ModelLine). Ok (problem_so_far domains (flat_map rules_of constraints) (flat_map (outputs_of letter) ls))) (sym some)

-- the array adds neither domain nor rule
printed_adds : (n : ℕ) (printed : List ModelLine) → (printed ≡ []) ⊎ (printed ≡ Print n ∷ []) → (flat_map domains_of printed ≡ []) × (flat_map rules_of printed ≡ [])
printed_adds n printed (inl none) = (ap (λ (ls : List ModelLine). flat_map domains_of ls) none, ap (λ (ls : List ModelLine). flat_map rules_of ls) none)
printed_adds n printed (inr some) = (ap (λ (ls : List ModelLine). flat_map domains_of ls) some, ap (λ (ls : List ModelLine). flat_map rules_of ls) some)

pub lines_have_problem : LinesHaveProblem
unfolding resolved
lines_have_problem text letter low high n printed constraints items within says =
    let begun = variables_after text letter low high (width low high) n (length_between low high) within.values within.variables within.all_values (printed ++ (constraints ++ Solve ∷ [])) n 0 [] [] items (omega arith) (none_declared letter low high (width low high)) says in
    let none = printed_adds n printed within.array in
    ap (λ (r : Result SoFar Refusal). r >>= finished) begun.reached
    ∙ ended_either text letter low high n constraints within.constrained within.greatest within.variables within.rules within.terms (flat_map domains_of (variables low high n)) begun.last printed begun.left within.array begun.declared begun.said
    ∙ ap (λ (p : Contents). Ok p) (problem_is letter low high n constraints within.constrained printed none.0 none.1)

domains_listed : (low high : ℕ) (numbers : List ℕ) → flat_map domains_of (map (Declare low high) numbers) ≡ map (λ number. numbers_between (pos low) (pos high)) numbers
domains_listed low high [] = refl
domains_listed low high (number ∷ numbers) = ap (λ ds. numbers_between (pos low) (pos high) ∷ ds) (domains_listed low high numbers)

pub lines_say_problem : LinesSayProblem
lines_say_problem letter low high n printed constraints within =
    let none = printed_adds n printed within.array in
    sym (problem_is letter low high n constraints within.constrained printed none.0 none.1)
    ∙ ap (λ (ds : List (List ℤ)). problem_so_far ds (flat_map rules_of constraints) (flat_map (outputs_of letter) printed)) (domains_listed low high (range_with_len 1 n))
