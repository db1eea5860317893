-- Items that state constraints, one after another.
use Rattle.std.proofs.Common.{◌≡◌, ℕ, zero, suc, ◌+◌, ◌-◌, ◌<◌, ◌≤◌, ◌^◌, Bool, true, List, [], ◌∷◌, ◌++◌, flat_map, map, length, sum_by, None, Ok, refl, sym, ap, ◌∙◌, append_assoc, append-nil, length-append, arith}
use Rattle.std.specs.Prelude.{ℤ, pos, neg_ℤ, unsigned_abs, slice_index_or}
use Rattle.std.specs.List.{AllByRecursion}
use Rattle.std.proofs.lemmas.List.Sums.{sum_by-append}
use Rattle.fzn_item.specs.declared.item.Item.{Item}
use Rattle.dcsp_domain.specs.Ranges.{numbers_between}
use Rattle.dcsp_meaning.specs.declared.linear.TheConstants.{WIDEST}
use Rattle.dcsp_common.specs.declared.limits.Which.TheVariants.{Rules, Terms, Elements}
use Rattle.dcsp_rule.specs.declared.rule.Term.{Term}
use Rattle.dcsp_rule.specs.declared.rule.Term.TheVariants.{Const}
use Rattle.dcsp_rule.specs.declared.rule.Rule.{Rule}
use Rattle.dcsp_rule.specs.declared.output.Output.{Output}
use Rattle.dcsp_problem.specs.Limits.{rule_refusal}
use Rattle.dcsp_rule.specs.Rules.{size_of}
use Rattle.dcsp_rule.specs.Widths.{greatest_among, greatest_of, rule_width}
use Rattle.dcsp_problem.proofs.Counts.{past_later}
use Rattle.dcsp_gen.specs.Lines.{name}
use Rattle.fzn_scope.specs.Names.{Scope}
use Rattle.fzn_model.specs.Items.{after, after_all}
use Rattle.law_subjects.specs.Lines.{ModelLine, Declare, Print, Differ, Above, Below, Table, Solve}
use Rattle.law_subjects.specs.Says.{Says, AreSaid, entries_of}
use Rattle.law_subjects.specs.Problems.{variable, differ_rule, differ_not_by_rule, table_rule, rules_of, AreAmong, IsConstraint}
use Rattle.law_subjects.proofs.Limits.{free_rule, greatest_between}
use Rattle.law_subjects.proofs.Steps.{so_far, problem_so_far, StandsFor, after_one, differ_step, differ_not_by_step, table_step, many_entries}

-- a negated distance is as wide
negated_size : (d : ℕ) → unsigned_abs (neg_ℤ (pos d)) ≡ d
negated_size zero = refl
negated_size (suc d) = refl

-- a constraint is one rule
one_rule : (n : ℕ) (line : ModelLine) → IsConstraint n line → length (rules_of line) ≡ 1
one_rule n (Declare low high number) h = absurd h
one_rule n (Print count) h = absurd h
one_rule n (Differ first second) h = refl
one_rule n (Above first second distance) h = refl
one_rule n (Below first second distance) h = refl
one_rule n (Table first second rows) h = refl
one_rule n Solve h = absurd h

-- what items leave that state these constraints, and then say the rest
pub record AfterConstraints (text letter : List ℕ) (scope : Scope) (domains : List (List ℤ)) (outputs : List Output) (rules : List Rule) (c : Bool) (lines rest : List ModelLine) (items : List Item) : Type 0 where
  pub left : List Item
  pub constrained : Bool
  pub said : AreSaid text letter rest left
  pub reached : after_all text (so_far scope domains rules outputs c) items ≡ after_all text (so_far scope domains (rules ++ flat_map rules_of lines) outputs constrained) left

module _ (text letter : List ℕ) (low high n : ℕ) (small : high ≤ 65536) (scope : Scope) (domains : List (List ℤ)) (outputs : List Output)
    (there : (i : ℕ) → 1 ≤ i → i ≤ n → StandsFor scope (name letter i) i)
    (each : (i : ℕ) → i < n → slice_index_or domains i [] ≡ numbers_between (pos low) (pos high)) where
  -- a variable's values are not wide
  narrow_variable : (a : ℕ) → 1 ≤ a → a ≤ n → greatest_of domains (variable a) ≤ 65536
  narrow_variable a l r =
      let is : slice_index_or domains (a - 1) [] ≡ numbers_between (pos low) (pos high) = each (a - 1) (omega (arith, l, r)) in
      let bound = greatest_between low high in
      let same : greatest_of domains (variable a) ≡ greatest_among (numbers_between (pos low) (pos high)) = ap greatest_among is in
      omega (arith, same, bound, small)

  -- nor is a sum of two
  narrow_sum : (a b : ℕ) (difference : ℤ) → AreAmong n a b → unsigned_abs difference ≤ 2 ^ 32 → rule_width domains (differ_not_by_rule a b difference) ≤ WIDEST
  narrow_sum a b difference h close =
      let first = narrow_variable a h.0 h.1 in
      let second = narrow_variable b h.2 h.3 in
      omega (arith, first, second, close)

  module _ (rules : List Rule) (few : length rules + 1 ≤ 262144) where
    free_differ : (a b : ℕ) → sum_by size_of rules + 2 ≤ 1048576 → rule_refusal (problem_so_far domains rules outputs) (differ_rule a b) ≡ None
    free_differ a b sizes =
        free_rule (problem_so_far domains rules outputs) (differ_rule a b) (omega arith) (
        past_later Rules (length rules + 1) ((Terms, sum_by size_of rules + 2) ∷ []) few ∙ past_later Terms (sum_by size_of rules + 2) [] sizes)

    free_differ_not_by : (a b : ℕ) (difference : ℤ) → AreAmong n a b → unsigned_abs difference ≤ 2 ^ 32 → sum_by size_of rules + 3 ≤ 1048576 → rule_refusal (problem_so_far domains rules outputs) (differ_not_by_rule a b difference) ≡ None
    free_differ_not_by a b difference h close sizes =
        free_rule (problem_so_far domains rules outputs) (differ_not_by_rule a b difference) (narrow_sum a b difference h close) (
        past_later Rules (length rules + 1) ((Terms, sum_by size_of rules + 3) ∷ []) few ∙ past_later Terms (sum_by size_of rules + 3) [] sizes)

    free_table : (a b : ℕ) (rows : List (ℕ × ℕ)) → length rows ≤ 2 ^ 15 → sum_by size_of rules + size_of (table_rule a b rows) ≤ 1048576 → rule_refusal (problem_so_far domains rules outputs) (table_rule a b rows) ≡ None
    free_table a b rows short sizes =
        let many = many_entries rows in
        let entries = length (map {B = Term} (λ entry. Const (pos entry)) (entries_of rows)) in
        let terms = sum_by size_of rules + size_of (table_rule a b rows) in
        free_rule (problem_so_far domains rules outputs) (table_rule a b rows) (omega arith) (
        past_later Elements entries ((Rules, length rules + 1) ∷ (Terms, terms) ∷ []) (omega (arith, many, short))
        ∙ past_later Rules (length rules + 1) ((Terms, terms) ∷ []) few ∙ past_later Terms terms [] sizes)

    -- one constraint more
    constraint_step : (c : Bool) (line : ModelLine) (i : Item) → IsConstraint n line → sum_by size_of rules + sum_by size_of (rules_of line) ≤ 1048576 → Says text letter line i
        → after text (so_far scope domains rules outputs c) i ≡ Ok (so_far scope domains (rules ++ rules_of line) outputs true)
    constraint_step c (Declare least most number) i h sizes says = absurd h
    constraint_step c (Print count) i h sizes says = absurd h
    constraint_step c (Differ first second) i h sizes says =
        differ_step text scope domains rules outputs c first second (name letter first) (name letter second) i says (there first h.0 h.1) (there second h.2 h.3) (free_differ first second (omega (arith, sizes)))
    constraint_step c (Above first second distance) i h sizes says =
        differ_not_by_step text scope domains rules outputs c first second (pos distance) (name letter first) (name letter second) i says (there first h.0.0 h.0.1) (there second h.0.2 h.0.3)
        (free_differ_not_by first second (pos distance) h.0 (let near = h.1 in omega (arith, near)) (omega (arith, sizes)))
    constraint_step c (Below first second distance) i h sizes says =
        differ_not_by_step text scope domains rules outputs c first second (neg_ℤ (pos distance)) (name letter first) (name letter second) i says (there first h.0.0 h.0.1) (there second h.0.2 h.0.3)
        (free_differ_not_by first second (neg_ℤ (pos distance)) h.0 (let near = h.1 in let size = negated_size distance in omega (arith, near, size)) (omega (arith, sizes)))
    constraint_step c (Table first second rows) i h sizes says =
        table_step text scope domains rules outputs c first second rows (name letter first) (name letter second) i says (there first h.0.0 h.0.1) (there second h.0.2 h.0.3)
        (free_table first second rows h.1 (omega (arith, sizes)))
    constraint_step c Solve i h sizes says = absurd h

  pub constraints_after : (lines : List ModelLine) (rules : List Rule) (c : Bool) (items : List Item) (rest : List ModelLine) → AllByRecursion (IsConstraint n) lines → length rules + length lines ≤ 262144 → sum_by size_of rules + sum_by size_of (flat_map rules_of lines) ≤ 1048576
      → AreSaid text letter (lines ++ rest) items → AfterConstraints text letter scope domains outputs rules c lines rest items
  constraints_after [] rules c items rest each_is few sizes says = record {
    left = items;
    constrained = c;
    said = says;
    reached = ap (λ (rs : List Rule). after_all text (so_far scope domains rs outputs c) items) (sym (append-nil rules));
  }
  constraints_after (line ∷ lines) rules c [] rest each_is few sizes says = absurd says
  constraints_after (line ∷ lines) rules c (i ∷ items) rest each_is few sizes says =
      let split : sum_by size_of (rules_of line ++ flat_map rules_of lines) ≡ sum_by size_of (rules_of line) + sum_by size_of (flat_map rules_of lines) = sum_by-append size_of (rules_of line) (flat_map rules_of lines) in
      let step = constraint_step rules (omega (arith, few)) c line i each_is.0 (omega (arith, sizes, split)) says.0 in
      let single = one_rule n line each_is.0 in
      let more : length (rules ++ rules_of line) ≡ length rules + length (rules_of line) = length-append rules (rules_of line) in
      let sum : sum_by size_of (rules ++ rules_of line) ≡ sum_by size_of rules + sum_by size_of (rules_of line) = sum_by-append size_of rules (rules_of line) in
      let next = constraints_after lines (rules ++ rules_of line) true items rest each_is.1 (omega (arith, few, more, single)) (omega (arith, sizes, split, sum)) says.1 in
      record {
        left = next.left;
        constrained = next.constrained;
        said = next.said;
        reached =
            after_one text (so_far scope domains rules outputs c) (so_far scope domains (rules ++ rules_of line) outputs true) i items step
            ∙ next.reached
            ∙ ap (λ (rs : List Rule). after_all text (so_far scope domains rs outputs next.constrained) next.left) (append_assoc rules (rules_of line) (flat_map rules_of lines));
      }
