-- The problem of the lines of a generated problem: what each line adds to it.
use Rattle.std.specs.Prelude.{◌≡◌, ℕ, suc, ◌-◌, ◌*◌, ◌^◌, ◌≤◌, ◌<◌, ◌⊎◌, ℤ, pos, neg_ℤ, false, List, [], ◌∷◌, ◌++◌, length, map, flat_map, sum_by, None, Ok}
use Rattle.std.specs.List.{range_with_len, AllByRecursion}
use Rattle.dcsp_common.specs.Limits.{most}
use Rattle.dcsp_common.specs.declared.limits.Which.TheVariants.{Variables}
use Rattle.dcsp_domain.specs.Ranges.{numbers_between}
use Rattle.dcsp_meaning.specs.declared.kinds.ConstraintKind.TheVariants.{IntNe, FznTableInt}
use Rattle.dcsp_meaning.specs.declared.linear.Rel.TheVariants as rel
use Rattle.dcsp_rule.specs.declared.rule.Term.{Term}
use Rattle.dcsp_rule.specs.declared.rule.Term.TheVariants.{Const, Var}
use Rattle.dcsp_rule.specs.declared.rule.Members.TheVariants.{Listed}
use Rattle.dcsp_rule.specs.declared.rule.Rule.{Rule}
use Rattle.dcsp_rule.specs.declared.rule.Rule.TheVariants.{Plain, Sum}
use Rattle.dcsp_rule.specs.declared.output.Output.{Output}
use Rattle.dcsp_rule.specs.declared.output.Shape.TheVariants.{Ranges}
use Rattle.dcsp_rule.specs.declared.aim.Aim.TheVariants.{Satisfy}
use Rattle.dcsp_rule.specs.Problems.{Contents}
use Rattle.dcsp_rule.specs.Rules.{size_of}
use Rattle.fzn_item.specs.declared.item.Item.{Item}
use Rattle.fzn_model.specs.Items.{resolved}
use Rattle.law_subjects.specs.Lines.{ModelLine, Declare, Print, Differ, Above, Below, Table, Solve, variables}
use Rattle.law_subjects.specs.Says.{AreSaid, entries_of}

-- the variable with this number, counted from 1 in lines and from 0 in a problem
abbrev pub variable : ℕ → Term
variable number = Var (number - 1)

-- two variables have different values
abbrev pub differ_rule : ℕ → ℕ → Rule
differ_rule first second = Plain IntNe (variable first ∷ variable second ∷ []) [] [] (Listed [])

-- the first value less the second is not the difference
abbrev pub differ_not_by_rule : ℕ → ℕ → ℤ → Rule
differ_not_by_rule first second difference =
    Sum rel.Differ (pos 1 ∷ neg_ℤ (pos 1) ∷ []) (variable first ∷ variable second ∷ []) (Const difference) None

-- the values of two variables are one of the rows
abbrev pub table_rule : ℕ → ℕ → List (ℕ × ℕ) → Rule
table_rule first second rows = Plain FznTableInt [] (variable first ∷ variable second ∷ []) (map (λ entry. Const (pos entry)) (entries_of rows)) (Listed [])

-- the domain that a line adds, if it declares a variable
abbrev pub domains_of : ModelLine → List (List ℤ)
domains_of (Declare low high number) = numbers_between (pos low) (pos high) ∷ []
domains_of (Print count) = []
domains_of (Differ first second) = []
domains_of (Above first second distance) = []
domains_of (Below first second distance) = []
domains_of (Table first second rows) = []
domains_of Solve = []

-- the rule that a line adds, if it states a constraint
abbrev pub rules_of : ModelLine → List Rule
rules_of (Declare low high number) = []
rules_of (Print count) = []
rules_of (Differ first second) = differ_rule first second ∷ []
rules_of (Above first second distance) = differ_not_by_rule first second (pos distance) ∷ []
rules_of (Below first second distance) = differ_not_by_rule first second (neg_ℤ (pos distance)) ∷ []
rules_of (Table first second rows) = table_rule first second rows ∷ []
rules_of Solve = []

-- the values of the variables 1 to count as an array called by the letter
abbrev pub array_output : List ℕ → ℕ → Output
array_output letter count = record { name = letter; boolean = false; shape = Ranges ((pos 1, pos count) ∷ []); terms = map variable (range_with_len 1 count) }

-- what a solution prints for a line, if for anything
abbrev pub outputs_of : List ℕ → ModelLine → List Output
outputs_of letter (Declare low high number) = []
outputs_of letter (Print count) = array_output letter count ∷ []
outputs_of letter (Differ first second) = []
outputs_of letter (Above first second distance) = []
outputs_of letter (Below first second distance) = []
outputs_of letter (Table first second rows) = []
outputs_of letter Solve = []

-- the problem of lines, whose variables are called by the letter
abbrev pub problem_of : List ℕ → List ModelLine → Contents
problem_of letter lines =
    record { domains = flat_map domains_of lines; rules = flat_map rules_of lines; outputs = flat_map (outputs_of letter) lines; aim = Satisfy }

-- the numbers name two of so many variables
abbrev pub AreAmong : ℕ → ℕ → ℕ → Type 0
AreAmong count first second = (1 ≤ first) × (first ≤ count) × (1 ≤ second) × (second ≤ count)

-- the line states a constraint on two of so many variables, with a distance below 2^32 or at most 2^15 rows
abbrev pub IsConstraint : ℕ → ModelLine → Type 0
IsConstraint count (Declare low high number) = ⊥
IsConstraint count (Print n) = ⊥
IsConstraint count (Differ first second) = AreAmong count first second
IsConstraint count (Above first second distance) = AreAmong count first second × (distance < 2 ^ 32)
IsConstraint count (Below first second distance) = AreAmong count first second × (distance < 2 ^ 32)
IsConstraint count (Table first second rows) = AreAmong count first second × (length rows ≤ 2 ^ 15)
IsConstraint count Solve = ⊥

-- how many values there are from low to high
abbrev pub width : ℕ → ℕ → ℕ
width low high = suc high - low

-- the lines of a problem: count variables from low to high; their array or nothing; constraints on them; and the request for any solution
abbrev pub all_lines : ℕ → ℕ → ℕ → List ModelLine → List ModelLine → List ModelLine
all_lines low high count printed constraints = variables low high count ++ (printed ++ (constraints ++ Solve ∷ []))

-- such lines that are within the limits of a problem
pub record AreWithin (low high count : ℕ) (printed constraints : List ModelLine) : Type 0 where
  pub array : (printed ≡ []) ⊎ (printed ≡ Print count ∷ [])
  pub constrained : AllByRecursion (IsConstraint count) constraints
  pub variables : count ≤ most Variables
  pub greatest : high ≤ 65536
  pub values : width low high ≤ 65536
  pub all_values : count * width low high ≤ 1048576
  pub rules : length constraints ≤ 262144
  pub terms : sum_by size_of (flat_map rules_of constraints) ≤ 1048576

-- such lines say count domains, the constraints' rules, and the array where there is one
abbrev pub LinesSayProblem : Type 0
LinesSayProblem = (letter : List ℕ) (low high count : ℕ) (printed constraints : List ModelLine) → AreWithin low high count printed constraints
    → problem_of letter (all_lines low high count printed constraints) ≡ record {
      domains = map (λ number. numbers_between (pos low) (pos high)) (range_with_len 1 count);
      rules = flat_map rules_of constraints;
      outputs = flat_map (outputs_of letter) printed;
      aim = Satisfy;
    }

-- Items that say such lines have the problem of these lines.
abbrev pub LinesHaveProblem : Type 0
LinesHaveProblem = (text letter : List ℕ) (low high count : ℕ) (printed constraints : List ModelLine) (items : List Item)
    → AreWithin low high count printed constraints → AreSaid text letter (all_lines low high count printed constraints) items
    → resolved text items ≡ Ok (problem_of letter (all_lines low high count printed constraints))
