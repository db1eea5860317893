-- What a random binary problem is: constraints on as many pairs of variables as are wanted, each of which forbids as many pairs of values.
use Rattle.std.specs.Prelude.{◌≡◌, ℕ, ◌-◌, ◌==◌, ◌<◌, ◌≤◌, pos, not, count_by, if◌then◌else◌, List, [], ◌∷◌, length, codes}
use Rattle.std.specs.List.{AllByRecursion}
use Rattle.dcsp_gen.specs.Binary.{value_pairs}
use Rattle.dcsp_defs.specs.Words.{In}
use Rattle.dcsp_defs.specs.Csp.{Assignment}
use Rattle.dcsp_rule.specs.declared.rule.Rule.{Rule}
use Rattle.dcsp_rule.specs.Rules.{rule_truth, variables_of}
use Rattle.dcsp_rule.specs.Problems.{Contents}
use Rattle.law_subjects.specs.Lines.{binary}
use Rattle.law_subjects.specs.Problems.{problem_of}
use Rattle.law_subjects.specs.Generated.{BinarySizesFit}

-- no item stands twice
abbrev pub AreApart : {X : Type 0} → List X → Type 0
AreApart [] = Unit {0}
AreApart (x ∷ xs) = (In x xs → ⊥) × AreApart xs

-- the variables of an edge, counted from 0, which have the values of a pair
abbrev pub set_to : ℕ × ℕ → ℕ × ℕ → Assignment
set_to edge pair k = if k == edge.0 - 1 then pos pair.0 else pos pair.1

-- the rule is about the two variables of the edge, and false at exactly so many of the pairs of d values
pub record IsTight (d forbidden : ℕ) (edge : ℕ × ℕ) (rule : Rule) : Type 0 where
  pub about : variables_of rule ≡ (edge.0 - 1) ∷ (edge.1 - 1) ∷ []
  pub false_at : count_by (λ pair. not (rule_truth rule (set_to edge pair))) (value_pairs d) ≡ forbidden

-- one such rule for each edge, in order
abbrev pub AreTight : ℕ → ℕ → List (ℕ × ℕ) → List Rule → Type 0
AreTight d forbidden [] rules = rules ≡ []
AreTight d forbidden (edge ∷ edges) [] = ⊥
AreTight d forbidden (edge ∷ edges) (rule ∷ rules) = IsTight d forbidden edge rule × AreTight d forbidden edges rules

-- two different variables of n, counted from 1, the lesser first
abbrev pub IsEdge : ℕ → ℕ × ℕ → Type 0
IsEdge n edge = (1 ≤ edge.0) × (edge.0 < edge.1) × (edge.1 ≤ n)

-- a graph of so many edges, none of which stands twice, with one rule for each that forbids so many pairs of values
pub record IsRandomBinary (n d edges forbidden : ℕ) (problem : Contents) : Type 0 where
  pub graph : List (ℕ × ℕ)
  pub many : length graph ≡ edges
  pub variables : AllByRecursion (IsEdge n) graph
  pub apart : AreApart graph
  pub tight : AreTight d forbidden graph problem.rules

-- The problem of each text of `gen binary` is one.
abbrev pub BinaryIsRandom : Type 0
BinaryIsRandom = (n d edges forbidden : ℕ) (words : ℕ → ℕ) → BinarySizesFit n d edges forbidden
    → IsRandomBinary n d edges forbidden (problem_of (codes "x") (binary n d edges forbidden words))
