-- The clauses of a problem, and what satisfies them.
use Rattle.std.specs.Prelude.{◌≡◌, ◌↔◌, ℕ, ◌-◌, ℤ, neg_ℤ, Bool, true, List, map}
use Rattle.dcsp_meaning.specs.Words.{is_one}
use Rattle.dcsp_defs.specs.Csp.{Assignment, IsSolution}
use Rattle.dcsp_defs.specs.declared.Step.{Step}
use Rattle.dcsp_defs.specs.Derivation.{IsRefutation}
use Rattle.dcsp_rule.specs.declared.rule.Rule.{Rule}
use Rattle.dcsp_rule.specs.Rules.{rule_truth}
use Rattle.dcsp_rule.specs.Problems.{Contents, csp_of}
use Rattle.dcsp_problem.specs.WellFormed.{IsProblem}
use Rattle.rup_check.specs.Literals.{is_true}
use Rattle.rup_check.specs.Propagation.{IsAccepted, Satisfies, SatisfiesAll}
use Rattle.cnf_front.specs.Clauses.{clause_of, rule_clause, IsClauseRule}
use Rattle.abt_input.specs.Inputs.{IsFormulaOf}

-- the clauses of the problem's rules
abbrev pub clauses_of : Contents → List (List ℤ)
clauses_of p = map rule_clause p.rules

-- the clause of a step: its nogood does not hold
abbrev pub step_clause : Step → List ℤ
step_clause step = clause_of step.nogood

-- which variables are 1; clauses count them from 1
abbrev pub truths : Assignment → ℕ → Bool
truths values number = is_one (values (number - 1))

-- these values satisfy the problem's clauses
abbrev pub SatisfyClauses : Contents → Assignment → Type 0
SatisfyClauses p values = SatisfiesAll (is_true (truths values)) (clauses_of p)

-- Each rule that is a clause is true exactly where its clause has a true literal.
abbrev pub RulesAreClauses : Type 0
RulesAreClauses =
    (rule : Rule) (values : Assignment) → IsClauseRule rule → (rule_truth rule values ≡ true) ↔ Satisfies (is_true (truths values)) (rule_clause rule)

-- A solution of a formula's problem satisfies each of its clauses.
abbrev pub SolutionsSatisfy : Type 0
SolutionsSatisfy = (text : List ℕ) (problem : Contents) → IsFormulaOf text problem → (values : Assignment) → IsSolution (csp_of problem) values → SatisfyClauses problem values

-- The clauses of the steps of a refutation of a formula's problem are a proof that is accepted.
abbrev pub RefutationsAreProofs : Type 0
RefutationsAreProofs = (text : List ℕ) (problem : Contents) → IsFormulaOf text problem → IsProblem problem → (steps : List Step) → IsRefutation (csp_of problem) steps → IsAccepted neg_ℤ (clauses_of problem) (map step_clause steps)
