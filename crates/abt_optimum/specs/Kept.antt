-- What the code of a search keeps.
use Rattle.std.specs.Prelude.{◌≤◌, ℕ, ℤ, Bool, true, false, List, length, Option, Some, None}
use Rattle.dcsp_domain.specs.Sets.{IsRising}
use Rattle.dcsp_rule.specs.declared.aim.Aim.{Aim}
use Rattle.dcsp_rule.specs.Rules.{IsAimOf}
use Rattle.dcsp_rule.specs.Problems.{Contents}
use Rattle.abt_optimum.specs.declared.round.Round.{Round}
use Rattle.abt_defs.specs.declared.end.End.{End}
use Rattle.abt_defs.specs.declared.end.End.TheVariants.{Solved, Refuted, Spent, Capped}
use Rattle.abt_optimum.specs.declared.best.BestEnd.{BestEnd}
use Rattle.abt_optimum.specs.declared.best.BestEnd.TheVariants.{Optimal, NoSolution, Open}
use Rattle.abt_optimum.specs.Rounds.{aim_values, most_rounds}
use Rattle.abt_optimum.specs.Searches.{SearchState, IsSearch}

-- the search with these parts
abbrev pub shown : Contents → Bool → List Round → Option (List ℤ) → SearchState
shown problem halves rounds values = record { problem = problem; halves = halves; rounds = rounds; values = values }

-- it is a search whose aim can be told, the values that this may have rise, and there is room for all rounds that there may be
pub record IsKept (capacity : ℕ) (s : SearchState) : Type 0 where
  pub search : IsSearch s
  pub aim : IsAimOf (length s.problem.domains) s.problem.aim
  pub rising : IsRising (aim_values s.problem)
  pub room : most_rounds s.problem ≤ capacity

-- the values of a solved round tell what is aimed at
abbrev pub TellsAim : Aim → End (List ℤ) → Type 0
TellsAim aim (Solved values) = IsAimOf (length values) aim
TellsAim aim Refuted = Unit {0}
TellsAim aim Spent = Unit {0}
TellsAim aim Capped = Unit {0}

-- the end that is told, where the last round is open or not, and with the values of the last solved round
abbrev pub end_of : Bool → Option (List ℤ) → BestEnd
end_of true values = Open values
end_of false (Some values) = Optimal values
end_of false None = NoSolution
