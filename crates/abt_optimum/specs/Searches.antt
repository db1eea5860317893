-- Searches, as callers see them.
use Rattle.std.specs.Prelude.{◌≡◌, ◌≢◌, ℤ, Bool, List, Option, Some, IfSome, option_map}
use Rattle.dcsp_defs.specs.Csp.{HasNoSolution}
use Rattle.dcsp_rule.specs.declared.aim.Aim.{Aim}
use Rattle.dcsp_rule.specs.declared.aim.Aim.TheVariants.{Satisfy}
use Rattle.dcsp_rule.specs.Problems.{Contents, csp_of}
use Rattle.abt_defs.specs.declared.end.End.{End}
use Rattle.abt_defs.specs.declared.end.End.TheVariants.{Solved, Refuted, Spent, Capped}
use Rattle.abt_optimum.specs.declared.round.Round.{Round}
use Rattle.abt_optimum.specs.Best.{assigned, aim_value, Solves, HasNoBetter}
use Rattle.abt_optimum.specs.Rounds.{last_round, known_of, best_value, better_than, round_problem, AreRounds}

-- a search: the whole problem, whether it goes by halves, the rounds that have ended, and the values of the last one that was solved
pub record SearchState : Type 0 where
  pub problem : Contents
  pub halves : Bool
  pub rounds : List Round
  pub values : Option (List ℤ)

-- a round of the problem ends rightly so: the values that it was solved with are a solution, and it was refuted only where there is none
abbrev pub EndsRightly : Contents → End (List ℤ) → Type 0
EndsRightly p (Solved values) = Solves p values
EndsRightly p Refuted = HasNoSolution (csp_of p)
EndsRightly p Spent = Unit {0}
EndsRightly p Capped = Unit {0}

-- the end, with the value at the aim in place of all values
abbrev pub end_at : Aim → End (List ℤ) → End ℤ
end_at aim (Solved values) = Solved (aim_value aim (assigned values))
end_at aim Refuted = Refuted
end_at aim Spent = Spent
end_at aim Capped = Capped

-- the value that the next round is to better; none for the first
abbrev pub next_better : SearchState → Option ℤ
next_better s = better_than s.problem s.halves (known_of s.rounds)

-- the next round, which ended so
abbrev pub round_after : SearchState → End (List ℤ) → Round
round_after s end = record { known = known_of s.rounds; better = next_better s; end = end_at s.problem.aim end }

-- the values of the last solved round, after one that ended so
abbrev pub values_after : Option (List ℤ) → End (List ℤ) → Option (List ℤ)
values_after old (Solved values) = Some values
values_after old Refuted = old
values_after old Spent = old
values_after old Capped = old

-- What every search is: its rounds are those of a search; its values are a solution of the whole problem, with the value at the aim that is the best known; a last round that was refuted had no solution; and excluded values are taken in no solution.
pub record IsSearch (s : SearchState) : Type 0 where
  pub aimed : s.problem.aim ≢ Satisfy
  pub rounds : AreRounds s.halves s.problem s.rounds
  pub solves : IfSome s.values (Solves s.problem)
  pub value : option_map (λ values. aim_value s.problem.aim (assigned values)) s.values ≡ best_value s.rounds
  pub refuted : (round : Round) → last_round s.rounds ≡ Some round → round.end ≡ Refuted → HasNoSolution (csp_of (round_problem s.problem round.better))
  pub excluded : IfSome (known_of s.rounds).limit (HasNoBetter s.problem)
