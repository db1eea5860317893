-- What a whole search finds.
use Rattle.std.specs.Prelude.{◌≡◌, ℤ, List, [], ◌∷◌, Option, Some, None, IsSome, IsSomeAnd, IsTrue, IfSome, slice_get}
use Rattle.dcsp_defs.specs.Csp.{HasNoSolution}
use Rattle.dcsp_rule.specs.Problems.{csp_of}
use Rattle.dcsp_rule.specs.Aims.{aimed_at}
use Rattle.abt_defs.specs.declared.end.End.TheVariants.{Refuted}
use Rattle.abt_optimum.specs.declared.round.Round.{Round}
use Rattle.abt_optimum.specs.declared.best.BestEnd.{BestEnd}
use Rattle.abt_optimum.specs.declared.best.BestEnd.TheVariants.{Optimal, NoSolution, Open}
use Rattle.abt_optimum.specs.Best.{assigned, aim_value, Solves, IsBest}
use Rattle.abt_optimum.specs.Rounds.{is_open, last_round, known_at_first}
use Rattle.abt_optimum.specs.Searches.{SearchState}

-- the first round, where it was refuted
abbrev pub refuted_first : Round
refuted_first = record { known = known_at_first; better = None; end = Refuted }

-- the round was to better this value, and was refuted
pub record IsRefutedAt (bound : ℤ) (round : Round) : Type 0 where
  pub better : round.better ≡ Some bound
  pub end : round.end ≡ Refuted

-- the first round was refuted
abbrev pub BeginsRefuted : List Round → Type 0
BeginsRefuted rounds = IsSomeAnd (slice_get rounds 0) (λ (round : Round). round.end ≡ Refuted)

-- the last round is open: it was spent or capped
abbrev pub EndsCapped : List Round → Type 0
EndsCapped rounds = IsSomeAnd (last_round rounds) (λ (round : Round). IsTrue (is_open round.end))

-- the values of the last solved round are best; and where the aim is at a variable, the last round was to better their value and was refuted
pub record IsOptimal (s : SearchState) (values : List ℤ) : Type 0 where
  pub kept : s.values ≡ Some values
  pub best : IsBest s.problem values
  pub shown : IsSome (aimed_at s.problem.aim) → IsSomeAnd (last_round s.rounds) (IsRefutedAt (aim_value s.problem.aim (assigned values)))

-- the first round is the only one and was refuted, and there is no solution
pub record IsUnsolvable (s : SearchState) : Type 0 where
  pub rounds : s.rounds ≡ refuted_first ∷ []
  pub none : HasNoSolution (csp_of s.problem)

-- the last round is open; if a round before it was solved, these are the values of the last such one, and a solution
pub record IsCapped (s : SearchState) (values : Option (List ℤ)) : Type 0 where
  pub capped : EndsCapped s.rounds
  pub kept : s.values ≡ values
  pub solves : IfSome values (Solves s.problem)

-- what the end of a whole search says is so
abbrev pub IsBestEnd : SearchState → BestEnd → Type 0
IsBestEnd s (Optimal values) = IsOptimal s values
IsBestEnd s NoSolution = IsUnsolvable s
IsBestEnd s (Open values) = IsCapped s values
