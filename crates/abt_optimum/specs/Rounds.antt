-- The rounds of a search for the best value: each round after the first is to find a better value than the best one found before it, by halves one of the better half of those that may be.
use Rattle.std.specs.Prelude.{◌≡◌, ℕ, ◌+◌, ◌-◌, ◌^◌, ◌<◌, ◌≤◌, ◌||◌, not, ℤ, pos, Bool, true, false, is_none, List, [], length, take, slice_get, Option, Some, None, option_map}
use Rattle.std.specs.Option.{option_map_or}
use Rattle.dcsp_defs.specs.Words.{In}
use Rattle.dcsp_defs.specs.Csp.{domain}
use Rattle.dcsp_rule.specs.declared.rule.Term.{Term}
use Rattle.dcsp_rule.specs.declared.rule.Term.TheVariants.{Const, Var}
use Rattle.dcsp_rule.specs.declared.aim.Aim.{Aim}
use Rattle.dcsp_rule.specs.declared.aim.Aim.TheVariants.{Satisfy, Least, Greatest}
use Rattle.dcsp_rule.specs.Problems.{Contents, csp_of}
use Rattle.dcsp_rule.specs.Aims.{aimed_at, is_better, narrowed}
use Rattle.abt_defs.specs.declared.end.End.{End}
use Rattle.abt_defs.specs.declared.end.End.TheVariants.{Solved, Refuted, Spent, Capped}
use Rattle.abt_optimum.specs.declared.round.Known.{Known}
use Rattle.abt_optimum.specs.declared.round.Round.{Round}
use Rattle.abt_optimum.specs.Halves.{next_value}

-- the last of the rounds
abbrev pub last_round : List Round → Option Round
last_round rounds = slice_get rounds (length rounds - 1)

-- whether a round that ended so was stopped before it was known whether its problem has a solution: it was spent or capped
abbrev pub is_open : {V : Type 0} → End V → Bool
is_open (Solved value) = false
is_open Refuted = false
is_open Spent = true
is_open Capped = true

-- ---- what is known

-- before the first round: no value was found, and none is excluded
abbrev pub known_at_first : Known
known_at_first = record { best = None; limit = None }

-- after a round that was to better this value and ended so: a solved one found a better value, and where one was refuted all values better than its bound are excluded
abbrev pub known_after : Known → Option ℤ → End ℤ → Known
known_after known better (Solved value) = record known { best = Some value }
known_after known better Refuted = record known { limit = better }
known_after known better Spent = known
known_after known better Capped = known

-- after these rounds
abbrev pub known_of : List Round → Known
known_of rounds = option_map_or (λ (round : Round). known_after round.known round.better round.end) (last_round rounds) known_at_first

-- the value of the last round that was solved, if one was
abbrev pub best_value : List Round → Option ℤ
best_value rounds = (known_of rounds).best

-- ---- which round follows

-- the values that what is aimed at may have; none where the aim is at no variable
abbrev pub aim_values_at : Option ℕ → Contents → List ℤ
aim_values_at None p = []
aim_values_at (Some var) p = domain (csp_of p) var

abbrev pub aim_values : Contents → List ℤ
aim_values p = aim_values_at (aimed_at p.aim) p

-- the value that the next round is to better, by halves or not, where this is known; none for the first round
abbrev pub better_than : Contents → Bool → Known → Option ℤ
better_than p halves known = option_map (λ best. next_value halves p.aim (aim_values p) best known.limit) known.best

-- whether a round was to better a value that is itself better than the best one found
abbrev pub is_beyond : Aim → Option ℤ → Option ℤ → Bool
is_beyond aim None better = false
is_beyond aim (Some best) None = false
is_beyond aim (Some best) (Some better) = is_better aim best better

-- whether a round that ended so is the last one: it is open, or was refuted and to better the best value found, or the aim is at no variable
abbrev pub ends_search : Aim → Option ℤ → Option ℤ → End ℤ → Bool
ends_search aim best better (Solved value) = is_none (aimed_at aim)
ends_search aim best better Refuted = not (is_beyond aim best better) || is_none (aimed_at aim)
ends_search aim best better Spent = true
ends_search aim best better Capped = true

abbrev pub is_last : Aim → Round → Bool
is_last aim round = ends_search aim round.known.best round.better round.end

-- whether these rounds are the whole search
abbrev pub is_done : Aim → List Round → Bool
is_done aim rounds = option_map_or (is_last aim) (last_round rounds) false

-- the problem of a round: the whole one, narrowed to what is better than this value, if there is one
abbrev pub round_problem : Contents → Option ℤ → Contents
round_problem p None = p
round_problem p (Some value) = narrowed p value

-- a value that the term may have: the constant itself, or one of the variable's domain
abbrev pub IsValueOf : Contents → Term → ℤ → Type 0
IsValueOf p (Const constant) value = value ≡ constant
IsValueOf p (Var var) value = In value (domain (csp_of p) var)

-- the same of what is aimed at; where any solution is wanted it is 0
abbrev pub IsAimValue : Contents → Aim → ℤ → Type 0
IsAimValue p Satisfy value = value ≡ pos 0
IsAimValue p (Least term) value = IsValueOf p term value
IsAimValue p (Greatest term) value = IsValueOf p term value

-- the value is not excluded, where all that are better than a limit are
abbrev pub IsAllowed : Aim → Option ℤ → ℤ → Type 0
IsAllowed aim None value = Unit {0}
IsAllowed aim (Some limit) value = is_better aim limit value ≡ false

-- a round of the problem may end so: where it is solved, with a value that what is aimed at may have and that is not excluded
abbrev pub MayEnd : Contents → Option ℤ → End ℤ → Type 0
MayEnd p limit (Solved value) = IsAimValue p p.aim value × IsAllowed p.aim limit value
MayEnd p limit Refuted = Unit {0}
MayEnd p limit Spent = Unit {0}
MayEnd p limit Capped = Unit {0}

-- the round may come after these: they are not the whole search, it began with what they found and was to better the value that follows from that, and it ended as it may
pub record Follows (halves : Bool) (p : Contents) (before : List Round) (round : Round) : Type 0 where
  pub goes_on : is_done p.aim before ≡ false
  pub known : round.known ≡ known_of before
  pub better : round.better ≡ better_than p halves (known_of before)
  pub end : MayEnd (round_problem p round.better) (known_of before).limit round.end

-- the rounds of a search, by halves or not, whole or not: each one may come after those before it
abbrev pub AreRounds : Bool → Contents → List Round → Type 0
AreRounds halves p rounds = (k : ℕ) (round : Round) → slice_get rounds k ≡ Some round → Follows halves p (take k rounds) round

-- ---- how many there are, and how they improve

-- how many rounds there may be where the aim is at this variable, or at none
abbrev pub most_rounds_at : Option ℕ → Contents → ℕ
most_rounds_at None p = 1
most_rounds_at (Some var) p = length (domain (csp_of p) var) + 1

-- how many rounds there may be: one more than the aim's variable has values, or one where it is at none
abbrev pub most_rounds : Contents → ℕ
most_rounds p = most_rounds_at (aimed_at p.aim) p

-- So many rounds are few by halves: at most two more than the binary logarithm, rounded up, of how many values the aim's variable has. For where there are r + 3 of them it has more than 2 ^ r values.
abbrev pub AreFewByHalves : Contents → ℕ → Type 0
AreFewByHalves p many = (r : ℕ) → r + 3 ≤ many → 2 ^ r < length (aim_values p)

-- of two rounds that were solved the later one has the better value
abbrev pub AreImproving : Aim → List Round → Type 0
AreImproving aim rounds = (j k : ℕ) (one other : Round) (old new : ℤ) → j < k → slice_get rounds j ≡ Some one → slice_get rounds k ≡ Some other
    → one.end ≡ Solved old → other.end ≡ Solved new → is_better aim old new ≡ true
