-- Limits of a problem, and why a variable or a rule is not added to it.
use Rattle.std.specs.Prelude.{◌≡◌, ℕ, ◌+◌, ℤ, List, [], ◌∷◌, ◌++◌, length, find, nat_lt, Option, Some, None, Result, Ok, Err, if◌then◌else◌}
use Rattle.std.specs.Option.{option_map}
use Rattle.dcsp_meaning.specs.Sums.{widest}
use Rattle.dcsp_common.specs.declared.limits.Which.{Which}
use Rattle.dcsp_common.specs.Limits.{most}
use Rattle.dcsp_common.specs.declared.limits.Which.TheVariants.{Variables, DomainValues, Rules, Terms, Elements}
use Rattle.dcsp_problem.specs.declared.limits.BuildError.{BuildError}
use Rattle.dcsp_problem.specs.declared.limits.BuildError.TheVariants.{Limit, WideSum, Memory}
use Rattle.dcsp_rule.specs.declared.rule.Rule.{Rule}
use Rattle.dcsp_rule.specs.declared.rule.Rule.TheVariants.{Plain, Sum}
use Rattle.dcsp_rule.specs.Rules.{size_of}
use Rattle.dcsp_rule.specs.Widths.{rule_width}
use Rattle.dcsp_rule.specs.Problems.{Contents, value_count, term_count}

-- the first of these counts that passes its greatest number
abbrev pub first_past : List (Which × ℕ) → Option (Which × ℕ)
first_past counts = find (λ (x : Which × ℕ). nat_lt (most x.0) x.1) counts

-- that this count is too great
abbrev pub limit_of : Which × ℕ → BuildError
limit_of past = Limit past.0 past.1

-- what a further variable adds to, in the order in which it is tried, with the counts that would be reached
abbrev pub variable_counts : Contents → List ℤ → List (Which × ℕ)
variable_counts p domain = (Variables, length p.domains + 1) ∷ (DomainValues, value_count p + length domain) ∷ []

-- why a variable with this domain is not added, if it is not
abbrev pub variable_refusal : Contents → List ℤ → Option BuildError
variable_refusal p domain = option_map limit_of (first_past (variable_counts p domain))

-- the lengths of a rule's lists
abbrev pub list_counts : Rule → List (Which × ℕ)
list_counts (Plain kind scalars first second members) = (Elements, length scalars) ∷ (Elements, length first) ∷ (Elements, length second) ∷ []
list_counts (Sum rel coefs terms total told) = (Elements, length coefs) ∷ (Elements, length terms) ∷ []

-- the same of a further rule
abbrev pub rule_counts : Contents → Rule → List (Which × ℕ)
rule_counts p rule = list_counts rule ++ (Rules, length p.rules + 1) ∷ (Terms, term_count p + size_of rule) ∷ []

-- why a rule is not added, if it is not: its sum is too wide, or else a count passes its limit
abbrev pub rule_refusal : Contents → Rule → Option BuildError
rule_refusal p rule = if nat_lt widest (rule_width p.domains rule) then Some WideSum else option_map limit_of (first_past (rule_counts p rule))

-- an error has this reason, or it is want of memory
abbrev pub IsErrorOf : Option BuildError → BuildError → Type 0
IsErrorOf refusal Memory = Unit {0}
IsErrorOf refusal WideSum = refusal ≡ Some WideSum
IsErrorOf refusal (Limit which count) = refusal ≡ Some (Limit which count)

-- how a call ends that is to be refused for this reason, if for any: it succeeds only where there is none, and fails only with it or for want of memory
abbrev pub Refuses : {X : Type 0} → Option BuildError → Result X BuildError → Type 0
Refuses refusal (Ok value) = refusal ≡ None
Refuses refusal (Err error) = IsErrorOf refusal error
