-- What is wanted of a solution: where it is told, which values are better, and the problem that only better solutions solve.
use Rattle.std.specs.Prelude.{ℕ, ℤ, Bool, false, List, [], filter, Option, Some, None, slice_set, slice_index_or, int_lt}
use Rattle.dcsp_rule.specs.declared.aim.Aim.{Aim}
use Rattle.dcsp_rule.specs.declared.aim.Aim.TheVariants.{Satisfy, Least, Greatest}
use Rattle.dcsp_rule.specs.Rules.{variable_of}
use Rattle.dcsp_rule.specs.Problems.{Contents}

-- the variable that an aim is at, if it is at one
abbrev pub aimed_at : Aim → Option ℕ
aimed_at Satisfy = None
aimed_at (Least term) = variable_of term
aimed_at (Greatest term) = variable_of term

-- whether the value is better than the bound
abbrev pub is_better : Aim → ℤ → ℤ → Bool
is_better Satisfy bound value = false
is_better (Least term) bound value = int_lt value bound
is_better (Greatest term) bound value = int_lt bound value

-- the domains, where of one variable's only those values stay that are better than the bound
abbrev pub narrowed_domains : Aim → ℤ → ℕ → List (List ℤ) → List (List ℤ)
narrowed_domains aim bound var domains = slice_set domains var (filter (is_better aim bound) (slice_index_or domains var []))

-- the problem with these domains, if a variable is given
abbrev pub narrowed_at : Option ℕ → Contents → ℤ → Contents
narrowed_at None p bound = p
narrowed_at (Some var) p bound = record p { domains = narrowed_domains p.aim bound var p.domains }

-- the problem in which the aim's variable has only values that are better than the bound
abbrev pub narrowed : Contents → ℤ → Contents
narrowed p bound = narrowed_at (aimed_at p.aim) p bound
