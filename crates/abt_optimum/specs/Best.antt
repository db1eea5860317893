-- Which values of the variables are best.
use Rattle.std.specs.Prelude.{◌≡◌, ◌↔◌, ℤ, pos, true, false, List, length, slice_index_or, IsSome}
use Rattle.dcsp_defs.specs.Csp.{Assignment, IsSolution, HasNoSolution}
use Rattle.dcsp_rule.specs.declared.aim.Aim.{Aim}
use Rattle.dcsp_rule.specs.declared.aim.Aim.TheVariants.{Satisfy, Least, Greatest}
use Rattle.dcsp_rule.specs.Rules.{value_under, IsAimOf}
use Rattle.dcsp_rule.specs.Problems.{Contents, csp_of}
use Rattle.dcsp_rule.specs.Aims.{aimed_at, is_better, narrowed}

-- the values of a list, the first variable's first
abbrev pub assigned : List ℤ → Assignment
assigned values var = slice_index_or values var (pos 0)

-- the value of what is aimed at; 0 where any solution is wanted
abbrev pub aim_value : Aim → Assignment → ℤ
aim_value Satisfy values = pos 0
aim_value (Least term) values = value_under values term
aim_value (Greatest term) values = value_under values term

-- there is a value for each variable, and they are a solution
pub record Solves (p : Contents) (values : List ℤ) : Type 0 where
  pub many : length values ≡ length p.domains
  pub solution : IsSolution (csp_of p) (assigned values)

-- no solution has a value at the aim that is better than this one
abbrev pub HasNoBetter : Contents → ℤ → Type 0
HasNoBetter p value = (values : Assignment) → IsSolution (csp_of p) values → is_better p.aim value (aim_value p.aim values) ≡ false

-- the values are a solution, and no solution has a better value at the aim
pub record IsBest (p : Contents) (values : List ℤ) : Type 0 where
  pub solves : Solves p values
  pub none_better : HasNoBetter p (aim_value p.aim (assigned values))

-- The solutions of a narrowed problem are those of the whole one that have a better value at the aim.
abbrev pub NarrowingKeepsBetter : Contents → Type 0
NarrowingKeepsBetter p = IsAimOf (length p.domains) p.aim → IsSome (aimed_at p.aim) → (bound : ℤ) (values : Assignment)
    → IsSolution (csp_of (narrowed p bound)) values ↔ (IsSolution (csp_of p) values × (is_better p.aim bound (aim_value p.aim values) ≡ true))

-- So it has none exactly where no solution of the whole one has a better value.
abbrev pub NarrowingDecides : Contents → Type 0
NarrowingDecides p = IsAimOf (length p.domains) p.aim → IsSome (aimed_at p.aim) → (bound : ℤ) → HasNoSolution (csp_of (narrowed p bound)) ↔ HasNoBetter p bound
