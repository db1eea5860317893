-- What an accepted text denotes.
use Rattle.std.specs.Prelude.{ℕ, ◌≤◌, List, length, Ok}
use Rattle.dcsp_defs.specs.Csp.{IsCsp}
use Rattle.dcsp_rule.specs.Problems.{Contents, csp_of}
use Rattle.dcsp_problem.specs.WellFormed.{IsProblem}
use Rattle.ngd_check.specs.Logged.{IsSmall}
use Rattle.fzn_model.specs.Models.{Answers, longest_text}

-- An accepted text of a model's length denotes a problem within the limits, and so a well-formed one.
pub record AcceptedAreProblems (text : List ℕ) : Type 0 where
  pub within_limits : (p : Contents) → length text ≤ longest_text → Answers text (Ok p) → IsProblem p
  pub well_formed : (p : Contents) → length text ≤ longest_text → Answers text (Ok p) → IsCsp (csp_of p)
  -- and logs can name all that it has: its values have 64 bits
  pub small : (p : Contents) → length text ≤ longest_text → Answers text (Ok p) → IsSmall (csp_of p)
