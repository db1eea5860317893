-- The problem that was read of a model is the model's.
use Rattle.std.proofs.Common.{ℕ, List, Option, Some, None, subst}
use Rattle.dcsp_outside.specs.Outside.{bytes_of}
use Rattle.dcsp_rule.specs.Problems.{Contents}
use Rattle.dcsp_problem.specs.WellFormed.{IsProblem}
use Rattle.dcsp_script.specs.Promises.{IsHeld}
use Rattle.abt_input.specs.Inputs.{IsModelOf}
use Rattle.abt_input.proofs.Once.{one_problem}
use Rattle.line_solve.specs.SolvePromise.{HoldsWholeProblem}

pub holds_whole : (files : Option (List ℕ → Option (List ℕ))) (name : List ℕ) (p : Contents) → ((model : List ℕ) × IsHeld files name model × IsModelOf model p) → IsProblem p → HoldsWholeProblem files name
holds_whole None name p h ok = tt
holds_whole (Some files) name p h ok = λ q k. subst IsProblem (one_problem (bytes_of (files name)) p q (subst (λ m. IsModelOf m p) h.1 h.2) k) ok
