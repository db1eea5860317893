-- The problem that was read of a model is the model's.
use Rattle.std.proofs.Common.{ℕ, List, Option, Some, None, subst}
use Rattle.dcsp_outside.specs.Outside.{bytes_of}
use Rattle.dcsp_defs.specs.Csp.{IsCsp}
use Rattle.dcsp_rule.specs.Problems.{Contents, csp_of}
use Rattle.ngd_check.specs.Logged.{IsSmall}
use Rattle.dcsp_script.specs.Promises.{IsHeld}
use Rattle.abt_input.specs.Inputs.{IsModelOf}
use Rattle.abt_input.proofs.Once.{one_problem}
use Rattle.line_replay.specs.Headline.{HoldsProblem}

pub holds_problem : (files : Option (List ℕ → Option (List ℕ))) (name : List ℕ) (p : Contents) → ((model : List ℕ) × IsHeld files name model × IsModelOf model p) → IsCsp (csp_of p) → IsSmall (csp_of p) → HoldsProblem files name
holds_problem None name p h ok small = tt
holds_problem (Some files) name p h ok small = λ q k.
    subst (λ x. IsCsp (csp_of x) × IsSmall (csp_of x)) (one_problem (bytes_of (files name)) p q (subst (λ m. IsModelOf m p) h.1 h.2) k) (ok, small)
