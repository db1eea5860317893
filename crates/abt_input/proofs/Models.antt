-- What a refused model is told as.
use Rattle.std.proofs.Common.{◌≡◌, ℕ, ◌≤◌, List, length, Err}
use Rattle.fzn_token.specs.declared.refusal.ModelError.{ModelError}
use Rattle.fzn_token.specs.declared.refusal.ModelError.TheVariants as errors
use Rattle.fzn_model.specs.Models.{AnswersOrLacks}
use Rattle.abt_input.specs.Inputs.{most_model}
use Rattle.abt_input.specs.declared.error.CommandError.{CommandError}
use Rattle.abt_input.specs.declared.error.CommandError.TheVariants.{Fault}
use Rattle.abt_input.specs.Errors.{model_error}
use Rattle.abt_input.specs.Kinds.{ReadsAs, a_model}

-- each error is told as it is
pub told_as : (model : List ℕ) (e : ModelError) → length model ≤ most_model → AnswersOrLacks model (Err e) → ReadsAs a_model model (Err (model_error e))
told_as model (errors.Refused refusal) short h = record { short = short; reads = h }
told_as model errors.Memory short h = tt

-- and none is told as a fault
pub no_fault : (e : ModelError) (d : CommandError) → d ≡ model_error e → d ≡ Fault → ⊥
no_fault (errors.Refused refusal) d is f = let k = is in let l = f in cc
no_fault errors.Memory d is f = let k = is in let l = f in cc
