-- The plan of `starve` is sound, and so its promise is lawful.
use Rattle.std.proofs.Common.{ℕ, List, [], ◌∷◌, Option}
use Rattle.std.proofs.lemmas.List.Elements.{Contains-push}
use Rattle.dcsp_script.specs.Clauses.{IsLawful}
use Rattle.abt_input.specs.Plans.{IsSoundPlan, order_then}
use Rattle.abt_input.proofs.ExactKinds.{model_exact}
use Rattle.abt_input.proofs.OwnWrites.{own_none, own_put, own_create, own_append}
use Rattle.abt_input.proofs.PlanLaws.{plan_lawful, ordered_sound}
use Rattle.line_starve.specs.StarvePromise.{starve_plan, starve_promise, starved_under}

pub starve_sound : (model : List ℕ) (from to : ℕ) (file : List ℕ) (order_file : Option (List ℕ)) → IsSoundPlan (model ∷ order_then order_file []) (file ∷ []) (starve_plan from to file order_file)
starve_sound model from to file order_file =
    let here = Contains-push [] file in
    (model_exact, λ p. ordered_sound [] (file ∷ []) (starved_under from to file p) order_file p (λ order. record { final = tt; no_refusal = λ h. h; names = own_create here (own_append here (own_put own_none)) }))

pub starve_lawful : (model : List ℕ) (from to : ℕ) (file : List ℕ) (order_file : Option (List ℕ)) → IsLawful (starve_promise model from to file order_file)
starve_lawful model from to file order_file = plan_lawful (starve_plan from to file order_file) (starve_sound model from to file order_file)
