-- The plans of these lines are sound, and so their promises are lawful.
use Rattle.std.proofs.Common.{ℕ, List, [], ◌∷◌, Option}
use Rattle.std.proofs.lemmas.List.Elements.{Contains-push}
use Rattle.dcsp_rule.specs.Problems.{csp_of}
use Rattle.dcsp_order.specs.declared.by_rule.OrderRule.{OrderRule}
use Rattle.dcsp_order.proofs.OneOrder.{one_order}
use Rattle.dcsp_script.specs.Clauses.{IsLawful}
use Rattle.abt_input.specs.Plans.{IsSoundPlan, order_then}
use Rattle.abt_input.proofs.ExactKinds.{model_exact}
use Rattle.abt_input.proofs.OwnWrites.{own_none, own_put, own_append, own_create}
use Rattle.abt_input.proofs.PlanLaws.{plan_lawful, ordered_sound}
use Rattle.line_model.specs.BoundReports.{bound_plan, bound_promise, bound_under}
use Rattle.line_model.specs.OrderPromise.{order_plan, order_promise}
use Rattle.line_model.specs.Generated.{print_plan, print_promise}

pub print_sound : (text : List ℕ) → IsSoundPlan [] [] (print_plan text)
print_sound text = record { final = tt; no_refusal = λ h. h; names = own_put own_none }

pub print_lawful : (text : List ℕ) → IsLawful (print_promise text)
print_lawful text = plan_lawful (print_plan text) (print_sound text)

pub bound_sound : (model : List ℕ) (order_file : Option (List ℕ)) → IsSoundPlan (model ∷ order_then order_file []) [] (bound_plan order_file)
bound_sound model order_file = (model_exact, λ p. ordered_sound [] [] (bound_under p) order_file p (λ order. record { final = tt; no_refusal = λ h. h; names = own_put own_none }))

pub bound_lawful : (model : List ℕ) (order_file : Option (List ℕ)) → IsLawful (bound_promise model order_file)
bound_lawful model order_file = plan_lawful (bound_plan order_file) (bound_sound model order_file)

pub order_sound : (model : List ℕ) (rule : OrderRule) (file : List ℕ) → IsSoundPlan (model ∷ []) (file ∷ []) (order_plan rule file)
order_sound model rule file =
    let here = Contains-push [] file in
    (model_exact, λ p. (one_order rule (csp_of p), λ order. record { final = tt; no_refusal = λ h. h; names = own_create here (own_append here (own_put own_none)) }))

pub order_lawful : (model : List ℕ) (rule : OrderRule) (file : List ℕ) → IsLawful (order_promise model rule file)
order_lawful model rule file = plan_lawful (order_plan rule file) (order_sound model rule file)
