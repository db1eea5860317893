-- The kinds that several lines read are exact.
use Rattle.std.proofs.Common.{ℕ}
use Rattle.abt_input.specs.Kinds.{IsExact, a_model, a_log, a_schedule, an_order, a_formula, a_proof}
use Rattle.abt_input.proofs.Once as once

pub model_exact : IsExact a_model
model_exact = record { one = once.one_problem; apart = once.no_error_of_model; one_error = once.one_error_of_model; final = once.final_error_of_model }

pub log_exact : IsExact a_log
log_exact = record { one = once.one_text; apart = once.no_error_of_log; one_error = once.one_error_of_log; final = once.final_error_of_log }

pub schedule_exact : IsExact a_schedule
schedule_exact = record { one = once.one_list; apart = once.no_error_of_schedule; one_error = once.one_error_of_schedule; final = once.final_error_of_schedule }

pub order_exact : (variables : ℕ) → IsExact (an_order variables)
order_exact variables = record { one = once.one_order variables; apart = once.no_error_of_order variables; one_error = once.one_error_of_order variables; final = once.final_error_of_order variables }

pub formula_exact : IsExact a_formula
formula_exact = record { one = once.one_formula; apart = once.no_error_of_cnf; one_error = once.one_error_of_cnf; final = once.final_error_of_cnf }

pub proof_exact : IsExact a_proof
proof_exact = record { one = once.one_proof; apart = once.no_error_of_proof; one_error = once.one_error_of_proof; final = once.final_error_of_proof }
