use Rattle.dcsp_rule.specs.Problems.{csp_of}
use Rattle.law_inputs.proofs.Cores.{log_for_total, kept_log_total, a_refutation_total}
use Rattle.law_inputs.proofs.TotalKinds.{model_total, taking_total, log_total, schedule_total, orders_total, formula_total, proof_total, formula_memory}
use Rattle.law_inputs.proofs.files_are_read_or_refused.Goals as goal

pub returns : goal.returns
returns c = record {
  models = model_total;
  taken = taking_total;
  logs = log_total;
  checked = λ problem. log_for_total problem (c.entries_have_finding.ensures (csp_of problem));
  kept = λ problem. kept_log_total problem (c.entries_have_finding.ensures (csp_of problem));
  exported = λ problem. a_refutation_total problem (c.entries_have_finding.ensures (csp_of problem));
  schedules = schedule_total;
  orders = orders_total;
  formulas = formula_total;
  proofs = proof_total;
  formula_memory = formula_memory;
}
