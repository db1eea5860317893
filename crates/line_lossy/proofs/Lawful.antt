-- A run over the medium is an answer of its own, and the promise of the line is lawful.
use Rattle.std.proofs.Common.{◌≡◌, ℕ, List, [], ◌∷◌, ◌++◌, Option}
use Rattle.std.specs.Prelude.{IfSome, codes}
use Rattle.dcsp_defs.specs.declared.Step.{Step}
use Rattle.dcsp_script.specs.Scripts.{Append, Put}
use Rattle.dcsp_script.specs.Texts.{LeavesAlone}
use Rattle.ngd_log.specs.Logs.{step_lines}
use Rattle.dcsp_script.specs.Clauses.{IsLawful}
use Rattle.abt_input.specs.Plans.{order_then, IsOwn, IsSoundPlan}
use Rattle.abt_input.proofs.ExactKinds.{model_exact}
use Rattle.abt_input.proofs.PlanLaws.{ordered_sound, plan_lawful}
use Rattle.abt_session.specs.Sessions.{step_writes}
use Rattle.abt_session.proofs.InOrder.{leaves-append, append_lines_leave}
use Rattle.line_replay.specs.Asked.{record_script, created_names}
use Rattle.line_replay.specs.Endings.{end_status}
use Rattle.line_replay.proofs.Lawful.{final_end, no_refusal, own_of_leaves}
use Rattle.line_replay.proofs.Scripts.{record_leaves}
use Rattle.line_lossy.specs.Asked.{Asked, lossy, run_problem, run_steps, run_world, run_numbers, end_of, answer_text, log_script, asked_script}
use Rattle.line_lossy.specs.LossyPromise.{lossy_plan, lossy_promise, ordered_plan}

pub log_leaves : (log : List ℕ) (steps : List Step) (name : List ℕ) → (log ≡ name → ⊥) → LeavesAlone (log_script log steps) name
log_leaves log steps name other =
    (other, (other, leaves-append name (step_writes log 1 steps) (Append log (codes "end\n") ∷ []) (append_lines_leave log name other (step_lines 1 steps)) (other, tt)))

-- a name that is not the log's or the record's is left alone
run_leaves : (asked : Asked) (name : List ℕ) → (asked.log ≡ name → ⊥) → IfSome asked.record_file (λ k. k ≡ name → ⊥) → LeavesAlone (asked_script asked) name
run_leaves asked name other h =
    leaves-append name (log_script asked.log (run_steps asked)) (record_script asked.record_file (run_numbers asked) ++ Put (answer_text asked) ∷ []) (log_leaves asked.log (run_steps asked) name other)
    (leaves-append name (record_script asked.record_file (run_numbers asked)) (Put (answer_text asked) ∷ []) (record_leaves (run_numbers asked) asked.record_file name h) ((λ t. t), tt))

-- so a run is an answer of its own
run_own : (asked : Asked) → IsOwn (created_names asked.log asked.record_file) (end_status (end_of (run_problem asked) (run_world asked))) (asked_script asked)
run_own asked =
    let end = end_of (run_problem asked) (run_world asked) in
    record { final = final_end end; no_refusal = no_refusal end; names = own_of_leaves asked.log asked.record_file (asked_script asked) (run_leaves asked) }

pub lossy_sound : (model : List ℕ) (order_file : Option (List ℕ)) (log : List ℕ) (events seed : ℕ) (kept : Option (List ℕ)) → IsSoundPlan (model ∷ order_then order_file []) (created_names log kept) (lossy_plan log events seed kept order_file)
lossy_sound model order_file log events seed kept = (model_exact, λ problem. ordered_sound [] (created_names log kept) (ordered_plan log events seed kept problem) order_file problem (λ order. run_own (lossy order problem events seed log kept)))

pub lossy_lawful : (model : List ℕ) (order_file : Option (List ℕ)) (log : List ℕ) (events seed : ℕ) (kept : Option (List ℕ)) → IsLawful (lossy_promise model order_file log events seed kept)
lossy_lawful model order_file log events seed kept = plan_lawful (lossy_plan log events seed kept order_file) (lossy_sound model order_file log events seed kept)
