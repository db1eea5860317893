-- A run is an answer of its own, and the promise of `replay` is lawful.
use Rattle.std.proofs.Common.{◌≡◌, ℕ, List, [], ◌∷◌, Option, Some, None, subst}
use Rattle.std.specs.Prelude.{Bool, Contains, IfSome}
use Rattle.std.proofs.lemmas.List.Elements.{Contains-append_left, Contains-push}
use Rattle.dcsp_script.specs.Scripts.{Write}
use Rattle.dcsp_script.specs.Texts.{LeavesAlone}
use Rattle.abt_defs.specs.Runs.{End, Refuted, Solved, Capped, Spent}
use Rattle.dcsp_script.specs.Statuses.{IsFinal, IsRefusal}
use Rattle.dcsp_script.specs.Clauses.{IsLawful}
use Rattle.abt_input.specs.Plans.{WritesOwn, IsOwn, order_then, IsSoundPlan}
use Rattle.abt_input.proofs.ExactKinds.{model_exact, schedule_exact}
use Rattle.abt_input.proofs.PlanLaws.{ordered_sound, plan_lawful}
use Rattle.line_replay.specs.Endings.{end_status}
use Rattle.line_replay.specs.Asked.{Asked, asked_run, asked_script, replay, created_names}
use Rattle.line_replay.specs.ReplayPromise.{choices_plan, replay_plan, replay_promise}
use Rattle.line_replay.proofs.Scripts.{touches_none, same_name, asked_leaves}

pub final_end : (end : End) → IsFinal (end_status end)
final_end Solved = tt
final_end Refuted = tt
final_end Capped = tt
final_end Spent = tt

pub no_refusal : (end : End) → IsRefusal (end_status end) → ⊥
no_refusal Solved h = h
no_refusal Refuted h = h
no_refusal Capped h = h
no_refusal Spent h = h

first_of : (a : List ℕ) (more : List (List ℕ)) → Contains (a ∷ more) a
first_of a more = Contains-append_left (a ∷ []) more a (Contains-push [] a)

-- a script that leaves other names alone writes under those of a log and of a record, where one is asked for
pub own_of_leaves : (log : List ℕ) (kept : Option (List ℕ)) (script : List Write) → ((name : List ℕ) → (log ≡ name → ⊥) → IfSome kept (λ k. k ≡ name → ⊥) → LeavesAlone script name) → WritesOwn (created_names log kept) script
own_of_leaves log None script leaves = record {
  only = λ w is name t. same_name log name (λ e. subst (λ n. Contains (log ∷ []) n) e (first_of log [])) (λ unlike. absurd (touches_none script w name (leaves name unlike tt) is t));
}
own_of_leaves log (Some k) script leaves = record {
  only = λ w is name t.
      same_name log name (λ e. subst (λ n. Contains (log ∷ k ∷ []) n) e (first_of log (k ∷ [])))
      (λ unlike. same_name k name (λ e. subst (λ n. Contains (log ∷ k ∷ []) n) e (Contains-push (log ∷ []) k)) (λ other. absurd (touches_none script w name (leaves name unlike other) is t)));
}

-- a run changes only its log and its record, and so it is an answer of its own
pub run_own : (asked : Asked) → IsOwn (created_names asked.session.log asked.record_file) (end_status (asked_run asked).end) (asked_script asked)
run_own asked = record {
  final = final_end (asked_run asked).end;
  no_refusal = no_refusal (asked_run asked).end;
  names = own_of_leaves asked.session.log asked.record_file (asked_script asked) (asked_leaves asked);
}

pub replay_sound : (model schedule log : List ℕ) (trace : Bool) (order_file : Option (List ℕ)) → IsSoundPlan (model ∷ order_then order_file (schedule ∷ [])) (log ∷ []) (replay_plan log trace order_file)
replay_sound model schedule log trace order_file = (
  model_exact,
  λ problem. ordered_sound (schedule ∷ []) (log ∷ []) (choices_plan log trace problem) order_file problem (λ order. (schedule_exact, λ choices. run_own (replay order problem choices log trace))),
)

pub replay_lawful : (model schedule log : List ℕ) (trace : Bool) (order_file : Option (List ℕ)) → IsLawful (replay_promise model schedule log trace order_file)
replay_lawful model schedule log trace order_file = plan_lawful (replay_plan log trace order_file) (replay_sound model schedule log trace order_file)
