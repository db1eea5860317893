-- Why a command gives no answer, and what it says then.
use Rattle.std.specs.Prelude.{ℕ, ◌<◌, List, ◌++◌, length, decimal, codes, Result, Ok, Err}
use Rattle.dcsp_script.specs.declared.stop.Stop.{Stop}
use Rattle.dcsp_script.specs.declared.stop.Stop.TheVariants as stops
use Rattle.fzn_token.specs.declared.refusal.ModelError.{ModelError}
use Rattle.fzn_token.specs.declared.refusal.ModelError.TheVariants as errors
use Rattle.dcsp_script.specs.declared.status.Status.{Status}
use Rattle.dcsp_script.specs.declared.status.Status.TheVariants as statuses
use Rattle.dcsp_script.specs.Runs.{Way, Answered, Refused, Stopped}
use Rattle.cnf_front.specs.declared.header.CnfError.{CnfError}
use Rattle.cnf_front.specs.declared.header.CnfError.TheVariants as cnf
use Rattle.abt_input.specs.ModelTexts.{refusal_text}
use Rattle.abt_input.specs.OrderErrors.{order_refusal_text}
use Rattle.abt_input.specs.declared.order_error.OrderRefusal.TheVariants as orders
use Rattle.abt_input.specs.ClausesErrors.{clauses_status, clauses_text}
use Rattle.abt_input.specs.Inputs.{most_model, most_log, most_schedule, most_cnf, most_order, IsRefused, IsBadAt, IsScheduleBadAt, IsCnfRefused, IsProofBadAt, IsOrderBadAt}
use Rattle.abt_input.specs.declared.error.CommandError.{CommandError}
use Rattle.abt_input.specs.declared.error.CommandError.TheVariants.{ModelLong, ModelRefused, NoAim, LogLong, LogLine, ScheduleLong, ScheduleLine, OrderRefused, Clauses, Fault, Memory}
use Rattle.abt_input.specs.declared.clauses_error.ClausesError.TheVariants.{CnfLong, CnfRefused, ProofLong, ProofLine}

-- the error of a command that was stopped
abbrev pub stop_error : Stop → CommandError
stop_error stops.Fault = Fault
stop_error stops.Memory = Memory

-- the error of a command whose model's reader gives this error
abbrev pub model_error : ModelError → CommandError
model_error (errors.Refused refusal) = ModelRefused refusal
model_error errors.Memory = Memory

-- the error of a command whose formula's reader gives this error
abbrev pub cnf_error : CnfError → CommandError
cnf_error cnf.Memory = Memory
cnf_error error = Clauses (CnfRefused error)

-- the status of an error
abbrev pub error_status : CommandError → Status
error_status ModelLong = statuses.Model
error_status (ModelRefused refusal) = statuses.Model
error_status LogLong = statuses.Input
error_status (LogLine number) = statuses.Input
error_status ScheduleLong = statuses.Input
error_status (ScheduleLine number) = statuses.Input
error_status (OrderRefused error) = statuses.Input
error_status NoAim = statuses.Model
error_status (Clauses error) = clauses_status error
error_status Fault = statuses.Fault
error_status Memory = statuses.Memory

-- the line that says it
abbrev pub error_text : CommandError → List ℕ
error_text ModelLong = codes "abt: model: too long\n"
error_text (ModelRefused refusal) = refusal_text refusal
error_text LogLong = codes "abt: log: too long\n"
error_text (LogLine number) = codes "abt: log: line " ++ decimal number ++ codes "\n"
error_text ScheduleLong = codes "abt: schedule: too long\n"
error_text (ScheduleLine number) = codes "abt: schedule: line " ++ decimal number ++ codes "\n"
error_text (OrderRefused error) = order_refusal_text error
error_text NoAim = codes "abt: model: no aim\n"
error_text (Clauses error) = clauses_text error
error_text Fault = codes "abt: fault\n"
error_text Memory = codes "abt: memory\n"

-- this error is why the model is refused
abbrev pub IsErrorOfModel : List ℕ → CommandError → Type 0
IsErrorOfModel model ModelLong = most_model < length model
IsErrorOfModel model (ModelRefused refusal) = IsRefused model refusal
IsErrorOfModel model LogLong = ⊥
IsErrorOfModel model (LogLine number) = ⊥
IsErrorOfModel model ScheduleLong = ⊥
IsErrorOfModel model (ScheduleLine number) = ⊥
IsErrorOfModel model (OrderRefused error) = ⊥
IsErrorOfModel model NoAim = ⊥
IsErrorOfModel model (Clauses error) = ⊥
IsErrorOfModel model Fault = ⊥
IsErrorOfModel model Memory = ⊥

-- this error is why the log is refused
abbrev pub IsErrorOfLog : List ℕ → CommandError → Type 0
IsErrorOfLog log ModelLong = ⊥
IsErrorOfLog log (ModelRefused refusal) = ⊥
IsErrorOfLog log LogLong = most_log < length log
IsErrorOfLog log (LogLine number) = IsBadAt log number
IsErrorOfLog log ScheduleLong = ⊥
IsErrorOfLog log (ScheduleLine number) = ⊥
IsErrorOfLog log (OrderRefused error) = ⊥
IsErrorOfLog log NoAim = ⊥
IsErrorOfLog log (Clauses error) = ⊥
IsErrorOfLog log Fault = ⊥
IsErrorOfLog log Memory = ⊥

-- this error is why the schedule is refused
abbrev pub IsErrorOfSchedule : List ℕ → CommandError → Type 0
IsErrorOfSchedule schedule ModelLong = ⊥
IsErrorOfSchedule schedule (ModelRefused refusal) = ⊥
IsErrorOfSchedule schedule LogLong = ⊥
IsErrorOfSchedule schedule (LogLine number) = ⊥
IsErrorOfSchedule schedule ScheduleLong = most_schedule < length schedule
IsErrorOfSchedule schedule (ScheduleLine number) = IsScheduleBadAt schedule number
IsErrorOfSchedule schedule (OrderRefused error) = ⊥
IsErrorOfSchedule schedule NoAim = ⊥
IsErrorOfSchedule schedule (Clauses error) = ⊥
IsErrorOfSchedule schedule Fault = ⊥
IsErrorOfSchedule schedule Memory = ⊥

-- this error is why the order of so many variables is refused
abbrev pub IsErrorOfOrder : ℕ → List ℕ → CommandError → Type 0
IsErrorOfOrder variables order (OrderRefused orders.Long) = most_order < length order
IsErrorOfOrder variables order (OrderRefused (orders.Line number)) = IsOrderBadAt variables order number
IsErrorOfOrder variables order other = ⊥

-- this error is why the formula is refused
abbrev pub IsErrorOfCnf : List ℕ → CommandError → Type 0
IsErrorOfCnf text (Clauses CnfLong) = most_cnf < length text
IsErrorOfCnf text (Clauses (CnfRefused error)) = IsCnfRefused text error
IsErrorOfCnf text other = ⊥

-- this error is why the proof is refused
abbrev pub IsErrorOfProof : List ℕ → CommandError → Type 0
IsErrorOfProof text (Clauses ProofLong) = most_log < length text
IsErrorOfProof text (Clauses (ProofLine number)) = IsProofBadAt text number
IsErrorOfProof text other = ⊥

-- what a command came to: an answer with its status, refused input, or a stop
abbrev pub way_of : Result Status CommandError → Way
way_of (Ok status) = Answered status
way_of (Err Fault) = Stopped stops.Fault
way_of (Err Memory) = Stopped stops.Memory
way_of (Err error) = Refused (error_status error) (error_text error)
