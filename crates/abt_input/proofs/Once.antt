-- A model has one problem or one error, a log one derivation or one error, a schedule one list of choices or one error, and so have formulas and proofs.
use Rattle.std.proofs.Common.{◌≡◌, ℕ, ◌<◌, List, length, Ok, Err, refl, inl, inr}
use Rattle.std.specs.Prelude.{ℤ}
use Rattle.dcsp_defs.specs.declared.Step.{Step}
use Rattle.dcsp_rule.specs.Problems.{Contents}
use Rattle.fzn_model.proofs.Once.{once}
use Rattle.ngd_log.proofs.LogLaws.{log_or_bad_line}
use Rattle.abt_schedule.proofs.ScheduleLaws.{schedule_or_bad_line}
use Rattle.dcsp_order.proofs.TextAnswered.{one_answer}
use Rattle.abt_input.specs.declared.order_error.OrderRefusal.TheVariants as orders
use Rattle.cnf_front.specs.declared.header.CnfError.{CnfError}
use Rattle.rup_check.specs.declared.reader.ProofError.TheVariants as proofs
use Rattle.rup_check.proofs.ProofLaws.{accepted, refused}
use Rattle.dcsp_script.specs.Statuses.{IsFinal}
use Rattle.abt_input.specs.declared.error.CommandError.{CommandError}
use Rattle.abt_input.specs.declared.error.CommandError.TheVariants.{ModelLong, ModelRefused, NoAim, LogLong, LogLine, ScheduleLong, ScheduleLine, OrderRefused, Clauses, Fault, Memory}
use Rattle.abt_input.specs.declared.clauses_error.ClausesError.TheVariants.{CnfLong, CnfRefused, CnfLimit, ProofLong, ProofLine}
use Rattle.abt_input.specs.Inputs.{most_model, most_log, most_schedule, most_cnf, most_order, IsModelOf, IsRefused, IsTextOf, IsBadAt, HasChoices, IsScheduleBadAt, HasOrder, IsOrderBadAt, IsFormulaOf, IsCnfRefused, HasClauses, IsProofBadAt}
use Rattle.abt_input.proofs.Causes.{HasCause, too_long, refused_for, no_error, one_error, of_causes}
use Rattle.abt_input.specs.Errors.{IsErrorOfModel, IsErrorOfLog, IsErrorOfSchedule, IsErrorOfOrder, IsErrorOfCnf, IsErrorOfProof, error_status}

-- ---- what an error is, by its two causes

of_model : (model : List ℕ) (e : CommandError) → IsErrorOfModel model e → HasCause most_model ModelLong IsRefused ModelRefused model e
of_model model ModelLong h = too_long h refl
of_model model (ModelRefused error) h = refused_for error h refl
of_model model LogLong h = absurd h
of_model model (LogLine number) h = absurd h
of_model model ScheduleLong h = absurd h
of_model model (ScheduleLine number) h = absurd h
of_model model (OrderRefused error) h = absurd h
of_model model NoAim h = absurd h
of_model model (Clauses error) h = absurd h
of_model model Fault h = absurd h
of_model model Memory h = absurd h

of_log : (log : List ℕ) (e : CommandError) → IsErrorOfLog log e → HasCause most_log LogLong IsBadAt LogLine log e
of_log log ModelLong h = absurd h
of_log log (ModelRefused error) h = absurd h
of_log log LogLong h = too_long h refl
of_log log (LogLine number) h = refused_for number h refl
of_log log ScheduleLong h = absurd h
of_log log (ScheduleLine number) h = absurd h
of_log log (OrderRefused error) h = absurd h
of_log log NoAim h = absurd h
of_log log (Clauses error) h = absurd h
of_log log Fault h = absurd h
of_log log Memory h = absurd h

of_schedule : (schedule : List ℕ) (e : CommandError) → IsErrorOfSchedule schedule e → HasCause most_schedule ScheduleLong IsScheduleBadAt ScheduleLine schedule e
of_schedule schedule ModelLong h = absurd h
of_schedule schedule (ModelRefused error) h = absurd h
of_schedule schedule LogLong h = absurd h
of_schedule schedule (LogLine number) h = absurd h
of_schedule schedule ScheduleLong h = too_long h refl
of_schedule schedule (ScheduleLine number) h = refused_for number h refl
of_schedule schedule (OrderRefused error) h = absurd h
of_schedule schedule NoAim h = absurd h
of_schedule schedule (Clauses error) h = absurd h
of_schedule schedule Fault h = absurd h
of_schedule schedule Memory h = absurd h

of_order : (variables : ℕ) (text : List ℕ) (e : CommandError) → IsErrorOfOrder variables text e → HasCause most_order (OrderRefused orders.Long) (IsOrderBadAt variables) (λ number. OrderRefused (orders.Line number)) text e
of_order variables text ModelLong h = absurd h
of_order variables text (ModelRefused error) h = absurd h
of_order variables text LogLong h = absurd h
of_order variables text (LogLine number) h = absurd h
of_order variables text ScheduleLong h = absurd h
of_order variables text (ScheduleLine number) h = absurd h
of_order variables text (OrderRefused orders.Long) h = too_long h refl
of_order variables text (OrderRefused (orders.Line number)) h = refused_for number h refl
of_order variables text NoAim h = absurd h
of_order variables text (Clauses error) h = absurd h
of_order variables text Fault h = absurd h
of_order variables text Memory h = absurd h

pub data OfCnf (text : List ℕ) (e : CommandError) : Type 0 where
  long_cnf : most_cnf < length text → e ≡ Clauses CnfLong → OfCnf text e
  no_formula : (error : CnfError) → IsCnfRefused text error → e ≡ Clauses (CnfRefused error) → OfCnf text e

pub data OfProof (text : List ℕ) (e : CommandError) : Type 0 where
  long_proof : most_log < length text → e ≡ Clauses ProofLong → OfProof text e
  bad_clause : (number : ℕ) → IsProofBadAt text number → e ≡ Clauses (ProofLine number) → OfProof text e

pub of_cnf : (text : List ℕ) (e : CommandError) → IsErrorOfCnf text e → OfCnf text e
of_cnf text ModelLong h = absurd h
of_cnf text (ModelRefused error) h = absurd h
of_cnf text LogLong h = absurd h
of_cnf text (LogLine number) h = absurd h
of_cnf text ScheduleLong h = absurd h
of_cnf text (ScheduleLine number) h = absurd h
of_cnf text (OrderRefused error) h = absurd h
of_cnf text NoAim h = absurd h
of_cnf text (Clauses CnfLong) h = long_cnf h refl
of_cnf text (Clauses (CnfRefused error)) h = no_formula error h refl
of_cnf text (Clauses (CnfLimit which count)) h = absurd h
of_cnf text (Clauses ProofLong) h = absurd h
of_cnf text (Clauses (ProofLine number)) h = absurd h
of_cnf text Fault h = absurd h
of_cnf text Memory h = absurd h

pub of_proof : (text : List ℕ) (e : CommandError) → IsErrorOfProof text e → OfProof text e
of_proof text ModelLong h = absurd h
of_proof text (ModelRefused error) h = absurd h
of_proof text LogLong h = absurd h
of_proof text (LogLine number) h = absurd h
of_proof text ScheduleLong h = absurd h
of_proof text (ScheduleLine number) h = absurd h
of_proof text (OrderRefused error) h = absurd h
of_proof text NoAim h = absurd h
of_proof text (Clauses CnfLong) h = absurd h
of_proof text (Clauses (CnfRefused error)) h = absurd h
of_proof text (Clauses (CnfLimit which count)) h = absurd h
of_proof text (Clauses ProofLong) h = long_proof h refl
of_proof text (Clauses (ProofLine number)) h = bad_clause number h refl
of_proof text Fault h = absurd h
of_proof text Memory h = absurd h

cause_of_cnf : (text : List ℕ) (e : CommandError) → IsErrorOfCnf text e → HasCause most_cnf (Clauses CnfLong) IsCnfRefused (λ x. Clauses (CnfRefused x)) text e
cause_of_cnf text e h = so (of_cnf text e h)
  where
    so : OfCnf text e → HasCause most_cnf (Clauses CnfLong) IsCnfRefused (λ x. Clauses (CnfRefused x)) text e
    so (long_cnf l is) = too_long l is
    so (no_formula error l is) = refused_for error l is

cause_of_proof : (text : List ℕ) (e : CommandError) → IsErrorOfProof text e → HasCause most_log (Clauses ProofLong) IsProofBadAt (λ x. Clauses (ProofLine x)) text e
cause_of_proof text e h = so (of_proof text e h)
  where
    so : OfProof text e → HasCause most_log (Clauses ProofLong) IsProofBadAt (λ x. Clauses (ProofLine x)) text e
    so (long_proof l is) = too_long l is
    so (bad_clause number l is) = refused_for number l is

-- ---- models

-- a model has one problem
pub one_problem : (model : List ℕ) (p q : Contents) → IsModelOf model p → IsModelOf model q → p ≡ q
one_problem model p q h k = let e = once model (Ok p) (Ok q) h.reads k.reads in cc

-- a model with a problem has no error
pub no_error_of_model : (model : List ℕ) (p : Contents) (e : CommandError) → IsModelOf model p → IsErrorOfModel model e → ⊥
no_error_of_model model p e h k = no_error (of_model model e k) h.short (λ error l. let e = once model (Ok p) (Err error) h.reads l.reads in cc)

-- a model has one error
pub one_error_of_model : (model : List ℕ) (e d : CommandError) → IsErrorOfModel model e → IsErrorOfModel model d → e ≡ d
one_error_of_model model e d h k = one_error (of_model model e h) (of_model model d k) (λ error l. l.short) (λ x y l m. let e = once model (Err x) (Err y) l.reads m.reads in cc)

-- which is that of a report
pub final_error_of_model : (model : List ℕ) (e : CommandError) → IsErrorOfModel model e → IsFinal (error_status e)
final_error_of_model model e h = of_causes (λ x. IsFinal (error_status x)) (of_model model e h) tt (λ reason. tt)

-- ---- logs

-- a log has one derivation
pub one_text : (log : List ℕ) (a b : List Step) → IsTextOf log a → IsTextOf log b → a ≡ b
one_text log a b h k = (log_or_bad_line log).one_log a b h.reads k.reads

-- a log with a derivation has no error
pub no_error_of_log : (log : List ℕ) (steps : List Step) (e : CommandError) → IsTextOf log steps → IsErrorOfLog log e → ⊥
no_error_of_log log steps e h k = no_error (of_log log e k) h.short (λ number l. (log_or_bad_line log).not_both steps number h.reads l.line)

-- a log has one error
pub one_error_of_log : (log : List ℕ) (e d : CommandError) → IsErrorOfLog log e → IsErrorOfLog log d → e ≡ d
one_error_of_log log e d h k = one_error (of_log log e h) (of_log log d k) (λ number l. l.short) (λ m n l k. (log_or_bad_line log).one_line m n l.line k.line)

-- which is that of a report
pub final_error_of_log : (log : List ℕ) (e : CommandError) → IsErrorOfLog log e → IsFinal (error_status e)
final_error_of_log log e h = of_causes (λ x. IsFinal (error_status x)) (of_log log e h) tt (λ reason. tt)

-- ---- schedules

-- a schedule has one list of choices
pub one_list : (schedule a b : List ℕ) → HasChoices schedule a → HasChoices schedule b → a ≡ b
one_list schedule a b h k = (schedule_or_bad_line schedule).one_schedule a b h.reads k.reads

-- a schedule with choices has no error
pub no_error_of_schedule : (schedule choices : List ℕ) (e : CommandError) → HasChoices schedule choices → IsErrorOfSchedule schedule e → ⊥
no_error_of_schedule schedule choices e h k = no_error (of_schedule schedule e k) h.short (λ number l. (schedule_or_bad_line schedule).not_both choices number h.reads l.line)

-- a schedule has one error
pub one_error_of_schedule : (schedule : List ℕ) (e d : CommandError) → IsErrorOfSchedule schedule e → IsErrorOfSchedule schedule d → e ≡ d
one_error_of_schedule schedule e d h k =
    one_error (of_schedule schedule e h) (of_schedule schedule d k) (λ number l. l.short) (λ m n l k. (schedule_or_bad_line schedule).one_line m n l.line k.line)

-- which is that of a report
pub final_error_of_schedule : (schedule : List ℕ) (e : CommandError) → IsErrorOfSchedule schedule e → IsFinal (error_status e)
final_error_of_schedule schedule e h = of_causes (λ x. IsFinal (error_status x)) (of_schedule schedule e h) tt (λ reason. tt)

-- ---- orders

-- an order's text is that of one order
pub one_order : (variables : ℕ) (text a b : List ℕ) → HasOrder variables text a → HasOrder variables text b → a ≡ b
one_order variables text a b h k = (one_answer variables text h.few).one_order a b h.reads k.reads

-- the text of an order has no error
pub no_error_of_order : (variables : ℕ) (text order : List ℕ) (e : CommandError) → HasOrder variables text order → IsErrorOfOrder variables text e → ⊥
no_error_of_order variables text order e h k = no_error (of_order variables text e k) h.short (λ number l. (one_answer variables text h.few).not_both order number h.reads l.line)

-- an order has one error
pub one_error_of_order : (variables : ℕ) (text : List ℕ) (e d : CommandError) → IsErrorOfOrder variables text e → IsErrorOfOrder variables text d → e ≡ d
one_error_of_order variables text e d h k =
    one_error (of_order variables text e h) (of_order variables text d k) (λ number l. l.short) (λ m n l k. (one_answer variables text l.few).one_line m n l.line k.line)

-- which is that of a report
pub final_error_of_order : (variables : ℕ) (text : List ℕ) (e : CommandError) → IsErrorOfOrder variables text e → IsFinal (error_status e)
final_error_of_order variables text e h = of_causes (λ x. IsFinal (error_status x)) (of_order variables text e h) tt (λ reason. tt)

-- ---- formulas

-- a formula has one problem
pub one_formula : (text : List ℕ) (p q : Contents) → IsFormulaOf text p → IsFormulaOf text q → p ≡ q
one_formula text p q h k = let a = h.reads in let b = k.reads in cc

-- a formula with a problem has no error
pub no_error_of_cnf : (text : List ℕ) (p : Contents) (e : CommandError) → IsFormulaOf text p → IsErrorOfCnf text e → ⊥
no_error_of_cnf text p e h k = no_error (cause_of_cnf text e k) h.short (λ error l. let a = h.reads in let b = l.reads in cc)

-- a formula has one error
pub one_error_of_cnf : (text : List ℕ) (e d : CommandError) → IsErrorOfCnf text e → IsErrorOfCnf text d → e ≡ d
one_error_of_cnf text e d h k = one_error (cause_of_cnf text e h) (cause_of_cnf text d k) (λ error l. l.short) (λ x y l m. let a = l.reads in let b = m.reads in cc)

-- which is that of a report
pub final_error_of_cnf : (text : List ℕ) (e : CommandError) → IsErrorOfCnf text e → IsFinal (error_status e)
final_error_of_cnf text e h = of_causes (λ x. IsFinal (error_status x)) (cause_of_cnf text e h) tt (λ reason. tt)

-- ---- proofs

-- a proof has one list of clauses
pub one_proof : (text : List ℕ) (a b : List (List ℤ)) → HasClauses text a → HasClauses text b → a ≡ b
one_proof text a b h k = elim (accepted text (Ok a) h.reads tt b k.reads) [ inl e ↦ (let f = e in cc) | inr e ↦ absurd (let f = e in cc) ]

-- a proof with clauses has no error
pub no_error_of_proof : (text : List ℕ) (clauses : List (List ℤ)) (e : CommandError) → HasClauses text clauses → IsErrorOfProof text e → ⊥
no_error_of_proof text clauses e h k =
    no_error (cause_of_proof text e k) h.short (λ number l. elim (refused text (Ok clauses) h.reads tt number l.line) [ inl e ↦ (let f = e in cc) | inr e ↦ (let f = e in cc) ])

-- a proof has one error
pub one_error_of_proof : (text : List ℕ) (e d : CommandError) → IsErrorOfProof text e → IsErrorOfProof text d → e ≡ d
one_error_of_proof text e d h k = one_error (cause_of_proof text e h) (cause_of_proof text d k) (λ number l. l.short) same
  where
    same : (m n : ℕ) → IsProofBadAt text m → IsProofBadAt text n → m ≡ n
    same m n a b = elim (refused text (Err (proofs.Line m)) tt a.line n b.line) [ inl e ↦ (let f = e in cc) | inr e ↦ absurd (let f = e in cc) ]

-- which is that of a report
pub final_error_of_proof : (text : List ℕ) (e : CommandError) → IsErrorOfProof text e → IsFinal (error_status e)
final_error_of_proof text e h = of_causes (λ x. IsFinal (error_status x)) (cause_of_proof text e h) tt (λ reason. tt)
