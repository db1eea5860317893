-- Kinds of files: what the bytes of one say, or why they are refused.
use Rattle.std.specs.Prelude.{◌≡◌, ◌⊎◌, ℕ, ℤ, List, Result, Ok, Err, ⊤}
use Rattle.dcsp_defs.specs.declared.Step.{Step}
use Rattle.dcsp_rule.specs.Problems.{Contents}
use Rattle.dcsp_script.specs.Statuses.{IsFinal}
use Rattle.abt_input.specs.Inputs.{IsModelOf, IsTextOf, HasChoices, HasOrder, IsFormulaOf, HasClauses}
use Rattle.abt_input.specs.Errors.{IsErrorOfModel, IsErrorOfLog, IsErrorOfSchedule, IsErrorOfOrder, IsErrorOfCnf, IsErrorOfProof, error_status}
use Rattle.abt_input.specs.declared.error.CommandError.{CommandError}
use Rattle.abt_input.specs.declared.error.CommandError.TheVariants.{Fault, Memory}

-- a kind of file: what its bytes say, and for which errors they are refused
pub record FileKind : Type 1 where
  pub Value : Type 0
  pub Is : List ℕ → Value → Type 0
  pub Refuses : List ℕ → CommandError → Type 0

-- bytes say one thing, or are refused for one reason, and never both
pub record IsExact (kind : FileKind) : Type 0 where
  pub one : (bytes : List ℕ) (a b : kind.Value) → kind.Is bytes a → kind.Is bytes b → a ≡ b
  pub apart : (bytes : List ℕ) (a : kind.Value) (e : CommandError) → kind.Is bytes a → kind.Refuses bytes e → ⊥
  pub one_error : (bytes : List ℕ) (e d : CommandError) → kind.Refuses bytes e → kind.Refuses bytes d → e ≡ d
  pub final : (bytes : List ℕ) (e : CommandError) → kind.Refuses bytes e → IsFinal (error_status e)

-- any bytes say something or are refused
abbrev pub IsTotal : FileKind → Type 0
IsTotal kind = (bytes : List ℕ) → ((value : kind.Value) × kind.Is bytes value) ⊎ ((error : CommandError) × kind.Refuses bytes error)

-- reading these bytes gives what they say, or exactly why they are refused, faults and want of memory aside
abbrev pub ReadsAs : (kind : FileKind) → List ℕ → Result kind.Value CommandError → Type 0
ReadsAs kind bytes (Ok value) = kind.Is bytes value
ReadsAs kind bytes (Err Fault) = ⊤
ReadsAs kind bytes (Err Memory) = ⊤
ReadsAs kind bytes (Err error) = kind.Refuses bytes error

-- ---- the kinds that several lines read

-- a model, of which the problem is taken
abbrev pub a_model : FileKind
a_model = record { Value = Contents; Is = IsModelOf; Refuses = IsErrorOfModel }

-- a log of version 1, of which the steps are taken
abbrev pub a_log : FileKind
a_log = record { Value = List Step; Is = IsTextOf; Refuses = IsErrorOfLog }

-- a schedule, of which the choices are taken
abbrev pub a_schedule : FileKind
a_schedule = record { Value = List ℕ; Is = HasChoices; Refuses = IsErrorOfSchedule }

-- an order of so many variables
abbrev pub an_order : ℕ → FileKind
an_order variables = record { Value = List ℕ; Is = HasOrder variables; Refuses = IsErrorOfOrder variables }

-- a formula, of which the problem is taken
abbrev pub a_formula : FileKind
a_formula = record { Value = Contents; Is = IsFormulaOf; Refuses = IsErrorOfCnf }

-- a proof, of which the clauses are taken
abbrev pub a_proof : FileKind
a_proof = record { Value = List (List ℤ); Is = HasClauses; Refuses = IsErrorOfProof }
