-- A line of words as a value: which kinds of files it reads, in which order, and what it answers.
use Rattle.std.specs.Prelude.{◌≡◌, ◌⊎◌, ℕ, List, [], ◌∷◌, length, Contains, Option, Some, None, ⊤}
use Rattle.dcsp_rule.specs.Problems.{Contents}
use Rattle.dcsp_script.specs.Scripts.{Write}
use Rattle.dcsp_script.specs.Texts.{Touches}
use Rattle.dcsp_script.specs.declared.status.Status.{Status}
use Rattle.dcsp_script.specs.Statuses.{IsFinal, IsRefusal}
use Rattle.dcsp_script.specs.Promises.{Report, Promise, answered, refused}
use Rattle.abt_input.specs.declared.error.CommandError.{CommandError}
use Rattle.abt_input.specs.Errors.{error_status, error_text}
use Rattle.abt_input.specs.Kinds.{FileKind, IsExact, IsTotal, an_order}

pub data Plan : Type 1 where
  -- it makes this script, and answers with this status
  Answer : (status : Status) → (script : List Write) → Plan
  -- its next file is read as this kind, and it goes on with what that says
  Read : (kind : FileKind) → (next : kind.Value → Plan) → Plan
  -- it goes on with a value of which this holds, which it finds by itself
  Find : (Value : Type 0) → (Is : Value → Type 0) → (next : Value → Plan) → Plan

-- its report of the bytes of its files; the first file that is refused is the report
abbrev pub PlanReports : Plan → List (List ℕ) → Report → Type 0
PlanReports (Answer status script) inputs report = report ≡ answered status script
PlanReports (Read kind next) [] report = ⊥
PlanReports (Read kind next) (bytes ∷ inputs) report =
    ((error : CommandError) × kind.Refuses bytes error × (report ≡ refused (error_status error) (error_text error))) ⊎ ((value : kind.Value) × kind.Is bytes value × PlanReports (next value) inputs report)
PlanReports (Find Value Is next) inputs report = (value : Value) × Is value × PlanReports (next value) inputs report

-- the name that it fetches next, of the names of its files, with these bytes of the first ones in hand
abbrev pub PlanFetches : Plan → List (List ℕ) → List (List ℕ) → List ℕ → Type 0
PlanFetches (Answer status script) names before name = ⊥
PlanFetches (Read kind next) [] before name = ⊥
PlanFetches (Read kind next) (first ∷ names) [] name = name ≡ first
PlanFetches (Read kind next) (first ∷ names) (bytes ∷ before) name = (value : kind.Value) × kind.Is bytes value × PlanFetches (next value) names before name
PlanFetches (Find Value Is next) names before name = (value : Value) × Is value × PlanFetches (next value) names before name

-- the promise of a line that keeps to the plan, reads the files under the first names, and creates the others
abbrev pub promise_by : List (List ℕ) → List (List ℕ) → Plan → Promise
promise_by fetched created plan = record { fetched = fetched; created = created; Fetches = PlanFetches plan fetched; Reports = PlanReports plan }

-- ---- plans under an order

-- the names of the files behind the model: an order's where one is named, and then these
abbrev pub order_then : Option (List ℕ) → List (List ℕ) → List (List ℕ)
order_then None names = names
order_then (Some order_file) names = order_file ∷ names

-- it goes on under an order of the problem's variables: that of its next file where one is named, else their own
abbrev pub under_order : Option (List ℕ) → Contents → (Option (List ℕ) → Plan) → Plan
under_order None problem next = next None
under_order (Some order_file) problem next = Read (an_order (length problem.domains)) (λ order. next (Some order))

-- ---- plans whose promises are lawful

-- a script writes under these names alone
pub record WritesOwn (created : List (List ℕ)) (script : List Write) : Type 0 where
  pub only : (write : Write) → Contains script write → (name : List ℕ) → Touches write name → Contains created name

-- an answer is final and no refusal, and writes under these names alone
pub record IsOwn (created : List (List ℕ)) (status : Status) (script : List Write) : Type 0 where
  pub final : IsFinal status
  pub no_refusal : IsRefusal status → ⊥
  pub names : WritesOwn created script

-- this holds of one value at most
abbrev pub HoldsOfOne : (Value : Type 0) → (Value → Type 0) → Type 0
HoldsOfOne Value Is = (a b : Value) → Is a → Is b → a ≡ b

-- each read has a name and an exact kind, what is found is found once, and each answer is the line's own
abbrev pub IsSoundPlan : List (List ℕ) → List (List ℕ) → Plan → Type 0
IsSoundPlan fetched created (Answer status script) = IsOwn created status script
IsSoundPlan [] created (Read kind next) = ⊥
IsSoundPlan (name ∷ fetched) created (Read kind next) = IsExact kind × ((value : kind.Value) → IsSoundPlan fetched created (next value))
IsSoundPlan fetched created (Find Value Is next) = HoldsOfOne Value Is × ((value : Value) → IsSoundPlan fetched created (next value))

-- ---- plans that answer whatever the files are

-- each kind is total, and what is to be found is there
abbrev pub IsTotalPlan : Plan → Type 0
IsTotalPlan (Answer status script) = ⊤
IsTotalPlan (Read kind next) = IsTotal kind × ((value : kind.Value) → IsTotalPlan (next value))
IsTotalPlan (Find Value Is next) = ((value : Value) × Is value) × ((value : Value) → IsTotalPlan (next value))

-- there is a report of any bytes of the files
abbrev pub IsAnswered : Promise → Type 0
IsAnswered promise = (inputs : List (List ℕ)) → length inputs ≡ length promise.fetched → (report : Report) × promise.Reports inputs report
