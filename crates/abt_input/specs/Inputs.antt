-- What the bytes of a model, of a log, of a schedule, of an order, of a formula or of a proof are.
use Rattle.std.specs.Prelude.{◌≡◌, ℕ, ℤ, ◌^◌, ◌≤◌, List, length, Option, Some, None, Ok, Err, ⊤}
use Rattle.dcsp_outside.specs.Outside.{bytes_of}
use Rattle.dcsp_defs.specs.declared.Step.{Step}
use Rattle.dcsp_rule.specs.Problems.{Contents}
use Rattle.ngd_log.specs.Logs.{IsLogOf, IsFirstBad}
use Rattle.abt_schedule.specs.Schedules as schedules
use Rattle.dcsp_common.specs.declared.limits.Which.TheVariants.{Variables}
use Rattle.dcsp_common.specs.Limits.{most}
use Rattle.dcsp_order.specs.Texts as orders
use Rattle.cnf_front.specs.Formulas as formulas
use Rattle.cnf_front.specs.declared.header.CnfError.{CnfError}
use Rattle.rup_check.specs.ProofText.{IsProofOf, IsFirstBadLine}
use Rattle.fzn_model.specs.Models.{longest_text, Answers}
use Rattle.fzn_token.specs.declared.refusal.Refusal.{Refusal}

-- the most bytes of a model
abbrev pub most_model : ℕ
most_model = longest_text

-- the most bytes of a log
abbrev pub most_log : ℕ
most_log = 2 ^ 62

-- the most bytes of a schedule
abbrev pub most_schedule : ℕ
most_schedule = 67108864

-- the most bytes of an order
abbrev pub most_order : ℕ
most_order = 65536

-- the most bytes of a formula
abbrev pub most_cnf : ℕ
most_cnf = 16777216

-- this is the problem of the model
pub record IsModelOf (model : List ℕ) (problem : Contents) : Type 0 where
  pub short : length model ≤ most_model
  pub reads : Answers model (Ok problem)

-- the model is short enough, and this is why it has no problem
pub record IsRefused (model : List ℕ) (refusal : Refusal) : Type 0 where
  pub short : length model ≤ most_model
  pub reads : Answers model (Err refusal)

-- this is the derivation of the log
pub record IsTextOf (log : List ℕ) (steps : List Step) : Type 0 where
  pub short : length log ≤ most_log
  pub reads : IsLogOf log steps

-- the log is short enough, and this is its first bad line
pub record IsBadAt (log : List ℕ) (number : ℕ) : Type 0 where
  pub short : length log ≤ most_log
  pub line : IsFirstBad log number

-- these are the choices of the schedule
pub record HasChoices (schedule choices : List ℕ) : Type 0 where
  pub short : length schedule ≤ most_schedule
  pub reads : schedules.IsScheduleOf schedule choices

-- the schedule is short enough, and this is its first bad line
pub record IsScheduleBadAt (schedule : List ℕ) (number : ℕ) : Type 0 where
  pub short : length schedule ≤ most_schedule
  pub line : schedules.IsFirstBad schedule number

-- this is the order of so many variables, which are those of some model
pub record HasOrder (variables : ℕ) (text order : List ℕ) : Type 0 where
  pub few : variables ≤ most Variables
  pub short : length text ≤ most_order
  pub reads : orders.IsTextOf variables text order

-- the order's text is short enough, and this is its first bad line
pub record IsOrderBadAt (variables : ℕ) (text : List ℕ) (number : ℕ) : Type 0 where
  pub few : variables ≤ most Variables
  pub short : length text ≤ most_order
  pub line : orders.IsFirstBad variables text number

-- the order of the problem's variables that a line has, by the files of a folder: that of the one that is named, and none where none is
abbrev pub IsOrderIn : (List ℕ → Option (List ℕ)) → Option (List ℕ) → Contents → Option (List ℕ) → Type 0
IsOrderIn files None problem None = ⊤
IsOrderIn files None problem (Some order) = ⊥
IsOrderIn files (Some name) problem None = ⊥
IsOrderIn files (Some name) problem (Some order) = HasOrder (length problem.domains) (bytes_of (files name)) order

-- this is the problem of the formula
pub record IsFormulaOf (text : List ℕ) (problem : Contents) : Type 0 where
  pub short : length text ≤ most_cnf
  pub reads : formulas.problem_of text ≡ Ok problem

-- the text is short enough, and this is why it is no formula
pub record IsCnfRefused (text : List ℕ) (error : CnfError) : Type 0 where
  pub short : length text ≤ most_cnf
  pub reads : formulas.problem_of text ≡ Err error

-- these are the clauses of the proof
pub record HasClauses (text : List ℕ) (clauses : List (List ℤ)) : Type 0 where
  pub short : length text ≤ most_log
  pub reads : IsProofOf text clauses

-- the proof is short enough, and this is its first bad line
pub record IsProofBadAt (text : List ℕ) (number : ℕ) : Type 0 where
  pub short : length text ≤ most_log
  pub line : IsFirstBadLine text number
