-- The runs that words ask for.
use Rattle.std.specs.Prelude.{◌≡◌, ◌⊎◌, ◌+◌, ◌<◌, ◌≤◌, ℕ, Bool, List, length, Option, Some, IfSome}
use Rattle.dcsp_outside.specs.Outside.{Told, bytes_of}
use Rattle.dcsp_script.specs.Scripts.{World}
use Rattle.dcsp_defs.specs.Csp.{IsSolution}
use Rattle.dcsp_defs.specs.Derivation.{IsRefutation}
use Rattle.abt_defs.specs.Bound.{message_bound}
use Rattle.abt_defs.specs.Runs.{Refuted, Solved, Capped, Spent}
use Rattle.dcsp_rule.specs.declared.aim.Aim.TheVariants.{Satisfy}
use Rattle.dcsp_rule.specs.Problems.{Contents, csp_of}
use Rattle.abt_input.specs.Inputs.{IsModelOf, IsOrderIn, HasChoices}
use Rattle.dcsp_script.specs.declared.status.Status.{Status}
use Rattle.dcsp_script.specs.declared.status.Status.TheVariants.{Good, No}
use Rattle.abt_session.specs.Order.{told_text}
use Rattle.line_check.specs.Verifying.{IsVerified}
use Rattle.law_subjects.specs.Meaning.{SatisfiesText}
use Rattle.line_replay.specs.Endings.{assigned, end_status, final_values}
use Rattle.line_replay.specs.Settings.{Settings}
use Rattle.line_replay.specs.Asked.{Asked, asked_run, asked_steps, replay, solve}
use Rattle.abt_command.specs.Lines.{Line, Replay, Solve, IsLine, value_of}

-- the words ask for this run, where these are the files: a replay of a model that has a problem and a schedule that has choices, or a run from a seed of a model that asks for any solution, each under the order of the named file, where one is named
pub data AsksFor (words : List (List ℕ)) (files : List ℕ → Option (List ℕ)) (asked : Asked) : Type 0 where
  replays : (model schedule log : List ℕ) (trace : Bool) (order_file : Option (List ℕ)) → IsLine words (Replay model schedule log trace order_file)
      → (problem : Contents) → IsModelOf (bytes_of (files model)) problem → (order : Option (List ℕ)) → IsOrderIn files order_file problem order
      → (choices : List ℕ) → HasChoices (bytes_of (files schedule)) choices → asked ≡ replay order problem choices log trace → AsksFor words files asked
  solves : (model log : List ℕ) (settings : Settings) → IsLine words (Solve model log settings)
      → (problem : Contents) → IsModelOf (bytes_of (files model)) problem → problem.aim ≡ Satisfy → (order : Option (List ℕ)) → IsOrderIn files settings.order_file problem order
      → asked ≡ solve order problem log settings → AsksFor words files asked

-- this holds of each run that the words ask for, where the folder tells its files
abbrev pub EachRun : List (List ℕ) → Option (List ℕ → Option (List ℕ)) → (Asked → Type 0) → Type 0
EachRun words held P = IfSome held (λ files. (asked : Asked) → AsksFor words files asked → P asked)

-- the line runs the model under this name
abbrev pub RunsModel : Line → List ℕ → Type 0
RunsModel line name = (value_of line).runs ≡ Some name

-- the words ask for a run of the model under this name
pub record AskForModel (words : List (List ℕ)) (model : List ℕ) : Type 0 where
  pub line : Line
  pub is : IsLine words line
  pub runs : RunsModel line model

-- with status 1 a check of the log against the model, over the folder that the run left, verifies it, unless it is stopped
abbrev pub IsCheckedRun : List (List ℕ) → Option (List ℕ → Option (List ℕ)) → Asked → Status → Type 0
IsCheckedRun words held asked status = status ≡ No → (model : List ℕ) → AskForModel words model → IfSome held (λ files. IsVerified files model asked.session.log)

-- Whatever comes of the call: once a byte of the answer was put, past what tells of the deliveries, a check of the log says of the run's end what it says with the status of that end.
abbrev pub IsCheckedAnswer : List (List ℕ) → Asked → World → World → Type 0
IsCheckedAnswer words asked old new =
    Told old.out.written new.out.written (λ before now. length before + length (told_text asked.session) < length now → IsCheckedRun words new.folder.held asked (end_status (asked_run asked).end))

-- with status 0 the values that were printed satisfy the model's text
abbrev pub IsSatisfyingRun : List (List ℕ) → Option (List ℕ → Option (List ℕ)) → Asked → Status → Type 0
IsSatisfyingRun words held asked status = status ≡ Good → (model : List ℕ) → AskForModel words model
    → IfSome held (λ files. SatisfiesText (bytes_of (files model)) (assigned (final_values asked.session.order asked.problem (asked_run asked))))

-- Whatever comes of the call: where the run ends solved, its values are a solution and satisfy the model's text; where it ends refuted, the derivation that it logs is a refutation; it delivers no more messages than the bound under its order, and fewer where it ends undecided.
pub record IsTrueRun (words : List (List ℕ)) (files : List ℕ → Option (List ℕ)) (asked : Asked) : Type 0 where
  pub solved : (asked_run asked).end ≡ Solved → IsSolution (csp_of asked.problem) (assigned (final_values asked.session.order asked.problem (asked_run asked)))
  pub satisfies : (asked_run asked).end ≡ Solved → (model : List ℕ) → AskForModel words model → SatisfiesText (bytes_of (files model)) (assigned (final_values asked.session.order asked.problem (asked_run asked)))
  pub refuted : (asked_run asked).end ≡ Refuted → IsRefutation (csp_of asked.problem) (asked_steps asked)
  pub bounded : (asked_run asked).net.deliveries ≤ message_bound asked.session.problem
  pub undecided : ((asked_run asked).end ≡ Capped) ⊎ ((asked_run asked).end ≡ Spent) → (asked_run asked).net.deliveries < message_bound asked.session.problem

-- each run that the words ask for is true so, where the folder tells its files
abbrev pub EachTrueRun : List (List ℕ) → Option (List ℕ → Option (List ℕ)) → Type 0
EachTrueRun words held = IfSome held (λ files. (asked : Asked) → AsksFor words files asked → IsTrueRun words files asked)
