-- The runs over a medium that loses, repeats and reorders that words ask for.
use Rattle.std.specs.Prelude.{◌≡◌, ◌<◌, ℕ, List, ◌++◌, length, Option, IfSome}
use Rattle.dcsp_outside.specs.Outside.{Told, bytes_of}
use Rattle.dcsp_script.specs.Scripts.{World}
use Rattle.abt_input.specs.Inputs.{IsModelOf, IsOrderIn}
use Rattle.dcsp_script.specs.declared.status.Status.{Status}
use Rattle.dcsp_script.specs.declared.status.Status.TheVariants.{Good, No}
use Rattle.line_check.specs.Verifying.{IsVerified}
use Rattle.law_subjects.specs.Meaning.{SatisfiesText}
use Rattle.line_replay.specs.Endings.{assigned, end_status}
use Rattle.line_lossy.specs.Asked.{Asked, answer_text, end_of, run_problem, run_world, world_values}
use Rattle.line_lossy.specs.Meaning.{HoldsFiles, IsLossyRun}
use Rattle.abt_command.specs.Lines.{Lossy, IsLine}

-- the words ask for this run of the model under this name, where these are the files, under the order of the named file, where one is named
pub record AsksForLossy (words : List (List ℕ)) (files : List ℕ → Option (List ℕ)) (model : List ℕ) (asked : Asked) : Type 0 where
  pub order_file : Option (List ℕ)
  pub line_is : IsLine words (Lossy model asked.log asked.events asked.seed asked.record_file order_file)
  pub model_is : IsModelOf (bytes_of (files model)) asked.problem
  pub order_is : IsOrderIn files order_file asked.problem asked.order

-- this holds of the files, the model's name and the run of each such run, where the folder tells its files
abbrev pub EachLossy : List (List ℕ) → Option (List ℕ → Option (List ℕ)) → ((List ℕ → Option (List ℕ)) → List ℕ → Asked → Type 0) → Type 0
EachLossy words held P = IfSome held (λ files. (model : List ℕ) (asked : Asked) → AsksForLossy words files model asked → P files model asked)

-- the status that goes with the end of the run
abbrev pub lossy_status : Asked → Status
lossy_status asked = end_status (end_of (run_problem asked) (run_world asked))

-- With status 0 the values that were printed satisfy the model's text; with status 1 a check of the log against the model, over the folder that was left, verifies it, unless it is stopped.
pub record IsCheckedLossy (files : List ℕ → Option (List ℕ)) (model : List ℕ) (asked : Asked) (left : Option (List ℕ → Option (List ℕ))) (status : Status) : Type 0 where
  pub satisfies : status ≡ Good → SatisfiesText (bytes_of (files model)) (assigned (world_values asked.order asked.problem (run_world asked)))
  pub checks : status ≡ No → IfSome left (λ now. IsVerified now model asked.log)

-- The run, with a status that is final: what it means, and that it was printed, logged and recorded whole.
pub record IsLossyAnswer (files : List ℕ → Option (List ℕ)) (model : List ℕ) (asked : Asked) (old new : World) (status : Status) : Type 0 where
  pub run : IsLossyRun asked status
  pub out : Told old.out.written new.out.written (λ before now. now ≡ before ++ answer_text asked)
  pub files_hold : Told old.folder.held new.folder.held (HoldsFiles asked)
  pub checked : IsCheckedLossy files model asked new.folder.held status

-- Whatever comes of the call: the run means what goes with its end; and once a byte was put, log and record are whole, and a check says what it says with the status of that end.
pub record IsTrueLossy (files : List ℕ → Option (List ℕ)) (model : List ℕ) (asked : Asked) (old new : World) : Type 0 where
  pub run : IsLossyRun asked (lossy_status asked)
  pub whole : Told old.out.written new.out.written (λ before now. length before < length now → Told old.folder.held new.folder.held (HoldsFiles asked))
  pub checked : Told old.out.written new.out.written (λ before now. length before < length now → IsCheckedLossy files model asked new.folder.held (lossy_status asked))
