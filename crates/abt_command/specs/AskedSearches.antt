-- The searches for a best value that words ask for.
use Rattle.std.specs.Prelude.{◌≡◌, ◌≢◌, ◌+◌, ◌<◌, ℕ, ℤ, List, length, Option, Some, IfSome, IsSome}
use Rattle.dcsp_outside.specs.Outside.{Told, bytes_of}
use Rattle.dcsp_script.specs.Scripts.{World}
use Rattle.dcsp_rule.specs.declared.aim.Aim.TheVariants.{Satisfy}
use Rattle.dcsp_rule.specs.Aims.{aimed_at}
use Rattle.abt_input.specs.Inputs.{IsModelOf, IsOrderIn}
use Rattle.dcsp_script.specs.declared.status.Status.{Status}
use Rattle.dcsp_script.specs.declared.status.Status.TheVariants.{Good, No}
use Rattle.line_check.specs.Taking.{narrowing}
use Rattle.line_check.specs.Verifying.{IsVerifiedBy, IsVerified}
use Rattle.law_subjects.specs.Meaning.{SatisfiesText}
use Rattle.line_replay.specs.Endings.{assigned}
use Rattle.abt_optimum.specs.Best.{aim_value}
use Rattle.line_solve.specs.Searching.{AskedSearch, round_count}
use Rattle.line_solve.specs.BestAnswers.{search_status}
use Rattle.line_solve.specs.BestHeadline.{PrintsBest, puts_of_first, IsBestSearch, IsBoundedSearch, IsRefutedSearch, IsUnfinishedSearch}
use Rattle.abt_command.specs.Lines.{Solve, IsLine}
use Rattle.abt_command.specs.AskedRuns.{AskForModel}

-- the words ask for this search, where these are the files: they are a line of `solve`, its model asks for the best value of a term, and its rounds have the order of the named file, where one is named
pub record AsksForSearch (words : List (List ℕ)) (files : List ℕ → Option (List ℕ)) (asked : AskedSearch) : Type 0 where
  pub model : List ℕ
  pub line_is : IsLine words (Solve model asked.log asked.set)
  pub model_is : IsModelOf (bytes_of (files model)) asked.problem
  pub aims : asked.problem.aim ≢ Satisfy
  pub order_is : IsOrderIn files asked.set.order_file asked.problem asked.order

-- this holds of each search that the words ask for, where the folder tells its files
abbrev pub EachSearch : List (List ℕ) → Option (List ℕ → Option (List ℕ)) → (AskedSearch → Type 0) → Type 0
EachSearch words held P = IfSome held (λ files. (asked : AskedSearch) → AsksForSearch words files asked → P asked)

-- with status 0 the values that were printed satisfy the model's text
abbrev pub IsSatisfyingSearch : List (List ℕ) → Option (List ℕ → Option (List ℕ)) → AskedSearch → Status → Type 0
IsSatisfyingSearch words held asked status = status ≡ Good → (values : List ℤ) → PrintsBest asked values → (model : List ℕ) → AskForModel words model
    → IfSome held (λ files. SatisfiesText (bytes_of (files model)) (assigned values))

-- what a check of the log, over the folder that the search left, says of it, unless it is stopped
pub record IsCheckedSearch (words : List (List ℕ)) (held : Option (List ℕ → Option (List ℕ))) (asked : AskedSearch) (status : Status) : Type 0 where
  -- with status 1 it is verified against the model
  pub refuted : status ≡ No → (model : List ℕ) → AskForModel words model → IfSome held (λ files. IsVerified files model asked.log)
  -- with status 0, and an aim at a variable, it is verified against the model and better values than that of what was printed
  pub best : status ≡ Good → IsSome (aimed_at asked.problem.aim) → (values : List ℤ) → PrintsBest asked values → (model : List ℕ) → AskForModel words model
      → IfSome held (λ files. IsVerifiedBy (narrowing (aim_value asked.problem.aim (assigned values))) files model asked.log)

-- Whatever comes of the call: once a byte of the answer was put, past what the rounds put, a check of the log says what it says with the status of the search's end.
abbrev pub IsCheckedBest : List (List ℕ) → AskedSearch → World → World → Type 0
IsCheckedBest words asked old new =
    Told old.out.written new.out.written (λ before now. length before + length (puts_of_first asked (round_count asked)) < length now → IsCheckedSearch words new.folder.held asked (search_status asked))

-- Whatever comes of the call: what the end of the search means, by the status that goes with it; it has as few rounds, and none of them delivers more messages than the bound.
pub record IsTrueSearch (words : List (List ℕ)) (files : List ℕ → Option (List ℕ)) (asked : AskedSearch) : Type 0 where
  pub best : IsBestSearch asked (search_status asked)
  pub satisfies : IsSatisfyingSearch words (Some files) asked (search_status asked)
  pub refuted : IsRefutedSearch asked (search_status asked)
  pub unfinished : IsUnfinishedSearch asked (search_status asked)
  pub bounded : IsBoundedSearch asked (search_status asked)

-- each search that the words ask for is true so, where the folder tells its files
abbrev pub EachTrueSearch : List (List ℕ) → Option (List ℕ → Option (List ℕ)) → Type 0
EachTrueSearch words held = IfSome held (λ files. (asked : AskedSearch) → AsksForSearch words files asked → IsTrueSearch words files asked)
