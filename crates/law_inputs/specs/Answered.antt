-- Each text has an answer: tokens or a first place that is refused, and so on up to its problem.
use Rattle.std.specs.Prelude.{◌≡◌, ℕ, List, Result, Err}
use Rattle.fzn_token.specs.declared.token.Token.{Token}
use Rattle.fzn_token.specs.declared.refusal.Refusal.{Refusal}
use Rattle.fzn_token.specs.declared.refusal.ModelError.{ModelError}
use Rattle.fzn_token.specs.declared.refusal.ModelError.TheVariants as errors
use Rattle.fzn_token.specs.Reading as lexing
use Rattle.fzn_item.specs.declared.item.Item.{Item}
use Rattle.fzn_item.specs.Items as parsing
use Rattle.dcsp_rule.specs.Problems.{Contents}
use Rattle.fzn_model.specs.Models as reading

-- the text has tokens, or a first place that is refused
pub record HasTokens (text : List ℕ) : Type 0 where
  pub answer : Result (List Token) ModelError
  pub answers : lexing.Answers text answer
  pub settled : answer ≡ Err errors.Memory → ⊥

-- the tokens have items, or a first item that no production reads
pub record HasItems (text : List ℕ) (tokens : List Token) : Type 0 where
  pub answer : Result (List Item) ModelError
  pub answers : parsing.Answers text tokens answer
  pub settled : answer ≡ Err errors.Memory → ⊥

-- the text has a problem, or a first refusal
pub record HasAnswer (text : List ℕ) : Type 0 where
  pub answer : Result Contents Refusal
  pub answers : reading.Answers text answer

-- Each text, of any length, has tokens or a first place that is refused.
abbrev pub TextsHaveTokens : Type 0
TextsHaveTokens = (text : List ℕ) → HasTokens text

-- Any tokens have items or a first one that is not read.
abbrev pub TokensHaveItems : Type 0
TokensHaveItems = (text : List ℕ) (tokens : List Token) → HasItems text tokens

-- Each text has a problem or a first refusal.
abbrev pub TextsHaveAnswers : Type 0
TextsHaveAnswers = (text : List ℕ) → HasAnswer text
