-- The answer for a text: its problem, or its first refusal.
use Rattle.std.specs.Prelude.{◌≡◌, ℕ, ◌⊎◌, List, Result, Ok, Err}
use Rattle.fzn_token.specs.declared.token.Token.{Token}
use Rattle.fzn_token.specs.declared.refusal.Refusal.{Refusal}
use Rattle.fzn_token.specs.declared.refusal.Refusal.TheVariants as refusal
use Rattle.fzn_token.specs.declared.refusal.ModelError.{ModelError}
use Rattle.fzn_token.specs.declared.refusal.ModelError.TheVariants as errors
use Rattle.fzn_token.specs.Reading as lexing
use Rattle.fzn_item.specs.declared.item.Item.{Item}
use Rattle.fzn_item.specs.Items as parsing
use Rattle.dcsp_rule.specs.Problems.{Contents}
use Rattle.fzn_model.specs.Items.{resolved}

-- the most bytes of a text
abbrev pub longest_text : ℕ
longest_text = 16777216

-- a place that begins no token, or an integer outside 64 bits
abbrev pub IsLexical : List ℕ → Result Contents Refusal → Type 0
IsLexical text result = (lexical : Refusal) × (result ≡ Err lexical) × lexing.Answers text (Err (errors.Refused lexical))

-- the text has tokens, and an item that no production reads
pub record IsUnread (text : List ℕ) (result : Result Contents Refusal) : Type 0 where
  pub tokens : List Token
  pub at : ℕ
  pub lexed : lexing.Answers text (Ok tokens)
  pub unread : parsing.Answers text tokens (Err (errors.Refused (refusal.Syntax at)))
  pub result_is : result ≡ Err (refusal.Syntax at)

-- the text has tokens and items, and the answer is theirs
pub record IsResolved (text : List ℕ) (result : Result Contents Refusal) : Type 0 where
  pub tokens : List Token
  pub items : List Item
  pub lexed : lexing.Answers text (Ok tokens)
  pub read : parsing.Answers text tokens (Ok items)
  pub result_is : result ≡ resolved text items

-- the answer for a text: the first refusal of its tokens; else of its items; else of their resolution; else its problem
abbrev pub Answers : List ℕ → Result Contents Refusal → Type 0
Answers text result = IsLexical text result ⊎ IsUnread text result ⊎ IsResolved text result

-- the same of a call, which may also run out of memory
abbrev pub AnswersOrLacks : List ℕ → Result Contents ModelError → Type 0
AnswersOrLacks text (Ok problem) = Answers text (Ok problem)
AnswersOrLacks text (Err (errors.Refused refusal)) = Answers text (Err refusal)
AnswersOrLacks text (Err errors.Memory) = Unit {0}

-- a text has one answer
abbrev pub HasOneAnswer : Type 0
HasOneAnswer = (text : List ℕ) (a b : Result Contents Refusal) → Answers text a → Answers text b → a ≡ b
