-- The places that refusals name.
use Rattle.std.specs.Prelude.{◌≡◌, ℕ, List, Err}
use Rattle.fzn_token.specs.declared.token.Token.{Token}
use Rattle.fzn_token.specs.Tokens.{AreTokens}
use Rattle.fzn_token.specs.Reading.{IsBad, IsOutside}
use Rattle.dcsp_defs.specs.Words.{In}
use Rattle.fzn_token.specs.declared.refusal.Refusal.{Refusal}
use Rattle.fzn_token.specs.declared.refusal.Refusal.TheVariants as refusal
use Rattle.fzn_model.specs.Models.{Answers}

-- the text has tokens, and one of them begins at this place
pub record BeginsToken (text : List ℕ) (at : ℕ) : Type 0 where
  pub tokens : List Token
  pub lexed : AreTokens text tokens
  pub token : Token
  pub among : In token tokens
  pub first : token.from ≡ at

-- what stands at the place of a refusal: no token at all, an integer outside 64 bits, or a token. That there is no solve item has no place
abbrev pub IsPlaced : List ℕ → Refusal → Type 0
IsPlaced text (refusal.Lex at) = IsBad text at
IsPlaced text (refusal.IntRange at) = IsOutside text at
IsPlaced text (refusal.Syntax at) = BeginsToken text at
IsPlaced text (refusal.Misplaced at) = BeginsToken text at
IsPlaced text (refusal.Duplicate at) = BeginsToken text at
IsPlaced text (refusal.Undeclared at) = BeginsToken text at
IsPlaced text (refusal.Unbounded at) = BeginsToken text at
IsPlaced text (refusal.Unsupported at) = BeginsToken text at
IsPlaced text (refusal.UnknownConstraint at) = BeginsToken text at
IsPlaced text (refusal.IllTyped at) = BeginsToken text at
IsPlaced text (refusal.OutputShape at) = BeginsToken text at
IsPlaced text (refusal.WideSum at) = BeginsToken text at
IsPlaced text (refusal.Limit which count at) = BeginsToken text at
IsPlaced text refusal.NoSolve = Unit {0}

-- The place of each refusal of a text is the first byte of a token, or one where no token in range begins.
abbrev pub RefusalsArePlaced : Type 0
RefusalsArePlaced = (text : List ℕ) (refusal : Refusal) → Answers text (Err refusal) → IsPlaced text refusal
