-- Texts that differ only in the blanks and comments between their tokens.
use Rattle.std.specs.Prelude.{◌≡◌, ℕ, List, [], ◌∷◌, Ok}
use Rattle.fzn_token.specs.declared.token.Token.{Token}
use Rattle.fzn_token.specs.Tokens.{AreTokens}
use Rattle.dcsp_rule.specs.Problems.{Contents}
use Rattle.fzn_scope.specs.Names.{bytes_at}
use Rattle.fzn_model.specs.Models.{Answers}

-- a token of one text and a token of another are of one kind, and written alike
pub record AreAlike (text other : List ℕ) (t u : Token) : Type 0 where
  pub kind : t.kind ≡ u.kind
  pub bytes : bytes_at text t.from t.to ≡ bytes_at other u.from u.to

-- as many tokens, each like the other
abbrev pub AllAlike : List ℕ → List ℕ → List Token → List Token → Type 0
AllAlike text other [] [] = Unit {0}
AllAlike text other [] (u ∷ us) = ⊥
AllAlike text other (t ∷ ts) [] = ⊥
AllAlike text other (t ∷ ts) (u ∷ us) = AreAlike text other t u × AllAlike text other ts us

-- two texts have the same tokens, whatever stands between them
pub record DifferInGaps (text other : List ℕ) : Type 0 where
  pub tokens : List Token
  pub others : List Token
  pub lexed : AreTokens text tokens
  pub other_lexed : AreTokens other others
  pub alike : AllAlike text other tokens others

-- Blanks and comments between tokens change nothing: a text with the same tokens has the same problem.
abbrev pub GapsAreIgnored : Type 0
GapsAreIgnored = (text other : List ℕ) → DifferInGaps text other → (problem : Contents) → Answers text (Ok problem) → Answers other (Ok problem)
