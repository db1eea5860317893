-- The longest token where a text begins.
use Rattle.std.proofs.Common.{◌≡◌, ℕ, ◌+◌, ◌<◌, List, length, arith, sym, refl, ap, subst}
use Rattle.std.specs.Prelude.{slice_index}
use Rattle.fzn_token.specs.declared.token.TokenKind.{TokenKind}
use Rattle.fzn_token.specs.declared.token.TokenKind.TheVariants as kind
use Rattle.fzn_token.specs.Quotes.{IsTextEnd}
use Rattle.fzn_token.specs.Tokens.{Spells, IsLongest, NothingBegins}
use Rattle.fzn_token.proofs.TextEnds.{same_end}
use Rattle.fzn_token.proofs.Classes.{quote, class_of, other_class}

-- a quoted text is the only token at its quote
module _ (text : List ℕ) (i : ℕ) (below : i < length text) (here : slice_index text i ≡ 34) where
  -- a token that begins here ends as the text does
  text_only : (k : TokenKind) (to : ℕ) → Spells k text i to → IsTextEnd text (i + 1) to
  text_only kind.Text to s = subst (λ x. IsTextEnd text x to) (sym s.1.2) s.2
  text_only kind.Name to s = absurd (other_class kind.Name text i to quote (ap class_of here) (λ e. cc) s)
  text_only (kind.Word word) to s = absurd (other_class (kind.Word word) text i to quote (ap class_of here) (λ e. cc) s)
  text_only (kind.Whole z) to s = absurd (other_class (kind.Whole z) text i to quote (ap class_of here) (λ e. cc) s)
  text_only kind.Float to s = absurd (other_class kind.Float text i to quote (ap class_of here) (λ e. cc) s)
  text_only (kind.Mark mark) to s = absurd (other_class (kind.Mark mark) text i to quote (ap class_of here) (λ e. cc) s)

  -- the text is the longest token
  pub text_longest : {j : ℕ} → IsTextEnd text (i + 1) j → IsLongest kind.Text text i j
  text_longest {j} e = record {
    spelled = (i + 1, (below, here, refl), e);
    longest = λ k to s. let same = same_end e (text_only k to s) in omega arith;
  }

  -- with no end, no token begins
  pub text_missing : ((j : ℕ) → IsTextEnd text (i + 1) j → ⊥) → NothingBegins text i
  text_missing none = λ k to s. none to (text_only k to s)
