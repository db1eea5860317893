-- The tokens read so far.
use Rattle.std.proofs.Common.{◌≡◌, ℕ, ◌<◌, ◌≤◌, List, [], ◌∷◌, ◌++◌, length, arith, refl, sym, subst, Err}
use Rattle.fzn_token.specs.declared.refusal.Refusal.TheVariants as refusal
use Rattle.fzn_token.specs.declared.refusal.ModelError.{ModelError}
use Rattle.fzn_token.specs.declared.refusal.ModelError.TheVariants as errors
use Rattle.fzn_token.specs.declared.token.Token.{Token}
use Rattle.fzn_token.specs.declared.token.TokenKind.TheVariants as kind
use Rattle.fzn_token.specs.Gaps.{IsGap}
use Rattle.fzn_token.specs.Tokens.{IsToken, IsLongest, NothingBegins, AreTokensTo, AreTokens}
use Rattle.fzn_token.specs.Reading.{AreSoFar, IsReached, Reads, Answers}

-- after the first gap no token is read
pub none_so_far : {text : List ℕ} {at : ℕ} → IsGap text 0 at → AreSoFar text [] at
none_so_far gap = record { end = 0; before = refl; gap = gap }

-- one more token at the end of a list
push_to : (text : List ℕ) (i : ℕ) (ts : List Token) (j : ℕ) (t : Token) → AreTokensTo text i ts j → IsGap text j t.from → t.from < length text → IsToken text t → AreTokensTo text i (ts ++ t ∷ []) t.to
push_to text i [] j t before gap below token = (subst (λ x. IsGap text x t.from) (sym before) gap, below, token, refl)
push_to text i (u ∷ ts) j t before gap below token = (before.0, before.1, before.2, push_to text u.to ts j t before.3 gap below token)

-- one more token and the gap behind it
pub push_so_far : {text : List ℕ} {ts : List Token} {at next : ℕ} (t : Token) → AreSoFar text ts at → at < length text → t.from ≡ at → IsToken text t → IsGap text t.to next → AreSoFar text (ts ++ t ∷ []) next
push_so_far {text} {ts} {at} {next} t so_far below from_at token gap = record {
  end = t.to;
  before = push_to text 0 ts so_far.end t so_far.before (subst (λ x. IsGap text so_far.end x) (sym from_at) so_far.gap) (omega arith) token;
  gap = gap;
}

-- at the text's end all tokens are read
pub all_read : {text : List ℕ} {ts : List Token} {at : ℕ} → AreSoFar text ts at → length text ≤ at → AreTokens text ts
-- at the text's end all tokens are read
all_read {text} {ts} {at} so_far past = let same : at ≡ length text = omega (arith, so_far.gap.within) in record { end = so_far.end; all = so_far.before; gap = subst (λ x. IsGap text so_far.end x) same so_far.gap }

-- a place after the tokens so far is reached
pub reached : {text : List ℕ} {ts : List Token} {at : ℕ} → AreSoFar text ts at → at < length text → IsReached text at
reached {ts = ts} so_far below = record { tokens = ts; end = so_far.end; before = so_far.before; gap = so_far.gap; within = below }

-- the refusal at a reached place is the refusal of the text
pub refused : (text : List ℕ) (ts : List Token) (at : ℕ) (e : ModelError) → AreSoFar text ts at → at < length text → Reads text at (Err e) → Answers text (Err e)
refused text ts at (errors.Refused (refusal.Lex place)) so_far below r = record { reached = subst (IsReached text) (sym r.0) (reached so_far below); nothing = subst (NothingBegins text) (sym r.0) r.1 }
refused text ts at (errors.Refused (refusal.IntRange place)) so_far below r = record { reached = subst (IsReached text) (sym r.0) (reached so_far below); value = r.1.0; to = r.1.1; longest = subst (λ x. IsLongest (kind.Whole r.1.0) text x r.1.1) (sym r.0) r.1.2; outside = r.1.3 }
refused text ts at _ so_far below r = absurd r
