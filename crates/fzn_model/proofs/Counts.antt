-- A text has no more tokens than bytes.
use Rattle.std.proofs.Common.{ℕ, ◌+◌, ◌≤◌, List, [], ◌∷◌, length, arith}
use Rattle.fzn_token.specs.declared.token.Token.{Token}
use Rattle.fzn_token.specs.Tokens.{AreTokensTo}
use Rattle.fzn_token.specs.Reading.{AreSoFar}
use Rattle.fzn_token.proofs.Extents.{extent}

-- these tokens are no more than the bytes that they stand in
few_tokens : (text : List ℕ) (i : ℕ) (ts : List Token) (j : ℕ) → AreTokensTo text i ts j → i + length ts ≤ j
few_tokens text i [] j h = omega (arith, h)
few_tokens text i (t ∷ ts) j h =
    let o = h.0.ordered in
    let s = (extent t.kind text t.from t.to h.2.longest.spelled).some in
    let f = few_tokens text t.to ts j h.3 in
    omega (arith, o, s, f)

-- nor are those that were read so far
pub tokens_so_far : (text : List ℕ) (ts : List Token) (at : ℕ) → AreSoFar text ts at → length ts ≤ length text
tokens_so_far text ts at so_far =
    let b = few_tokens text 0 ts so_far.end so_far.before in
    let c = so_far.gap.ordered in
    let d = so_far.gap.within in
    omega (arith, b, c, d)
