-- Place after place, each text has tokens or a refusal.
use Rattle.std.proofs.Common.{◌≡◌, ℕ, zero, suc, ◌+◌, ◌<◌, ◌≤◌, inl, inr, List, [], ◌∷◌, ◌++◌, length, Result, Ok, Err, arith, refl, sym, ◌∙◌}
use Rattle.std.proofs.lemmas.Bool.{cases_lt}
use Rattle.fzn_token.specs.declared.token.Token.{Token}
use Rattle.fzn_token.specs.declared.refusal.ModelError.{ModelError}
use Rattle.fzn_token.specs.declared.refusal.ModelError.TheVariants as errors
use Rattle.fzn_token.specs.Reading.{AreSoFar, Reads}
use Rattle.fzn_token.proofs.Extents.{extent}
use Rattle.fzn_token.proofs.SoFar.{none_so_far, push_so_far, all_read, refused}
use Rattle.law_inputs.specs.Answered.{HasTokens, TextsHaveTokens}
use Rattle.law_inputs.proofs.Searches.{gap_at}
use Rattle.law_inputs.proofs.Places.{token_read}

-- a place never lacks memory
no_lack : (text : List ℕ) (i : ℕ) (e : ModelError) → Reads text i (Err e) → (answer : Result (List Token) ModelError) → answer ≡ Err e → answer ≡ Err errors.Memory → ⊥
no_lack text i (errors.Refused refusal) r answer is h = let e = sym is ∙ h in cc
no_lack text i errors.Memory r answer is h = r

-- all tokens were read
whole : (text : List ℕ) (ts : List Token) (at : ℕ) → AreSoFar text ts at → length text ≤ at → HasTokens text
whole text ts at so_far past = record { answer = Ok ts; answers = all_read so_far past; settled = λ e. cc }

-- one token more, from which the reading goes on
one_on : (text : List ℕ) (ts : List Token) (at n : ℕ) → ((us : List Token) (to : ℕ) → AreSoFar text us to → length text ≤ to + n → HasTokens text) → AreSoFar text ts at → length text ≤ at + suc n → at < length text → (answer : Result Token ModelError) → Reads text at answer → HasTokens text
one_on text ts at n go_on so_far past below (Err e) r = record { answer = Err e; answers = refused text ts at e so_far below r; settled = no_lack text at e r (Err e) refl }
one_on text ts at n go_on so_far past below (Ok t) r =
    let x = extent t.kind text t.from t.to r.1.longest.spelled in
    let g = gap_at text t.to x.within in
    go_on (ts ++ t ∷ []) g.0 (push_so_far t so_far below r.0 r.1 g.1) (omega (arith, x.some, r.0, g.1.ordered))

read_on : (n : ℕ) (text : List ℕ) (ts : List Token) (at : ℕ) → AreSoFar text ts at → length text ≤ at + n → HasTokens text
read_on zero text ts at so_far past = whole text ts at so_far (omega arith)
read_on (suc n) text ts at so_far past = elim (cases_lt at (length text)) [
  | inr over ↦ whole text ts at so_far over
  | inl below ↦ let r = token_read text at below in one_on text ts at n (λ us to h l. read_on n text us to h l) so_far past below r.0 r.1
]

pub texts_have_tokens : TextsHaveTokens
texts_have_tokens text =
    let g = gap_at text 0 (omega arith) in
    read_on (length text) text [] g.0 (none_so_far g.1) (omega arith)
