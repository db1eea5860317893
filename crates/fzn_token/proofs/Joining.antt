-- Tokens that a reader takes join those before them.
use Rattle.std.proofs.Common.{◌≡◌, ℕ, ◌<◌, ◌≤◌, List, [], ◌∷◌, ◌++◌, length, Option, Some, None, Ok, Err, inl, inr, refl, sym, subst, ◌∙◌, append_assoc, append-nil}
use Rattle.fzn_token.specs.declared.token.Token.{Token}
use Rattle.fzn_token.specs.declared.refusal.ModelError.{ModelError}
use Rattle.fzn_token.specs.declared.token.Mark.TheVariants as mark
use Rattle.fzn_token.specs.declared.token.TokenKind.TheVariants as kind
use Rattle.fzn_token.specs.declared.reader.TokenReader.{TokenReader}
use Rattle.fzn_token.specs.Gaps.{IsGap}
use Rattle.fzn_token.specs.Tokens.{IsToken, AreTokens}
use Rattle.fzn_token.specs.Reading.{Reads, IsBehind, IsAtEnd, ReadsOn, Refuses, TakesOne, IsPiece, IsOpen}
use Rattle.fzn_token.proofs.SoFar.{push_so_far, all_read, refused}

-- no token is read
pub reads_none : (r : TokenReader) → ReadsOn r [] r
reads_none r text ts behind = subst (IsBehind text r) (sym (append-nil ts)) behind

-- some tokens are read, and then others
pub reads_join : (a : TokenReader) (us : List Token) (b : TokenReader) (vs : List Token) (c : TokenReader) → ReadsOn a us b → ReadsOn b vs c → ReadsOn a (us ++ vs) c
reads_join a us b vs c first second text ts behind = subst (IsBehind text c) (append_assoc ts us vs) (second text (ts ++ us) (first text ts behind))

-- some tokens are read, and then the text is refused
pub refuses_join : (a : TokenReader) (us : List Token) (b : TokenReader) (e : ModelError) → ReadsOn a us b → Refuses b e → Refuses a e
refuses_join a us b e first second text ts behind = second text (ts ++ us) (first text ts behind)

-- some tokens are read, and then the text ends
pub reads_all : (a : TokenReader) (us : List Token) (b : TokenReader) → ReadsOn a us b → IsAtEnd b → (text : List ℕ) (ts : List Token) → IsBehind text a ts → AreTokens text (ts ++ us)
reads_all a us b first ends text ts behind =
    let h = first text ts behind in
    all_read h.so_far (subst (λ x. length x ≤ b.at) h.same ends)

-- the token at the reader's place is read, and the gap behind it
pub reads_one : (a b : TokenReader) (t : Token) → a.text.now ≡ b.text.now → a.at < length a.text.now → Reads a.text.now a.at (Ok t) → IsGap b.text.now t.to b.at → ReadsOn a (t ∷ []) b
reads_one a b t same below read gap text ts behind = record {
  same = sym same ∙ behind.same;
  so_far = push_so_far t behind.so_far (subst (λ x. a.at < length x) behind.same below) read.0 (subst (λ x. IsToken x t) behind.same read.1) (subst (λ x. IsGap x t.to b.at) (sym same ∙ behind.same) gap);
}

-- no token begins at the reader's place
pub refuses_one : (a : TokenReader) (e : ModelError) → a.at < length a.text.now → Reads a.text.now a.at (Err e) → Refuses a e
refuses_one a e below read text ts behind = refused text ts a.at e behind.so_far (subst (λ x. a.at < length x) behind.same below) (subst (λ x. Reads x a.at (Err e)) behind.same read)

-- another token than `;`
pub still_open : (ts : List Token) (t : Token) → IsOpen ts → (t.kind ≡ kind.Mark mark.Semicolon → ⊥) → IsOpen (ts ++ t ∷ [])
still_open [] t open_so_far other = (other, tt)
still_open (u ∷ ts) t open_so_far other = (open_so_far.0, still_open ts t open_so_far.1 other)

-- the first `;`
pub closes : (ts : List Token) (t : Token) → IsOpen ts → t.kind ≡ kind.Mark mark.Semicolon → IsPiece (ts ++ t ∷ [])
closes [] t open_so_far is = inl (is, refl)
closes (u ∷ ts) t open_so_far is = inr (open_so_far.0, closes ts t open_so_far.1 is)

-- no token is left
pub reads_end : (a : TokenReader) (us : List Token) (b c : TokenReader) (next : Option Token) → ReadsOn a us b → TakesOne b c (Ok next) → ((t : Token) → next ≡ Some t → ⊥) → ReadsOn a us c
reads_end a us b c None reads ends none = subst (ReadsOn a us) (sym ends.0) reads
reads_end a us b c (Some t) reads ends none = absurd (none t refl)

-- no token is left, and so all were read
pub reads_last : (a : TokenReader) (us : List Token) (b c : TokenReader) (next : Option Token) → ReadsOn a us b → TakesOne b c (Ok next) → ((t : Token) → next ≡ Some t → ⊥) → (text : List ℕ) (ts : List Token) → IsBehind text a ts → AreTokens text (ts ++ us)
reads_last a us b c None reads ends none text ts behind = reads_all a us c (subst (ReadsOn a us) (sym ends.0) reads) ends.1 text ts behind
reads_last a us b c (Some t) reads ends none text ts behind = absurd (none t refl)
