-- Tokens that are kept join those before them.
use Rattle.std.proofs.Common.{◌≡◌, ℕ, ◌<◌, ◌≤◌, List, [], ◌∷◌, ◌++◌, length, Ok, Err, arith, refl, sym, subst, ap, ◌∙◌, append-nil}
use Rattle.fzn_token.specs.declared.token.Token.{Token}
use Rattle.fzn_token.specs.declared.refusal.ModelError.{ModelError}
use Rattle.fzn_token.specs.declared.token.Mark.TheVariants as mark
use Rattle.fzn_token.specs.declared.token.TokenKind.TheVariants as kind
use Rattle.fzn_token.specs.declared.reader.TokenReader.{TokenReader}
use Rattle.fzn_token.specs.Gaps.{IsGap}
use Rattle.fzn_token.specs.Reading.{Reads, ReadsOn, Refuses, AreSoFar, IsAtEnd, IsKept, IsPiece, IsOpen, IsOpenTo, IsOpenAt, left}
use Rattle.fzn_token.proofs.Extents.{extent}
use Rattle.fzn_token.proofs.GapLaws.{gap_stays, same_gap}
use Rattle.fzn_token.proofs.ByteClasses.{token_stands}
use Rattle.fzn_token.proofs.Joining.{reads_join, refuses_join, reads_one, refuses_one, still_open, closes}

-- one token more is read
pub kept_read : (a : TokenReader) (us : List Token) (b : TokenReader) (vs : List Token) (c : TokenReader) (t : Token) → IsOpenTo a us b → IsKept b us vs c t → ReadsOn a vs c
kept_read a us b vs c t so_far one = subst (λ ws. ReadsOn a ws c) (sym one.added) (reads_join a us b (t ∷ []) c so_far.read one.read)

-- one token more is read that is no `;`
pub kept_open : (a : TokenReader) (us : List Token) (b : TokenReader) (vs : List Token) (c : TokenReader) (t : Token) → IsOpenTo a us b → IsKept b us vs c t → (t.kind ≡ kind.Mark mark.Semicolon → ⊥) → IsOpenTo a vs c
kept_open a us b vs c t so_far one other =
    let before = so_far.no_more in
    let after = one.fewer in
    record {
      read = kept_read a us b vs c t so_far one;
      no_semicolon = subst IsOpen (sym one.added) (still_open us t so_far.no_semicolon other);
      no_more = omega (arith, before, after);
      fewer = λ some. omega (arith, before, after);
    }

-- one token more is read that is a `;`
pub kept_closes : (a : TokenReader) (us : List Token) (b : TokenReader) (vs : List Token) (c : TokenReader) (t : Token) → IsOpenTo a us b → IsKept b us vs c t → t.kind ≡ kind.Mark mark.Semicolon → IsPiece vs
kept_closes a us b vs c t so_far one is = subst IsPiece (sym one.added) (closes us t so_far.no_semicolon is)

-- before the first token
pub none_kept : (old : TokenReader) → IsOpenAt old [] old.at
none_kept old now same gap =
    record {
      read = λ text ts behind. (
          let stays = gap_stays behind.so_far.gap in
          let at : old.at ≡ now.at = same_gap stays (subst (λ x. IsGap x old.at now.at) behind.same gap) in
          let there : AreSoFar text ts now.at = subst (AreSoFar text ts) at behind.so_far in
          record { same = same ∙ behind.same; so_far = subst (λ us. AreSoFar text us now.at) (sym (append-nil ts)) there });
      no_semicolon = tt;
      no_more = (let size = ap length same in omega (arith, gap.ordered));
      fewer = λ some. absurd (some refl);
    }

-- a gap behind the tokens so far
pub gap_kept : (old : TokenReader) (us : List Token) (at to : ℕ) → IsOpenAt old us at → IsGap old.text.now at to → IsOpenAt old us to
gap_kept old us at to so_far gap now same rest = so_far now same (subst (λ x. IsGap old.text.now at x) (same_gap (gap_stays gap) rest) gap)

-- one token more, and a reader behind the gap after it
pub record IsOneMore (old now : TokenReader) (us vs : List Token) (t : Token) : Type 0 where
  pub here : TokenReader
  pub before : IsOpenTo old us here
  pub one : IsKept here us vs now t

pub one_more : (old : TokenReader) (us : List Token) (at : ℕ) (vs : List Token) (t : Token) (now : TokenReader) → IsOpenAt old us at → at < length old.text.now → Reads old.text.now at (Ok t) → vs ≡ us ++ t ∷ [] → now.text.now ≡ old.text.now → IsGap old.text.now t.to now.at → IsOneMore old now us vs t
one_more old us at vs t now so_far below reads added same gap =
    let here : TokenReader = record { text = old.text; at = at; small = old.small; within = omega arith } in
    let first : IsGap old.text.now at at = subst (λ x. IsGap old.text.now x x) reads.0 (token_stands old.text.now t (omega (arith, reads.0)) reads.1) in
    let e = extent t.kind old.text.now t.from t.to reads.1.longest.spelled in
    let size = ap length same in
    record {
      here = here;
      before = so_far here refl first;
      one = record {
        added = added;
        read = reads_one here now t (sym same) below reads (subst (λ x. IsGap x t.to now.at) (sym same) gap);
        fewer = omega (arith, e.some, reads.0, gap.ordered, below);
      };
    }

-- one token more that is no `;`
pub token_kept : (old : TokenReader) (us : List Token) (at : ℕ) (vs : List Token) (t : Token) (to : ℕ) → IsOpenAt old us at → at < length old.text.now → Reads old.text.now at (Ok t) → vs ≡ us ++ t ∷ [] → to ≡ t.to → (t.kind ≡ kind.Mark mark.Semicolon → ⊥) → IsOpenAt old vs to
token_kept old us at vs t to so_far below reads added behind other now same gap =
    let more = one_more old us at vs t now so_far below reads added same (subst (λ x. IsGap old.text.now x now.at) behind gap) in
    kept_open old us more.here vs now t more.before more.one other

-- what is read up to a first `;`
pub record IsWholePiece (old : TokenReader) (us : List Token) (now : TokenReader) : Type 0 where
  pub read : ReadsOn old us now
  pub piece : IsPiece us
  pub fewer : left now < left old

-- one token more that is a `;`
pub token_closes : (old : TokenReader) (us : List Token) (at : ℕ) (vs : List Token) (t : Token) (to : ℕ) (now : TokenReader) → IsOpenAt old us at → at < length old.text.now → Reads old.text.now at (Ok t) → vs ≡ us ++ t ∷ [] → to ≡ t.to → t.kind ≡ kind.Mark mark.Semicolon → now.text.now ≡ old.text.now → IsGap old.text.now to now.at → IsWholePiece old vs now
token_closes old us at vs t to now so_far below reads added behind is same gap =
    let more = one_more old us at vs t now so_far below reads added same (subst (λ x. IsGap old.text.now x now.at) behind gap) in
    let before = more.before.no_more in
    let after = more.one.fewer in
    record {
      read = kept_read old us more.here vs now t more.before more.one;
      piece = kept_closes old us more.here vs now t more.before more.one is;
      fewer = omega (arith, before, after);
    }

-- no token begins behind those so far
pub open_refuses : (old : TokenReader) (us : List Token) (at : ℕ) (e : ModelError) → IsOpenAt old us at → at < length old.text.now → IsGap old.text.now at at → Reads old.text.now at (Err e) → Refuses old e
open_refuses old us at e so_far below stands read =
    let here : TokenReader = record { text = old.text; at = at; small = old.small; within = omega arith } in
    refuses_join old us here e (so_far here refl stands).read (refuses_one here e below read)

-- behind the last byte the text ends
pub at_end : (old : TokenReader) (at : ℕ) (now : TokenReader) → length old.text.now ≤ at → now.text.now ≡ old.text.now → IsGap old.text.now at now.at → IsAtEnd now
at_end old at now past same gap = let size = ap length same in omega (arith, gap.ordered)
