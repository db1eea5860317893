-- Texts of pieces: each is the bytes of a token and the blanks behind it.
use Rattle.std.proofs.Common.{◌≡◌, ℕ, ◌+◌, ◌<◌, Bool, true, false, List, [], ◌∷◌, ◌++◌, length, slice_index, sym, refl, ap, inl, ⊎_elim, ◌∙◌, subst, append_assoc, length-append, arith}
use Rattle.std.specs.Prelude.{◌==◌, ◌||◌}
use Rattle.std.specs.List.{list_all}
use Rattle.std.proofs.lemmas.Bool.{false≢true, cases_lt}
use Rattle.fzn_token.specs.Bytes.{is_blank}
use Rattle.fzn_token.specs.Gaps.{IsGap}
use Rattle.fzn_token.specs.Tokens.{IsLongest, IsInRange, IsToken, AreTokensTo}
use Rattle.fzn_token.specs.declared.token.TokenKind.{TokenKind}
use Rattle.fzn_token.specs.declared.token.Token.{Token}
use Rattle.fzn_token.proofs.Literals.{here_run}
use Rattle.fzn_token.proofs.Extents.{extent}
use Rattle.fzn_scope.specs.Names.{bytes_at}
use Rattle.law_subjects.proofs.Places.{stops, long, placed, next_stops, found}

-- the bytes of a token, and the blanks behind it
pub record Piece : Type 0 where
  pub kind : TokenKind
  pub bytes : List ℕ
  pub gap : List ℕ

-- pieces as text
abbrev pub bytes_of : List Piece → List ℕ
bytes_of [] = []
bytes_of (p ∷ ps) = p.bytes ++ (p.gap ++ bytes_of ps)

-- the tokens that they are, from a place on
abbrev pub tokens_at : ℕ → List Piece → List Token
tokens_at at [] = []
tokens_at at (p ∷ ps) = record { kind = p.kind; from = at; to = at + length p.bytes } ∷ tokens_at (at + length p.bytes + length p.gap) ps

-- a byte that is skipped between tokens
abbrev pub is_skip : ℕ → Bool
is_skip b = is_blank b || b == 37

-- the piece is a token and its gap, where this follows
pub record IsPiece (p : Piece) (rest : List ℕ) : Type 0 where
  pub longest : (text before : List ℕ) → text ≡ before ++ (p.bytes ++ (p.gap ++ rest)) → IsLongest p.kind text (length before) (length before + length p.bytes)
  pub in_range : IsInRange p.kind
  pub blank : list_all is_blank p.gap ≡ true
  pub solid : stops is_skip rest ≡ true

abbrev pub ArePieces : List Piece → List ℕ → Type 0
ArePieces [] rest = Unit {0}
ArePieces (p ∷ ps) rest = IsPiece p (bytes_of ps ++ rest) × ArePieces ps rest

-- a fact, and then another
infixr 4 ◌&◌
pub ◌&◌ : {A B : Type 0} → A → B → A × B
a & b = (a, b)

-- from place i on, the text is these tokens, each with a gap behind it, up to place j
abbrev pub AreGapped : List ℕ → ℕ → List Token → ℕ → Type 0
AreGapped text i [] j = i ≡ j
AreGapped text i (t ∷ ts) j = (t.from ≡ i) × (i < length text) × IsToken text t × ((k : ℕ) × IsGap text t.to k × AreGapped text k ts j)

-- tokens and more tokens
pub gapped_append : (text : List ℕ) (i j k : ℕ) (ts us : List Token) → AreGapped text i ts j → AreGapped text j us k → AreGapped text i (ts ++ us) k
gapped_append text i j k [] us first second = subst (λ n. AreGapped text n us k) (sym first) second
gapped_append text i j k (t ∷ ts) us first second = (first.0, first.1, first.2, (first.3.0, first.3.1, gapped_append text first.3.0 j k ts us first.3.2 second))

-- the tokens of a whole text, behind a gap
pub gapped_tokens : (text : List ℕ) (e i : ℕ) (ts : List Token) → IsGap text e i → AreGapped text i ts (length text) → (end : ℕ) × AreTokensTo text e ts end × IsGap text end (length text)
gapped_tokens text e i [] gap all = (e, refl, subst (IsGap text e) all gap)
gapped_tokens text e i (t ∷ ts) gap all =
    let rest = gapped_tokens text t.to all.3.0 ts all.3.1 all.3.2 in
    (rest.0, (subst (IsGap text e) (sym all.0) gap, subst (λ n. n < length text) (sym all.0) all.1, all.2, rest.1), rest.2)

-- a byte that is not skipped is no blank
no_blank : (b : ℕ) → is_skip b ≡ false → is_blank b ≡ true → ⊥
no_blank b e is = false≢true (sym e ∙ rw is refl)

-- nor a `%`
no_percent : (b : ℕ) → is_skip b ≡ false → b ≡ 37 → ⊥
no_percent b e is = false≢true (sym (rw is at e))

-- a `%` is no blank
percent : (b : ℕ) → is_blank b ≡ true → b ≡ 37 → ⊥
percent b blank is = false≢true (rw is at blank)

-- blanks before a byte that is not skipped are a gap
pub gap_piece : (text before gap after : List ℕ) → text ≡ before ++ (gap ++ after) → list_all is_blank gap ≡ true → stops is_skip after ≡ true → IsGap text (length before) (length before + length gap)
gap_piece text before gap after e all stop =
    let size = long text before gap after e in
    let run = here_run is_blank gap text (length before) (length before + length gap) (omega (arith, size)) all (placed text before gap after e) in
    let next = next_stops is_skip text before gap after e stop in
    record {
      ordered = run.ordered;
      within = run.within;
      skipped = λ k from before_end. inl (run.each k from before_end);
      stops = λ below skipped. ⊎_elim
          (λ blank. no_blank (slice_index text (length before + length gap)) (next below) blank)
          (λ comment. ⊎_elim
          (λ earlier. percent (slice_index text comment.start) (run.each comment.start comment.from_gap earlier) comment.percent)
          (λ here. let same : comment.start ≡ length before + length gap = omega (arith, comment.before) in no_percent (slice_index text (length before + length gap)) (next below) (ap (slice_index text) (sym same) ∙ comment.percent))
          (cases_lt comment.start (length before + length gap)))
          skipped;
    }

-- a text behind its first piece
behind : (text before : List ℕ) (p : Piece) (ps : List Piece) (after : List ℕ) → text ≡ before ++ (bytes_of (p ∷ ps) ++ after) → text ≡ before ++ (p.bytes ++ (p.gap ++ (bytes_of ps ++ after)))
behind text before p ps after e = e ∙ ap (λ t. before ++ t) (append_assoc p.bytes (p.gap ++ bytes_of ps) after ∙ ap (λ t. p.bytes ++ t) (append_assoc p.gap (bytes_of ps) after))

-- cut behind the first piece's gap
cut : (text before : List ℕ) (p : Piece) (ps : List Piece) (after : List ℕ) → text ≡ before ++ (bytes_of (p ∷ ps) ++ after) → text ≡ ((before ++ p.bytes) ++ p.gap) ++ (bytes_of ps ++ after)
cut text before p ps after e = behind text before p ps after e ∙ sym (append_assoc before p.bytes (p.gap ++ (bytes_of ps ++ after))) ∙ sym (append_assoc (before ++ p.bytes) p.gap (bytes_of ps ++ after))

-- the place behind it
cut_at : (before : List ℕ) (p : Piece) → length ((before ++ p.bytes) ++ p.gap) ≡ length before + length p.bytes + length p.gap
cut_at before p = length-append (before ++ p.bytes) p.gap ∙ ap (λ n. n + length p.gap) (length-append before p.bytes)

-- the length of pieces
sizes : (at : ℕ) (p : Piece) (ps : List Piece) → at + length p.bytes + length p.gap + length (bytes_of ps) ≡ at + length (bytes_of (p ∷ ps))
sizes at p ps = let first = length-append p.bytes (p.gap ++ bytes_of ps) in let second = length-append p.gap (bytes_of ps) in omega (arith, first, second)

-- the tokens of pieces
pub gapped_pieces : (text before : List ℕ) (ps : List Piece) (after : List ℕ) → text ≡ before ++ (bytes_of ps ++ after) → ArePieces ps after → AreGapped text (length before) (tokens_at (length before) ps) (length before + length (bytes_of ps))
gapped_pieces text before [] after e pieces = omega arith
gapped_pieces text before (p ∷ ps) after e pieces =
    let whole = behind text before p ps after e in
    let longest = pieces.0.longest text before whole in
    let size = extent p.kind text (length before) (length before + length p.bytes) longest.spelled in
    let next : text ≡ (before ++ p.bytes) ++ (p.gap ++ (bytes_of ps ++ after)) = whole ∙ sym (append_assoc before p.bytes (p.gap ++ (bytes_of ps ++ after))) in
    let gap = gap_piece text (before ++ p.bytes) p.gap (bytes_of ps ++ after) next pieces.0.blank pieces.0.solid in
    let rest = gapped_pieces text ((before ++ p.bytes) ++ p.gap) ps after (cut text before p ps after e) pieces.1 in
    let rest_at = subst (λ n. AreGapped text n (tokens_at n ps) (n + length (bytes_of ps))) (cut_at before p) rest in (
      refl,
      omega (arith, size.some, size.within),
      record { longest = longest; in_range = pieces.0.in_range },
      (
        length before + length p.bytes + length p.gap,
        subst (λ n. IsGap text n (n + length p.gap)) (length-append before p.bytes) gap,
        subst (AreGapped text (length before + length p.bytes + length p.gap) (tokens_at (length before + length p.bytes + length p.gap) ps)) (sizes (length before) p ps) rest_at,
      ),
    )

-- from a place on, the text has the bytes of pieces at their places
abbrev pub AreWritten : List ℕ → ℕ → List Piece → Type 0
AreWritten text at [] = Unit {0}
AreWritten text at (p ∷ ps) = (bytes_at text at (at + length p.bytes) ≡ p.bytes) × AreWritten text (at + length p.bytes + length p.gap) ps

-- the bytes of pieces stand where they were put
pub written_pieces : (text before : List ℕ) (ps : List Piece) (after : List ℕ) → text ≡ before ++ (bytes_of ps ++ after) → AreWritten text (length before) ps
written_pieces text before [] after e = tt
written_pieces text before (p ∷ ps) after e = (
  found text before p.bytes (p.gap ++ (bytes_of ps ++ after)) (behind text before p ps after e),
  subst (λ n. AreWritten text n ps) (cut_at before p) (written_pieces text ((before ++ p.bytes) ++ p.gap) ps after (cut text before p ps after e)),
)
