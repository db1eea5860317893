-- Lines, one after another, are read.
use Rattle.std.proofs.Common.{◌≡◌, ℕ, ◌+◌, ◌≤◌, true, List, [], ◌∷◌, ◌++◌, length, refl, sym, ap, ◌∙◌, subst, append_assoc, append-nil, length-append, arith}
use Rattle.std.specs.List.{AllByRecursion}
use Rattle.fzn_token.specs.declared.token.Token.{Token}
use Rattle.fzn_item.specs.declared.item.Item.{Item}
use Rattle.fzn_item.specs.Items.{AreItemsTo}
use Rattle.law_subjects.specs.Lines.{ModelLine, Declare, Print, Differ, Above, Below, Table, Solve, line_text}
use Rattle.law_subjects.specs.Says.{AreSaid}
use Rattle.law_subjects.specs.Laws.{HasSmallNumbers, lines_text, AreRead, LinesAreRead}
use Rattle.law_subjects.proofs.Places.{stops}
use Rattle.law_subjects.proofs.Pieces.{bytes_of, tokens_at, is_skip, AreGapped, gapped_append, gapped_tokens, gapped_pieces, gap_piece, written_pieces}
use Rattle.law_subjects.proofs.LinePieces.{pieces, line_bytes}
use Rattle.law_subjects.proofs.LineTokens.{line_tokens}
use Rattle.law_subjects.proofs.LineItems.{line_reads}

-- an array of no variables is none of these lines
not_empty : (line : ModelLine) → HasSmallNumbers line → line ≡ Print 0 → ⊥
not_empty line small is = let count : HasSmallNumbers (Print 0) = subst HasSmallNumbers is small in omega (arith, count.0)

-- a line begins with a letter
line_solid : (letter : List ℕ) (line : ModelLine) (rest : List ℕ) → stops is_skip (line_text letter line ++ rest) ≡ true
line_solid letter (Declare low high at) rest = refl
line_solid letter (Print count) rest = refl
line_solid letter (Differ first second) rest = refl
line_solid letter (Above first second distance) rest = refl
line_solid letter (Below first second distance) rest = refl
line_solid letter (Table first second rows) rest = refl
line_solid letter Solve rest = refl

-- so do lines
lines_solid : (letter : List ℕ) (lines : List ModelLine) → stops is_skip (lines_text letter lines) ≡ true
lines_solid letter [] = refl
lines_solid letter (line ∷ lines) = line_solid letter line (lines_text letter lines)

-- the lines from a place on, up to the text's end
record AreReadFrom (text letter : List ℕ) (at : ℕ) (lines : List ModelLine) : Type 0 where
  tokens : List Token
  items : List Item
  gapped : AreGapped text at tokens (length text)
  parsed : AreItemsTo text tokens items []
  said : AreSaid text letter lines items

module _ (b : ℕ) (low : 97 ≤ b) (high : b ≤ 122) where
  lines_from : (text before : List ℕ) (lines : List ModelLine) → text ≡ before ++ lines_text (b ∷ []) lines → AllByRecursion HasSmallNumbers lines → AreReadFrom text (b ∷ []) (length before) lines
  lines_from text before [] e small = record {
    tokens = [];
    items = [];
    gapped = ap (λ (t : List ℕ). length t) (sym (append-nil before) ∙ sym e);
    parsed = refl;
    said = refl;
  }
  lines_from text before (line ∷ lines) e small =
      let some = not_empty line small.0 in
      let after = lines_text (b ∷ []) lines in
      let is = line_bytes b line some in
      let parts : text ≡ before ++ (bytes_of (pieces (b ∷ []) line) ++ after) = e ∙ ap (λ t. before ++ (t ++ after)) is in
      let further : text ≡ (before ++ bytes_of (pieces (b ∷ []) line)) ++ after = parts ∙ sym (append_assoc before (bytes_of (pieces (b ∷ []) line)) after) in
      let tokens = line_tokens b low high after (lines_solid (b ∷ []) lines) line small.0 in
      let read = line_reads text (b ∷ []) (length before) line some (written_pieces text before (pieces (b ∷ []) line) after parts) in
      let place : length (before ++ bytes_of (pieces (b ∷ []) line)) ≡ length before + length (bytes_of (pieces (b ∷ []) line)) = length-append before (bytes_of (pieces (b ∷ []) line)) in
      let later = lines_from text (before ++ bytes_of (pieces (b ∷ []) line)) lines further small.1 in record {
        tokens = tokens_at (length before) (pieces (b ∷ []) line) ++ later.tokens;
        items = read.item ∷ later.items;
        gapped = gapped_append text (length before) (length before + length (bytes_of (pieces (b ∷ []) line))) (length text) (tokens_at (length before) (pieces (b ∷ []) line)) later.tokens
            (gapped_pieces text before (pieces (b ∷ []) line) after parts tokens) (subst (λ i. AreGapped text i later.tokens (length text)) place later.gapped);
        parsed = (later.tokens, read.reads later.tokens, later.parsed);
        said = (read.says, later.said);
      }

  -- lines from the text's start
  all_lines : (lines : List ModelLine) → AllByRecursion HasSmallNumbers lines → AreRead (b ∷ []) lines
  all_lines lines small =
      let text = lines_text (b ∷ []) lines in
      let read = lines_from text [] lines refl small in
      let tokens = gapped_tokens text 0 0 read.tokens (gap_piece text [] [] text refl refl (lines_solid (b ∷ []) lines)) read.gapped in
      record { tokens = read.tokens; items = read.items; lexed = record { end = tokens.0; all = tokens.1; gap = tokens.2 }; parsed = read.parsed; said = read.said }

-- The text of lines reads as their items.
pub lines_are_read : LinesAreRead
lines_are_read letter lines is_letter small = subst (λ l. AreRead l lines) (sym is_letter.letter_is) (all_lines is_letter.byte is_letter.low is_letter.high lines small)
