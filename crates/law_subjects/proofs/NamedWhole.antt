-- Lines with names of their own, one after another, are read.
use Rattle.std.proofs.Common.{◌≡◌, ℕ, ◌+◌, true, List, [], ◌∷◌, ◌++◌, length, refl, sym, ap, ◌∙◌, subst, append_assoc, append-nil, length-append}
use Rattle.std.specs.List.{AllByRecursion}
use Rattle.fzn_token.specs.declared.token.Token.{Token}
use Rattle.fzn_item.specs.declared.item.Item.{Item}
use Rattle.fzn_item.specs.Items.{AreItemsTo}
use Rattle.law_subjects.specs.Named.{NamedLine, Choose, Compare, Allow, Finish, named_text, named_lines_text, AreNamedSaid, IsWellNamed, NamedLinesAreRead}
use Rattle.law_subjects.proofs.Places.{stops}
use Rattle.law_subjects.proofs.Pieces.{bytes_of, tokens_at, is_skip, AreGapped, gapped_append, gapped_tokens, gapped_pieces, gap_piece, written_pieces}
use Rattle.law_subjects.proofs.NamedPieces.{named_pieces, named_bytes, named_tokens}
use Rattle.law_subjects.proofs.NamedItems.{named_reads}

-- a line begins with a letter
line_solid : (line : NamedLine) (rest : List ℕ) → stops is_skip (named_text line ++ rest) ≡ true
line_solid (Choose values name) rest = refl
line_solid (Compare comparison first second) rest = refl
line_solid (Allow first second rows) rest = refl
line_solid Finish rest = refl

-- so do lines
lines_solid : (lines : List NamedLine) → stops is_skip (named_lines_text lines) ≡ true
lines_solid [] = refl
lines_solid (line ∷ lines) = line_solid line (named_lines_text lines)

-- the lines from a place on, up to the text's end
record AreReadFrom (text : List ℕ) (at : ℕ) (lines : List NamedLine) : Type 0 where
  tokens : List Token
  items : List Item
  gapped : AreGapped text at tokens (length text)
  parsed : AreItemsTo text tokens items []
  said : AreNamedSaid text lines items

-- each line, and those behind it
lines_from : (text before : List ℕ) (lines : List NamedLine) → text ≡ before ++ named_lines_text lines → AllByRecursion IsWellNamed lines → AreReadFrom text (length before) lines
lines_from text before [] e well = record {
  tokens = [];
  items = [];
  gapped = ap (λ (t : List ℕ). length t) (sym (append-nil before) ∙ sym e);
  parsed = refl;
  said = refl;
}
lines_from text before (line ∷ lines) e well =
    let after = named_lines_text lines in
    let ps = named_pieces line in
    let parts : text ≡ before ++ (bytes_of ps ++ after) = e ∙ ap (λ t. before ++ (t ++ after)) (named_bytes line) in
    let further : text ≡ (before ++ bytes_of ps) ++ after = parts ∙ sym (append_assoc before (bytes_of ps) after) in
    let tokens = named_tokens after (lines_solid lines) line well.0 in
    let read = named_reads text (length before) line (written_pieces text before ps after parts) in
    let place : length (before ++ bytes_of ps) ≡ length before + length (bytes_of ps) = length-append before (bytes_of ps) in
    let later = lines_from text (before ++ bytes_of ps) lines further well.1 in record {
      tokens = tokens_at (length before) ps ++ later.tokens;
      items = read.item ∷ later.items;
      gapped = gapped_append text (length before) (length before + length (bytes_of ps)) (length text) (tokens_at (length before) ps) later.tokens
          (gapped_pieces text before ps after parts tokens) (subst (λ i. AreGapped text i later.tokens (length text)) place later.gapped);
      parsed = (later.tokens, read.reads later.tokens, later.parsed);
      said = (read.says, later.said);
    }

-- The text of lines reads as their items.
pub named_lines_are_read : NamedLinesAreRead
named_lines_are_read lines well =
    let text = named_lines_text lines in
    let read = lines_from text [] lines refl well in
    let tokens = gapped_tokens text 0 0 read.tokens (gap_piece text [] [] text refl refl (lines_solid lines)) read.gapped in
    record { tokens = read.tokens; items = read.items; lexed = record { end = tokens.0; all = tokens.1; gap = tokens.2 }; parsed = read.parsed; said = read.said }
