-- The tokens of each form of line are the item that the line says.
use Rattle.std.proofs.Common.{◌≡◌, ℕ, ℤ, pos, zero, suc, ◌+◌, List, [], ◌∷◌, ◌++◌, length, inl, inr, refl}
use Rattle.std.specs.Prelude.{decimal, neg_ℤ}
use Rattle.fzn_token.specs.declared.token.Token.{Token}
use Rattle.fzn_token.specs.declared.token.TokenKind.TheVariants as kind
use Rattle.fzn_token.specs.declared.token.Mark.TheVariants as mark
use Rattle.fzn_item.specs.declared.item.Atom.{Atom}
use Rattle.fzn_item.specs.declared.item.Atom.TheVariants.{Name, Whole}
use Rattle.fzn_item.specs.declared.item.Item.{Item}
use Rattle.fzn_item.specs.Productions.{IsSeparated, IsListOf, last, more}
use Rattle.fzn_item.specs.Exprs.{IsAtom}
use Rattle.fzn_item.specs.Items.{IsItem}
use Rattle.dcsp_gen.specs.Lines.{name}
use Rattle.law_subjects.specs.Lines.{ModelLine, Declare, Print, Differ, Above, Below, Table, Solve}
use Rattle.law_subjects.specs.Says.{AreNamed, IsArray, IsDifferNotBy, AreWhole, entries_of, IsTable, Says}
use Rattle.law_subjects.proofs.Pieces.{Piece, tokens_at, AreWritten}
use Rattle.law_subjects.proofs.Derivations.{mark_at, name_atom, whole_atom, edge_read, sum_read, table_read, variable_read, solve_read}
use Rattle.law_subjects.proofs.Arrays.{array_read}
use Rattle.law_subjects.proofs.LinePieces.{list_pieces, array_pieces, sum_pieces, table_pieces, rows_pieces, pieces}

-- the places of a piece, the first of which begins at a place
abbrev pub place : ℕ → List Piece → ℕ → ℕ × ℕ
place at [] k = (at, at)
place at (p ∷ ps) zero = (at, at + length p.bytes)
place at (p ∷ ps) (suc k) = place (at + length p.bytes + length p.gap) ps k

-- the array's names are read as atoms
record ListReads (text letter : List ℕ) (first count at : ℕ) : Type 0 where
  atoms : List Atom
  semi : ℕ × ℕ
  separated : (rest : List Token) → IsSeparated IsAtom mark.CloseBracket (tokens_at at (list_pieces letter first count) ++ rest) atoms (mark_at mark.Semicolon semi ∷ rest)
  named : AreNamed text letter first (suc count) atoms

list_reads : (text letter : List ℕ) (first count at : ℕ) → AreWritten text at (list_pieces letter first count) → ListReads text letter first count at
list_reads text letter first zero at written = let p = place at (list_pieces letter first zero) in record {
  atoms = Name (p 0).0 (p 0).1 ∷ [];
  semi = p 2;
  separated = λ rest. last (mark_at mark.CloseBracket (p 1)) (name_atom (p 0) (mark_at mark.CloseBracket (p 1) ∷ mark_at mark.Semicolon (p 2) ∷ rest)) (refl, refl, refl);
  named = (record { from = (p 0).0; to = (p 0).1; atom_is = refl; written_is = written.0 }, refl);
}
list_reads text letter first (suc count) at written = let p = place at (list_pieces letter first (suc count)) in
    let next = (p 1).1 + 0 in
    let later = list_reads text letter (first + 1) count next written.1.1 in record {
      atoms = Name (p 0).0 (p 0).1 ∷ later.atoms;
      semi = later.semi;
      separated = λ rest.
          let behind = tokens_at next (list_pieces letter (first + 1) count) ++ rest in
          more (mark_at mark.Comma (p 1)) (name_atom (p 0) (mark_at mark.Comma (p 1) ∷ behind)) (refl, refl, refl) (later.separated rest);
      named = (record { from = (p 0).0; to = (p 0).1; atom_is = refl; written_is = written.0 }, later.named);
    }

-- a line that begins at a place is read as an item
pub record LineReads (text letter : List ℕ) (at : ℕ) (line : ModelLine) : Type 0 where
  pub item : Item
  pub reads : (rest : List Token) → IsItem text (tokens_at at (pieces letter line) ++ rest) item rest
  pub says : Says text letter line item

-- the difference of two variables' values
record SumReads (text first second : List ℕ) (at : ℕ) (difference : Piece) (d : ℤ) : Type 0 where
  item : Item
  reads : (rest : List Token) → IsItem text (tokens_at at (sum_pieces first second difference) ++ rest) item rest
  says : IsDifferNotBy text first second d item

-- an integer of any sign, as it is written
abbrev whole : ℤ → List ℕ → Piece
whole d bs = record { kind = kind.Whole d; bytes = bs; gap = [] }

sum_reads : (text first second : List ℕ) (at : ℕ) (d : ℤ) (bs : List ℕ) → AreWritten text at (sum_pieces first second (whole d bs)) → SumReads text first second at (whole d bs) d
sum_reads text first second at d bs written = let p = place at (sum_pieces first second (whole d bs)) in record {
  item = _;
  reads = λ rest. sum_read text (p 0) (p 1) (p 2) (p 3) (p 4) (p 5) (p 6) (p 7) (p 8) (p 9) (p 10) (p 11) (p 12) (p 13) (p 14) (p 15) (p 16) (p 17) (pos 1) (neg_ℤ (pos 1)) d rest;
  says = record {
    at = (p 0).0;
    from = (p 1).0;
    to = (p 1).1;
    factors_at = (p 3).0;
    one_at = (p 4).0;
    minus_at = (p 6).0;
    variables_at = (p 9).0;
    x = Name (p 10).0 (p 10).1;
    y = Name (p 12).0 (p 12).1;
    difference_at = (p 15).0;
    item_is = refl;
    written_is = written.1.0;
    x_is = record { from = (p 10).0; to = (p 10).1; atom_is = refl; written_is = written.1.1.1.1.1.1.1.1.1.1.0 };
    y_is = record { from = (p 12).0; to = (p 12).1; atom_is = refl; written_is = written.1.1.1.1.1.1.1.1.1.1.1.1.0 };
  };
}

-- the entries from a place on are read as atoms
record EntriesRead (entries : List ℕ) (at : ℕ) : Type 0 where
  atoms : List Atom
  paren : ℕ × ℕ
  semi : ℕ × ℕ
  listed : (rest : List Token) → IsListOf IsAtom mark.CloseBracket (tokens_at at (table_pieces entries) ++ rest) atoms (mark_at mark.CloseParen paren ∷ mark_at mark.Semicolon semi ∷ rest)
  whole_are : AreWhole entries atoms

record SomeEntriesRead (entry : ℕ) (entries : List ℕ) (at : ℕ) : Type 0 where
  atoms : List Atom
  paren : ℕ × ℕ
  semi : ℕ × ℕ
  separated : (rest : List Token) → IsSeparated IsAtom mark.CloseBracket (tokens_at at (table_pieces (entry ∷ entries)) ++ rest) atoms (mark_at mark.CloseParen paren ∷ mark_at mark.Semicolon semi ∷ rest)
  whole_are : AreWhole (entry ∷ entries) atoms

some_entries_read : (entry : ℕ) (entries : List ℕ) (at : ℕ) → SomeEntriesRead entry entries at
some_entries_read entry [] at = let p = place at (table_pieces (entry ∷ [])) in record {
  atoms = Whole (p 0).0 (pos entry) ∷ [];
  paren = p 2;
  semi = p 3;
  separated = λ rest.
      let closed = mark_at mark.CloseParen (p 2) ∷ mark_at mark.Semicolon (p 3) ∷ rest in
      last (mark_at mark.CloseBracket (p 1)) (whole_atom (pos entry) (p 0) (p 1) mark.CloseBracket closed (λ e. cc)) (refl, refl, refl);
  whole_are = (((p 0).0, refl), refl);
}
some_entries_read entry (second ∷ entries) at =
    let p = place at (table_pieces (entry ∷ second ∷ entries)) in
    let next = (p 1).1 + 0 in
    let later = some_entries_read second entries next in record {
      atoms = Whole (p 0).0 (pos entry) ∷ later.atoms;
      paren = later.paren;
      semi = later.semi;
      separated = λ rest.
          let behind = tokens_at next (table_pieces (second ∷ entries)) ++ rest in
          more (mark_at mark.Comma (p 1)) (whole_atom (pos entry) (p 0) (p 1) mark.Comma behind (λ e. cc)) (refl, refl, refl) (later.separated rest);
      whole_are = (((p 0).0, refl), later.whole_are);
    }

entries_read : (entries : List ℕ) (at : ℕ) → EntriesRead entries at
entries_read [] at = let p = place at (table_pieces []) in record {
  atoms = [];
  paren = p 1;
  semi = p 2;
  listed = λ rest. inl (refl, mark_at mark.CloseBracket (p 0), (refl, refl, refl));
  whole_are = refl;
}
entries_read (entry ∷ entries) at = let read = some_entries_read entry entries at in record {
  atoms = read.atoms;
  paren = read.paren;
  semi = read.semi;
  listed = λ rest. inr (read.separated rest);
  whole_are = read.whole_are;
}

-- two values that are a row
pub record RowsRead (text first second : List ℕ) (at : ℕ) (rows : List (ℕ × ℕ)) : Type 0 where
  pub item : Item
  pub reads : (rest : List Token) → IsItem text (tokens_at at (rows_pieces first second (table_pieces (entries_of rows))) ++ rest) item rest
  pub says : IsTable text first second rows item

pub rows_reads : (text first second : List ℕ) (at : ℕ) (rows : List (ℕ × ℕ)) → AreWritten text at (rows_pieces first second (table_pieces (entries_of rows))) → RowsRead text first second at rows
rows_reads text first second at rows written =
    let p = place at (rows_pieces first second []) in
    let inside = (p 9).1 + 0 in
    let read = entries_read (entries_of rows) inside in record {
      item = _;
      reads = λ rest. table_read text (p 0) (p 1) (p 2) (p 3) (p 4) (p 5) (p 6) (p 7) (p 8) (p 9) read.paren read.semi (tokens_at inside (table_pieces (entries_of rows)) ++ rest) rest read.atoms (read.listed rest);
      says = record {
        at = (p 0).0;
        from = (p 1).0;
        to = (p 1).1;
        variables_at = (p 3).0;
        x = Name (p 4).0 (p 4).1;
        y = Name (p 6).0 (p 6).1;
        table_at = (p 9).0;
        atoms = read.atoms;
        item_is = refl;
        written_is = written.1.0;
        x_is = record { from = (p 4).0; to = (p 4).1; atom_is = refl; written_is = written.1.1.1.1.0 };
        y_is = record { from = (p 6).0; to = (p 6).1; atom_is = refl; written_is = written.1.1.1.1.1.1.0 };
        atoms_are = read.whole_are;
      };
    }

-- the array of the variables 1 to count
record ArrayReads (text letter : List ℕ) (count at : ℕ) : Type 0 where
  item : Item
  reads : (rest : List Token) → IsItem text (tokens_at at (array_pieces letter (suc count) (list_pieces letter 1 count)) ++ rest) item rest
  says : IsArray text letter (suc count) item

array_reads : (text letter : List ℕ) (count at : ℕ) → AreWritten text at (array_pieces letter (suc count) (list_pieces letter 1 count)) → ArrayReads text letter count at
array_reads text letter count at written =
    let p = place at (array_pieces letter (suc count) []) in
    let inside = (p 21).1 + 0 in
    let behind_name = written.1.1.1.1.1.1.1.1.1.1.1.1 in
    let names = list_reads text letter 1 count inside behind_name.1.1.1.1.1.1.1.1.1.1 in record {
      item = _;
      reads = λ rest. array_read text (p 0) (p 1) (p 2) (p 3) (p 4) (p 5) (p 6) (p 7) (p 8) (p 9) (p 10) (p 11) (p 12) (p 13) (p 14) (p 15) (p 16) (p 17) (p 18) (p 19) (p 20) (p 21) names.semi
          (pos 1) (pos (suc count)) (tokens_at inside (list_pieces letter 1 count) ++ rest) rest names.atoms behind_name.0 (names.separated rest);
      says = record {
        at = (p 0).0;
        from = (p 10).0;
        to = (p 10).1;
        list_at = (p 21).0;
        atoms = names.atoms;
        item_is = refl;
        written_is = written.1.1.1.1.1.1.1.1.1.1.0;
        atoms_are = names.named;
      };
    }

-- a line that is not an empty array
pub line_reads : (text letter : List ℕ) (at : ℕ) (line : ModelLine) → (line ≡ Print 0 → ⊥) → AreWritten text at (pieces letter line) → LineReads text letter at line
line_reads text letter at (Declare low high variable) some written = let p = place at (pieces letter (Declare low high variable)) in record {
  item = _;
  reads = λ rest. variable_read text (p 0) (p 1) (p 2) (p 3) (p 4) (p 5) (p 6) (pos low) (pos high) rest;
  says = record { at = (p 0).0; from = (p 5).0; to = (p 5).1; item_is = refl; written_is = written.1.1.1.1.1.0 };
}
line_reads text letter at (Print zero) some written = absurd (some refl)
line_reads text letter at (Print (suc count)) some written = let read = array_reads text letter count at written in record { item = read.item; reads = read.reads; says = read.says }
line_reads text letter at (Differ first second) some written = let p = place at (pieces letter (Differ first second)) in record {
  item = _;
  reads = λ rest. edge_read text (p 0) (p 1) (p 2) (p 3) (p 4) (p 5) (p 6) (p 7) rest;
  says = record {
    at = (p 0).0;
    from = (p 1).0;
    to = (p 1).1;
    x = Name (p 3).0 (p 3).1;
    y = Name (p 5).0 (p 5).1;
    item_is = refl;
    written_is = written.1.0;
    x_is = record { from = (p 3).0; to = (p 3).1; atom_is = refl; written_is = written.1.1.1.0 };
    y_is = record { from = (p 5).0; to = (p 5).1; atom_is = refl; written_is = written.1.1.1.1.1.0 };
  };
}
line_reads text letter at (Above first second distance) some written =
    let read = sum_reads text (name letter first) (name letter second) at (pos distance) (decimal distance) written in record { item = read.item; reads = read.reads; says = read.says }
line_reads text letter at (Below first second distance) some written =
    let read = sum_reads text (name letter first) (name letter second) at (neg_ℤ (pos distance)) (45 ∷ decimal distance) written in record { item = read.item; reads = read.reads; says = read.says }
line_reads text letter at (Table first second rows) some written =
    let read = rows_reads text (name letter first) (name letter second) at rows written in record { item = read.item; reads = read.reads; says = read.says }
line_reads text letter at Solve some written = let p = place at (pieces letter Solve) in record {
  item = _;
  reads = λ rest. solve_read text (p 0) (p 1) (p 2) rest;
  says = record { at = (p 0).0; item_is = refl };
}
