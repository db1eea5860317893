-- The tokens of lines with names of their own are the items that the lines say.
use Rattle.std.proofs.Common.{◌≡◌, ℕ, ◌+◌, ℤ, pos, true, false, Bool, inl, inr, List, [], ◌∷◌, ◌++◌, map, length, slice_range, None, refl, sym, subst}
use Rattle.std.specs.Prelude.{codes, nat_lt, ◌||◌, if◌then◌else◌}
use Rattle.std.specs.Str.{bytes_eq}
use Rattle.fzn_token.specs.declared.token.Token.{Token}
use Rattle.fzn_token.specs.declared.token.TokenKind.TheVariants as kind
use Rattle.fzn_token.specs.declared.token.Word.TheVariants as word
use Rattle.fzn_token.specs.declared.token.Mark.TheVariants as mark
use Rattle.fzn_item.specs.declared.item.Atom.TheVariants.{Name}
use Rattle.fzn_item.specs.declared.item.Base.TheVariants as base
use Rattle.fzn_item.specs.declared.item.Marked.TheVariants as marked
use Rattle.fzn_item.specs.declared.item.Item.{Item}
use Rattle.fzn_item.specs.declared.item.Item.TheVariants.{Declare}
use Rattle.fzn_item.specs.Productions.{IsSeparated, IsListOf, IsInteger, last, more}
use Rattle.fzn_item.specs.Marks.{called, MarkedEnd, IsMarkedAnnotation, AreAnnotations, more as one_more}
use Rattle.fzn_item.specs.Elements.{variable}
use Rattle.fzn_item.specs.Items.{IsItem}
use Rattle.fzn_scope.specs.Names.{bytes_at}
use Rattle.law_subjects.specs.Named.{NamedLine, Choose, Compare, Allow, Finish, SaysNamed}
use Rattle.law_subjects.proofs.Pieces.{tokens_at, AreWritten}
use Rattle.law_subjects.proofs.Derivations.{tok, mark_at, no_annotations, edge_read, solve_read}
use Rattle.law_subjects.proofs.LineItems.{place, rows_reads}
use Rattle.law_subjects.proofs.NamedPieces.{set_pieces, named_pieces}

-- what stands for `output_var`, by the outcome of the test on its places
by_name : {X : Type 0} (variable array other : X) (b : Bool) (bs : List ℕ) → (if b then [] else bs) ≡ codes "output_var"
    → (if b then other else (if bytes_eq bs (codes "output_var") then variable else (if bytes_eq bs (codes "output_array") then array else other))) ≡ variable
by_name variable array other true bs e = (let no : ⊥ = cc in absurd no)
by_name variable array other false bs e = rw e refl

-- the name `output_var`, alone
abbrev alone : Token
alone = tok kind.Name (0, 10)

-- a name with its bytes is called as it is
output_var : (text : List ℕ) (at : ℕ × ℕ) → bytes_at text at.0 at.1 ≡ codes "output_var" → called text (tok kind.Name at) ≡ called (codes "output_var") alone
output_var text at e = by_name _ _ _ (nat_lt at.1 at.0 || nat_lt (length text) at.1) (slice_range text at.0 at.1) e

-- :: output_var;
annotation_read : (text : List ℕ) (q u s : ℕ × ℕ) (rest : List Token) → bytes_at text u.0 u.1 ≡ codes "output_var"
    → AreAnnotations text (mark_at mark.ColonColon q ∷ tok kind.Name u ∷ mark_at mark.Semicolon s ∷ rest) marked.Variable (mark_at mark.Semicolon s ∷ rest)
annotation_read text q u s rest written =
    let after = mark_at mark.Semicolon s ∷ rest in
    let end : MarkedEnd (called (codes "output_var") alone) after marked.Variable after = inr (tt, after, (refl, λ v r h. let e = h.0 in cc), (refl, refl)) in
    let one : IsMarkedAnnotation text (tok kind.Name u ∷ after) marked.Variable after = (
      tok kind.Name u,
      after,
      (refl, refl, refl),
      subst (λ c. MarkedEnd c after marked.Variable after) (sym (output_var text u written)) end,
    ) in
    one_more (mark_at mark.ColonColon q) (tok kind.Name u ∷ after) after marked.Variable marked.Nothing refl (refl, refl, refl) one (no_annotations text s rest)

-- var {VALUES}: NAME :: output_var;
choice_read : (text : List ℕ) (v o c n q u s : ℕ × ℕ) (inside rest : List Token) (values : List ℤ) → bytes_at text u.0 u.1 ≡ codes "output_var"
    → IsListOf IsInteger mark.CloseBrace inside values (mark_at mark.Colon c ∷ tok kind.Name n ∷ mark_at mark.ColonColon q ∷ tok kind.Name u ∷ mark_at mark.Semicolon s ∷ rest)
    → IsItem text (tok (kind.Word word.Var) v ∷ mark_at mark.OpenBrace o ∷ inside) (Declare v.0 true None (base.Listed values) n.0 n.1 marked.Variable None) rest
choice_read text v o c n q u s inside rest values written listed =
    let semi = mark_at mark.Semicolon s in
    let annotated = mark_at mark.ColonColon q ∷ tok kind.Name u ∷ semi ∷ rest in
    let named = mark_at mark.Colon c ∷ tok kind.Name n ∷ annotated in (
      tok (kind.Word word.Var) v,
      _,
      (refl, refl),
      (
        variable (base.Listed values),
        named,
        (base.Listed values, named, (mark_at mark.OpenBrace o, inside, (refl, refl), (values, named, listed, (refl, refl))), (refl, refl)),
        (
          mark_at mark.Colon c,
          _,
          (refl, refl, refl),
          (
            tok kind.Name n,
            annotated,
            (refl, refl, refl),
            (
              marked.Variable,
              semi ∷ rest,
              annotation_read text q u s rest written,
              (None, rest, inr (semi, rest, (refl, refl, refl), (refl, refl)), (refl, refl)),
            ),
          ),
        ),
      ),
    )

-- the tokens behind a set
abbrev set_rest : ℕ × ℕ → ℕ × ℕ → ℕ × ℕ → ℕ × ℕ → ℕ × ℕ → List Token → List Token
set_rest c n q u s rest = mark_at mark.Colon c ∷ tok kind.Name n ∷ mark_at mark.ColonColon q ∷ tok kind.Name u ∷ mark_at mark.Semicolon s ∷ rest

-- the numbers of a set from a place on, and what follows them
record SetRead (text values name : List ℕ) (at : ℕ) : Type 0 where
  c : ℕ × ℕ
  n : ℕ × ℕ
  q : ℕ × ℕ
  u : ℕ × ℕ
  s : ℕ × ℕ
  listed : (rest : List Token) → IsListOf IsInteger mark.CloseBrace (tokens_at at (set_pieces values name) ++ rest) (map (λ value. pos value) values) (set_rest c n q u s rest)
  name_is : bytes_at text n.0 n.1 ≡ name
  mark_is : bytes_at text u.0 u.1 ≡ codes "output_var"

-- the same of at least one number
record SomeRead (text : List ℕ) (value : ℕ) (values name : List ℕ) (at : ℕ) : Type 0 where
  c : ℕ × ℕ
  n : ℕ × ℕ
  q : ℕ × ℕ
  u : ℕ × ℕ
  s : ℕ × ℕ
  separated : (rest : List Token) → IsSeparated IsInteger mark.CloseBrace (tokens_at at (set_pieces (value ∷ values) name) ++ rest) (map (λ value. pos value) (value ∷ values)) (set_rest c n q u s rest)
  name_is : bytes_at text n.0 n.1 ≡ name
  mark_is : bytes_at text u.0 u.1 ≡ codes "output_var"

-- numbers from a place on are read
some_read : (text : List ℕ) (value : ℕ) (values name : List ℕ) (at : ℕ) → AreWritten text at (set_pieces (value ∷ values) name) → SomeRead text value values name at
some_read text value [] name at written =
    let p = place at (set_pieces (value ∷ []) name) in record {
      c = p 2;
      n = p 3;
      q = p 4;
      u = p 5;
      s = p 6;
      separated = λ rest. last (mark_at mark.CloseBrace (p 1)) (refl, refl) (refl, refl, refl);
      name_is = written.1.1.1.0;
      mark_is = written.1.1.1.1.1.0;
    }
some_read text value (second ∷ values) name at written =
    let p = place at (set_pieces (value ∷ second ∷ values) name) in
    let next = (p 1).1 + 0 in
    let later = some_read text second values name next written.1.1 in record {
      c = later.c;
      n = later.n;
      q = later.q;
      u = later.u;
      s = later.s;
      separated = λ rest. more (mark_at mark.Comma (p 1)) (refl, refl) (refl, refl, refl) (later.separated rest);
      name_is = later.name_is;
      mark_is = later.mark_is;
    }

-- so are no numbers
set_read : (text values name : List ℕ) (at : ℕ) → AreWritten text at (set_pieces values name) → SetRead text values name at
set_read text [] name at written = let p = place at (set_pieces [] name) in record {
  c = p 1;
  n = p 2;
  q = p 3;
  u = p 4;
  s = p 5;
  listed = λ rest. inl (refl, mark_at mark.CloseBrace (p 0), (refl, refl, refl));
  name_is = written.1.1.0;
  mark_is = written.1.1.1.1.0;
}
set_read text (value ∷ values) name at written = let read = some_read text value values name at written in record {
  c = read.c;
  n = read.n;
  q = read.q;
  u = read.u;
  s = read.s;
  listed = λ rest. inr (read.separated rest);
  name_is = read.name_is;
  mark_is = read.mark_is;
}

-- a line that begins at a place is read as an item
pub record NamedReads (text : List ℕ) (at : ℕ) (line : NamedLine) : Type 0 where
  pub item : Item
  pub reads : (rest : List Token) → IsItem text (tokens_at at (named_pieces line) ++ rest) item rest
  pub says : SaysNamed text line item

-- each line is read so
pub named_reads : (text : List ℕ) (at : ℕ) (line : NamedLine) → AreWritten text at (named_pieces line) → NamedReads text at line
named_reads text at (Choose values name) written =
    let p = place at (named_pieces (Choose values name)) in
    let inside = (p 1).1 + 0 in
    let read = set_read text values name inside written.1.1 in record {
      item = _;
      reads = λ rest. choice_read text (p 0) (p 1) read.c read.n read.q read.u read.s (tokens_at inside (set_pieces values name) ++ rest) rest (map (λ value. pos value) values) read.mark_is (read.listed rest);
      says = record { at = (p 0).0; from = read.n.0; to = read.n.1; item_is = refl; written_is = read.name_is };
    }
named_reads text at (Compare comparison first second) written = let p = place at (named_pieces (Compare comparison first second)) in record {
  item = _;
  reads = λ rest. edge_read text (p 0) (p 1) (p 2) (p 3) (p 4) (p 5) (p 6) (p 7) rest;
  says = record {
    at = (p 0).0;
    from = (p 1).0;
    to = (p 1).1;
    x = Name (p 3).0 (p 3).1;
    y = Name (p 5).0 (p 5).1;
    item_is = refl;
    written_is = written.1.0;
    x_is = record { from = (p 3).0; to = (p 3).1; atom_is = refl; written_is = written.1.1.1.0 };
    y_is = record { from = (p 5).0; to = (p 5).1; atom_is = refl; written_is = written.1.1.1.1.1.0 };
  };
}
named_reads text at (Allow first second rows) written = let read = rows_reads text first second at rows written in record { item = read.item; reads = read.reads; says = read.says }
named_reads text at Finish written = let p = place at (named_pieces Finish) in record {
  item = _;
  reads = λ rest. solve_read text (p 0) (p 1) (p 2) rest;
  says = record { at = (p 0).0; item_is = refl };
}
