-- The items that the tokens of lines are: a derivation for each form of line.
use Rattle.std.proofs.Common.{◌≡◌, ℕ, ℤ, true, inl, inr, List, [], ◌∷◌, None, refl}
use Rattle.fzn_token.specs.declared.token.Token.{Token}
use Rattle.fzn_token.specs.declared.token.TokenKind.{TokenKind}
use Rattle.fzn_token.specs.declared.token.TokenKind.TheVariants as kind
use Rattle.fzn_token.specs.declared.token.Word.TheVariants as word
use Rattle.fzn_token.specs.declared.token.Mark.{Mark}
use Rattle.fzn_token.specs.declared.token.Mark.TheVariants as mark
use Rattle.fzn_item.specs.declared.item.Atom.{Atom}
use Rattle.fzn_item.specs.declared.item.Atom.TheVariants.{Name, Whole}
use Rattle.fzn_item.specs.declared.item.Expr.{Expr}
use Rattle.fzn_item.specs.declared.item.Expr.TheVariants as expr
use Rattle.fzn_item.specs.declared.item.Base.TheVariants as base
use Rattle.fzn_item.specs.declared.item.Marked.TheVariants as marked
use Rattle.fzn_item.specs.declared.item.Goal.TheVariants.{Satisfy}
use Rattle.fzn_item.specs.declared.item.Item.TheVariants.{Declare, Constraint, Solve}
use Rattle.fzn_item.specs.Productions.{IsSeparated, IsListOf, last, more}
use Rattle.fzn_item.specs.Marks.{AreAnnotations, none}
use Rattle.fzn_item.specs.Elements.{variable}
use Rattle.fzn_item.specs.Exprs.{IsAtom, IsExpr}
use Rattle.fzn_item.specs.Items.{IsItem}

-- a token at its places
abbrev pub tok : TokenKind → ℕ × ℕ → Token
tok k at = record { kind = k; from = at.0; to = at.1 }

-- a mark
abbrev pub mark_at : Mark → ℕ × ℕ → Token
mark_at m at = tok (kind.Mark m) at

-- a name, as an atom
pub name_atom : (at : ℕ × ℕ) (rest : List Token) → IsAtom (tok kind.Name at ∷ rest) (Name at.0 at.1) rest
name_atom at rest = (tok kind.Name at, rest, (refl, refl), (refl, refl))

-- an integer, as an atom before a mark that is no `..`
pub whole_atom : (v : ℤ) (at c : ℕ × ℕ) (m : Mark) (rest : List Token) → (kind.Mark m ≡ kind.Mark mark.DotDot → ⊥) → IsAtom (tok (kind.Whole v) at ∷ mark_at m c ∷ rest) (Whole at.0 v) (mark_at m c ∷ rest)
whole_atom v at c m rest other =
    let behind = mark_at m c ∷ rest in
    (tok (kind.Whole v) at, behind, (refl, refl), inr (tt, behind, (refl, λ t r h. other h.0), (refl, refl)))

-- an atom, as an expression
pub one_read : (ts : List Token) (a : Atom) (rest : List Token) → IsAtom ts a rest → IsExpr ts (expr.One a) rest
one_read ts a rest h = inr (a, rest, h, (refl, refl))

-- atoms in brackets
pub list_read : (o : ℕ × ℕ) (inside rest : List Token) (atoms : List Atom) → IsSeparated IsAtom mark.CloseBracket inside atoms rest → IsExpr (mark_at mark.OpenBracket o ∷ inside) (expr.List o.0 atoms) rest
list_read o inside rest atoms h = inl (mark_at mark.OpenBracket o, inside, (refl, refl, refl), (atoms, rest, inr h, (refl, refl)))

-- no annotations before a `;`
pub no_annotations : (text : List ℕ) (at : ℕ × ℕ) (rest : List Token) → AreAnnotations text (mark_at mark.Semicolon at ∷ rest) marked.Nothing (mark_at mark.Semicolon at ∷ rest)
no_annotations text at rest = none refl (refl, λ v r h. let e = h.0 in cc)

-- constraint NAME(ARGUMENTS);
pub constraint_read : (text : List ℕ) (c f o s : ℕ × ℕ) (inside rest : List Token) (arguments : List Expr) → IsSeparated IsExpr mark.CloseParen inside arguments (mark_at mark.Semicolon s ∷ rest)
    → IsItem text (tok (kind.Word word.Constraint) c ∷ tok kind.Name f ∷ mark_at mark.OpenParen o ∷ inside) (Constraint c.0 f.0 f.1 arguments) rest
constraint_read text c f o s inside rest arguments h =
    let semi = mark_at mark.Semicolon s in
    let open_ = mark_at mark.OpenParen o in (
      tok (kind.Word word.Constraint) c,
      _,
      (refl, refl),
      (
        tok kind.Name f,
        _,
        (refl, refl, refl),
        (
          open_,
          inside,
          (refl, refl, refl),
          (
            arguments,
            semi ∷ rest,
            inr h,
            (
              marked.Nothing,
              semi ∷ rest,
              no_annotations text s rest,
              (semi, rest, (refl, refl, refl), (refl, refl)),
            ),
          ),
        ),
      ),
    )

-- NAME,NAME and a mark that closes
pub two_names : (close : Mark) (a m b p : ℕ × ℕ) (rest : List Token)
    → IsSeparated IsAtom close (tok kind.Name a ∷ mark_at mark.Comma m ∷ tok kind.Name b ∷ mark_at close p ∷ rest) (Name a.0 a.1 ∷ Name b.0 b.1 ∷ []) rest
two_names close a m b p rest =
    let after_b = mark_at close p ∷ rest in
    let after_a = mark_at mark.Comma m ∷ tok kind.Name b ∷ after_b in
    more (mark_at mark.Comma m) (name_atom a after_a) (refl, refl, refl) (last (mark_at close p) (name_atom b after_b) (refl, refl, refl))

-- constraint NAME(a,b);
pub edge_read : (text : List ℕ) (c f o a m b p s : ℕ × ℕ) (rest : List Token)
    → IsItem text (tok (kind.Word word.Constraint) c ∷ tok kind.Name f ∷ mark_at mark.OpenParen o ∷ tok kind.Name a ∷ mark_at mark.Comma m ∷ tok kind.Name b ∷ mark_at mark.CloseParen p ∷ mark_at mark.Semicolon s ∷ rest)
    (Constraint c.0 f.0 f.1 (expr.One (Name a.0 a.1) ∷ expr.One (Name b.0 b.1) ∷ [])) rest
edge_read text c f o a m b p s rest =
    let after_b = mark_at mark.CloseParen p ∷ mark_at mark.Semicolon s ∷ rest in
    let after_a = mark_at mark.Comma m ∷ tok kind.Name b ∷ after_b in
    let first = one_read (tok kind.Name a ∷ after_a) (Name a.0 a.1) after_a (name_atom a after_a) in
    let second = one_read (tok kind.Name b ∷ after_b) (Name b.0 b.1) after_b (name_atom b after_b) in
    constraint_read text c f o s (tok kind.Name a ∷ after_a) rest (expr.One (Name a.0 a.1) ∷ expr.One (Name b.0 b.1) ∷ [])
    (more (mark_at mark.Comma m) first (refl, refl, refl) (last (mark_at mark.CloseParen p) second (refl, refl, refl)))

-- constraint NAME([1,-1],[a,b],d);
pub sum_read : (text : List ℕ) (c f o fo one fm two fc m vo a vm b vc n d p s : ℕ × ℕ) (u v w : ℤ) (rest : List Token)
    → IsItem text (
    tok (kind.Word word.Constraint) c ∷ tok kind.Name f ∷ mark_at mark.OpenParen o
    ∷ mark_at mark.OpenBracket fo ∷ tok (kind.Whole u) one ∷ mark_at mark.Comma fm ∷ tok (kind.Whole v) two ∷ mark_at mark.CloseBracket fc ∷ mark_at mark.Comma m
    ∷ mark_at mark.OpenBracket vo ∷ tok kind.Name a ∷ mark_at mark.Comma vm ∷ tok kind.Name b ∷ mark_at mark.CloseBracket vc ∷ mark_at mark.Comma n
    ∷ tok (kind.Whole w) d ∷ mark_at mark.CloseParen p ∷ mark_at mark.Semicolon s ∷ rest)
    (Constraint c.0 f.0 f.1 (expr.List fo.0 (Whole one.0 u ∷ Whole two.0 v ∷ []) ∷ expr.List vo.0 (Name a.0 a.1 ∷ Name b.0 b.1 ∷ []) ∷ expr.One (Whole d.0 w) ∷ [])) rest
sum_read text c f o fo one fm two fc m vo a vm b vc n d p s u v w rest =
    let semi = mark_at mark.Semicolon s ∷ rest in
    let closed = mark_at mark.CloseParen p ∷ semi in
    let third = tok (kind.Whole w) d ∷ closed in
    let comma = mark_at mark.Comma n ∷ third in
    let names = tok kind.Name a ∷ mark_at mark.Comma vm ∷ tok kind.Name b ∷ mark_at mark.CloseBracket vc ∷ comma in
    let second = mark_at mark.OpenBracket vo ∷ names in
    let between = mark_at mark.Comma m ∷ second in
    let after_two = mark_at mark.CloseBracket fc ∷ between in
    let after_one = mark_at mark.Comma fm ∷ tok (kind.Whole v) two ∷ after_two in
    let factors : IsSeparated IsAtom mark.CloseBracket (tok (kind.Whole u) one ∷ after_one) (Whole one.0 u ∷ Whole two.0 v ∷ []) between = more (mark_at mark.Comma fm) (whole_atom u one fm mark.Comma (tok (kind.Whole v) two ∷ after_two) (λ e. cc)) (refl, refl, refl)
    (last (mark_at mark.CloseBracket fc) (whole_atom v two fc mark.CloseBracket between (λ e. cc)) (refl, refl, refl)) in
    constraint_read text c f o s (mark_at mark.OpenBracket fo ∷ tok (kind.Whole u) one ∷ after_one) rest _
    (more (mark_at mark.Comma m) (list_read fo (tok (kind.Whole u) one ∷ after_one) between (Whole one.0 u ∷ Whole two.0 v ∷ []) factors) (refl, refl, refl)
    (more (mark_at mark.Comma n) (list_read vo names comma (Name a.0 a.1 ∷ Name b.0 b.1 ∷ []) (two_names mark.CloseBracket a vm b vc comma)) (refl, refl, refl)
    (last (mark_at mark.CloseParen p) (one_read third (Whole d.0 w) closed (whole_atom w d p mark.CloseParen semi (λ e. cc))) (refl, refl, refl))))

-- constraint NAME([a,b],[ENTRIES]);
pub table_read : (text : List ℕ) (c f o vo a vm b vc n to p s : ℕ × ℕ) (inside rest : List Token) (atoms : List Atom)
    → IsListOf IsAtom mark.CloseBracket inside atoms (mark_at mark.CloseParen p ∷ mark_at mark.Semicolon s ∷ rest)
    → IsItem text (
    tok (kind.Word word.Constraint) c ∷ tok kind.Name f ∷ mark_at mark.OpenParen o
    ∷ mark_at mark.OpenBracket vo ∷ tok kind.Name a ∷ mark_at mark.Comma vm ∷ tok kind.Name b ∷ mark_at mark.CloseBracket vc ∷ mark_at mark.Comma n
    ∷ mark_at mark.OpenBracket to ∷ inside)
    (Constraint c.0 f.0 f.1 (expr.List vo.0 (Name a.0 a.1 ∷ Name b.0 b.1 ∷ []) ∷ expr.List to.0 atoms ∷ [])) rest
table_read text c f o vo a vm b vc n to p s inside rest atoms listed =
    let closed = mark_at mark.CloseParen p ∷ mark_at mark.Semicolon s ∷ rest in
    let second = mark_at mark.OpenBracket to ∷ inside in
    let comma = mark_at mark.Comma n ∷ second in
    let names = tok kind.Name a ∷ mark_at mark.Comma vm ∷ tok kind.Name b ∷ mark_at mark.CloseBracket vc ∷ comma in
    let table : IsExpr second (expr.List to.0 atoms) closed = inl (mark_at mark.OpenBracket to, inside, (refl, refl, refl), (atoms, closed, listed, (refl, refl))) in
    constraint_read text c f o s (mark_at mark.OpenBracket vo ∷ names) rest _
    (more (mark_at mark.Comma n) (list_read vo names comma (Name a.0 a.1 ∷ Name b.0 b.1 ∷ []) (two_names mark.CloseBracket a vm b vc comma)) (refl, refl, refl)
    (last (mark_at mark.CloseParen p) table (refl, refl, refl)))

-- var LOW..HIGH: NAME;
pub variable_read : (text : List ℕ) (v l d h c n s : ℕ × ℕ) (low high : ℤ) (rest : List Token)
    → IsItem text (tok (kind.Word word.Var) v ∷ tok (kind.Whole low) l ∷ mark_at mark.DotDot d ∷ tok (kind.Whole high) h ∷ mark_at mark.Colon c ∷ tok kind.Name n ∷ mark_at mark.Semicolon s ∷ rest)
    (Declare v.0 true None (base.Range low high) n.0 n.1 marked.Nothing None) rest
variable_read text v l d h c n s low high rest =
    let semi = mark_at mark.Semicolon s in
    let named = mark_at mark.Colon c ∷ tok kind.Name n ∷ semi ∷ rest in
    let dots = mark_at mark.DotDot d in
    let top = tok (kind.Whole high) h in (
      tok (kind.Word word.Var) v,
      _,
      (refl, refl),
      (
        variable (base.Range low high),
        named,
        (base.Range low high, named, (tok (kind.Whole low) l, _, (refl, refl), (dots, top ∷ named, (refl, refl, refl), (high, named, (refl, refl), (refl, refl)))), (refl, refl)),
        (
          mark_at mark.Colon c,
          _,
          (refl, refl, refl),
          (
            tok kind.Name n,
            semi ∷ rest,
            (refl, refl, refl),
            (
              marked.Nothing,
              semi ∷ rest,
              no_annotations text s rest,
              (None, rest, inr (semi, rest, (refl, refl, refl), (refl, refl)), (refl, refl)),
            ),
          ),
        ),
      ),
    )

-- solve satisfy;
pub solve_read : (text : List ℕ) (v w s : ℕ × ℕ) (rest : List Token) → IsItem text (tok (kind.Word word.Solve) v ∷ tok (kind.Word word.Satisfy) w ∷ mark_at mark.Semicolon s ∷ rest) (Solve v.0 Satisfy) rest
solve_read text v w s rest =
    let semi = mark_at mark.Semicolon s in
    let word_ = tok (kind.Word word.Satisfy) w in (
      tok (kind.Word word.Solve) v,
      _,
      (refl, refl),
      (
        marked.Nothing,
        word_ ∷ semi ∷ rest,
        none refl (refl, λ v r h. let e = h.0 in cc),
        (Satisfy, rest, (word_, semi ∷ rest, (refl, refl), (semi, rest, (refl, refl, refl), (refl, refl))), (refl, refl)),
      ),
    )
