-- Atoms and expressions are read in one way.
use Rattle.std.proofs.Common.{◌≡◌, ℤ, List, [], ◌∷◌, true, false, sym, ◌∙◌, refl, ap, subst, ⊎_elim, Err}
use Rattle.fzn_token.specs.declared.token.Token.{Token}
use Rattle.fzn_token.specs.declared.token.Word.TheVariants as word
use Rattle.fzn_token.specs.declared.token.Mark.{Mark}
use Rattle.fzn_token.specs.declared.token.Mark.TheVariants as mark
use Rattle.fzn_token.specs.declared.token.TokenKind.{TokenKind}
use Rattle.fzn_token.specs.declared.token.TokenKind.TheVariants as kind
use Rattle.fzn_item.specs.declared.item.Atom.{Atom}
use Rattle.fzn_item.specs.declared.item.Atom.TheVariants as atom
use Rattle.fzn_item.specs.declared.item.Expr.{Expr}
use Rattle.fzn_item.specs.declared.item.Expr.TheVariants as expr
use Rattle.fzn_item.specs.declared.single.Stop.{Stop}
use Rattle.fzn_item.specs.declared.single.Stop.TheVariants as stop
use Rattle.fzn_item.specs.Productions.{Production, Gives, Nothing, ◌>>=◌, IsAny, IsMark, IsInteger, IsNotNext, IsSeparated, last, more, IsListOf, Fails}
use Rattle.fzn_item.specs.Readers.{Reads}
use Rattle.fzn_item.specs.Exprs.{AtomFrom, AtomAfter, IsAtom, IsExpr, IsLastExpr}
use Rattle.fzn_item.proofs.Combining.{IsUnique, gives_unique, one_unique, then_unique, or_unique, fails_first, fails_then, kinds_apart, separated_unique}
use Rattle.fzn_item.proofs.ListsSoFar.{integer_unique}

-- an error is passed on
pub passes_on : {A B : Type 0} (R : Production A) (S : Production B) (ts us : List Token) (e : Stop) → (Fails R ts → Fails S us) → Reads R ts (Err e) → Reads S us (Err e)
passes_on R S ts us stop.Unread fails r = fails r
passes_on R S ts us stop.Memory fails r = tt

module _ {V : Type 0} (R : Production V) (close : Mark) (differ : close ≡ mark.Comma → ⊥) (not_close : (ts : List Token) (v : V) (t : Token) (r s : List Token) → R ts v r → IsMark close ts t s → ⊥) (unique : IsUnique R) where
  -- an empty list is no list of some forms
  not_both : (ts : List Token) (ws : List V) (end : List Token) (t : Token) (other : List Token) → IsMark close ts t other → IsSeparated R close ts ws end → ⊥
  not_both ts ws end t other closes (last {middle = m} {v = w} u p q) = not_close ts w t m other p closes
  not_both ts ws end t other closes (more {middle = m} {v = w} u p q r) = not_close ts w t m other p closes

  -- a list is read in one way where its forms are, and none begins with the closing mark
  pub list_unique : IsUnique (IsListOf R close)
  list_unique ts v w r s p q = ⊎_elim
      (λ p1. ⊎_elim
      (λ q1. (p1.0 ∙ sym q1.0, (one_unique (kind.Mark close) ts p1.1 q1.1 r s p1.2 q1.2).1))
      (λ q2. absurd (not_both ts w s p1.1 r p1.2 q2)) q)
      (λ p2. ⊎_elim
      (λ q1. absurd (not_both ts v r q1.1 s q1.2 p2))
      (λ q2. separated_unique R close differ unique ts v w r s p2 q2) q)
      p

-- an integer is no mark
integer_not_mark : (close : Mark) (ts : List Token) (v : ℤ) (t : Token) (r s : List Token) → IsInteger ts v r → IsMark close ts t s → ⊥
integer_not_mark close [] v t r s p q = p
integer_not_mark close (u ∷ us) v t r s p q = (let clash : kind.Whole v ≡ kind.Mark close = sym p.0 ∙ q.0 in cc)

-- a listed set is read in one way
pub members_unique : IsUnique (IsListOf IsInteger mark.CloseBrace)
members_unique = list_unique IsInteger mark.CloseBrace (λ e. cc) (integer_not_mark mark.CloseBrace) integer_unique

-- the look-ahead reads in one way
pub not_next_unique : (m : Mark) → IsUnique (IsNotNext m)
not_next_unique m ts v w r s p q = (refl, p.0 ∙ sym q.0)

-- what follows an integer is read in one way
pub range_unique : (t : Token) (low : ℤ) → IsUnique (AtomFrom t low)
range_unique t low = or_unique _ _
    (then_unique _ _ (one_unique (kind.Mark mark.DotDot)) (λ dots. then_unique _ _ integer_unique (λ high. gives_unique (atom.Range t.from low high))))
    (then_unique _ _ (not_next_unique mark.DotDot) (λ none. gives_unique (atom.Whole t.from low)))
    (λ ts v w r s p q. q.2.1 p.0 p.1 p.2)

-- what reads nothing reads in one way
pub nothing_unique : {V : Type 0} → IsUnique {V = V} Nothing
nothing_unique ts v w r s p q = absurd p

-- what follows an atom's first token is read in one way
pub after_unique : (k : TokenKind) (t : Token) → IsUnique (AtomAfter k t)
after_unique kind.Name t = gives_unique (atom.Name t.from t.to)
after_unique (kind.Whole z) t = range_unique t z
after_unique kind.Float t = gives_unique (atom.Float t.from)
after_unique kind.Text t = nothing_unique
after_unique (kind.Word word.True) t = gives_unique (atom.Truth t.from true)
after_unique (kind.Word word.False) t = gives_unique (atom.Truth t.from false)
after_unique (kind.Word _) t = nothing_unique
after_unique (kind.Mark mark.OpenBrace) t = then_unique _ _ members_unique (λ values. gives_unique (atom.Listed t.from values))
after_unique (kind.Mark _) t = nothing_unique

-- any token is read in one way
pub any_unique : IsUnique IsAny
any_unique [] v w r s p q = absurd p
any_unique (u ∷ us) v w r s p q = (p.0 ∙ sym q.0, p.1 ∙ sym q.1)

-- an atom is read in one way
pub atom_unique : IsUnique IsAtom
atom_unique = then_unique _ _ any_unique (λ first. after_unique first.kind first)

-- an atom does not begin with a bracket
pub atom_not_mark : (m : Mark) → (m ≡ mark.OpenBrace → ⊥) → (ts : List Token) (v : Atom) (t : Token) (r s : List Token) → IsAtom ts v r → IsMark m ts t s → ⊥
atom_not_mark m not_brace [] v t r s p q = q
atom_not_mark m not_brace (u ∷ us) v t r s p q = after_mark m not_brace p.0 p.1 v r (subst (λ k. AtomAfter k p.0 p.1 v r) (ap (λ x. x.kind) p.2.0 ∙ q.0) p.3) where
  -- the same of what follows the mark
  after_mark : (m : Mark) → (m ≡ mark.OpenBrace → ⊥) → (t : Token) (ts : List Token) (v : Atom) (r : List Token) → AtomAfter (kind.Mark m) t ts v r → ⊥
  after_mark mark.OpenBrace not_brace t ts v r p = not_brace refl
  after_mark _ not_brace t ts v r p = p

-- a list of atoms is read in one way
pub atoms_unique : IsUnique (IsListOf IsAtom mark.CloseBracket)
atoms_unique = list_unique IsAtom mark.CloseBracket (λ e. cc) (atom_not_mark mark.CloseBracket (λ e. cc)) atom_unique

-- an expression is read in one way
pub expr_unique : IsUnique IsExpr
expr_unique = or_unique _ _
    (then_unique _ _ (one_unique (kind.Mark mark.OpenBracket)) (λ bracket. then_unique _ _ atoms_unique (λ atoms. gives_unique (expr.List bracket.from atoms))))
    (then_unique _ _ atom_unique (λ one. gives_unique (expr.One one)))
    (λ ts v w r s p q. atom_not_mark mark.OpenBracket (λ e. cc) ts q.0 p.0 q.1 p.1 q.2 p.2)

-- an expression begins with no parenthesis that closes
pub expr_not_close : (ts : List Token) (v : Expr) (t : Token) (r s : List Token) → IsExpr ts v r → IsMark mark.CloseParen ts t s → ⊥
expr_not_close ts v t r s p q = ⊎_elim
    (λ list. kinds_apart (kind.Mark mark.OpenBracket) (kind.Mark mark.CloseParen) (λ e. cc) ts list.0 t list.1 s list.2 q)
    (λ one. atom_not_mark mark.CloseParen (λ e. cc) ts one.0 t one.1 s one.2 q)
    p

-- arguments are read in one way
pub arguments_unique : IsUnique (IsListOf IsExpr mark.CloseParen)
arguments_unique = list_unique IsExpr mark.CloseParen (λ e. cc) expr_not_close expr_unique

-- a list of atoms that fails is no expression
pub list_expr_fails : (ts : List Token) (t : Token) (rest : List Token) → IsMark mark.OpenBracket ts t rest → Fails (IsListOf IsAtom mark.CloseBracket) rest → Fails IsExpr ts
list_expr_fails ts t rest bracket fails v end p = ⊎_elim
    (λ list. let same = one_unique (kind.Mark mark.OpenBracket) ts list.0 t list.1 rest list.2 bracket in fails list.3.0 list.3.1 (subst (λ m. IsListOf IsAtom mark.CloseBracket m list.3.0 list.3.1) same.1 list.3.2))
    (λ one. atom_not_mark mark.OpenBracket (λ e. cc) ts one.0 t one.1 rest one.2 bracket)
    p

-- neither a bracket nor an atom is no expression
pub one_expr_fails : (ts : List Token) → Fails (IsMark mark.OpenBracket) ts → Fails IsAtom ts → Fails IsExpr ts
one_expr_fails ts no_bracket fails v end p = ⊎_elim (λ list. no_bracket list.0 list.1 list.2) (λ one. fails one.0 one.1 one.2) p

-- no listed set follows the brace
pub listed_fails : (k : TokenKind) (m : Mark) (t : Token) (ts : List Token) → k ≡ kind.Mark m → m ≡ mark.OpenBrace → Fails (IsListOf IsInteger mark.CloseBrace) ts → Fails (AtomAfter k t) ts
listed_fails k m t ts is is_brace fails = subst (λ x. Fails (AtomAfter x t) ts) (sym (is ∙ ap kind.Mark is_brace)) (λ v rest p. fails p.0 p.1 p.2)

-- no `;` follows the last expression of an item
abbrev Close : Expr → Production Expr
Close what = IsMark mark.Semicolon >>= (λ _. Gives what)

-- no `;` follows the expression
pub last_no_end : (ts rest : List Token) (what : Expr) → IsExpr ts what rest → Fails (IsMark mark.Semicolon) rest → Fails IsLastExpr ts
last_no_end ts rest what read fails = fails_then IsExpr Close ts rest what expr_unique read (fails_first (IsMark mark.Semicolon) (λ _. Gives what) rest fails)

-- no expression stands there
pub last_no_expr : (ts : List Token) → Fails IsExpr ts → Fails IsLastExpr ts
last_no_expr ts fails = fails_first IsExpr Close ts fails

-- the last expression of an item is read in one way
pub last_unique : IsUnique IsLastExpr
last_unique = then_unique IsExpr Close expr_unique (λ what. then_unique _ _ (one_unique (kind.Mark mark.Semicolon)) (λ _. gives_unique what))
