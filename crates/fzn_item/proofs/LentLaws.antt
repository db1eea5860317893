-- Forms that are passed over, and constraints that are lent.
use Rattle.std.proofs.Common.{◌≡◌, ℕ, ℤ, List, [], ◌∷◌, length, sym, ◌∙◌, refl, ap, subst, inl, inr, Option, Some, None, Err}
use Rattle.std.specs.Borrow.{Bor}
use Rattle.fzn_token.specs.declared.token.Token.{Token}
use Rattle.fzn_token.specs.declared.token.Word.TheVariants as word
use Rattle.fzn_token.specs.declared.token.Mark.TheVariants as mark
use Rattle.fzn_token.specs.declared.token.TokenKind.{TokenKind}
use Rattle.fzn_token.specs.declared.token.TokenKind.TheVariants as kind
use Rattle.fzn_item.specs.declared.item.Atom.{Atom}
use Rattle.fzn_item.specs.declared.item.Atom.TheVariants as atom
use Rattle.fzn_item.specs.declared.item.Expr.{Expr}
use Rattle.fzn_item.specs.declared.item.Expr.TheVariants as expr
use Rattle.fzn_item.specs.declared.item.Item.{Item}
use Rattle.fzn_item.specs.declared.item.Item.TheVariants as item
use Rattle.fzn_item.specs.declared.single.Stop.{Stop}
use Rattle.fzn_item.specs.declared.single.Stop.TheVariants as stop
use Rattle.fzn_item.specs.declared.lent.LentConstraint.{LentConstraint}
use Rattle.fzn_item.specs.Productions.{Production, OneOf, IsMark, IsInteger, IsListOf, Fails}
use Rattle.fzn_item.specs.Readers.{Reads, Passes}
use Rattle.fzn_item.specs.Exprs.{AtomAfter, IsAtom, IsExpr}
use Rattle.fzn_item.specs.Items.{IsConstraint, ItemAfter, IsItem, IsNextUnread}
use Rattle.fzn_item.specs.Lent.{IsThatConstraint, StandsFor, ReadsAs}
use Rattle.fzn_item.proofs.ExprLaws.{one_expr_fails, arguments_unique}

-- the first token's kind is known
pub by_kind : (k l : TokenKind) (t : Token) (ts : List Token) (r : Option (Bor (List Token))) → k ≡ l → Passes (AtomAfter l t) ts r → Passes (AtomAfter k t) ts r
by_kind k l t ts r is passes = subst (λ x. Passes (AtomAfter x t) ts r) (sym is) passes

-- a range
pub range_passes : (z : ℤ) (t : Token) (ts : List Token) (rest : Bor (List Token)) (dots : Token) (middle : List Token) (high : ℤ) → IsMark mark.DotDot ts dots middle → IsInteger middle high rest.now → Passes (AtomAfter (kind.Whole z) t) ts (Some rest)
range_passes z t ts rest dots middle high is read = (atom.Range t.from z high, inl (dots, middle, is, (high, rest.now, read, (refl, refl))))

-- an integer
pub whole_passes : (z : ℤ) (t : Token) (ts : Bor (List Token)) → Fails (IsMark mark.DotDot) ts.now → Passes (AtomAfter (kind.Whole z) t) ts.now (Some ts)
whole_passes z t ts none = (atom.Whole t.from z, inr (tt, ts.now, (refl, none), (refl, refl)))

-- a listed set
pub set_passes : (t : Token) (ts : List Token) (rest : Bor (List Token)) (count : ℕ) → (vs : List ℤ) × IsListOf IsInteger mark.CloseBrace ts vs rest.now × (length vs ≡ count) → Passes (AtomAfter (kind.Mark mark.OpenBrace) t) ts (Some rest)
set_passes t ts rest count c = (atom.Listed t.from c.0, (c.0, rest.now, c.1, (refl, refl)))

-- a list of atoms
pub list_passes : (ts : List Token) (t : Token) (inside : List Token) (rest : Bor (List Token)) (count : ℕ) → IsMark mark.OpenBracket ts t inside → (vs : List Atom) × IsListOf IsAtom mark.CloseBracket inside vs rest.now × (length vs ≡ count) → Passes IsExpr ts (Some rest)
list_passes ts t inside rest count bracket c = (expr.List t.from c.0, inl (t, inside, bracket, (c.0, rest.now, c.1, (refl, refl))))

-- an expression of one atom
pub atom_passes : (ts : List Token) (r : Option (Bor (List Token))) → Fails (IsMark mark.OpenBracket) ts → Passes IsAtom ts r → Passes IsExpr ts r
atom_passes ts (Some rest) no_bracket p = (expr.One p.0, inr (p.0, rest.now, p.1, (refl, refl)))
atom_passes ts None no_bracket fails = one_expr_fails ts no_bracket fails

-- what is refused stands for nothing
pub refused_as : {V : Type 0} (S : V → Item → Type 0) (R : Production Item) (ts : List Token) (e : Stop) → Reads R ts (Err e) → ReadsAs S R ts (Err e)
refused_as S R ts stop.Unread fails = fails
refused_as S R ts stop.Memory nothing = tt

-- a constraint is refused
pub constraint_refused_as : (text : List ℕ) (k : TokenKind) (t : Token) (ts : List Token) (e : Stop) → k ≡ kind.Word word.Constraint → ReadsAs IsThatConstraint (IsConstraint text t) ts (Err e) → ReadsAs StandsFor (ItemAfter text k t) ts (Err e)
constraint_refused_as text k t ts stop.Unread is fails = subst (λ x. Fails (ItemAfter text x t) ts) (sym is) fails
constraint_refused_as text k t ts stop.Memory is nothing = tt

-- a constraint that is refused as a lent one is refused
pub refused_constraint : (R : Production Item) (ts : List Token) (e : Stop) → ReadsAs IsThatConstraint R ts (Err e) → Reads R ts (Err e)
refused_constraint R ts stop.Unread fails = fails
refused_constraint R ts stop.Memory nothing = tt

-- lent arguments are read again
pub read_again : (R : Production Item) (ts : List Token) (c : LentConstraint) (i : Item) (e : Stop) → IsThatConstraint c i → Reads (IsListOf IsExpr mark.CloseParen) c.arguments.tokens.now (Err e) → Reads R ts (Err e)
read_again R ts c i stop.Unread that fails = absurd (fails that.0 that.1.rest that.1.read)
read_again R ts c i stop.Memory that nothing = tt

-- a lent constraint with its arguments
pub kept_constraint : (R : Production Item) (ts rest : List Token) (c : LentConstraint) (arguments : List Expr) (end : List Token) → (i : Item) × R ts i rest × IsThatConstraint c i → IsListOf IsExpr mark.CloseParen c.arguments.tokens.now arguments end → R ts (item.Constraint c.at c.name_at c.name_to arguments) rest
kept_constraint R ts rest c arguments end lent read =
    let that = lent.2 in
    let same = arguments_unique c.arguments.tokens.now that.0 arguments that.1.rest end that.1.read read in
    subst (λ i. R ts i rest) (that.2 ∙ ap (item.Constraint c.at c.name_at c.name_to) same.0) lent.1

-- a constraint behind its first word is an item
pub constraint_is_item : (text : List ℕ) (ts : List Token) (first : Token) (inside : List Token) (i : Item) (rest : List Token) → OneOf (kind.Word word.Constraint) ts first inside → IsConstraint text first inside i rest → IsItem text ts i rest
constraint_is_item text [] first inside i rest begins read = absurd begins
constraint_is_item text (t ∷ ts) first inside i rest begins read =
    let is : first.kind ≡ kind.Word word.Constraint = ap (λ (u : Token). u.kind) begins.1 ∙ begins.0 in
    (first, inside, (begins.1, begins.2), subst (λ k. ItemAfter text k first inside i rest) (sym is) read)

-- what is no constraint behind its first word is no item
pub constraint_unread : (text : List ℕ) (ts : List Token) (first : Token) (inside : List Token) → OneOf (kind.Word word.Constraint) ts first inside → Fails (IsConstraint text first) inside → IsNextUnread text ts first.from
constraint_unread text [] first inside begins fails = absurd begins
constraint_unread text (t ∷ ts) first inside begins fails = record {
  first = t;
  rest = ts;
  begins = refl;
  fails = λ i rest item.
      let is : first.kind ≡ kind.Word word.Constraint = ap (λ (u : Token). u.kind) begins.1 ∙ begins.0 in
      let here = subst (λ u. ItemAfter text u.kind u item.1 i rest) (item.2.0 ∙ sym begins.1) item.3 in
      let inside_here = subst (λ m. ItemAfter text first.kind first m i rest) (item.2.1 ∙ sym begins.2) here in
      fails i rest (subst (λ k. ItemAfter text k first inside i rest) is inside_here);
  place = ap (λ (u : Token). u.from) begins.1;
}
