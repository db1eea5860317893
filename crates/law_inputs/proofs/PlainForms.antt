-- How forms of the plain grammar become forms of the one that looks ahead, and the other way round.
use Rattle.std.proofs.Common.{◌≡◌, ℤ, List, [], ◌∷◌, sym, ◌∙◌, ap, subst, ⊎_elim, inl, inr, refl}
use Rattle.fzn_token.specs.declared.token.Token.{Token}
use Rattle.fzn_token.specs.declared.token.TokenKind.{TokenKind}
use Rattle.fzn_token.specs.declared.token.TokenKind.TheVariants as kind
use Rattle.fzn_token.specs.declared.token.Mark.{Mark}
use Rattle.fzn_token.specs.declared.token.Mark.TheVariants as mark
use Rattle.fzn_item.specs.Productions.{Production, ◌>>=◌, Or, OneOf, IsMark, IsInteger, IsAny, IsSeparated, last, more, IsListOf, IsAnyList, Fails}
use Rattle.fzn_item.proofs.Combining.{kinds_apart}

-- the tokens begin with none of the marks that a form looks for behind it: `..` and `(`
pub record Ends (ts : List Token) : Type 0 where
  pub dots : Fails (IsMark mark.DotDot) ts
  pub paren : Fails (IsMark mark.OpenParen) ts

-- each form of P at whose end no such mark stands is one of R
abbrev pub Completes : {V : Type 0} → Production V → Production V → Type 0
Completes P R = (ts : List Token) (v : _) (rest : List Token) → P ts v rest → Ends rest → R ts v rest

-- each form of R is one of P
abbrev pub Includes : {V : Type 0} → Production V → Production V → Type 0
Includes R P = (ts : List Token) (v : _) (rest : List Token) → R ts v rest → P ts v rest

-- another token than such a mark
pub one_ends : (k : TokenKind) → (k ≡ kind.Mark mark.DotDot → ⊥) → (k ≡ kind.Mark mark.OpenParen → ⊥) → (ts : List Token) (t : Token) (rest : List Token) → OneOf k ts t rest → Ends ts
one_ends k no_dots no_paren ts t rest p = record {
  dots = λ u end q. kinds_apart k (kind.Mark mark.DotDot) no_dots ts t u rest end p q;
  paren = λ u end q. kinds_apart k (kind.Mark mark.OpenParen) no_paren ts t u rest end p q;
}

-- ---- from the plain grammar

pub same : {V : Type 0} (R : Production V) → Completes R R
same R ts v rest p e = p

-- each of two
pub either : {V : Type 0} (P Q R : Production V) → Completes P R → Completes Q R → Completes (Or P Q) R
either P Q R first second ts v rest p e = ⊎_elim (λ x. first ts v rest x e) (λ y. second ts v rest y e) p

module _ {V : Type 0} (After : TokenKind → Token → Production V) where
  -- the first token is of this kind
  pub one_first : (k : TokenKind) (ts : List Token) (t : Token) (middle : List Token) (v : V) (rest : List Token) → OneOf k ts t middle → After k t middle v rest → (IsAny >>= (λ first. After first.kind first)) ts v rest
  one_first k [] t middle v rest h p = absurd h
  one_first k (u ∷ us) t middle v rest h p = (t, middle, (h.1, h.2), subst (λ x. After x t middle v rest) (sym (ap (λ y. y.kind) h.1 ∙ h.0)) p)

  pub one_completes : (k : TokenKind) (S : Token → Production V) → ((t : Token) → Completes (S t) (After k t)) → Completes (OneOf k >>= S) (IsAny >>= (λ first. After first.kind first))
  one_completes k S follows ts v rest p e = one_first k ts p.0 p.1 v rest p.2 (follows p.0 p.1 v rest p.3 e)

  -- the first token is an integer
  pub integer_first : (ts : List Token) (z : ℤ) (middle : List Token) (v : V) (rest : List Token) → IsInteger ts z middle → ((t : Token) (us : List Token) → ts ≡ t ∷ us → After (kind.Whole z) t middle v rest) → (IsAny >>= (λ first. After first.kind first)) ts v rest
  integer_first [] z middle v rest h p = absurd h
  integer_first (u ∷ us) z middle v rest h p = (u, middle, (refl, h.1), subst (λ x. After x u middle v rest) (sym h.0) (p u us refl))

-- ---- lists

-- forms with commas between
pub separated_maps : {V : Type 0} (P R : Production V) (close : Mark) → (kind.Mark close ≡ kind.Mark mark.DotDot → ⊥) → (kind.Mark close ≡ kind.Mark mark.OpenParen → ⊥) → Completes P R → (ts : List Token) (vs : List V) (rest : List Token) → IsSeparated P close ts vs rest → IsSeparated R close ts vs rest
separated_maps P R close no_dots no_paren each ts vs rest (last {middle = m} {v = w} t a b) = last t (each ts w m a (one_ends (kind.Mark close) no_dots no_paren m t rest b)) b
separated_maps P R close no_dots no_paren each ts vs rest (more {middle = m} {next = n} {v = w} {vs = ws} t a b c) =
    more t (each ts w m a (one_ends (kind.Mark mark.Comma) (λ e. cc) (λ e. cc) m t n b)) b (separated_maps P R close no_dots no_paren each n ws rest c)

pub list_maps : {V : Type 0} (P R : Production V) (close : Mark) → (kind.Mark close ≡ kind.Mark mark.DotDot → ⊥) → (kind.Mark close ≡ kind.Mark mark.OpenParen → ⊥) → Completes P R → Includes (IsListOf P close) (IsListOf R close)
list_maps P R close no_dots no_paren each ts vs rest p = ⊎_elim inl (λ some. inr (separated_maps P R close no_dots no_paren each ts vs rest some)) p

-- whose values are not looked at
pub any_list_maps : (P R : Production (Unit {0})) (close : Mark) → (kind.Mark close ≡ kind.Mark mark.DotDot → ⊥) → (kind.Mark close ≡ kind.Mark mark.OpenParen → ⊥) → Completes P R → Includes (IsAnyList P close) (IsAnyList R close)
any_list_maps P R close no_dots no_paren each ts v rest p = (p.0, list_maps P R close no_dots no_paren each ts p.0 rest p.1)

-- where each form is included it is so whatever follows
pub whatever_follows : {V : Type 0} (R P : Production V) → Includes R P → Completes R P
whatever_follows R P each ts v rest p e = each ts v rest p

-- ---- to the plain grammar

-- what a first token's kind decides
pub by_kind : {V : Type 0} (After : TokenKind → Token → Production V) (P : Production V) → ((k : TokenKind) (t : Token) (ts : List Token) (v : V) (rest : List Token) → t.kind ≡ k → After k t ts v rest → P (t ∷ ts) v rest) → Includes (IsAny >>= (λ first. After first.kind first)) P
by_kind After P each [] v rest p = absurd p.2
by_kind After P each (u ∷ us) v rest p =
    let q = subst (λ m. After p.0.kind p.0 m v rest) p.2.1 p.3 in
    each u.kind u us v rest refl (subst (λ t. After t.kind t us v rest) p.2.0 q)
