-- Where P holds of the places of all tokens, it holds of the places in what productions read, and of those of the rest.
use Rattle.std.proofs.Common.{ℕ, inl, inr, List, [], ◌∷◌, sym, subst}
use Rattle.std.specs.List.{AllByRecursion}
use Rattle.fzn_token.specs.declared.token.Token.{Token}
use Rattle.fzn_token.specs.declared.token.TokenKind.{TokenKind}
use Rattle.fzn_token.specs.declared.token.TokenKind.TheVariants as kind
use Rattle.fzn_token.specs.declared.token.Mark.{Mark}
use Rattle.fzn_token.specs.declared.token.Mark.TheVariants as mark
use Rattle.fzn_item.specs.Productions.{Production, Gives, Nothing, ◌>>=◌, Or, OneOf, IsMark, IsInteger, IsAny, IsNotNext, IsSeparated, last, more, IsListOf, IsAnyList}

-- P holds of each token's place
abbrev pub Every : (ℕ → Type 0) → List Token → Type 0
Every P ts = AllByRecursion (λ (t : Token). P t.from) ts

-- Q holds of what R reads, and P of the places of the rest
abbrev pub Placed : {V : Type 0} → (ℕ → Type 0) → Production V → (V → Type 0) → Type 0
Placed P R Q = (ts : List Token) (v : _) (rest : List Token) → R ts v rest → Every P ts → Q v × Every P rest

-- nothing is asked of what R reads
abbrev pub Passed : {V : Type 0} → (ℕ → Type 0) → Production V → Type 0
Passed P R = Placed P R (λ _. Unit {0})

module _ (P : ℕ → Type 0) where
  pub gives_placed : {V : Type 0} (x : V) (Q : V → Type 0) → Q x → Placed P (Gives x) Q
  gives_placed x Q q ts v rest p all = (subst Q (sym p.0) q, subst (Every P) (sym p.1) all)

  pub nothing_placed : {V : Type 0} (Q : V → Type 0) → Placed P Nothing Q
  nothing_placed Q ts v rest p all = absurd p

  pub then_placed : {A B : Type 0} (R : Production A) (S : A → Production B) (Q : A → Type 0) (T : B → Type 0) → Placed P R Q → ((a : A) → Q a → Placed P (S a) T) → Placed P (R >>= S) T
  then_placed R S Q T first second ts v rest p all =
      let f = first ts p.0 p.1 p.2 all in
      second p.0 f.0 p.1 v rest p.3 f.1

  pub map_placed : {A B : Type 0} (R : Production A) (f : A → B) (Q : A → Type 0) (T : B → Type 0) → Placed P R Q → ((a : A) → Q a → T (f a)) → Placed P (R >>= (λ a. Gives (f a))) T
  map_placed R f Q T first h ts v rest p all =
      let r = first ts p.0 p.1 p.2 all in
      (subst T (sym p.3.0) (h p.0 r.0), subst (Every P) (sym p.3.1) r.1)

  pub or_placed : {V : Type 0} (R S : Production V) (Q : V → Type 0) → Placed P R Q → Placed P S Q → Placed P (Or R S) Q
  or_placed R S Q first second ts v rest p all = elim p [ inl r ↦ first ts v rest r all | inr s ↦ second ts v rest s all ]

  pub one_placed : (k : TokenKind) → Placed P (OneOf k) (λ t. P t.from)
  one_placed k [] v rest p all = absurd p
  one_placed k (u ∷ us) v rest p all = (subst (λ (t : Token). P t.from) (sym p.1) all.0, subst (Every P) (sym p.2) all.1)

  pub mark_placed : (m : Mark) → Placed P (IsMark m) (λ t. P t.from)
  mark_placed m = one_placed (kind.Mark m)

  pub integer_placed : Passed P IsInteger
  integer_placed [] v rest p all = absurd p
  integer_placed (u ∷ us) v rest p all = (tt, subst (Every P) (sym p.1) all.1)

  pub any_placed : Placed P IsAny (λ t. P t.from)
  any_placed [] v rest p all = absurd p
  any_placed (u ∷ us) v rest p all = (subst (λ (t : Token). P t.from) (sym p.0) all.0, subst (Every P) (sym p.1) all.1)

  pub not_next_placed : (m : Mark) → Passed P (IsNotNext m)
  not_next_placed m ts v rest p all = (tt, subst (Every P) (sym p.0) all)

  separated_placed : {V : Type 0} (R : Production V) (close : Mark) (Q : V → Type 0) → Placed P R Q → Placed P (IsSeparated R close) (AllByRecursion Q)
  separated_placed R close Q each ts vs rest (last {middle = m} {v = w} t r c) all =
      let f = each ts w m r all in
      ((f.0, tt), (mark_placed close m t rest c f.1).1)
  separated_placed R close Q each ts vs rest (more {middle = m} {next = n} {v = w} {vs = ws} t r c s) all =
      let f = each ts w m r all in
      let g = separated_placed R close Q each n ws rest s (mark_placed mark.Comma m t n c f.1).1 in
      ((f.0, g.0), g.1)

  pub list_placed : {V : Type 0} (R : Production V) (close : Mark) (Q : V → Type 0) → Placed P R Q → Placed P (IsListOf R close) (AllByRecursion Q)
  list_placed R close Q each ts vs rest p all = elim p [
    | inl empty ↦ (subst (AllByRecursion Q) (sym empty.0) tt, (mark_placed close ts empty.1 rest empty.2 all).1)
    | inr some ↦ separated_placed R close Q each ts vs rest some all
  ]

  pub any_list_placed : (R : Production (Unit {0})) (close : Mark) → Passed P R → Passed P (IsAnyList R close)
  any_list_placed R close each ts v rest p all = (tt, (list_placed R close (λ _. Unit {0}) each ts p.0 rest p.1 all).1)
