-- Each production reads a list in at most one way, and a sequence fails where one of its parts does.
use Rattle.std.proofs.Common.{◌≡◌, List, [], ◌∷◌, sym, ◌∙◌, ap, subst, ⊎_elim, Result, Ok, Err}
use Rattle.fzn_token.specs.declared.token.Token.{Token}
use Rattle.fzn_token.specs.declared.token.TokenKind.{TokenKind}
use Rattle.fzn_token.specs.declared.token.TokenKind.TheVariants as kind
use Rattle.fzn_token.specs.declared.token.Mark.{Mark}
use Rattle.fzn_token.specs.declared.token.Mark.TheVariants as mark
use Rattle.std.specs.Borrow.{Bor}
use Rattle.fzn_item.specs.declared.single.Stop.{Stop}
use Rattle.fzn_item.specs.declared.single.Stop.TheVariants as stop
use Rattle.fzn_item.specs.Readers.{Reads}
use Rattle.fzn_item.specs.Productions.{Production, Gives, ◌>>=◌, Or, OneOf, IsMark, IsSeparated, last, more, Fails}

-- R reads a list in at most one way
abbrev pub IsUnique : {V : Type 0} → Production V → Type 0
IsUnique R = (ts : List Token) (v w : _) (r s : List Token) → R ts v r → R ts w s → (v ≡ w) × (r ≡ s)

-- nothing is read in one way
pub gives_unique : {V : Type 0} (x : V) → IsUnique (Gives x)
gives_unique x ts v w r s p q = (p.0 ∙ sym q.0, p.1 ∙ sym q.1)

-- a token is read in one way
pub one_unique : (k : TokenKind) → IsUnique (OneOf k)
one_unique k [] v w r s p q = absurd p
one_unique k (u ∷ us) v w r s p q = (p.1 ∙ sym q.1, p.2 ∙ sym q.2)

-- two productions in turn are read in one way where each is
pub then_unique : {A B : Type 0} (R : Production A) (S : A → Production B) → IsUnique R → ((a : A) → IsUnique (S a)) → IsUnique (R >>= S)
then_unique R S first second ts v w r s p q =
    let same = first ts p.0 q.0 p.1 q.1 p.2 q.2 in
    second q.0 q.1 v w r s (subst (λ m. S q.0 m v r) same.1 (subst (λ a. S a p.1 v r) same.0 p.3)) q.3

-- the first part fails
pub fails_first : {A B : Type 0} (R : Production A) (S : A → Production B) (ts : List Token) → Fails R ts → Fails (R >>= S) ts
fails_first R S ts fails v rest p = fails p.0 p.1 p.2

-- the first part reads, and what follows fails
pub fails_then : {A B : Type 0} (R : Production A) (S : A → Production B) (ts middle : List Token) (a : A) → IsUnique R → R ts a middle → Fails (S a) middle → Fails (R >>= S) ts
fails_then R S ts middle a first found fails v rest p =
    let same = first ts p.0 a p.1 middle p.2 found in
    fails v rest (subst (λ m. S a m v rest) same.1 (subst (λ x. S x p.1 v rest) same.0 p.3))

-- a token reads, and what follows fails
pub fails_after : {B : Type 0} (k : TokenKind) (S : Token → Production B) (ts rest : List Token) (t : Token) → OneOf k ts t rest → Fails (S t) rest → Fails (OneOf k >>= S) ts
fails_after k S ts rest t found fails = fails_then (OneOf k) S ts rest t (one_unique k) found fails

-- the first part reads, and what follows decides
pub reads_then : {A B : Type 0} (R : Production A) (S : A → Production B) (ts middle : List Token) (a : A) (r : Result (B × Bor (List Token)) Stop) → IsUnique R → R ts a middle → Reads (S a) middle r → Reads (R >>= S) ts r
reads_then R S ts middle a (Ok x) unique found reads = (a, middle, found, reads)
reads_then R S ts middle a (Err stop.Unread) unique found fails = fails_then R S ts middle a unique found fails
reads_then R S ts middle a (Err stop.Memory) unique found nothing = tt

-- a token reads, and what follows decides
pub reads_after : {B : Type 0} (k : TokenKind) (S : Token → Production B) (ts rest : List Token) (t : Token) (r : Result (B × Bor (List Token)) Stop) → OneOf k ts t rest → Reads (S t) rest r → Reads (OneOf k >>= S) ts r
reads_after k S ts rest t r found reads = reads_then (OneOf k) S ts rest t r (one_unique k) found reads

-- the first part is refused
pub refused_first : {A B : Type 0} (R : Production A) (S : A → Production B) (ts : List Token) (e : Stop) → Reads R ts (Err e) → Reads (R >>= S) ts (Err e)
refused_first R S ts stop.Unread fails = fails_first R S ts fails
refused_first R S ts stop.Memory nothing = tt

-- both parts read
pub both : {A B : Type 0} (R : Production A) (S : A → Production B) (ts middle : List Token) (a : A) (b : B) (rest : List Token) → R ts a middle → S a middle b rest → (R >>= S) ts b rest
both R S ts middle a b rest first second = (a, middle, first, second)

-- two productions fail where each does
pub fails_or : {V : Type 0} (R S : Production V) (ts : List Token) → Fails R ts → Fails S ts → Fails (Or R S) ts
fails_or R S ts no_first no_second v rest p = ⊎_elim (no_first v rest) (no_second v rest) p

-- one of two productions is read in one way where each is and they never both read
pub or_unique : {V : Type 0} (R S : Production V) → IsUnique R → IsUnique S → ((ts : List Token) (v w : V) (r s : List Token) → R ts v r → S ts w s → ⊥) → IsUnique (Or R S)
or_unique R S first second apart ts v w r s p q = ⊎_elim
    (λ p1. ⊎_elim (λ q1. first ts v w r s p1 q1) (λ q2. absurd (apart ts v w r s p1 q2)) q)
    (λ p2. ⊎_elim (λ q1. absurd (apart ts w v s r q1 p2)) (λ q2. second ts v w r s p2 q2) q)
    p

-- two kinds do not begin one list
pub kinds_apart : (k l : TokenKind) → (k ≡ l → ⊥) → (ts : List Token) (v w : Token) (r s : List Token) → OneOf k ts v r → OneOf l ts w s → ⊥
kinds_apart k l differ [] v w r s p q = p
kinds_apart k l differ (u ∷ us) v w r s p q = differ (sym p.0 ∙ q.0)

-- a closing mark is no comma
pub comma_apart : (close : Mark) → (close ≡ mark.Comma → ⊥) → (ts : List Token) (v w : Token) (r s : List Token) → IsMark close ts v r → IsMark mark.Comma ts w s → ⊥
comma_apart close differ = kinds_apart (kind.Mark close) (kind.Mark mark.Comma) (λ e. differ (cc))

module _ {V : Type 0} (R : Production V) (close : Mark) (differ : close ≡ mark.Comma → ⊥) (unique : IsUnique R) where
  -- forms with commas between are read in one way where each is
  pub separated_unique : (ts : List Token) (v w : List V) (r s : List Token) → IsSeparated R close ts v r → IsSeparated R close ts w s → (v ≡ w) × (r ≡ s)
  separated_unique ts v w r s (last {middle = m} {v = x} t a b) (last {middle = n} {v = y} u c d) =
      let same = unique ts x y m n a c in
      let end = one_unique (kind.Mark close) n t u r s (subst (λ k. IsMark close k t r) same.1 b) d in
      (ap (λ z. z ∷ []) same.0, end.1)
  separated_unique ts v w r s (last {middle = m} {v = x} t a b) (more {middle = n} {next = next} {v = y} u c d e) =
      let same = unique ts x y m n a c in
      absurd (comma_apart close differ n t u r next (subst (λ k. IsMark close k t r) same.1 b) d)
  separated_unique ts v w r s (more {middle = m} {next = next} {v = x} t a b e) (last {middle = n} {v = y} u c d) =
      let same = unique ts x y m n a c in
      absurd (comma_apart close differ m u t s next (subst (λ k. IsMark close k u s) (sym same.1) d) b)
  separated_unique ts v w r s (more {middle = m} {next = next} {v = x} {vs = xs} t a b e) (more {middle = n} {next = other} {v = y} {vs = ys} u c d f) =
      let same = unique ts x y m n a c in
      let after = one_unique (kind.Mark mark.Comma) n t u next other (subst (λ k. IsMark mark.Comma k t next) same.1 b) d in
      let rest = separated_unique other xs ys r s (subst (λ k. IsSeparated R close k xs r) after.1 e) f in
      ((λ i. same.0 i ∷ rest.0 i), rest.1)
