-- Each production reads some tokens, or it fails: productions that are put together of such ones do.
use Rattle.std.proofs.Common.{◌≡◌, ℕ, zero, suc, ◌<◌, ◌≤◌, ◌⊎◌, inl, inr, List, [], ◌∷◌, length, refl, sym, subst, arith}
use Rattle.fzn_token.specs.declared.token.Token.{Token}
use Rattle.fzn_token.specs.declared.token.TokenKind.{TokenKind}
use Rattle.fzn_token.specs.declared.token.TokenKind.TheVariants as kind
use Rattle.fzn_token.specs.declared.token.Mark.{Mark}
use Rattle.fzn_token.specs.declared.token.Mark.TheVariants as mark
use Rattle.fzn_token.specs.declared.token.Word.{Word}
use Rattle.fzn_item.specs.Productions.{Production, Gives, Nothing, ◌>>=◌, Or, OneOf, IsMark, IsWord, IsName, IsInteger, IsAny, IsNotNext, IsSeparated, last, more, IsListOf, IsAnyList, Fails}
use Rattle.fzn_item.proofs.Combining.{IsUnique, fails_first, fails_then, fails_or}
use Rattle.fzn_item.proofs.ListsSoFar.{list_start, list_comma, list_no_form, list_no_mark, list_fails}
use Rattle.law_inputs.proofs.TokenKinds.{IsOrNot, is_name, is_float, is_word, is_mark}

-- R reads these tokens, and leaves no more of them than there were; or it fails
abbrev pub Decided : {V : Type 0} → Production V → List Token → Type 0
Decided R ts = Fails R ts ⊎ ((v : _) × (rest : List Token) × R ts v rest × (length rest ≤ length ts))

-- so of all tokens
abbrev pub IsDecided : {V : Type 0} → Production V → Type 0
IsDecided R = (ts : List Token) → Decided R ts

pub gives_decided : {V : Type 0} (x : V) → IsDecided (Gives x)
gives_decided x ts = inr (x, ts, (refl, refl), omega arith)

pub nothing_decided : {V : Type 0} → IsDecided {V = V} Nothing
nothing_decided ts = inl (λ v rest p. p)

pub then_decided : {A B : Type 0} (R : Production A) (S : A → Production B) → IsUnique R → IsDecided R → ((a : A) → IsDecided (S a)) → IsDecided (R >>= S)
then_decided R S unique first second ts = elim (first ts) [
  | inl fails ↦ inl (fails_first R S ts fails)
  | inr r ↦ elim (second r.0 r.1) [
    | inl fails ↦ inl (fails_then R S ts r.1 r.0 unique r.2 fails)
    | inr s ↦ inr (s.0, s.1, (r.0, r.1, r.2, s.2), omega (arith, r.3, s.3))
  ]
]

-- where nothing follows but a value, R need not read in one way
pub map_decided : {A B : Type 0} (R : Production A) (f : A → B) → IsDecided R → IsDecided (R >>= (λ a. Gives (f a)))
map_decided R f first ts = elim (first ts) [
  | inl fails ↦ inl (λ v rest p. fails p.0 p.1 p.2)
  | inr r ↦ inr (f r.0, r.1, (r.0, r.1, r.2, (refl, refl)), r.3)
]

pub or_decided : {V : Type 0} (R S : Production V) → IsDecided R → IsDecided S → IsDecided (Or R S)
or_decided R S first second ts = elim (first ts) [
  | inr r ↦ inr (r.0, r.1, inl r.2, r.3)
  | inl no_first ↦ elim (second ts) [
    | inr s ↦ inr (s.0, s.1, inr s.2, s.3)
    | inl no_second ↦ inl (fails_or R S ts no_first no_second)
  ]
]

-- ---- single tokens

one_decided : (k : TokenKind) → IsOrNot k → IsDecided (OneOf k)
one_decided k is_or_not [] = inl (λ v rest p. p)
one_decided k is_or_not (u ∷ us) = elim (is_or_not u.kind) [
  | inl same ↦ inr (u, us, (same, refl, refl), omega arith)
  | inr differ ↦ inl (λ v rest p. differ p.0)
]

pub mark_decided : (m : Mark) → IsDecided (IsMark m)
mark_decided m = one_decided (kind.Mark m) (is_mark m)

pub word_decided : (w : Word) → IsDecided (IsWord w)
word_decided w = one_decided (kind.Word w) (is_word w)

pub name_decided : IsDecided IsName
name_decided = one_decided kind.Name is_name

pub float_decided : IsDecided (OneOf kind.Float)
float_decided = one_decided kind.Float is_float

integer_here : (k : TokenKind) (u : Token) (us : List Token) → u.kind ≡ k → Decided IsInteger (u ∷ us)
integer_here kind.Name u us e = inl (λ v rest p. let h = p.0 in cc)
integer_here (kind.Word w) u us e = inl (λ v rest p. let h = p.0 in cc)
integer_here (kind.Whole z) u us e = inr (z, us, (e, refl), omega arith)
integer_here kind.Float u us e = inl (λ v rest p. let h = p.0 in cc)
integer_here kind.Text u us e = inl (λ v rest p. let h = p.0 in cc)
integer_here (kind.Mark m) u us e = inl (λ v rest p. let h = p.0 in cc)

pub integer_decided : IsDecided IsInteger
integer_decided [] = inl (λ v rest p. p)
integer_decided (u ∷ us) = integer_here u.kind u us refl

pub any_decided : IsDecided IsAny
any_decided [] = inl (λ v rest p. p)
any_decided (u ∷ us) = inr (u, us, (refl, refl), omega arith)

pub not_next_decided : (m : Mark) → IsDecided (IsNotNext m)
not_next_decided m ts = elim (mark_decided m ts) [
  | inl missing ↦ inr (tt, ts, (refl, missing), omega arith)
  | inr found ↦ inl (λ v rest p. p.1 found.0 found.1 found.2)
]

-- a token is taken away
pub one_shorter : (k : TokenKind) (ts : List Token) (t : Token) (rest : List Token) → OneOf k ts t rest → length rest < length ts
one_shorter k [] t rest p = absurd p
one_shorter k (u ∷ us) t rest p = subst (λ (r : List Token). length r < length (u ∷ us)) (sym p.2) (omega arith)

-- ---- lists

module _ {V : Type 0} (R : Production V) (close : Mark) (differ : close ≡ mark.Comma → ⊥) (unique : IsUnique R) (each : IsDecided R) where
  -- where a form stands, the next mark decides
  after_form : (ts middle : List Token) (v : V) → R ts v middle → length middle ≤ length ts → ((t : Token) (next : List Token) → IsMark mark.Comma middle t next → Decided (IsSeparated R close) next) → Decided (IsSeparated R close) ts
  after_form ts middle v form short go_on = elim (mark_decided mark.Comma middle) [
    | inr c ↦ elim (go_on c.0 c.1 c.2) [
      | inl fails ↦ inl ((list_comma R close differ unique ts [] ts middle c.1 v c.0 (list_start R close ts) form c.2).stops fails)
      | inr r ↦ inr (v ∷ r.0, r.1, more c.0 form c.2 r.2, omega (arith, short, c.3, r.3))
    ]
    | inl no_comma ↦ elim (mark_decided close middle) [
      | inr c ↦ inr (v ∷ [], c.1, last c.0 form c.2, omega (arith, short, c.3))
      | inl no_close ↦ inl (list_no_mark R close differ unique ts [] ts middle v (list_start R close ts) form no_comma no_close)
    ]
  ]

  separated_on : (n : ℕ) (ts : List Token) → length ts < n → Decided (IsSeparated R close) ts
  separated_on zero ts below = absurd (omega (arith, below))
  separated_on (suc n) ts below = elim (each ts) [
    | inl fails ↦ inl (list_no_form R close differ unique ts [] ts (list_start R close ts) fails)
    | inr r ↦ after_form ts r.1 r.0 r.2 r.3 (λ t next comma. separated_on n next (omega (arith, r.3, one_shorter (kind.Mark mark.Comma) r.1 t next comma)))
  ]

  pub list_decided : IsDecided (IsListOf R close)
  list_decided ts = elim (mark_decided close ts) [
    | inr c ↦ inr ([], c.1, inl (refl, c.0, c.2), c.3)
    | inl no_close ↦ elim (separated_on (suc (length ts)) ts (omega arith)) [
      | inl fails ↦ inl (list_fails R close differ unique ts no_close fails)
      | inr r ↦ inr (r.0, r.1, inr r.2, r.3)
    ]
  ]

-- a list whose values are not looked at
pub any_list_decided : (R : Production (Unit {0})) (close : Mark) → (close ≡ mark.Comma → ⊥) → IsUnique R → IsDecided R → IsDecided (IsAnyList R close)
any_list_decided R close differ unique each ts = elim (list_decided R close differ unique each ts) [
  | inl fails ↦ inl (λ v rest p. fails p.0 rest p.1)
  | inr r ↦ inr (tt, r.1, (r.0, r.2), r.3)
]
