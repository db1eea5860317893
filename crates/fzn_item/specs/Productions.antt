-- What a production is, and how productions are put together.
use Rattle.std.specs.Prelude.{◌≡◌, ℤ, ◌⊎◌, List, [], ◌∷◌}
use Rattle.fzn_token.specs.declared.token.Token.{Token}
use Rattle.fzn_token.specs.declared.token.TokenKind.{TokenKind}
use Rattle.fzn_token.specs.declared.token.TokenKind.TheVariants as kind
use Rattle.fzn_token.specs.declared.token.Mark.{Mark}
use Rattle.fzn_token.specs.declared.token.Mark.TheVariants as mark
use Rattle.fzn_token.specs.declared.token.Word.{Word}

-- P ts v rest: the tokens ts are a form of P with the value v, and then rest
abbrev pub Production : Type 0 → Type 1
Production V = List Token → V → List Token → Type 0

-- nothing, with this value
abbrev pub Gives : {V : Type 0} → V → Production V
Gives v ts x rest = (x ≡ v) × (rest ≡ ts)

-- one production and then another, which depends on the value of the first
infixl 10 ◌>>=◌
abbrev pub ◌>>=◌ : {A B : Type 0} → Production A → (A → Production B) → Production B
(R >>= S) ts b rest = (a : _) × (middle : List Token) × R ts a middle × S a middle b rest

-- one of two productions
abbrev pub Or : {V : Type 0} → Production V → Production V → Production V
Or R S ts v rest = R ts v rest ⊎ S ts v rest

-- a token of this kind
abbrev pub OneOf : TokenKind → Production Token
OneOf k [] t rest = ⊥
OneOf k (u ∷ us) t rest = (u.kind ≡ k) × (t ≡ u) × (rest ≡ us)

-- this mark
abbrev pub IsMark : Mark → Production Token
IsMark m = OneOf (kind.Mark m)

-- this keyword
abbrev pub IsWord : Word → Production Token
IsWord w = OneOf (kind.Word w)

-- a name
abbrev pub IsName : Production Token
IsName = OneOf kind.Name

-- an integer, with its value
abbrev pub IsInteger : Production ℤ
IsInteger [] v rest = ⊥
IsInteger (u ∷ us) v rest = (u.kind ≡ kind.Whole v) × (rest ≡ us)

-- one or more forms of R with commas between, and a mark after them
pub data IsSeparated {V : Type 0} (R : Production V) (close : Mark) : List Token → List V → List Token → Type 0 where
  last : {ts middle rest : List Token} {v : V} (t : Token) → R ts v middle → IsMark close middle t rest → IsSeparated R close ts (v ∷ []) rest
  more : {ts middle next rest : List Token} {v : V} {vs : List V} (t : Token) → R ts v middle → IsMark mark.Comma middle t next → IsSeparated R close next vs rest → IsSeparated R close ts (v ∷ vs) rest

-- any number of forms of R with commas between, and a mark after them
abbrev pub IsListOf : {V : Type 0} → Production V → Mark → Production (List V)
IsListOf R close ts vs rest = ((vs ≡ []) × (t : Token) × IsMark close ts t rest) ⊎ IsSeparated R close ts vs rest

-- a list of forms of R whose values are not looked at
abbrev pub IsAnyList : Production (Unit {0}) → Mark → Production (Unit {0})
IsAnyList R close ts v rest = (vs : List (Unit {0})) × IsListOf R close ts vs rest

-- the tokens do not begin with a form of R
abbrev pub Fails : {V : Type 0} → Production V → List Token → Type 0
Fails R ts = (v : _) (rest : List Token) → R ts v rest → ⊥

-- no form
abbrev pub Nothing : {V : Type 0} → Production V
Nothing ts v rest = ⊥

-- any token
abbrev pub IsAny : Production Token
IsAny [] t rest = ⊥
IsAny (u ∷ us) t rest = (t ≡ u) × (rest ≡ us)

-- no token, where this mark is not the next
abbrev pub IsNotNext : Mark → Production (Unit {0})
IsNotNext m ts v rest = (rest ≡ ts) × Fails (IsMark m) ts
