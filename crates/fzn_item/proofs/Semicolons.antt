-- No form within an item has a `;`, or looks behind the next one.
use Rattle.std.proofs.Common.{◌≡◌, ◌⊎◌, ℕ, zero, suc, List, [], ◌∷◌, Option, Some, None, refl, sym, ◌∙◌, ap, subst, inl, inr}
use Rattle.fzn_token.specs.declared.token.Token.{Token}
use Rattle.fzn_token.specs.declared.token.Mark.{Mark}
use Rattle.fzn_token.specs.declared.token.Mark.TheVariants as mark
use Rattle.fzn_token.specs.declared.token.Word.TheVariants as word
use Rattle.fzn_token.specs.declared.token.TokenKind.{TokenKind}
use Rattle.fzn_token.specs.declared.token.TokenKind.TheVariants as kind
use Rattle.fzn_item.specs.declared.item.Marked.TheVariants as marked
use Rattle.fzn_item.specs.declared.marking.Called.{Called}
use Rattle.fzn_item.specs.declared.marking.Called.TheVariants as name
use Rattle.fzn_item.specs.Productions.{Production, Gives, Nothing, ◌>>=◌, Or, IsAny, OneOf, IsInteger, IsNotNext, IsSeparated, last, more, IsListOf, IsAnyList, Fails}
use Rattle.fzn_item.specs.Exprs.{AtomAfter, IsAtom, IsExpr}
use Rattle.fzn_item.specs.Annotations.{Arguments, NumberAfter, IsNumber, InnerAfter, IsInner}
use Rattle.fzn_item.specs.Marks.{called, IsRange, IsRangeArgument, IsOtherArgument, MarkedEnd, IsMarkedAnnotation, AreAnnotations, none, more as one_more}
use Rattle.fzn_item.specs.Elements.{SetAfter, IsSetElement, BaseAfter, IsBase, ElementAfter, IsElement}

-- what stands behind a `;` in two lists, where they have one
abbrev pub Behind : Type 0
Behind = Option (List Token × List Token)

-- two lists have the same tokens up to the first `;`, behind which these stand; or they are the same, without a `;`
abbrev pub Alike : List Token → List Token → Behind → Type 0
Alike [] [] e = e ≡ None
Alike [] (u ∷ us) e = ⊥
Alike (t ∷ ts) [] e = ⊥
Alike (t ∷ ts) (u ∷ us) e = (t ≡ u) × (((t.kind ≡ kind.Mark mark.Semicolon) × (e ≡ Some (ts, us))) ⊎ ((t.kind ≡ kind.Mark mark.Semicolon → ⊥) × Alike ts us e))

-- a form of R is read before the first `;` alone, whatever stands behind it
abbrev pub Stays : {V : Type 0} → Production V → Type 0
Stays R = (ts us : List Token) (e : Behind) (v : _) (rest : List Token) → Alike ts us e → R ts v rest → (next : List Token) × R us v next × Alike rest next e

-- another token than `;`
pub one_stays : (k : TokenKind) → (k ≡ kind.Mark mark.Semicolon → ⊥) → Stays (OneOf k)
one_stays k differs [] us e v rest alike p = absurd p
one_stays k differs (t ∷ ts) [] e v rest alike p = absurd alike
one_stays k differs (t ∷ ts) (u ∷ us) e v rest alike p = elim alike.1 [
  | inl here ↦ absurd (differs (sym p.0 ∙ here.0))
  | inr past ↦ (us, (ap (λ x. x.kind) (sym alike.0) ∙ p.0, p.1 ∙ alike.0, refl), subst (λ x. Alike x us e) (sym p.2) past.1)
]

-- an integer
integer_stays : Stays IsInteger
integer_stays [] us e v rest alike p = absurd p
integer_stays (t ∷ ts) [] e v rest alike p = absurd alike
integer_stays (t ∷ ts) (u ∷ us) e v rest alike p = elim alike.1 [
  | inl here ↦ absurd (let clash : kind.Whole v ≡ kind.Mark mark.Semicolon = sym p.0 ∙ here.0 in cc)
  | inr past ↦ (us, (ap (λ x. x.kind) (sym alike.0) ∙ p.0, refl), subst (λ x. Alike x us e) (sym p.1) past.1)
]

-- two productions in turn
pub then_stays : {A B : Type 0} (R : Production A) (S : A → Production B) → Stays R → ((a : A) → Stays (S a)) → Stays (R >>= S)
then_stays R S first second ts us e v rest alike p =
    let f = first ts us e p.0 p.1 alike p.2 in
    let g = second p.0 p.1 f.0 e v rest f.2 p.3 in
    (g.0, (p.0, f.0, f.1, g.1), g.2)

-- one of two productions
or_stays : {V : Type 0} (R S : Production V) → Stays R → Stays S → Stays (Or R S)
or_stays R S first second ts us e v rest alike p = elim p [
  | inl r ↦ let f = first ts us e v rest alike r in (f.0, inl f.1, f.2)
  | inr s ↦ let f = second ts us e v rest alike s in (f.0, inr f.1, f.2)
]

-- nothing
pub gives_stays : {V : Type 0} (x : V) → Stays (Gives x)
gives_stays x ts us e v rest alike p = (us, (p.0, refl), subst (λ y. Alike y us e) (sym p.1) alike)

-- no form
pub nothing_stays : {V : Type 0} → Stays {V = V} Nothing
nothing_stays ts us e v rest alike p = absurd p

-- the look-ahead
not_next_stays : (m : Mark) → Stays (IsNotNext m)
not_next_stays m ts us e v rest alike p = (us, (refl, no_head ts us alike p.1), subst (λ y. Alike y us e) (sym p.0) alike) where
  -- another first token stays another
  no_head : (ts us : List Token) → Alike ts us e → Fails (OneOf (kind.Mark m)) ts → Fails (OneOf (kind.Mark m)) us
  no_head [] [] alike fails t rest q = q
  no_head [] (u ∷ us) alike fails t rest q = alike
  no_head (t ∷ ts) [] alike fails v rest q = q
  no_head (t ∷ ts) (u ∷ us) alike fails v rest q = fails t ts (ap (λ x. x.kind) alike.0 ∙ q.0, refl, refl)

-- a first token, and what follows it by its kind, where nothing follows a `;`
pub first_stays : {V : Type 0} (After : Token → Production V) → ((t : Token) → Stays (After t)) → ((t : Token) → t.kind ≡ kind.Mark mark.Semicolon → (ts : List Token) → Fails (After t) ts) → Stays (IsAny >>= After)
first_stays After stays fails [] us e v rest alike p = absurd p.2
first_stays After stays fails (t ∷ ts) [] e v rest alike p = absurd alike
first_stays After stays fails (t ∷ ts) (u ∷ us) e v rest alike p = elim alike.1 [
  | inl here ↦ absurd (fails p.0 (ap (λ x. x.kind) p.2.0 ∙ here.0) p.1 v rest p.3)
  | inr past ↦
      let f = stays p.0 p.1 us e v rest (subst (λ x. Alike x us e) (sym p.2.1) past.1) p.3 in
      (f.0, (p.0, us, (p.2.0 ∙ alike.0, refl), f.1), f.2)
]

-- forms with commas between
separated_stays : {V : Type 0} (R : Production V) (close : Mark) → (kind.Mark close ≡ kind.Mark mark.Semicolon → ⊥) → Stays R → Stays (IsSeparated R close)
separated_stays R close differs stays ts us e vs rest alike (last {middle = m} {v = w} t a b) =
    let f = stays ts us e w m alike a in
    let g = one_stays (kind.Mark close) differs m f.0 e t rest f.2 b in
    (g.0, last t f.1 g.1, g.2)
separated_stays R close differs stays ts us e vs rest alike (more {middle = m} {next = n} {v = w} {vs = ws} t a b c) =
    let f = stays ts us e w m alike a in
    let g = one_stays (kind.Mark mark.Comma) (λ e. cc) m f.0 e t n f.2 b in
    let h = separated_stays R close differs stays n g.0 e ws rest g.2 c in
    (h.0, more t f.1 g.1 h.1, h.2)

-- a list of forms
pub list_stays : {V : Type 0} (R : Production V) (close : Mark) → (kind.Mark close ≡ kind.Mark mark.Semicolon → ⊥) → Stays R → Stays (IsListOf R close)
list_stays R close differs stays ts us e vs rest alike p = elim p [
  | inl empty ↦ let f = one_stays (kind.Mark close) differs ts us e empty.1 rest alike empty.2 in (f.0, inl (empty.0, empty.1, f.1), f.2)
  | inr some ↦ let f = separated_stays R close differs stays ts us e vs rest alike some in (f.0, inr f.1, f.2)
]

-- a list of forms whose values are not looked at
any_list_stays : (R : Production (Unit {0})) (close : Mark) → (kind.Mark close ≡ kind.Mark mark.Semicolon → ⊥) → Stays R → Stays (IsAnyList R close)
any_list_stays R close differs stays ts us e v rest alike p = let f = list_stays R close differs stays ts us e p.0 rest alike p.1 in (f.0, (p.0, f.1), f.2)

-- a listed set, after its `{`
members_stay : Stays (IsListOf IsInteger mark.CloseBrace)
members_stay = list_stays IsInteger mark.CloseBrace (λ e. cc) integer_stays

-- what follows an atom's first token
atom_after_stays : (k : TokenKind) (t : Token) → Stays (AtomAfter k t)
atom_after_stays kind.Name t = gives_stays _
atom_after_stays (kind.Whole z) t = or_stays _ _
    (then_stays _ _ (one_stays (kind.Mark mark.DotDot) (λ e. cc)) (λ _. then_stays _ _ integer_stays (λ high. gives_stays _)))
    (then_stays _ _ (not_next_stays mark.DotDot) (λ _. gives_stays _))
atom_after_stays kind.Float t = gives_stays _
atom_after_stays kind.Text t = nothing_stays
atom_after_stays (kind.Word word.True) t = gives_stays _
atom_after_stays (kind.Word word.False) t = gives_stays _
atom_after_stays (kind.Word _) t = nothing_stays
atom_after_stays (kind.Mark mark.OpenBrace) t = then_stays _ _ members_stay (λ values. gives_stays _)
atom_after_stays (kind.Mark _) t = nothing_stays

-- no atom begins with a `;`
no_atom : (t : Token) → t.kind ≡ kind.Mark mark.Semicolon → (ts : List Token) → Fails (AtomAfter t.kind t) ts
no_atom t is ts v rest p = subst (λ k. AtomAfter k t ts v rest) is p

-- an atom
atom_stays : Stays IsAtom
atom_stays = first_stays (λ first. AtomAfter first.kind first) (λ first. atom_after_stays first.kind first) no_atom

-- an expression
pub expr_stays : Stays IsExpr
expr_stays = or_stays _ _
    (then_stays _ _ (one_stays (kind.Mark mark.OpenBracket) (λ e. cc)) (λ bracket. then_stays _ _ (list_stays IsAtom mark.CloseBracket (λ e. cc) atom_stays) (λ atoms. gives_stays _)))
    (then_stays _ _ atom_stays (λ one. gives_stays _))

-- what follows a number's first token
number_after_stays : (k : TokenKind) → Stays (NumberAfter k)
number_after_stays (kind.Whole z) = gives_stays tt
number_after_stays kind.Float = gives_stays tt
number_after_stays kind.Name = nothing_stays
number_after_stays kind.Text = nothing_stays
number_after_stays (kind.Word w) = nothing_stays
number_after_stays (kind.Mark m) = nothing_stays

-- no number begins with a `;`
no_number : (t : Token) → t.kind ≡ kind.Mark mark.Semicolon → (ts : List Token) → Fails (NumberAfter t.kind) ts
no_number t is ts v rest p = subst (λ k. NumberAfter k ts v rest) is p

-- a number
number_stays : Stays IsNumber
number_stays = first_stays (λ first. NumberAfter first.kind) (λ first. number_after_stays first.kind) no_number

-- parentheses after a name
parentheses_stay : (R : Production (Unit {0})) → Stays R → Stays (Arguments R)
parentheses_stay R stays = or_stays _ _
    (then_stays _ (λ _. IsAnyList R mark.CloseParen) (one_stays (kind.Mark mark.OpenParen) (λ e. cc)) (λ _. any_list_stays R mark.CloseParen (λ e. cc) stays))
    (not_next_stays mark.OpenParen)

-- what follows an annotation expression's first token
inner_after_stays : (R : Production (Unit {0})) → Stays R → (k : TokenKind) → Stays (InnerAfter R k)
inner_after_stays R stays kind.Name = parentheses_stay R stays
inner_after_stays R stays (kind.Word word.True) = gives_stays tt
inner_after_stays R stays (kind.Word word.False) = gives_stays tt
inner_after_stays R stays (kind.Word _) = nothing_stays
inner_after_stays R stays (kind.Whole z) = or_stays _ _ (then_stays _ _ (one_stays (kind.Mark mark.DotDot) (λ e. cc)) (λ _. then_stays _ _ integer_stays (λ _. gives_stays tt))) (not_next_stays mark.DotDot)
inner_after_stays R stays kind.Float = or_stays _ _ (then_stays _ _ (one_stays (kind.Mark mark.DotDot) (λ e. cc)) (λ _. then_stays _ _ (one_stays kind.Float (λ e. cc)) (λ _. gives_stays tt))) (not_next_stays mark.DotDot)
inner_after_stays R stays kind.Text = gives_stays tt
inner_after_stays R stays (kind.Mark mark.OpenBrace) = any_list_stays IsNumber mark.CloseBrace (λ e. cc) number_stays
inner_after_stays R stays (kind.Mark mark.OpenBracket) = any_list_stays R mark.CloseBracket (λ e. cc) stays
inner_after_stays R stays (kind.Mark _) = nothing_stays

-- no annotation expression begins with a `;`
no_inner : (R : Production (Unit {0})) (t : Token) → t.kind ≡ kind.Mark mark.Semicolon → (ts : List Token) → Fails (InnerAfter R t.kind) ts
no_inner R t is ts v rest p = subst (λ k. InnerAfter R k ts v rest) is p

-- an annotation expression
inner_stays : (d : ℕ) → Stays (IsInner d)
unfolding IsInner
inner_stays zero = nothing_stays
inner_stays (suc d) = first_stays (λ first. InnerAfter (IsInner d) first.kind) (λ first. inner_after_stays (IsInner d) (inner_stays d) first.kind) (no_inner (IsInner d))

-- a range
pub range_stays : Stays IsRange
range_stays = then_stays _ _ integer_stays (λ low. then_stays _ _ (one_stays (kind.Mark mark.DotDot) (λ e. cc)) (λ _. then_stays _ _ integer_stays (λ high. gives_stays _)))

-- ranges in parentheses
range_argument_stays : Stays IsRangeArgument
range_argument_stays = then_stays _ _ (one_stays (kind.Mark mark.OpenParen) (λ e. cc)) (λ _. then_stays _ _ (one_stays (kind.Mark mark.OpenBracket) (λ e. cc)) (λ _.
    then_stays _ _ (list_stays IsRange mark.CloseBracket (λ e. cc) range_stays) (λ ranges. then_stays _ _ (one_stays (kind.Mark mark.CloseParen) (λ e. cc)) (λ _. gives_stays ranges))))

-- what follows an annotation's name
inside_stays : Stays (Arguments (IsInner 199))
inside_stays = parentheses_stay (IsInner 199) (inner_stays 199)

-- the other way about
abbrev pub turned : Behind → Behind
turned None = None
turned (Some pair) = Some (pair.1, pair.0)

pub alike_turned : (ts us : List Token) (e : Behind) → Alike ts us e → Alike us ts (turned e)
alike_turned [] [] e alike = ap turned alike
alike_turned [] (u ∷ us) e alike = alike
alike_turned (t ∷ ts) [] e alike = alike
alike_turned (t ∷ ts) (u ∷ us) e alike = (
  sym alike.0,
  elim alike.1 [
    | inl here ↦ inl (ap (λ x. x.kind) (sym alike.0) ∙ here.0, ap turned here.1)
    | inr past ↦ inr ((λ is. past.0 (ap (λ x. x.kind) alike.0 ∙ is)), alike_turned ts us e past.1)
  ],
)

-- another argument
other_argument_stays : Stays IsOtherArgument
other_argument_stays ts us e v rest alike p =
    let f = inside_stays ts us e v rest alike p.1 in
    (f.0, ((λ ranges end q. let g = range_argument_stays us ts (turned e) ranges end (alike_turned ts us e alike) q in p.0 ranges g.0 g.1), f.1), f.2)

-- what follows an annotation's name, with its mark
marked_end_stays : (c : Called) → Stays (MarkedEnd c)
marked_end_stays name.OutputVar = or_stays _ _
    (then_stays _ _ (one_stays (kind.Mark mark.OpenParen) (λ e. cc)) (λ _. then_stays _ _ (any_list_stays (IsInner 199) mark.CloseParen (λ e. cc) (inner_stays 199)) (λ _. gives_stays marked.Nothing)))
    (then_stays _ _ (not_next_stays mark.OpenParen) (λ _. gives_stays marked.Variable))
marked_end_stays name.OutputArray = or_stays _ _
    (then_stays _ _ range_argument_stays (λ ranges. gives_stays (marked.Ranges ranges)))
    (then_stays _ _ other_argument_stays (λ _. gives_stays marked.Wrong))
marked_end_stays name.Other = then_stays _ _ inside_stays (λ _. gives_stays marked.Nothing)

-- an annotation
pub annotation_stays : (text : List ℕ) → Stays (IsMarkedAnnotation text)
annotation_stays text = then_stays _ _ (one_stays kind.Name (λ e. cc)) (λ called_by. marked_end_stays (called text called_by))

-- annotations
pub annotations_stay : (text : List ℕ) → Stays (AreAnnotations text)
annotations_stay text ts us e v rest alike (none a p) = let f = not_next_stays mark.ColonColon ts us e tt rest alike p in (f.0, none a f.1, f.2)
annotations_stay text ts us e v rest alike (one_more t middle next m n a b c d) =
    let f = one_stays (kind.Mark mark.ColonColon) (λ e. cc) ts us e t middle alike b in
    let g = annotation_stays text middle f.0 e m next f.2 c in
    let h = annotations_stay text next g.0 e n rest g.2 d in
    (h.0, one_more {rest = h.0} t f.0 g.0 m n a f.1 g.1 h.1, h.2)

-- what follows the first token behind `set of`
set_after_stays : (k : TokenKind) → Stays (SetAfter k)
set_after_stays kind.Name = nothing_stays
set_after_stays (kind.Word word.Int) = gives_stays _
set_after_stays (kind.Word _) = nothing_stays
set_after_stays (kind.Whole z) = then_stays _ _ (one_stays (kind.Mark mark.DotDot) (λ e. cc)) (λ _. then_stays _ _ integer_stays (λ _. gives_stays _))
set_after_stays kind.Float = nothing_stays
set_after_stays kind.Text = nothing_stays
set_after_stays (kind.Mark mark.OpenBrace) = then_stays _ _ members_stay (λ _. gives_stays _)
set_after_stays (kind.Mark _) = nothing_stays

-- nothing begins with a `;` behind `set of`
no_set : (t : Token) → t.kind ≡ kind.Mark mark.Semicolon → (ts : List Token) → Fails (SetAfter t.kind) ts
no_set t is ts v rest p = subst (λ k. SetAfter k ts v rest) is p

-- what follows a base's first token
base_after_stays : (k : TokenKind) → Stays (BaseAfter k)
base_after_stays kind.Name = nothing_stays
base_after_stays (kind.Word word.Bool) = gives_stays _
base_after_stays (kind.Word word.Int) = gives_stays _
base_after_stays (kind.Word word.Float) = gives_stays _
base_after_stays (kind.Word word.Set) = then_stays _ (λ _. IsSetElement) (one_stays (kind.Word word.Of) (λ e. cc)) (λ _. first_stays (λ first. SetAfter first.kind) (λ first. set_after_stays first.kind) no_set)
base_after_stays (kind.Word _) = nothing_stays
base_after_stays (kind.Whole low) = then_stays _ _ (one_stays (kind.Mark mark.DotDot) (λ e. cc)) (λ _. then_stays _ _ integer_stays (λ high. gives_stays _))
base_after_stays kind.Float = then_stays _ _ (one_stays (kind.Mark mark.DotDot) (λ e. cc)) (λ _. then_stays _ _ (one_stays kind.Float (λ e. cc)) (λ _. gives_stays _))
base_after_stays kind.Text = nothing_stays
base_after_stays (kind.Mark mark.OpenBrace) = then_stays _ _ members_stay (λ values. gives_stays _)
base_after_stays (kind.Mark _) = nothing_stays

-- no base begins with a `;`
no_base : (t : Token) → t.kind ≡ kind.Mark mark.Semicolon → (ts : List Token) → Fails (BaseAfter t.kind) ts
no_base t is ts v rest p = subst (λ k. BaseAfter k ts v rest) is p

-- what follows an element's first token
pub element_after_stays : (k : TokenKind) → Stays (ElementAfter k)
element_after_stays kind.Name = nothing_stays
element_after_stays (kind.Word word.Var) = then_stays IsBase _ (first_stays (λ first. BaseAfter first.kind) (λ first. base_after_stays first.kind) no_base) (λ b. gives_stays _)
element_after_stays (kind.Word word.Bool) = gives_stays _
element_after_stays (kind.Word word.Int) = gives_stays _
element_after_stays (kind.Word word.Float) = gives_stays _
element_after_stays (kind.Word word.Set) = then_stays _ _ (one_stays (kind.Word word.Of) (λ e. cc)) (λ _. then_stays _ _ (one_stays (kind.Word word.Int) (λ e. cc)) (λ _. gives_stays _))
element_after_stays (kind.Word _) = nothing_stays
element_after_stays (kind.Whole z) = nothing_stays
element_after_stays kind.Float = nothing_stays
element_after_stays kind.Text = nothing_stays
element_after_stays (kind.Mark m) = nothing_stays

-- no element begins with a `;`
no_element : (t : Token) → t.kind ≡ kind.Mark mark.Semicolon → (ts : List Token) → Fails (ElementAfter t.kind) ts
no_element t is ts v rest p = subst (λ k. ElementAfter k ts v rest) is p

-- an element
pub element_stays : Stays IsElement
element_stays = first_stays (λ first. ElementAfter first.kind) (λ first. element_after_stays first.kind) no_element
