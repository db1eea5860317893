-- Each item ends at its first `;`, and is the same whatever stands behind it.
use Rattle.std.proofs.Common.{◌≡◌, ℕ, ℤ, ◌⊎◌, Bool, true, false, List, [], ◌∷◌, ◌++◌, refl, sym, ◌∙◌, ap, subst, inl, inr, Option, Some, None}
use Rattle.std.specs.Prelude.{◌&&◌, is_none}
use Rattle.fzn_token.specs.declared.token.Token.{Token}
use Rattle.fzn_token.specs.declared.token.Mark.TheVariants as mark
use Rattle.fzn_token.specs.declared.token.Word.TheVariants as word
use Rattle.fzn_token.specs.declared.token.TokenKind.{TokenKind}
use Rattle.fzn_token.specs.declared.token.TokenKind.TheVariants as kind
use Rattle.fzn_item.specs.declared.element.Element.{Element}
use Rattle.fzn_item.specs.Productions.{Production, Gives, Nothing, ◌>>=◌, Or, IsAny, IsMark}
use Rattle.fzn_item.specs.Exprs.{IsExpr, IsLastExpr}
use Rattle.fzn_item.specs.Elements.{IsElement}
use Rattle.fzn_item.specs.Declarations.{IsRight, NoRight, RightSide, IsNamed, IsDeclaration, IsArray}
use Rattle.fzn_item.specs.Items.{ToSemicolon, IsConstraint, GoalAfter, IsGoal, IsSolve, ItemAfter, IsItem, ItemsEndAtSemicolons, ItemsStayRead, RefusalsStay}
use Rattle.fzn_item.proofs.Semicolons.{Behind, Alike, alike_turned, Stays, one_stays, list_stays, expr_stays, annotations_stay, range_stays, element_after_stays, element_stays}

-- a form of R ends with the first `;`, whatever stands behind it
abbrev Ends : {V : Type 0} → Production V → Type 0
Ends R = (ts us : List Token) (e : Behind) (v : _) (rest : List Token) → Alike ts us e → R ts v rest → (next : List Token) × (e ≡ Some (rest, next)) × R us v next

-- no form
nothing_ends : {V : Type 0} → Ends {V = V} Nothing
nothing_ends ts us e v rest alike p = absurd p

-- a `;`
semicolon_ends : {V : Type 0} (x : V) → Ends (IsMark mark.Semicolon >>= (λ _. Gives x))
semicolon_ends x [] us e v rest alike p = absurd p.2
semicolon_ends x (t ∷ ts) [] e v rest alike p = absurd alike
semicolon_ends x (t ∷ ts) (u ∷ us) e v rest alike p = elim alike.1 [
  | inl here ↦ (us, here.1 ∙ ap (λ y. Some (y, us)) (sym (p.3.1 ∙ p.2.2)), (u, us, (ap (λ y. y.kind) (sym alike.0) ∙ p.2.0, refl, refl), (p.3.0, refl)))
  | inr past ↦ absurd (past.0 p.2.0)
]

-- a form without a `;`, and then one that ends with it
then_ends : {A B : Type 0} (R : Production A) (S : A → Production B) → Stays R → ((a : A) → Ends (S a)) → Ends (R >>= S)
then_ends R S first second ts us e v rest alike p =
    let f = first ts us e p.0 p.1 alike p.2 in
    let g = second p.0 p.1 f.0 e v rest f.2 p.3 in
    (g.0, g.1, (p.0, f.0, f.1, g.2))

-- a form that ends with a `;`, and its value
value_ends : {A B : Type 0} (R : Production A) (f : A → B) → Ends R → Ends (R >>= (λ a. Gives (f a)))
value_ends R f ends ts us e v rest alike p =
    let g = ends ts us e p.0 p.1 alike p.2 in
    (g.0, g.1 ∙ ap (λ y. Some (y, g.0)) (sym p.3.1), (p.0, g.0, g.2, (p.3.0, refl)))

-- one of two productions
or_ends : {V : Type 0} (R S : Production V) → Ends R → Ends S → Ends (Or R S)
or_ends R S first second ts us e v rest alike p = elim p [
  | inl r ↦ let f = first ts us e v rest alike r in (f.0, f.1, inl f.2)
  | inr s ↦ let f = second ts us e v rest alike s in (f.0, f.1, inr f.2)
]

-- a first token, and what follows it by its kind
first_ends : {V : Type 0} (After : Token → Production V) → ((t : Token) → (t.kind ≡ kind.Mark mark.Semicolon → ⊥) ⊎ ((ts : List Token) (v : V) (rest : List Token) → After t ts v rest → ⊥)) → ((t : Token) → Ends (After t)) → Ends (IsAny >>= After)
first_ends After other ends [] us e v rest alike p = absurd p.2
first_ends After other ends (t ∷ ts) [] e v rest alike p = absurd alike
first_ends After other ends (t ∷ ts) (u ∷ us) e v rest alike p = elim (other p.0) [
  | inr fails ↦ absurd (fails p.1 v rest p.3)
  | inl differs ↦ elim alike.1 [
    | inl here ↦ absurd (differs (ap (λ x. x.kind) p.2.0 ∙ here.0))
    | inr past ↦
        let g = ends p.0 p.1 us e v rest (subst (λ x. Alike x us e) (sym p.2.1) past.1) p.3 in
        (g.0, g.1, (p.0, us, (p.2.0 ∙ alike.0, refl), g.2))
  ]
]

-- the last expression of an item
last_ends : Ends IsLastExpr
last_ends = then_ends _ _ expr_stays (λ what. semicolon_ends what)

-- a right side
right_ends : (optional : Bool) → Ends (RightSide optional)
right_ends optional = or_ends IsRight (NoRight optional)
    (then_ends _ _ (one_stays (kind.Mark mark.Equals) (λ e. cc)) (λ _. value_ends IsLastExpr Some last_ends))
    (missing_ends optional) where
      -- a missing right side
      missing_ends : (optional : Bool) → Ends (NoRight optional)
      missing_ends true = semicolon_ends None
      missing_ends false = nothing_ends

-- what follows an element
named_ends : (text : List ℕ) (at : ℕ) (index : Option (ℤ × ℤ)) (element : Element) → Ends (IsNamed text at index element)
named_ends text at index element = then_ends _ _ (one_stays (kind.Mark mark.Colon) (λ e. cc)) (λ _. then_ends _ _ (one_stays kind.Name (λ e. cc)) (λ name.
    then_ends _ _ (annotations_stay text) (λ says. value_ends (RightSide (element.variable && is_none index)) _ (right_ends (element.variable && is_none index)))))

-- a declaration of no array
declaration_ends : (text : List ℕ) (first : Token) → Ends (IsDeclaration text first)
declaration_ends text first = then_ends _ _ (element_after_stays first.kind) (λ element. named_ends text first.from None element)

-- an array
array_ends : (text : List ℕ) (first : Token) → Ends (IsArray text first)
array_ends text first = then_ends _ _ (one_stays (kind.Mark mark.OpenBracket) (λ e. cc)) (λ _. then_ends _ _ range_stays (λ index.
    then_ends _ _ (one_stays (kind.Mark mark.CloseBracket) (λ e. cc)) (λ _. then_ends _ _ (one_stays (kind.Word word.Of) (λ e. cc)) (λ _.
    then_ends IsElement _ element_stays (λ element. named_ends text first.from (Some index) element)))))

-- a constraint
constraint_ends : (text : List ℕ) (first : Token) → Ends (IsConstraint text first)
constraint_ends text first = then_ends _ _ (one_stays kind.Name (λ e. cc)) (λ name. then_ends _ _ (one_stays (kind.Mark mark.OpenParen) (λ e. cc)) (λ _.
    then_ends _ _ (list_stays IsExpr mark.CloseParen (λ e. cc) expr_stays) (λ arguments. then_ends _ _ (annotations_stay text) (λ _. semicolon_ends _))))

-- what follows a goal's word
goal_after_ends : (k : TokenKind) (t : Token) → Ends (GoalAfter k t)
goal_after_ends (kind.Word word.Satisfy) t = semicolon_ends _
goal_after_ends (kind.Word word.Minimize) t = value_ends IsLastExpr _ last_ends
goal_after_ends (kind.Word word.Maximize) t = value_ends IsLastExpr _ last_ends
goal_after_ends _ t = nothing_ends

-- no goal begins with a `;`
goal_other : (t : Token) → (t.kind ≡ kind.Mark mark.Semicolon → ⊥) ⊎ ((ts : List Token) (v : _) (rest : List Token) → GoalAfter t.kind t ts v rest → ⊥)
goal_other t = by_kind t.kind where
  -- the same by the kind
  by_kind : (k : TokenKind) → (k ≡ kind.Mark mark.Semicolon → ⊥) ⊎ ((ts : List Token) (v : _) (rest : List Token) → GoalAfter k t ts v rest → ⊥)
  by_kind (kind.Mark m) = inr (λ ts v rest p. p)
  by_kind kind.Name = inl (λ e. cc)
  by_kind (kind.Word w) = inl (λ e. cc)
  by_kind (kind.Whole z) = inl (λ e. cc)
  by_kind kind.Float = inl (λ e. cc)
  by_kind kind.Text = inl (λ e. cc)

-- a goal
goal_ends : Ends IsGoal
goal_ends = first_ends (λ first. GoalAfter first.kind first) goal_other (λ first. goal_after_ends first.kind first)

-- a solve item
solve_ends : (text : List ℕ) (first : Token) → Ends (IsSolve text first)
solve_ends text first = then_ends _ _ (annotations_stay text) (λ _. value_ends IsGoal _ goal_ends)

-- the first `;` is itself
to_semicolon_ends : Ends ToSemicolon
to_semicolon_ends [] us e v rest alike p = absurd p
to_semicolon_ends (t ∷ ts) [] e v rest alike p = absurd alike
to_semicolon_ends (t ∷ ts) (u ∷ us) e v rest alike p = elim p [
  | inl now ↦ elim alike.1 [
    | inl here ↦ (us, here.1 ∙ ap (λ y. Some (y, us)) (sym now.1), inl (ap (λ x. x.kind) (sym alike.0) ∙ now.0, refl))
    | inr past ↦ absurd (past.0 now.0)
  ]
  | inr later ↦ elim alike.1 [
    | inl here ↦ absurd (later.0 here.0)
    | inr past ↦
        let g = to_semicolon_ends ts us e v rest past.1 later.1 in
        (g.0, g.1, inr ((λ is. past.0 (ap (λ x. x.kind) alike.0 ∙ is)), g.2))
  ]
]

-- what follows an item's first word
item_after_ends : (text : List ℕ) (k : TokenKind) (t : Token) → Ends (ItemAfter text k t)
item_after_ends text (kind.Word word.Predicate) t = value_ends ToSemicolon _ to_semicolon_ends
item_after_ends text (kind.Word word.Var) t = declaration_ends text t
item_after_ends text (kind.Word word.Bool) t = declaration_ends text t
item_after_ends text (kind.Word word.Int) t = declaration_ends text t
item_after_ends text (kind.Word word.Float) t = declaration_ends text t
item_after_ends text (kind.Word word.Set) t = declaration_ends text t
item_after_ends text (kind.Word word.Array) t = array_ends text t
item_after_ends text (kind.Word word.Constraint) t = constraint_ends text t
item_after_ends text (kind.Word word.Solve) t = solve_ends text t
item_after_ends text _ t = nothing_ends

-- no item begins with a `;`
item_other : (text : List ℕ) (t : Token) → (t.kind ≡ kind.Mark mark.Semicolon → ⊥) ⊎ ((ts : List Token) (v : _) (rest : List Token) → ItemAfter text t.kind t ts v rest → ⊥)
item_other text t = by_kind t.kind where
  -- the same by the kind
  by_kind : (k : TokenKind) → (k ≡ kind.Mark mark.Semicolon → ⊥) ⊎ ((ts : List Token) (v : _) (rest : List Token) → ItemAfter text k t ts v rest → ⊥)
  by_kind (kind.Mark m) = inr (λ ts v rest p. p)
  by_kind kind.Name = inl (λ e. cc)
  by_kind (kind.Word w) = inl (λ e. cc)
  by_kind (kind.Whole z) = inl (λ e. cc)
  by_kind kind.Float = inl (λ e. cc)
  by_kind kind.Text = inl (λ e. cc)

-- an item ends with the first `;`
item_ends : (text : List ℕ) → Ends (IsItem text)
item_ends text = first_ends (λ first. ItemAfter text first.kind first) (item_other text) (λ first. item_after_ends text first.kind first)

-- a kind is that of `;` or not
semicolon_or_not : (k : TokenKind) → (k ≡ kind.Mark mark.Semicolon) ⊎ (k ≡ kind.Mark mark.Semicolon → ⊥)
semicolon_or_not (kind.Mark mark.Semicolon) = inl refl
semicolon_or_not (kind.Mark _) = inr (λ e. cc)
semicolon_or_not kind.Name = inr (λ e. cc)
semicolon_or_not (kind.Word w) = inr (λ e. cc)
semicolon_or_not (kind.Whole z) = inr (λ e. cc)
semicolon_or_not kind.Float = inr (λ e. cc)
semicolon_or_not kind.Text = inr (λ e. cc)

-- a list is like itself
alike_itself : (ts : List Token) → (e : Behind) × Alike ts ts e
alike_itself [] = (None, refl)
alike_itself (t ∷ ts) = elim (semicolon_or_not t.kind) [
  | inl is ↦ (Some (ts, ts), (refl, inl (is, refl)))
  | inr other ↦ let more = alike_itself ts in (more.0, (refl, inr (other, more.1)))
]

-- what stands behind the first `;`
pub behind_first : (ts us rest next : List Token) → Alike ts us (Some (rest, next)) → ToSemicolon ts tt rest
behind_first [] [] rest next alike = absurd cc
behind_first [] (u ∷ us) rest next alike = absurd alike
behind_first (t ∷ ts) [] rest next alike = absurd alike
behind_first (t ∷ ts) (u ∷ us) rest next alike = elim alike.1 [
  | inl here ↦ inl (here.0, (let both = here.1 in let same : ◌≡◌ {A = List Token × List Token} (rest, next) (ts, us) = cc in ap (λ x. x.0) same))
  | inr past ↦ inr (past.0, behind_first ts us rest next past.1)
]

-- an item is the tokens up to the first `;` and with it
pub items_end_law : ItemsEndAtSemicolons
items_end_law text ts i rest p =
    let itself = alike_itself ts in
    let g = item_ends text ts ts itself.0 i rest itself.1 p in
    behind_first ts ts rest g.0 (subst (Alike ts ts) g.1 itself.1)

-- tokens with a `;`, and the same with more behind them
alike_more : (ts end more : List Token) → ToSemicolon ts tt end → Alike ts (ts ++ more) (Some (end, end ++ more))
alike_more [] end more p = absurd p
alike_more (t ∷ ts) end more p = elim p [
  | inl here ↦ (refl, inl (here.0, ap (λ x. Some (x, x ++ more)) here.1))
  | inr past ↦ (refl, inr (past.0, alike_more ts end more past.1))
]

-- what is read as an item is, whatever follows
pub items_stay_law : ItemsStayRead
items_stay_law text ts i rest more p =
    let g = item_ends text ts (ts ++ more) (Some (rest, rest ++ more)) i rest (alike_more ts rest more (items_end_law text ts i rest p)) p in
    let both = g.1 in
    let same : ◌≡◌ {A = List Token × List Token} (rest, rest ++ more) (rest, g.0) = cc in
    subst (IsItem text (ts ++ more) i) (ap (λ x. x.1) (sym same)) g.2

-- what is read as no item up to a `;` is none, whatever follows
pub refusals_stay_law : RefusalsStay
refusals_stay_law text ts end more p fails i rest q =
    let turned_over = alike_turned ts (ts ++ more) (Some (end, end ++ more)) (alike_more ts end more p) in
    let g = item_ends text (ts ++ more) ts (Some (end ++ more, end)) i rest turned_over q in
    fails i g.0 g.2
