-- Tokens that are alike read as items that are alike, also where annotations that are no marks are left out.
use Rattle.std.proofs.Common.{◌≡◌, ℕ, ◌&&◌, inl, inr, Bool, true, false, List, ◌∷◌, Option, Some, None, refl, sym, ap, ◌∙◌, subst}
use Rattle.std.specs.Prelude.{ℤ, is_none}
use Rattle.fzn_token.specs.declared.token.Token.{Token}
use Rattle.fzn_token.specs.declared.token.TokenKind.{TokenKind}
use Rattle.fzn_token.specs.declared.token.TokenKind.TheVariants as kind
use Rattle.fzn_token.specs.declared.token.Mark.TheVariants as mark
use Rattle.fzn_token.specs.declared.token.Word.TheVariants as word
use Rattle.fzn_item.specs.declared.item.Atom.{Atom}
use Rattle.fzn_item.specs.declared.item.Atom.TheVariants as atom
use Rattle.fzn_item.specs.declared.item.Expr.{Expr}
use Rattle.fzn_item.specs.declared.item.Expr.TheVariants as expr
use Rattle.fzn_item.specs.declared.item.Base.{Base}
use Rattle.fzn_item.specs.declared.item.Base.TheVariants as base
use Rattle.fzn_item.specs.declared.item.Marked.{Marked}
use Rattle.fzn_item.specs.declared.item.Goal.{Goal}
use Rattle.fzn_item.specs.declared.item.Goal.TheVariants as goals
use Rattle.fzn_item.specs.declared.item.Item.{Item}
use Rattle.fzn_item.specs.declared.item.Item.TheVariants as item
use Rattle.fzn_item.specs.Productions.{IsInteger}
use Rattle.fzn_item.specs.Exprs.{AtomFrom, AtomAfter, IsAtom, IsExpr, IsLastExpr}
use Rattle.fzn_item.specs.Elements.{SetAfter, IsSetElement, BaseAfter, IsBase, variable, parameter, ElementAfter, IsElement}
use Rattle.fzn_item.specs.Declarations.{NoRight, RightSide, IsNamed, IsDeclaration, IsArray}
use Rattle.fzn_item.specs.Items.{ToSemicolon, IsConstraint, GoalAfter, IsGoal, IsSolve, ItemAfter, IsItem}
use Rattle.fzn_scope.specs.Names.{bytes_at}
use Rattle.law_inputs.specs.Gapped.{AreAlike}
use Rattle.law_inputs.specs.Ignored.{can_mark, NotesLeftOut, none as nothing, kept, left_out}
use Rattle.law_inputs.proofs.Carrying.{Pairwise, Carried, gives_carried, nothing_carried, then_carried, map_carried, or_carried, one_carried, integer_carried, after_first, by_kind, list_carried, values_carried, no_dots_carried}
use Rattle.law_inputs.proofs.AlikeNotes.{range_carried, annotations_carried, behind_note}

-- the same but for their places, and but for where the bytes of names stand
pub data AtomsAlike (text other : List ℕ) : Atom → Atom → Type 0 where
  both_truth : {at to : ℕ} {value : Bool} → AtomsAlike text other (atom.Truth at value) (atom.Truth to value)
  both_whole : {at to : ℕ} {value : ℤ} → AtomsAlike text other (atom.Whole at value) (atom.Whole to value)
  both_float : {at to : ℕ} → AtomsAlike text other (atom.Float at) (atom.Float to)
  both_name : {at end to last : ℕ} → bytes_at text at end ≡ bytes_at other to last → AtomsAlike text other (atom.Name at end) (atom.Name to last)
  both_range : {at to : ℕ} {low high : ℤ} → AtomsAlike text other (atom.Range at low high) (atom.Range to low high)
  both_listed : {at to : ℕ} {values : List ℤ} → AtomsAlike text other (atom.Listed at values) (atom.Listed to values)

pub data ExprsAlike (text other : List ℕ) : Expr → Expr → Type 0 where
  both_one : {a b : Atom} → AtomsAlike text other a b → ExprsAlike text other (expr.One a) (expr.One b)
  both_list : {at to : ℕ} {as_list bs : List Atom} → Pairwise (AtomsAlike text other) as_list bs → ExprsAlike text other (expr.List at as_list) (expr.List to bs)

pub data RightsAlike (text other : List ℕ) : Option Expr → Option Expr → Type 0 where
  both_none : RightsAlike text other None None
  both_some : {a b : Expr} → ExprsAlike text other a b → RightsAlike text other (Some a) (Some b)

pub data GoalsAlike (text other : List ℕ) : Goal → Goal → Type 0 where
  both_satisfy : GoalsAlike text other goals.Satisfy goals.Satisfy
  both_least : {at to : ℕ} {a b : Expr} → ExprsAlike text other a b → GoalsAlike text other (goals.Minimize at a) (goals.Minimize to b)
  both_greatest : {at to : ℕ} {a b : Expr} → ExprsAlike text other a b → GoalsAlike text other (goals.Maximize at a) (goals.Maximize to b)

pub data ItemsAlike (text other : List ℕ) : Item → Item → Type 0 where
  both_predicate : {at to : ℕ} → ItemsAlike text other (item.Predicate at) (item.Predicate to)
  both_declare : {at name_at name_to at2 name_at2 name_to2 : ℕ} {isvar : Bool} {index : Option (ℤ × ℤ)} {type : Base} {says : Marked} {a b : Option Expr}
      → bytes_at text name_at name_to ≡ bytes_at other name_at2 name_to2 → RightsAlike text other a b
      → ItemsAlike text other (item.Declare at isvar index type name_at name_to says a) (item.Declare at2 isvar index type name_at2 name_to2 says b)
  both_constraint : {at name_at name_to at2 name_at2 name_to2 : ℕ} {a b : List Expr} → bytes_at text name_at name_to ≡ bytes_at other name_at2 name_to2 → Pairwise (ExprsAlike text other) a b
      → ItemsAlike text other (item.Constraint at name_at name_to a) (item.Constraint at2 name_at2 name_to2 b)
  both_solve : {at to : ℕ} {a b : Goal} → GoalsAlike text other a b → ItemsAlike text other (item.Solve at a) (item.Solve to b)

module _ (text other : List ℕ) (marks : Bool) where
  -- ---- expressions

  atom_from_carried : (t u : Token) (low : ℤ) → Carried text other marks (AtomFrom t low) (AtomFrom u low) (AtomsAlike text other)
  atom_from_carried t u low = or_carried text other marks _ _ _ _ (AtomsAlike text other)
      (then_carried text other marks _ _ _ _ _ (AtomsAlike text other) (one_carried text other marks (kind.Mark mark.DotDot) (λ e. cc)) (λ _ _ _.
      map_carried text other marks _ (λ high. atom.Range t.from low high) _ (λ high. atom.Range u.from low high) _ (AtomsAlike text other) (integer_carried text other marks) (λ a b e. subst (λ x. AtomsAlike text other (atom.Range t.from low a) (atom.Range u.from low x)) e both_range)))
      (map_carried text other marks _ (λ _. atom.Whole t.from low) _ (λ _. atom.Whole u.from low) _ (AtomsAlike text other) (no_dots_carried text other marks) (λ _ _ _. both_whole))

  atom_after_carried : (k : TokenKind) (t u : Token) → AreAlike text other t u → Carried text other marks (AtomAfter k t) (AtomAfter k u) (AtomsAlike text other)
  atom_after_carried (kind.Word word.True) t u h = gives_carried text other marks _ _ (AtomsAlike text other) both_truth
  atom_after_carried (kind.Word word.False) t u h = gives_carried text other marks _ _ (AtomsAlike text other) both_truth
  atom_after_carried (kind.Whole value) t u h = atom_from_carried t u value
  atom_after_carried kind.Float t u h = gives_carried text other marks _ _ (AtomsAlike text other) both_float
  atom_after_carried kind.Name t u h = gives_carried text other marks _ _ (AtomsAlike text other) (both_name h.bytes)
  atom_after_carried (kind.Mark mark.OpenBrace) t u h =
      map_carried text other marks _ (λ values. atom.Listed t.from values) _ (λ values. atom.Listed u.from values) _ (AtomsAlike text other) (values_carried text other marks IsInteger mark.CloseBrace (λ e. cc) (integer_carried text other marks)) (λ a b e. subst (λ x. AtomsAlike text other (atom.Listed t.from a) (atom.Listed u.from x)) e both_listed)
  atom_after_carried _ t u h = nothing_carried text other marks (AtomsAlike text other)

  atom_carried : Carried text other marks IsAtom IsAtom (AtomsAlike text other)
  atom_carried = by_kind text other marks AtomAfter AtomAfter (AtomsAlike text other) atom_after_carried (λ t ts v rest p. p)

  expr_carried : Carried text other marks IsExpr IsExpr (ExprsAlike text other)
  expr_carried = or_carried text other marks _ _ _ _ (ExprsAlike text other)
      (then_carried text other marks _ _ _ _ _ (ExprsAlike text other) (one_carried text other marks (kind.Mark mark.OpenBracket) (λ e. cc)) (λ t u _.
      map_carried text other marks _ (λ atoms. expr.List t.from atoms) _ (λ atoms. expr.List u.from atoms) _ (ExprsAlike text other) (list_carried text other marks IsAtom IsAtom mark.CloseBracket (λ e. cc) (AtomsAlike text other) atom_carried) (λ _ _ h. both_list h)))
      (map_carried text other marks _ expr.One _ expr.One _ (ExprsAlike text other) atom_carried (λ _ _ h. both_one h))

  last_carried : Carried text other marks IsLastExpr IsLastExpr (ExprsAlike text other)
  last_carried = then_carried text other marks _ _ _ _ _ (ExprsAlike text other) expr_carried (λ a b h. map_carried text other marks _ (λ _. a) _ (λ _. b) _ (ExprsAlike text other) (one_carried text other marks (kind.Mark mark.Semicolon) (λ e. cc)) (λ _ _ _. h))

  -- ---- types

  set_after_carried : (k : TokenKind) → Carried text other marks (SetAfter k) (SetAfter k) (λ a b. a ≡ b)
  set_after_carried (kind.Word word.Int) = gives_carried text other marks _ _ _ refl
  set_after_carried (kind.Whole low) = then_carried text other marks _ _ _ _ _ _ (one_carried text other marks (kind.Mark mark.DotDot) (λ e. cc)) (λ _ _ _. map_carried text other marks _ (λ _. base.Set) _ (λ _. base.Set) _ _ (integer_carried text other marks) (λ _ _ _. refl))
  set_after_carried (kind.Mark mark.OpenBrace) = map_carried text other marks _ (λ _. base.Set) _ (λ _. base.Set) _ _ (values_carried text other marks IsInteger mark.CloseBrace (λ e. cc) (integer_carried text other marks)) (λ _ _ _. refl)
  set_after_carried _ = nothing_carried text other marks _

  set_element_carried : Carried text other marks IsSetElement IsSetElement (λ a b. a ≡ b)
  set_element_carried = by_kind text other marks (λ k _. SetAfter k) (λ k _. SetAfter k) _ (λ k _ _ _. set_after_carried k) (λ t ts v rest p. p)

  base_after_carried : (k : TokenKind) → Carried text other marks (BaseAfter k) (BaseAfter k) (λ a b. a ≡ b)
  base_after_carried (kind.Word word.Bool) = gives_carried text other marks _ _ _ refl
  base_after_carried (kind.Word word.Int) = gives_carried text other marks _ _ _ refl
  base_after_carried (kind.Word word.Float) = gives_carried text other marks _ _ _ refl
  base_after_carried (kind.Word word.Set) = then_carried text other marks _ _ _ _ _ _ (one_carried text other marks (kind.Word word.Of) (λ e. cc)) (λ _ _ _. set_element_carried)
  base_after_carried (kind.Whole low) = then_carried text other marks _ _ _ _ _ _ (one_carried text other marks (kind.Mark mark.DotDot) (λ e. cc)) (λ _ _ _. map_carried text other marks _ (λ high. base.Range low high) _ (λ high. base.Range low high) _ _ (integer_carried text other marks) (λ _ _ e. ap (λ high. base.Range low high) e))
  base_after_carried kind.Float = then_carried text other marks _ _ _ _ _ _ (one_carried text other marks (kind.Mark mark.DotDot) (λ e. cc)) (λ _ _ _. map_carried text other marks _ (λ _. base.Float) _ (λ _. base.Float) _ _ (one_carried text other marks kind.Float (λ e. cc)) (λ _ _ _. refl))
  base_after_carried (kind.Mark mark.OpenBrace) = map_carried text other marks _ base.Listed _ base.Listed _ _ (values_carried text other marks IsInteger mark.CloseBrace (λ e. cc) (integer_carried text other marks)) (λ _ _ e. ap base.Listed e)
  base_after_carried _ = nothing_carried text other marks _

  base_carried : Carried text other marks IsBase IsBase (λ a b. a ≡ b)
  base_carried = by_kind text other marks (λ k _. BaseAfter k) (λ k _. BaseAfter k) _ (λ k _ _ _. base_after_carried k) (λ t ts v rest p. p)

  element_after_carried : (k : TokenKind) → Carried text other marks (ElementAfter k) (ElementAfter k) (λ a b. a ≡ b)
  element_after_carried (kind.Word word.Var) = map_carried text other marks _ variable _ variable _ _ base_carried (λ _ _ e. ap variable e)
  element_after_carried (kind.Word word.Bool) = gives_carried text other marks _ _ _ refl
  element_after_carried (kind.Word word.Int) = gives_carried text other marks _ _ _ refl
  element_after_carried (kind.Word word.Float) = gives_carried text other marks _ _ _ refl
  element_after_carried (kind.Word word.Set) = then_carried text other marks _ _ _ _ _ _ (one_carried text other marks (kind.Word word.Of) (λ e. cc)) (λ _ _ _. map_carried text other marks _ (λ _. parameter base.Set) _ (λ _. parameter base.Set) _ _ (one_carried text other marks (kind.Word word.Int) (λ e. cc)) (λ _ _ _. refl))
  element_after_carried _ = nothing_carried text other marks _

  element_carried : Carried text other marks IsElement IsElement (λ a b. a ≡ b)
  element_carried = by_kind text other marks (λ k _. ElementAfter k) (λ k _. ElementAfter k) _ (λ k _ _ _. element_after_carried k) (λ t ts v rest p. p)

  -- ---- declarations

  no_right_carried : (optional : Bool) → Carried text other marks (NoRight optional) (NoRight optional) (RightsAlike text other)
  no_right_carried true = map_carried text other marks _ (λ _. None) _ (λ _. None) _ (RightsAlike text other) (one_carried text other marks (kind.Mark mark.Semicolon) (λ e. cc)) (λ _ _ _. both_none)
  no_right_carried false = nothing_carried text other marks (RightsAlike text other)

  right_carried : (optional : Bool) → Carried text other marks (RightSide optional) (RightSide optional) (RightsAlike text other)
  right_carried optional = or_carried text other marks _ _ _ _ (RightsAlike text other)
      (then_carried text other marks _ _ _ _ _ (RightsAlike text other) (one_carried text other marks (kind.Mark mark.Equals) (λ e. cc)) (λ _ _ _. map_carried text other marks _ Some _ Some _ (RightsAlike text other) last_carried (λ _ _ h. both_some h)))
      (no_right_carried optional)

  named_carried : marks ≡ true → (at to : ℕ) (index : Option (ℤ × ℤ)) (element : _) → Carried text other marks (IsNamed text at index element) (IsNamed other to index element) (ItemsAlike text other)
  named_carried heeded at to index element =
      then_carried text other marks _ _ _ _ _ (ItemsAlike text other) (one_carried text other marks (kind.Mark mark.Colon) (λ e. cc)) (λ _ _ _.
      then_carried text other marks _ _ _ _ _ (ItemsAlike text other) (one_carried text other marks kind.Name (λ e. cc)) (λ t u h.
      then_carried text other marks _ _ _ _ _ (ItemsAlike text other) (annotations_carried text other marks) (λ says says2 e.
      map_carried text other marks _ (λ right. item.Declare at element.variable index element.base t.from t.to says right) _ (λ right. item.Declare to element.variable index element.base u.from u.to says2 right) _ (ItemsAlike text other) (right_carried (element.variable && is_none index))
      (λ a b r. subst (λ x. ItemsAlike text other (item.Declare at element.variable index element.base t.from t.to says a) (item.Declare to element.variable index element.base u.from u.to x b)) (e heeded) (both_declare h.bytes r)))))

  declaration_carried : marks ≡ true → (t u : Token) → AreAlike text other t u → Carried text other marks (IsDeclaration text t) (IsDeclaration other u) (ItemsAlike text other)
  declaration_carried heeded t u h = then_carried text other marks _ (λ element. IsNamed text t.from None element) _ (λ element. IsNamed other u.from None element) (λ a b. a ≡ b) (ItemsAlike text other)
      (subst (λ l. Carried text other marks (ElementAfter t.kind) (ElementAfter l) (λ a b. a ≡ b)) h.kind (element_after_carried t.kind))
      (λ a b e. subst (λ x. Carried text other marks (IsNamed text t.from None a) (IsNamed other u.from None x) (ItemsAlike text other)) e (named_carried heeded t.from u.from None a))

  array_carried : marks ≡ true → (t u : Token) → Carried text other marks (IsArray text t) (IsArray other u) (ItemsAlike text other)
  array_carried heeded t u =
      then_carried text other marks _ _ _ _ _ (ItemsAlike text other) (one_carried text other marks (kind.Mark mark.OpenBracket) (λ e. cc)) (λ _ _ _.
      then_carried text other marks _ _ _ _ _ (ItemsAlike text other) (range_carried text other marks) (λ i j same.
      then_carried text other marks _ _ _ _ _ (ItemsAlike text other) (one_carried text other marks (kind.Mark mark.CloseBracket) (λ e. cc)) (λ _ _ _.
      then_carried text other marks _ _ _ _ _ (ItemsAlike text other) (one_carried text other marks (kind.Word word.Of) (λ e. cc)) (λ _ _ _.
      then_carried text other marks _ (λ element. IsNamed text t.from (Some i) element) _ (λ element. IsNamed other u.from (Some j) element) (λ a b. a ≡ b) (ItemsAlike text other) element_carried (λ a b e.
      subst (λ x. Carried text other marks (IsNamed text t.from (Some i) a) (IsNamed other u.from (Some j) x) (ItemsAlike text other)) e
      (subst (λ y. Carried text other marks (IsNamed text t.from (Some i) a) (IsNamed other u.from (Some y) a) (ItemsAlike text other)) same (named_carried heeded t.from u.from (Some i) a)))))))

  -- ---- items

  to_semicolon_carried : Carried text other marks ToSemicolon ToSemicolon (λ a b. a ≡ b)
  to_semicolon_carried _ _ nothing v rest p = absurd p
  to_semicolon_carried _ _ (kept {us = us} alike less) v rest p = elim p [
    | inl here ↦ (v, us, inl (sym alike.kind ∙ here.0, refl), refl, subst (λ r. NotesLeftOut text other marks r us) (sym here.1) less)
    | inr past ↦ let f = to_semicolon_carried _ us less v rest past.1 in (f.0, f.1, inr ((λ e. past.0 (alike.kind ∙ e)), f.2), f.3, f.4)
  ]
  to_semicolon_carried _ _ (left_out {ts = ts} {rest = behind} {us = us} {says = says} note no_mark less) v rest p = to_semicolon_carried behind us less v rest (behind_note text ts behind rest says note v p)

  constraint_carried : (t u : Token) → Carried text other marks (IsConstraint text t) (IsConstraint other u) (ItemsAlike text other)
  constraint_carried t u =
      then_carried text other marks _ _ _ _ _ (ItemsAlike text other) (one_carried text other marks kind.Name (λ e. cc)) (λ n m h.
      then_carried text other marks _ _ _ _ _ (ItemsAlike text other) (one_carried text other marks (kind.Mark mark.OpenParen) (λ e. cc)) (λ _ _ _.
      then_carried text other marks _ _ _ _ _ (ItemsAlike text other) (list_carried text other marks IsExpr IsExpr mark.CloseParen (λ e. cc) (ExprsAlike text other) expr_carried) (λ a b each.
      then_carried text other marks _ _ _ _ _ (ItemsAlike text other) (annotations_carried text other marks) (λ _ _ _.
      map_carried text other marks _ (λ _. item.Constraint t.from n.from n.to a) _ (λ _. item.Constraint u.from m.from m.to b) _ (ItemsAlike text other) (one_carried text other marks (kind.Mark mark.Semicolon) (λ e. cc)) (λ _ _ _. both_constraint h.bytes each)))))

  goal_after_carried : (k : TokenKind) (t u : Token) → AreAlike text other t u → Carried text other marks (GoalAfter k t) (GoalAfter k u) (GoalsAlike text other)
  goal_after_carried (kind.Word word.Satisfy) t u h = map_carried text other marks _ (λ _. goals.Satisfy) _ (λ _. goals.Satisfy) _ (GoalsAlike text other) (one_carried text other marks (kind.Mark mark.Semicolon) (λ e. cc)) (λ _ _ _. both_satisfy)
  goal_after_carried (kind.Word word.Minimize) t u h = map_carried text other marks _ (λ what. goals.Minimize t.from what) _ (λ what. goals.Minimize u.from what) _ (GoalsAlike text other) last_carried (λ _ _ same. both_least same)
  goal_after_carried (kind.Word word.Maximize) t u h = map_carried text other marks _ (λ what. goals.Maximize t.from what) _ (λ what. goals.Maximize u.from what) _ (GoalsAlike text other) last_carried (λ _ _ same. both_greatest same)
  goal_after_carried _ t u h = nothing_carried text other marks (GoalsAlike text other)

  solve_carried : (t u : Token) → Carried text other marks (IsSolve text t) (IsSolve other u) (ItemsAlike text other)
  solve_carried t u = then_carried text other marks _ _ _ _ _ (ItemsAlike text other) (annotations_carried text other marks) (λ _ _ _.
      map_carried text other marks IsGoal (λ goal. item.Solve t.from goal) IsGoal (λ goal. item.Solve u.from goal) (GoalsAlike text other) (ItemsAlike text other) (by_kind text other marks GoalAfter GoalAfter (GoalsAlike text other) goal_after_carried (λ t ts v rest p. p)) (λ _ _ h. both_solve h))

  item_after_carried : (k : TokenKind) (t u : Token) → AreAlike text other t u → (can_mark k ≡ true → marks ≡ true) → Carried text other marks (ItemAfter text k t) (ItemAfter other k u) (ItemsAlike text other)
  item_after_carried (kind.Word word.Predicate) t u h heeded = map_carried text other marks _ (λ _. item.Predicate t.from) _ (λ _. item.Predicate u.from) _ (ItemsAlike text other) to_semicolon_carried (λ _ _ _. both_predicate)
  item_after_carried (kind.Word word.Var) t u h heeded = declaration_carried (heeded refl) t u h
  item_after_carried (kind.Word word.Bool) t u h heeded = declaration_carried (heeded refl) t u h
  item_after_carried (kind.Word word.Int) t u h heeded = declaration_carried (heeded refl) t u h
  item_after_carried (kind.Word word.Float) t u h heeded = declaration_carried (heeded refl) t u h
  item_after_carried (kind.Word word.Set) t u h heeded = declaration_carried (heeded refl) t u h
  item_after_carried (kind.Word word.Array) t u h heeded = array_carried (heeded refl) t u
  item_after_carried (kind.Word word.Constraint) t u h heeded = constraint_carried t u
  item_after_carried (kind.Word word.Solve) t u h heeded = solve_carried t u
  item_after_carried _ t u h heeded = nothing_carried text other marks (ItemsAlike text other)

  -- an item, where annotations are left out that are no marks in it
  pub item_carried : (first : Token) (ts us : List Token) → (can_mark first.kind ≡ true → marks ≡ true) → NotesLeftOut text other marks (first ∷ ts) us → (i : Item) (rest : List Token) → IsItem text (first ∷ ts) i rest
      → (j : Item) × (end : List Token) × IsItem other us j end × ItemsAlike text other i j × NotesLeftOut text other marks rest end
  item_carried first ts us heeded less i rest p =
      after_first text other marks (ItemAfter text) (ItemAfter other) (ItemsAlike text other) (λ t ts v rest p. p) first ts us less (λ u alike. item_after_carried first.kind first u alike heeded) i rest p
