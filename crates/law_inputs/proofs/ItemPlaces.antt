-- The places in items are those of tokens.
use Rattle.std.proofs.Common.{ℕ, zero, suc, ◌&&◌, ◌||◌, inl, inr, Bool, true, false, cond, List, [], ◌∷◌, length, Option, Some, None, sym, subst}
use Rattle.std.specs.Prelude.{ℤ, nat_lt, is_none, slice_range, codes}
use Rattle.std.specs.Str.{bytes_eq}
use Rattle.std.specs.List.{AllByRecursion}
use Rattle.fzn_token.specs.declared.token.Token.{Token}
use Rattle.fzn_token.specs.declared.token.TokenKind.{TokenKind}
use Rattle.fzn_token.specs.declared.token.TokenKind.TheVariants as kind
use Rattle.fzn_token.specs.declared.token.Mark.TheVariants as mark
use Rattle.fzn_token.specs.declared.token.Word.TheVariants as word
use Rattle.fzn_item.specs.declared.item.Atom.{Atom}
use Rattle.fzn_item.specs.declared.item.Atom.TheVariants as atom
use Rattle.fzn_item.specs.declared.item.Expr.{Expr}
use Rattle.fzn_item.specs.declared.item.Expr.TheVariants as expr
use Rattle.fzn_item.specs.declared.item.Base.TheVariants as base
use Rattle.fzn_item.specs.declared.item.Marked.{Marked}
use Rattle.fzn_item.specs.declared.item.Marked.TheVariants as marked
use Rattle.fzn_item.specs.declared.item.Goal.{Goal}
use Rattle.fzn_item.specs.declared.item.Goal.TheVariants as goals
use Rattle.fzn_item.specs.declared.item.Item.{Item}
use Rattle.fzn_item.specs.declared.item.Item.TheVariants as item
use Rattle.fzn_item.specs.Productions.{Production, Gives, ◌>>=◌, Or, IsMark, IsNotNext, IsListOf, IsInteger, IsAnyList, IsAny}
use Rattle.fzn_item.specs.Exprs.{AtomFrom, AtomAfter, IsAtom, IsExpr, IsLastExpr}
use Rattle.fzn_item.specs.Annotations.{Arguments, RangeEnd, FloatRangeEnd, NumberAfter, IsNumber, InnerAfter, IsInner}
use Rattle.fzn_item.specs.Marks.{called, IsRange, IsRangeArgument, IsOtherArgument, ArrayEnd, MarkedEnd, IsMarkedAnnotation, AreAnnotations, none, more}
use Rattle.fzn_item.specs.Elements.{SetAfter, IsSetElement, BaseAfter, IsBase, variable, parameter, ElementAfter, IsElement}
use Rattle.fzn_item.specs.Declarations.{NoRight, RightSide, IsNamed, IsDeclaration, IsArray}
use Rattle.fzn_item.specs.Items.{ToSemicolon, IsConstraint, GoalAfter, IsGoal, IsSolve, ItemAfter, IsItem}
use Rattle.fzn_scope.specs.Places.{atom_at}
use Rattle.law_inputs.proofs.Placing.{Every, Placed, Passed, gives_placed, nothing_placed, then_placed, map_placed, or_placed, one_placed, mark_placed, integer_placed, any_placed, not_next_placed, list_placed, any_list_placed}

-- P holds of the place of an atom, of the places in an expression, a right side, a goal, an item
abbrev pub AtomPlaced : (ℕ → Type 0) → Atom → Type 0
AtomPlaced P a = P (atom_at a)

abbrev pub ExprPlaced : (ℕ → Type 0) → Expr → Type 0
ExprPlaced P (expr.One a) = AtomPlaced P a
ExprPlaced P (expr.List at atoms) = P at × AllByRecursion (AtomPlaced P) atoms

abbrev pub RightPlaced : (ℕ → Type 0) → Option Expr → Type 0
RightPlaced P None = Unit {0}
RightPlaced P (Some e) = ExprPlaced P e

abbrev pub GoalPlaced : (ℕ → Type 0) → Goal → Type 0
GoalPlaced P goals.Satisfy = Unit {0}
GoalPlaced P (goals.Minimize at what) = P at × ExprPlaced P what
GoalPlaced P (goals.Maximize at what) = P at × ExprPlaced P what

abbrev pub ItemPlaced : (ℕ → Type 0) → Item → Type 0
ItemPlaced P (item.Predicate at) = P at
ItemPlaced P (item.Declare at isvar index type name_at name_to marked right) = P at × P name_at × RightPlaced P right
ItemPlaced P (item.Constraint at name_at name_to arguments) = P at × P name_at × AllByRecursion (ExprPlaced P) arguments
ItemPlaced P (item.Solve at goal) = P at × GoalPlaced P goal

module _ (P : ℕ → Type 0) where
  -- ---- expressions

  members_placed : Passed P (IsListOf IsInteger mark.CloseBrace)
  members_placed ts v rest p all = (tt, (list_placed P IsInteger mark.CloseBrace (λ _. Unit {0}) (integer_placed P) ts v rest p all).1)

  atom_from_placed : (t : Token) (low : ℤ) → P t.from → Placed P (AtomFrom t low) (AtomPlaced P)
  atom_from_placed t low at = or_placed P _ _ (AtomPlaced P)
      (then_placed P _ _ _ (AtomPlaced P) (mark_placed P mark.DotDot) (λ _ _. map_placed P _ (λ high. atom.Range t.from low high) _ (AtomPlaced P) (integer_placed P) (λ _ _. at)))
      (map_placed P _ (λ _. atom.Whole t.from low) _ (AtomPlaced P) (not_next_placed P mark.DotDot) (λ _ _. at))

  atom_after_placed : (k : TokenKind) (t : Token) → P t.from → Placed P (AtomAfter k t) (AtomPlaced P)
  atom_after_placed (kind.Word word.True) t at = gives_placed P _ (AtomPlaced P) at
  atom_after_placed (kind.Word word.False) t at = gives_placed P _ (AtomPlaced P) at
  atom_after_placed (kind.Whole value) t at = atom_from_placed t value at
  atom_after_placed kind.Float t at = gives_placed P _ (AtomPlaced P) at
  atom_after_placed kind.Name t at = gives_placed P _ (AtomPlaced P) at
  atom_after_placed (kind.Mark mark.OpenBrace) t at = map_placed P _ (λ values. atom.Listed t.from values) _ (AtomPlaced P) members_placed (λ _ _. at)
  atom_after_placed _ t at = nothing_placed P (AtomPlaced P)

  atom_placed : Placed P IsAtom (AtomPlaced P)
  atom_placed = then_placed P IsAny (λ first. AtomAfter first.kind first) _ (AtomPlaced P) (any_placed P) (λ first at. atom_after_placed first.kind first at)

  expr_placed : Placed P IsExpr (ExprPlaced P)
  expr_placed = or_placed P _ _ (ExprPlaced P)
      (then_placed P _ _ _ (ExprPlaced P) (mark_placed P mark.OpenBracket) (λ bracket at. map_placed P _ (λ atoms. expr.List bracket.from atoms) _ (ExprPlaced P) (list_placed P IsAtom mark.CloseBracket (AtomPlaced P) atom_placed) (λ atoms each. (at, each))))
      (map_placed P _ expr.One _ (ExprPlaced P) atom_placed (λ a at. at))

  last_placed : Placed P IsLastExpr (ExprPlaced P)
  last_placed = then_placed P _ _ _ (ExprPlaced P) expr_placed (λ what at. map_placed P _ (λ _. what) _ (ExprPlaced P) (mark_placed P mark.Semicolon) (λ _ _. at))

  -- ---- annotations

  parentheses_placed : (R : Production (Unit {0})) → Passed P R → Passed P (Arguments R)
  parentheses_placed R each = or_placed P _ _ _
      (then_placed P _ _ _ _ (mark_placed P mark.OpenParen) (λ _ _. any_list_placed P R mark.CloseParen each))
      (not_next_placed P mark.OpenParen)

  range_end_placed : Passed P RangeEnd
  range_end_placed = or_placed P _ _ _
      (then_placed P _ _ _ _ (mark_placed P mark.DotDot) (λ _ _. map_placed P _ (λ _. tt) _ _ (integer_placed P) (λ _ _. tt)))
      (not_next_placed P mark.DotDot)

  float_range_end_placed : Passed P FloatRangeEnd
  float_range_end_placed = or_placed P _ _ _
      (then_placed P _ _ _ _ (mark_placed P mark.DotDot) (λ _ _. map_placed P _ (λ _. tt) _ _ (one_placed P kind.Float) (λ _ _. tt)))
      (not_next_placed P mark.DotDot)

  number_after_placed : (k : TokenKind) → Passed P (NumberAfter k)
  number_after_placed (kind.Whole value) = gives_placed P _ _ tt
  number_after_placed kind.Float = gives_placed P _ _ tt
  number_after_placed _ = nothing_placed P _

  number_placed : Passed P IsNumber
  number_placed = then_placed P IsAny (λ first. NumberAfter first.kind) _ _ (any_placed P) (λ first _. number_after_placed first.kind)

  inner_after_placed : (R : Production (Unit {0})) → Passed P R → (k : TokenKind) → Passed P (InnerAfter R k)
  inner_after_placed R each kind.Name = parentheses_placed R each
  inner_after_placed R each (kind.Word word.True) = gives_placed P _ _ tt
  inner_after_placed R each (kind.Word word.False) = gives_placed P _ _ tt
  inner_after_placed R each (kind.Whole value) = range_end_placed
  inner_after_placed R each kind.Float = float_range_end_placed
  inner_after_placed R each kind.Text = gives_placed P _ _ tt
  inner_after_placed R each (kind.Mark mark.OpenBrace) = any_list_placed P IsNumber mark.CloseBrace number_placed
  inner_after_placed R each (kind.Mark mark.OpenBracket) = any_list_placed P R mark.CloseBracket each
  inner_after_placed R each _ = nothing_placed P _

  inner_placed : (depth : ℕ) → Passed P (IsInner depth)
  unfolding IsInner
  inner_placed zero = nothing_placed P _
  inner_placed (suc depth) = then_placed P IsAny (λ first. InnerAfter (IsInner depth) first.kind) _ _ (any_placed P) (λ first _. inner_after_placed (IsInner depth) (inner_placed depth) first.kind)

  -- ---- marks

  range_placed : Passed P IsRange
  range_placed = then_placed P _ _ _ _ (integer_placed P) (λ low _. then_placed P _ _ _ _ (mark_placed P mark.DotDot) (λ _ _. map_placed P _ (λ high. (low, high)) _ _ (integer_placed P) (λ _ _. tt)))

  range_argument_placed : Passed P IsRangeArgument
  range_argument_placed =
      then_placed P _ _ _ _ (mark_placed P mark.OpenParen) (λ _ _.
      then_placed P _ _ _ _ (mark_placed P mark.OpenBracket) (λ _ _.
      then_placed P _ _ _ _ (list_placed P IsRange mark.CloseBracket (λ _. Unit {0}) range_placed) (λ ranges _.
      map_placed P _ (λ _. ranges) _ _ (mark_placed P mark.CloseParen) (λ _ _. tt))))

  inside_placed : Passed P (Arguments (IsInner 199))
  inside_placed = parentheses_placed (IsInner 199) (inner_placed 199)

  array_end_placed : Passed P ArrayEnd
  array_end_placed = or_placed P _ _ _
      (map_placed P _ marked.Ranges _ _ range_argument_placed (λ _ _. tt))
      (map_placed P IsOtherArgument (λ _. marked.Wrong) (λ _. Unit {0}) _ (λ ts v rest p all. inside_placed ts v rest p.1 all) (λ _ _. tt))

  variable_end_placed : Passed P (Or
      (IsMark mark.OpenParen >>= (λ _. IsAnyList (IsInner 199) mark.CloseParen >>= (λ _. Gives marked.Nothing)))
      (IsNotNext mark.OpenParen >>= (λ _. Gives marked.Variable)))
  variable_end_placed = or_placed P _ _ _
      (then_placed P _ _ _ _ (mark_placed P mark.OpenParen) (λ _ _. map_placed P _ (λ _. marked.Nothing) _ _ (any_list_placed P (IsInner 199) mark.CloseParen (inner_placed 199)) (λ _ _. tt)))
      (map_placed P _ (λ _. marked.Variable) _ _ (not_next_placed P mark.OpenParen) (λ _ _. tt))

  other_end_placed : Passed P (Arguments (IsInner 199) >>= (λ _. Gives marked.Nothing))
  other_end_placed = map_placed P _ (λ _. marked.Nothing) _ _ inside_placed (λ _ _. tt)

  -- a test tells which of two it is
  choice_placed : {C : Type 0} (R : C → Production Marked) (b : Bool) (x y : C) → Passed P (R x) → Passed P (R y) → Passed P (R (cond b x y))
  choice_placed R true x y first second = first
  choice_placed R false x y first second = second

  marked_end_placed : (text : List ℕ) (t : Token) → Passed P (MarkedEnd (called text t))
  marked_end_placed text t =
      let name = slice_range text t.from t.to in
      let output_var = called (codes "output_var") (record { kind = kind.Name; from = 0; to = 10 }) in
      let output_array = called (codes "output_array") (record { kind = kind.Name; from = 0; to = 12 }) in
      let other = called [] (record { kind = kind.Name; from = 0; to = 0 }) in
      let is_array = bytes_eq name (codes "output_array") in
      let is_var = bytes_eq name (codes "output_var") in
      choice_placed MarkedEnd (nat_lt t.to t.from || nat_lt (length text) t.to) other (cond is_var output_var (cond is_array output_array other)) other_end_placed
      (choice_placed MarkedEnd is_var output_var (cond is_array output_array other) variable_end_placed
      (choice_placed MarkedEnd is_array output_array other array_end_placed other_end_placed))

  marked_annotation_placed : (text : List ℕ) → Passed P (IsMarkedAnnotation text)
  marked_annotation_placed text = then_placed P _ (λ called_by. MarkedEnd (called text called_by)) _ _ (one_placed P kind.Name) (λ called_by _. marked_end_placed text called_by)

  annotations_placed : (text : List ℕ) → Passed P (AreAnnotations text)
  annotations_placed text ts v rest (none a p) all = (tt, subst (Every P) (sym p.0) all)
  annotations_placed text ts v rest (more t middle next m n b q1 q2 q3) all =
      let f = mark_placed P mark.ColonColon ts t middle q1 all in
      let g = marked_annotation_placed text middle m next q2 f.1 in
      (tt, (annotations_placed text next n rest q3 g.1).1)

  -- ---- types

  set_after_placed : (k : TokenKind) → Passed P (SetAfter k)
  set_after_placed (kind.Word word.Int) = gives_placed P _ _ tt
  set_after_placed (kind.Whole low) = then_placed P _ _ _ _ (mark_placed P mark.DotDot) (λ _ _. map_placed P _ (λ _. base.Set) _ _ (integer_placed P) (λ _ _. tt))
  set_after_placed (kind.Mark mark.OpenBrace) = map_placed P _ (λ _. base.Set) _ _ members_placed (λ _ _. tt)
  set_after_placed _ = nothing_placed P _

  set_element_placed : Passed P IsSetElement
  set_element_placed = then_placed P IsAny (λ first. SetAfter first.kind) _ _ (any_placed P) (λ first _. set_after_placed first.kind)

  base_after_placed : (k : TokenKind) → Passed P (BaseAfter k)
  base_after_placed (kind.Word word.Bool) = gives_placed P _ _ tt
  base_after_placed (kind.Word word.Int) = gives_placed P _ _ tt
  base_after_placed (kind.Word word.Float) = gives_placed P _ _ tt
  base_after_placed (kind.Word word.Set) = then_placed P _ _ _ _ (one_placed P (kind.Word word.Of)) (λ _ _. set_element_placed)
  base_after_placed (kind.Whole low) = then_placed P _ _ _ _ (mark_placed P mark.DotDot) (λ _ _. map_placed P _ (λ high. base.Range low high) _ _ (integer_placed P) (λ _ _. tt))
  base_after_placed kind.Float = then_placed P _ _ _ _ (mark_placed P mark.DotDot) (λ _ _. map_placed P _ (λ _. base.Float) _ _ (one_placed P kind.Float) (λ _ _. tt))
  base_after_placed (kind.Mark mark.OpenBrace) = map_placed P _ base.Listed _ _ members_placed (λ _ _. tt)
  base_after_placed _ = nothing_placed P _

  base_placed : Passed P IsBase
  base_placed = then_placed P IsAny (λ first. BaseAfter first.kind) _ _ (any_placed P) (λ first _. base_after_placed first.kind)

  element_after_placed : (k : TokenKind) → Passed P (ElementAfter k)
  element_after_placed (kind.Word word.Var) = map_placed P _ variable _ _ base_placed (λ _ _. tt)
  element_after_placed (kind.Word word.Bool) = gives_placed P _ _ tt
  element_after_placed (kind.Word word.Int) = gives_placed P _ _ tt
  element_after_placed (kind.Word word.Float) = gives_placed P _ _ tt
  element_after_placed (kind.Word word.Set) = then_placed P _ _ _ _ (one_placed P (kind.Word word.Of)) (λ _ _. map_placed P _ (λ _. parameter base.Set) _ _ (one_placed P (kind.Word word.Int)) (λ _ _. tt))
  element_after_placed _ = nothing_placed P _

  element_placed : Passed P IsElement
  element_placed = then_placed P IsAny (λ first. ElementAfter first.kind) _ _ (any_placed P) (λ first _. element_after_placed first.kind)

  -- ---- declarations

  no_right_placed : (optional : Bool) → Placed P (NoRight optional) (RightPlaced P)
  no_right_placed true = map_placed P _ (λ _. None) _ (RightPlaced P) (mark_placed P mark.Semicolon) (λ _ _. tt)
  no_right_placed false = nothing_placed P (RightPlaced P)

  right_placed : (optional : Bool) → Placed P (RightSide optional) (RightPlaced P)
  right_placed optional = or_placed P _ _ (RightPlaced P)
      (then_placed P _ _ _ (RightPlaced P) (mark_placed P mark.Equals) (λ _ _. map_placed P _ Some _ (RightPlaced P) last_placed (λ e at. at)))
      (no_right_placed optional)

  named_placed : (text : List ℕ) (at : ℕ) (index : Option (ℤ × ℤ)) (element : _) → P at → Placed P (IsNamed text at index element) (ItemPlaced P)
  named_placed text at index element here =
      then_placed P _ _ _ (ItemPlaced P) (mark_placed P mark.Colon) (λ _ _.
      then_placed P _ _ _ (ItemPlaced P) (one_placed P kind.Name) (λ called_by named.
      then_placed P _ _ _ (ItemPlaced P) (annotations_placed text) (λ says _.
      map_placed P _ (λ right. item.Declare at element.variable index element.base called_by.from called_by.to says right) _ (ItemPlaced P) (right_placed (element.variable && is_none index)) (λ right each. (here, named, each)))))

  declaration_placed : (text : List ℕ) (first : Token) → P first.from → Placed P (IsDeclaration text first) (ItemPlaced P)
  declaration_placed text first here = then_placed P _ _ _ (ItemPlaced P) (element_after_placed first.kind) (λ element _. named_placed text first.from None element here)

  array_placed : (text : List ℕ) (first : Token) → P first.from → Placed P (IsArray text first) (ItemPlaced P)
  array_placed text first here =
      then_placed P _ _ _ (ItemPlaced P) (mark_placed P mark.OpenBracket) (λ _ _.
      then_placed P _ _ _ (ItemPlaced P) range_placed (λ index _.
      then_placed P _ _ _ (ItemPlaced P) (mark_placed P mark.CloseBracket) (λ _ _.
      then_placed P _ _ _ (ItemPlaced P) (one_placed P (kind.Word word.Of)) (λ _ _.
      then_placed P _ _ _ (ItemPlaced P) element_placed (λ element _. named_placed text first.from (Some index) element here)))))

  -- ---- items

  to_semicolon_placed : Passed P ToSemicolon
  to_semicolon_placed [] v rest p all = absurd p
  to_semicolon_placed (t ∷ ts) v rest p all = elim p [
    | inl here ↦ (tt, subst (Every P) (sym here.1) all.1)
    | inr past ↦ to_semicolon_placed ts v rest past.1 all.1
  ]

  constraint_placed : (text : List ℕ) (first : Token) → P first.from → Placed P (IsConstraint text first) (ItemPlaced P)
  constraint_placed text first here =
      then_placed P _ _ _ (ItemPlaced P) (one_placed P kind.Name) (λ called_by named.
      then_placed P _ _ _ (ItemPlaced P) (mark_placed P mark.OpenParen) (λ _ _.
      then_placed P _ _ _ (ItemPlaced P) (list_placed P IsExpr mark.CloseParen (ExprPlaced P) expr_placed) (λ arguments each.
      then_placed P _ _ _ (ItemPlaced P) (annotations_placed text) (λ _ _.
      map_placed P _ (λ _. item.Constraint first.from called_by.from called_by.to arguments) _ (ItemPlaced P) (mark_placed P mark.Semicolon) (λ _ _. (here, named, each))))))

  goal_after_placed : (k : TokenKind) (t : Token) → P t.from → Placed P (GoalAfter k t) (GoalPlaced P)
  goal_after_placed (kind.Word word.Satisfy) t here = map_placed P _ (λ _. goals.Satisfy) _ (GoalPlaced P) (mark_placed P mark.Semicolon) (λ _ _. tt)
  goal_after_placed (kind.Word word.Minimize) t here = map_placed P _ (λ what. goals.Minimize t.from what) _ (GoalPlaced P) last_placed (λ _ each. (here, each))
  goal_after_placed (kind.Word word.Maximize) t here = map_placed P _ (λ what. goals.Maximize t.from what) _ (GoalPlaced P) last_placed (λ _ each. (here, each))
  goal_after_placed _ t here = nothing_placed P (GoalPlaced P)

  goal_placed : Placed P IsGoal (GoalPlaced P)
  goal_placed = then_placed P IsAny (λ first. GoalAfter first.kind first) _ (GoalPlaced P) (any_placed P) (λ first here. goal_after_placed first.kind first here)

  solve_placed : (text : List ℕ) (first : Token) → P first.from → Placed P (IsSolve text first) (ItemPlaced P)
  solve_placed text first here = then_placed P _ _ _ (ItemPlaced P) (annotations_placed text) (λ _ _. map_placed P _ (λ goal. item.Solve first.from goal) _ (ItemPlaced P) goal_placed (λ goal at. (here, at)))

  item_after_placed : (text : List ℕ) (k : TokenKind) (t : Token) → P t.from → Placed P (ItemAfter text k t) (ItemPlaced P)
  item_after_placed text (kind.Word word.Predicate) t here = map_placed P _ (λ _. item.Predicate t.from) _ (ItemPlaced P) to_semicolon_placed (λ _ _. here)
  item_after_placed text (kind.Word word.Var) t here = declaration_placed text t here
  item_after_placed text (kind.Word word.Bool) t here = declaration_placed text t here
  item_after_placed text (kind.Word word.Int) t here = declaration_placed text t here
  item_after_placed text (kind.Word word.Float) t here = declaration_placed text t here
  item_after_placed text (kind.Word word.Set) t here = declaration_placed text t here
  item_after_placed text (kind.Word word.Array) t here = array_placed text t here
  item_after_placed text (kind.Word word.Constraint) t here = constraint_placed text t here
  item_after_placed text (kind.Word word.Solve) t here = solve_placed text t here
  item_after_placed text _ t here = nothing_placed P (ItemPlaced P)

  pub item_placed : (text : List ℕ) → Placed P (IsItem text) (ItemPlaced P)
  item_placed text = then_placed P IsAny (λ first. ItemAfter text first.kind first) _ (ItemPlaced P) (any_placed P) (λ first here. item_after_placed text first.kind first here)
