-- Each production of the grammar reads some tokens, or it fails.
use Rattle.std.proofs.Common.{ℕ, zero, suc, ◌<◌, ◌&&◌, inl, inr, Bool, true, false, cond, List, [], ◌∷◌, length, Option, Some, None, refl, arith}
use Rattle.std.specs.Prelude.{ℤ, ◌||◌, nat_lt, is_none, slice_range, codes}
use Rattle.std.specs.Str.{bytes_eq}
use Rattle.fzn_token.specs.declared.token.Token.{Token}
use Rattle.fzn_token.specs.declared.token.TokenKind.{TokenKind}
use Rattle.fzn_token.specs.declared.token.TokenKind.TheVariants as kind
use Rattle.fzn_token.specs.declared.token.Mark.TheVariants as mark
use Rattle.fzn_token.specs.declared.token.Word.TheVariants as word
use Rattle.fzn_item.specs.declared.item.Atom.TheVariants as atom
use Rattle.fzn_item.specs.declared.item.Expr.TheVariants as expr
use Rattle.fzn_item.specs.declared.item.Base.TheVariants as base
use Rattle.fzn_item.specs.declared.item.Marked.{Marked}
use Rattle.fzn_item.specs.declared.item.Marked.TheVariants as marked
use Rattle.fzn_item.specs.declared.item.Goal.TheVariants as goals
use Rattle.fzn_item.specs.declared.item.Item.TheVariants as item
use Rattle.fzn_item.specs.Productions.{Production, Gives, ◌>>=◌, Or, IsMark, IsNotNext, IsListOf, IsInteger, IsAnyList, IsAny}
use Rattle.fzn_item.specs.Exprs.{AtomFrom, AtomAfter, IsAtom, IsExpr, IsLastExpr}
use Rattle.fzn_item.specs.Annotations.{Arguments, RangeEnd, FloatRangeEnd, NumberAfter, IsNumber, InnerAfter, IsInner}
use Rattle.fzn_item.specs.Marks.{called, IsRange, IsRangeArgument, IsOtherArgument, ArrayEnd, MarkedEnd, IsMarkedAnnotation, AreAnnotations, none, more, first_mark}
use Rattle.fzn_item.specs.Elements.{SetAfter, IsSetElement, BaseAfter, IsBase, variable, parameter, ElementAfter, IsElement}
use Rattle.fzn_item.specs.Declarations.{NoRight, RightSide, IsNamed, IsDeclaration, IsArray}
use Rattle.fzn_item.specs.Items.{ToSemicolon, IsConstraint, GoalAfter, IsGoal, IsSolve, ItemAfter}
use Rattle.fzn_item.proofs.Combining.{IsUnique, one_unique}
use Rattle.fzn_item.proofs.ListsSoFar.{integer_unique}
use Rattle.fzn_item.proofs.ExprLaws.{any_unique, atom_unique, expr_unique, arguments_unique}
use Rattle.fzn_item.proofs.AnnotationLaws.{number_unique, inner_unique}
use Rattle.fzn_item.proofs.MarkLaws.{range_unique, ranges_unique, annotations_unique, one_more, none_so_far, no_annotation}
use Rattle.fzn_item.proofs.ElementLaws.{element_after_unique, element_unique}
use Rattle.law_inputs.proofs.TokenKinds.{is_mark}
use Rattle.law_inputs.proofs.Deciding.{Decided, IsDecided, gives_decided, nothing_decided, then_decided, map_decided, or_decided, mark_decided, word_decided, name_decided, float_decided, integer_decided, any_decided, not_next_decided, one_shorter, list_decided, any_list_decided}

-- ---- expressions

members_decided : IsDecided (IsListOf IsInteger mark.CloseBrace)
members_decided = list_decided IsInteger mark.CloseBrace (λ e. cc) integer_unique integer_decided

atom_from_decided : (t : Token) (low : ℤ) → IsDecided (AtomFrom t low)
atom_from_decided t low = or_decided _ _
    (then_decided _ _ (one_unique (kind.Mark mark.DotDot)) (mark_decided mark.DotDot) (λ _. map_decided _ (λ high. atom.Range t.from low high) integer_decided))
    (map_decided _ (λ _. atom.Whole t.from low) (not_next_decided mark.DotDot))

atom_after_decided : (k : TokenKind) (t : Token) → IsDecided (AtomAfter k t)
atom_after_decided (kind.Word word.True) t = gives_decided _
atom_after_decided (kind.Word word.False) t = gives_decided _
atom_after_decided (kind.Whole value) t = atom_from_decided t value
atom_after_decided kind.Float t = gives_decided _
atom_after_decided kind.Name t = gives_decided _
atom_after_decided (kind.Mark mark.OpenBrace) t = map_decided _ (λ values. atom.Listed t.from values) members_decided
atom_after_decided _ t = nothing_decided

atom_decided : IsDecided IsAtom
atom_decided = then_decided IsAny (λ first. AtomAfter first.kind first) any_unique any_decided (λ first. atom_after_decided first.kind first)

expr_decided : IsDecided IsExpr
expr_decided = or_decided _ _
    (then_decided _ _ (one_unique (kind.Mark mark.OpenBracket)) (mark_decided mark.OpenBracket) (λ bracket. map_decided _ (λ atoms. expr.List bracket.from atoms) (list_decided IsAtom mark.CloseBracket (λ e. cc) atom_unique atom_decided)))
    (map_decided _ expr.One atom_decided)

last_decided : IsDecided IsLastExpr
last_decided = then_decided _ _ expr_unique expr_decided (λ what. map_decided _ (λ _. what) (mark_decided mark.Semicolon))

-- ---- annotations

module _ (R : Production (Unit {0})) (unique : IsUnique R) (each : IsDecided R) where
  parentheses_decided : IsDecided (Arguments R)
  parentheses_decided = or_decided _ _
      (then_decided _ _ (one_unique (kind.Mark mark.OpenParen)) (mark_decided mark.OpenParen) (λ _. any_list_decided R mark.CloseParen (λ e. cc) unique each))
      (not_next_decided mark.OpenParen)

range_end_decided : IsDecided RangeEnd
range_end_decided = or_decided _ _
    (then_decided _ _ (one_unique (kind.Mark mark.DotDot)) (mark_decided mark.DotDot) (λ _. map_decided _ (λ _. tt) integer_decided))
    (not_next_decided mark.DotDot)

float_range_end_decided : IsDecided FloatRangeEnd
float_range_end_decided = or_decided _ _
    (then_decided _ _ (one_unique (kind.Mark mark.DotDot)) (mark_decided mark.DotDot) (λ _. map_decided _ (λ _. tt) float_decided))
    (not_next_decided mark.DotDot)

number_after_decided : (k : TokenKind) → IsDecided (NumberAfter k)
number_after_decided (kind.Whole value) = gives_decided _
number_after_decided kind.Float = gives_decided _
number_after_decided _ = nothing_decided

number_decided : IsDecided IsNumber
number_decided = then_decided IsAny (λ first. NumberAfter first.kind) any_unique any_decided (λ first. number_after_decided first.kind)

inner_after_decided : (R : Production (Unit {0})) → IsUnique R → IsDecided R → (k : TokenKind) → IsDecided (InnerAfter R k)
inner_after_decided R unique each kind.Name = parentheses_decided R unique each
inner_after_decided R unique each (kind.Word word.True) = gives_decided _
inner_after_decided R unique each (kind.Word word.False) = gives_decided _
inner_after_decided R unique each (kind.Whole value) = range_end_decided
inner_after_decided R unique each kind.Float = float_range_end_decided
inner_after_decided R unique each kind.Text = gives_decided _
inner_after_decided R unique each (kind.Mark mark.OpenBrace) = any_list_decided IsNumber mark.CloseBrace (λ e. cc) number_unique number_decided
inner_after_decided R unique each (kind.Mark mark.OpenBracket) = any_list_decided R mark.CloseBracket (λ e. cc) unique each
inner_after_decided R unique each _ = nothing_decided

inner_decided : (depth : ℕ) → IsDecided (IsInner depth)
unfolding IsInner
inner_decided zero = nothing_decided
inner_decided (suc depth) = then_decided IsAny (λ first. InnerAfter (IsInner depth) first.kind) any_unique any_decided (λ first. inner_after_decided (IsInner depth) (inner_unique depth) (inner_decided depth) first.kind)

-- ---- marks

range_decided : IsDecided IsRange
range_decided = then_decided _ _ integer_unique integer_decided (λ low. then_decided _ _ (one_unique (kind.Mark mark.DotDot)) (mark_decided mark.DotDot) (λ _. map_decided _ (λ high. (low, high)) integer_decided))

range_argument_decided : IsDecided IsRangeArgument
range_argument_decided =
    then_decided _ _ (one_unique (kind.Mark mark.OpenParen)) (mark_decided mark.OpenParen) (λ _.
    then_decided _ _ (one_unique (kind.Mark mark.OpenBracket)) (mark_decided mark.OpenBracket) (λ _.
    then_decided _ _ ranges_unique (list_decided IsRange mark.CloseBracket (λ e. cc) range_unique range_decided) (λ ranges.
    map_decided _ (λ _. ranges) (mark_decided mark.CloseParen))))

inside_decided : IsDecided (Arguments (IsInner 199))
inside_decided = parentheses_decided (IsInner 199) (inner_unique 199) (inner_decided 199)

other_argument_decided : IsDecided IsOtherArgument
other_argument_decided ts = elim (range_argument_decided ts) [
  | inr r ↦ inl (λ v rest p. p.0 r.0 r.1 r.2)
  | inl no_ranges ↦ elim (inside_decided ts) [
    | inl fails ↦ inl (λ v rest p. fails v rest p.1)
    | inr r ↦ inr (r.0, r.1, (no_ranges, r.2), r.3)
  ]
]

array_end_decided : IsDecided ArrayEnd
array_end_decided = or_decided _ _ (map_decided _ marked.Ranges range_argument_decided) (map_decided _ (λ _. marked.Wrong) other_argument_decided)

variable_end_decided : IsDecided (Or
    (IsMark mark.OpenParen >>= (λ _. IsAnyList (IsInner 199) mark.CloseParen >>= (λ _. Gives marked.Nothing)))
    (IsNotNext mark.OpenParen >>= (λ _. Gives marked.Variable)))
variable_end_decided = or_decided _ _
    (then_decided _ _ (one_unique (kind.Mark mark.OpenParen)) (mark_decided mark.OpenParen) (λ _. map_decided _ (λ _. marked.Nothing) (any_list_decided (IsInner 199) mark.CloseParen (λ e. cc) (inner_unique 199) (inner_decided 199))))
    (map_decided _ (λ _. marked.Variable) (not_next_decided mark.OpenParen))

other_end_decided : IsDecided (Arguments (IsInner 199) >>= (λ _. Gives marked.Nothing))
other_end_decided = map_decided _ (λ _. marked.Nothing) inside_decided

-- a test tells which of two it is
choice_decided : {C : Type 0} (P : C → Production Marked) (b : Bool) (x y : C) → IsDecided (P x) → IsDecided (P y) → IsDecided (P (cond b x y))
choice_decided P true x y first second = first
choice_decided P false x y first second = second

marked_end_decided : (text : List ℕ) (t : Token) → IsDecided (MarkedEnd (called text t))
marked_end_decided text t =
    let name = slice_range text t.from t.to in
    let output_var = called (codes "output_var") (record { kind = kind.Name; from = 0; to = 10 }) in
    let output_array = called (codes "output_array") (record { kind = kind.Name; from = 0; to = 12 }) in
    let other = called [] (record { kind = kind.Name; from = 0; to = 0 }) in
    let is_array = bytes_eq name (codes "output_array") in
    let is_var = bytes_eq name (codes "output_var") in
    choice_decided MarkedEnd (nat_lt t.to t.from || nat_lt (length text) t.to) other (cond is_var output_var (cond is_array output_array other)) other_end_decided
    (choice_decided MarkedEnd is_var output_var (cond is_array output_array other) variable_end_decided
    (choice_decided MarkedEnd is_array output_array other array_end_decided other_end_decided))

marked_annotation_decided : (text : List ℕ) → IsDecided (IsMarkedAnnotation text)
marked_annotation_decided text = then_decided _ (λ called_by. MarkedEnd (called text called_by)) (one_unique kind.Name) name_decided (λ called_by. marked_end_decided text called_by)

annotations_on : (n : ℕ) (text : List ℕ) (ts : List Token) → length ts < n → Decided (AreAnnotations text) ts
annotations_on zero text ts below = absurd (omega (arith, below))
annotations_on (suc n) text ts below = elim (mark_decided mark.ColonColon ts) [
  | inl missing ↦ inr (marked.Nothing, ts, none refl (refl, missing), omega arith)
  | inr c ↦ elim (marked_annotation_decided text c.1) [
    | inl fails ↦ inl (no_annotation text ts c.1 c.0 c.2 fails)
    | inr one ↦
        let shorter = one_shorter (kind.Mark mark.ColonColon) ts c.0 c.1 c.2 in
        elim (annotations_on n text one.1 (omega (arith, below, shorter, one.3))) [
          | inl fails ↦ inl ((one_more text ts ts c.1 one.1 marked.Nothing one.0 c.0 (none_so_far text ts) c.2 one.2).stops fails)
          | inr rest ↦ inr (first_mark one.0 rest.0, rest.1, more c.0 c.1 one.1 one.0 rest.0 refl c.2 one.2 rest.2, omega (arith, c.3, one.3, rest.3))
        ]
  ]
]

annotations_decided : (text : List ℕ) → IsDecided (AreAnnotations text)
annotations_decided text ts = annotations_on (suc (length ts)) text ts (omega arith)

-- ---- types

set_after_decided : (k : TokenKind) → IsDecided (SetAfter k)
set_after_decided (kind.Word word.Int) = gives_decided _
set_after_decided (kind.Whole low) = then_decided _ _ (one_unique (kind.Mark mark.DotDot)) (mark_decided mark.DotDot) (λ _. map_decided _ (λ _. base.Set) integer_decided)
set_after_decided (kind.Mark mark.OpenBrace) = map_decided _ (λ _. base.Set) members_decided
set_after_decided _ = nothing_decided

set_element_decided : IsDecided IsSetElement
set_element_decided = then_decided IsAny (λ first. SetAfter first.kind) any_unique any_decided (λ first. set_after_decided first.kind)

base_after_decided : (k : TokenKind) → IsDecided (BaseAfter k)
base_after_decided (kind.Word word.Bool) = gives_decided _
base_after_decided (kind.Word word.Int) = gives_decided _
base_after_decided (kind.Word word.Float) = gives_decided _
base_after_decided (kind.Word word.Set) = then_decided _ _ (one_unique (kind.Word word.Of)) (word_decided word.Of) (λ _. set_element_decided)
base_after_decided (kind.Whole low) = then_decided _ _ (one_unique (kind.Mark mark.DotDot)) (mark_decided mark.DotDot) (λ _. map_decided _ (λ high. base.Range low high) integer_decided)
base_after_decided kind.Float = then_decided _ _ (one_unique (kind.Mark mark.DotDot)) (mark_decided mark.DotDot) (λ _. map_decided _ (λ _. base.Float) float_decided)
base_after_decided (kind.Mark mark.OpenBrace) = map_decided _ base.Listed members_decided
base_after_decided _ = nothing_decided

base_decided : IsDecided IsBase
base_decided = then_decided IsAny (λ first. BaseAfter first.kind) any_unique any_decided (λ first. base_after_decided first.kind)

element_after_decided : (k : TokenKind) → IsDecided (ElementAfter k)
element_after_decided (kind.Word word.Var) = map_decided _ variable base_decided
element_after_decided (kind.Word word.Bool) = gives_decided _
element_after_decided (kind.Word word.Int) = gives_decided _
element_after_decided (kind.Word word.Float) = gives_decided _
element_after_decided (kind.Word word.Set) = then_decided _ _ (one_unique (kind.Word word.Of)) (word_decided word.Of) (λ _. map_decided _ (λ _. parameter base.Set) (word_decided word.Int))
element_after_decided _ = nothing_decided

element_decided : IsDecided IsElement
element_decided = then_decided IsAny (λ first. ElementAfter first.kind) any_unique any_decided (λ first. element_after_decided first.kind)

-- ---- declarations

no_right_decided : (optional : Bool) → IsDecided (NoRight optional)
no_right_decided true = map_decided _ (λ _. None) (mark_decided mark.Semicolon)
no_right_decided false = nothing_decided

right_decided : (optional : Bool) → IsDecided (RightSide optional)
right_decided optional = or_decided _ _
    (then_decided _ _ (one_unique (kind.Mark mark.Equals)) (mark_decided mark.Equals) (λ _. map_decided _ Some last_decided))
    (no_right_decided optional)

named_decided : (text : List ℕ) (at : ℕ) (index : Option (ℤ × ℤ)) (element : _) → IsDecided (IsNamed text at index element)
named_decided text at index element =
    then_decided _ _ (one_unique (kind.Mark mark.Colon)) (mark_decided mark.Colon) (λ _.
    then_decided _ _ (one_unique kind.Name) name_decided (λ called_by.
    then_decided _ _ (annotations_unique text) (annotations_decided text) (λ says.
    map_decided _ (λ right. item.Declare at element.variable index element.base called_by.from called_by.to says right) (right_decided (element.variable && is_none index)))))

declaration_decided : (text : List ℕ) (first : Token) → IsDecided (IsDeclaration text first)
declaration_decided text first = then_decided _ _ (element_after_unique first.kind) (element_after_decided first.kind) (λ element. named_decided text first.from None element)

array_decided : (text : List ℕ) (first : Token) → IsDecided (IsArray text first)
array_decided text first =
    then_decided _ _ (one_unique (kind.Mark mark.OpenBracket)) (mark_decided mark.OpenBracket) (λ _.
    then_decided _ _ range_unique range_decided (λ index.
    then_decided _ _ (one_unique (kind.Mark mark.CloseBracket)) (mark_decided mark.CloseBracket) (λ _.
    then_decided _ _ (one_unique (kind.Word word.Of)) (word_decided word.Of) (λ _.
    then_decided _ _ element_unique element_decided (λ element. named_decided text first.from (Some index) element)))))

-- ---- items

to_semicolon_decided : IsDecided ToSemicolon
to_semicolon_decided [] = inl (λ v rest p. p)
to_semicolon_decided (t ∷ ts) = elim (is_mark mark.Semicolon t.kind) [
  | inl here ↦ inr (tt, ts, inl (here, refl), omega arith)
  | inr other ↦ elim (to_semicolon_decided ts) [
    | inl fails ↦ inl (λ v rest p. elim p [ inl here ↦ other here.0 | inr past ↦ fails v rest past.1 ])
    | inr r ↦ inr (r.0, r.1, inr (other, r.2), omega (arith, r.3))
  ]
]

constraint_decided : (text : List ℕ) (first : Token) → IsDecided (IsConstraint text first)
constraint_decided text first =
    then_decided _ _ (one_unique kind.Name) name_decided (λ called_by.
    then_decided _ _ (one_unique (kind.Mark mark.OpenParen)) (mark_decided mark.OpenParen) (λ _.
    then_decided _ _ arguments_unique (list_decided IsExpr mark.CloseParen (λ e. cc) expr_unique expr_decided) (λ arguments.
    then_decided _ _ (annotations_unique text) (annotations_decided text) (λ _.
    map_decided _ (λ _. item.Constraint first.from called_by.from called_by.to arguments) (mark_decided mark.Semicolon)))))

goal_after_decided : (k : TokenKind) (t : Token) → IsDecided (GoalAfter k t)
goal_after_decided (kind.Word word.Satisfy) t = map_decided _ (λ _. goals.Satisfy) (mark_decided mark.Semicolon)
goal_after_decided (kind.Word word.Minimize) t = map_decided _ (λ what. goals.Minimize t.from what) last_decided
goal_after_decided (kind.Word word.Maximize) t = map_decided _ (λ what. goals.Maximize t.from what) last_decided
goal_after_decided _ t = nothing_decided

goal_decided : IsDecided IsGoal
goal_decided = then_decided IsAny (λ first. GoalAfter first.kind first) any_unique any_decided (λ first. goal_after_decided first.kind first)

solve_decided : (text : List ℕ) (first : Token) → IsDecided (IsSolve text first)
solve_decided text first = then_decided _ _ (annotations_unique text) (annotations_decided text) (λ _. map_decided _ (λ goal. item.Solve first.from goal) goal_decided)

pub item_after_decided : (text : List ℕ) (k : TokenKind) (t : Token) → IsDecided (ItemAfter text k t)
item_after_decided text (kind.Word word.Predicate) t = map_decided _ (λ _. item.Predicate t.from) to_semicolon_decided
item_after_decided text (kind.Word word.Var) t = declaration_decided text t
item_after_decided text (kind.Word word.Bool) t = declaration_decided text t
item_after_decided text (kind.Word word.Int) t = declaration_decided text t
item_after_decided text (kind.Word word.Float) t = declaration_decided text t
item_after_decided text (kind.Word word.Set) t = declaration_decided text t
item_after_decided text (kind.Word word.Array) t = array_decided text t
item_after_decided text (kind.Word word.Constraint) t = constraint_decided text t
item_after_decided text (kind.Word word.Solve) t = solve_decided text t
item_after_decided text _ t = nothing_decided
