-- Items are the same by both grammars.
use Rattle.std.proofs.Common.{◌≡◌, ℕ, ℤ, Bool, true, false, ◌&&◌, List, [], ◌∷◌, Option, Some, None, sym, ◌∙◌, ap, subst, ⊎_elim, inl, inr, refl}
use Rattle.std.specs.Prelude.{is_none}
use Rattle.fzn_token.specs.declared.token.Token.{Token}
use Rattle.fzn_token.specs.declared.token.TokenKind.{TokenKind}
use Rattle.fzn_token.specs.declared.token.TokenKind.TheVariants as kind
use Rattle.fzn_token.specs.declared.token.Mark.TheVariants as mark
use Rattle.fzn_token.specs.declared.token.Word.TheVariants as word
use Rattle.fzn_item.specs.declared.item.Base.{Base}
use Rattle.fzn_item.specs.declared.item.Expr.{Expr}
use Rattle.fzn_item.specs.declared.item.Marked.{Marked}
use Rattle.fzn_item.specs.declared.item.Goal.{Goal}
use Rattle.fzn_item.specs.declared.item.Goal.TheVariants as goals
use Rattle.fzn_item.specs.declared.item.Item.{Item}
use Rattle.fzn_item.specs.declared.item.Item.TheVariants as item
use Rattle.fzn_item.specs.Productions.{OneOf, IsMark, Fails}
use Rattle.fzn_item.specs.Exprs.{IsExpr, IsLastExpr}
use Rattle.fzn_item.specs.Elements.{variable, parameter, ElementAfter, IsElement}
use Rattle.fzn_item.specs.Declarations.{RightSide, IsNamed, IsDeclaration, IsArray}
use Rattle.fzn_item.specs.Items.{IsConstraint, GoalAfter, IsGoal, IsSolve, ItemAfter, IsItem, AreItemsTo}
use Rattle.fzn_item.proofs.Combining.{kinds_apart}
use Rattle.law_inputs.specs.PlainGrammar.{IsRow, none, more, Optional, PlainExpr, PlainLabel, PlainRight, PlainArrayOf, PlainParameter, PlainParameterArray, PlainVariable, PlainVariableArray, PlainConstraint, PlainGoal, PlainSolve, Ended, PlainItem, ItemsAgree, GrammarsAgree}
use Rattle.law_inputs.proofs.PlainForms.{Ends, Includes, one_ends, one_first, list_maps, whatever_follows, by_kind}
use Rattle.law_inputs.proofs.PlainExprs.{expr_completes, expr_included, type_completes, var_completes, element_after, element_included}
use Rattle.law_inputs.proofs.PlainNotes.{annotations_complete, annotations_included}

-- the tokens begin with no mark that annotations look for behind them
record NotesEnd (ts : List Token) : Type 0 where
  ends : Ends ts
  no_more : Fails (IsMark mark.ColonColon) ts

one_follows : (k : TokenKind) → (k ≡ kind.Mark mark.DotDot → ⊥) → (k ≡ kind.Mark mark.OpenParen → ⊥) → (k ≡ kind.Mark mark.ColonColon → ⊥) → (ts : List Token) (t : Token) (rest : List Token) → OneOf k ts t rest → NotesEnd ts
one_follows k no_dots no_paren no_colons ts t rest p = record {
  ends = one_ends k no_dots no_paren ts t rest p;
  no_more = λ u end q. kinds_apart k (kind.Mark mark.ColonColon) no_colons ts t u rest end p q;
}

semicolon_follows : (ts : List Token) (t : Token) (rest : List Token) → IsMark mark.Semicolon ts t rest → NotesEnd ts
semicolon_follows = one_follows (kind.Mark mark.Semicolon) (λ e. cc) (λ e. cc) (λ e. cc)

right_follows : (ts : List Token) (e : Expr) (rest : List Token) → PlainRight ts e rest → NotesEnd ts
right_follows ts e rest p = one_follows (kind.Mark mark.Equals) (λ e. cc) (λ e. cc) (λ e. cc) ts p.0 p.1 p.2

-- ---- from the plain grammar

last_completes : (ts : List Token) (e : Expr) (middle : List Token) (t : Token) (rest : List Token) → PlainExpr ts e middle → IsMark mark.Semicolon middle t rest → IsLastExpr ts e rest
last_completes ts e middle t rest p semicolon = (e, middle, expr_completes ts e middle p (semicolon_follows middle t rest semicolon).ends, (t, rest, semicolon, (refl, refl)))

right_completes : (optional : Bool) (ts : List Token) (e : Expr) (middle : List Token) (t : Token) (rest : List Token) → PlainRight ts e middle → IsMark mark.Semicolon middle t rest → RightSide optional ts (Some e) rest
right_completes optional ts e middle t rest p semicolon = inl (p.0, p.1, p.2, (e, rest, last_completes p.1 e middle t rest p.3 semicolon, (refl, refl)))

optional_completes : (ts : List Token) (right : Option Expr) (middle : List Token) (t : Token) (rest : List Token) → Optional PlainRight ts right middle → IsMark mark.Semicolon middle t rest → NotesEnd ts × RightSide true ts right rest
optional_completes ts right middle t rest p semicolon = ⊎_elim
    (λ some.
    let ended : IsMark mark.Semicolon some.1 t rest = subst (λ m. IsMark mark.Semicolon m t rest) some.3.1 semicolon in
    (right_follows ts some.0 some.1 some.2, subst (λ r. RightSide true ts r rest) (sym some.3.0) (right_completes true ts some.0 some.1 t rest some.2 ended)))
    (λ nothing.
    let ended : IsMark mark.Semicolon ts t rest = subst (λ m. IsMark mark.Semicolon m t rest) nothing.1 semicolon in
    (semicolon_follows ts t rest ended, inr (t, rest, ended, (nothing.0, refl))))
    p

module _ (text : List ℕ) where
  -- a declaration with this label and this right side
  abbrev Declared : ℕ → Bool → Option (ℤ × ℤ) → Base → Token × Marked → Option Expr → Item
  Declared at isvar index type label right = item.Declare at isvar index type label.0.from label.0.to label.1 right

  label_completes : (at : ℕ) (isvar : Bool) (index : Option (ℤ × ℤ)) (type : Base) (ts : List Token) (label : Token × Marked) (middle : List Token) (right : Option Expr) (v : Item) (rest : List Token)
      → PlainLabel text ts label middle → NotesEnd middle → RightSide (isvar && is_none index) middle right rest → v ≡ Declared at isvar index type label right → IsNamed text at index (record { variable = isvar; base = type }) ts v rest
  label_completes at isvar index type ts label middle right v rest p follows side is =
      let l = p.3.3 in
      let end = l.3.1 in
      let after : NotesEnd l.1 = subst (λ m. NotesEnd m) end follows in
      (p.0, p.1, p.2, (p.3.0, p.3.1, p.3.2, (l.0, l.1, annotations_complete text p.3.1 l.0 l.1 l.2 after.ends after.no_more, (right, rest, subst (λ m. RightSide (isvar && is_none index) m right rest) end side, (is ∙ ap (λ (pair : Token × Marked). Declared at isvar index type pair right) l.3.0, refl)))))

  -- the first token of an element tells that a declaration follows
  declares : (k : TokenKind) (t : Token) (ts : List Token) (element : _) (middle : List Token) → ElementAfter k ts element middle → (v : Item) (rest : List Token) → IsDeclaration text t ts v rest → ItemAfter text k t ts v rest
  declares (kind.Word word.Var) t ts element middle p v rest d = d
  declares (kind.Word word.Bool) t ts element middle p v rest d = d
  declares (kind.Word word.Int) t ts element middle p v rest d = d
  declares (kind.Word word.Float) t ts element middle p v rest d = d
  declares (kind.Word word.Set) t ts element middle p v rest d = d
  declares _ t ts element middle p v rest d = absurd p

  declaration_completes : (u : Token) (us : List Token) (element : _) (middle : List Token) (v : Item) (rest : List Token) → IsElement (u ∷ us) element middle → IsNamed text u.from None element middle v rest → IsItem text (u ∷ us) v rest
  declaration_completes u us element middle v rest p n =
      let q = subst (λ m. ElementAfter p.0.kind m element middle) p.2.1 p.3 in
      let r = subst (λ (t : Token). ElementAfter t.kind us element middle) p.2.0 q in
      (u, us, (refl, refl), declares u.kind u us element middle r v rest (element, middle, r, n))

  parameter_completes : (ts : List Token) (v : Item) (rest : List Token) → Ended (PlainParameter text) ts v rest → IsItem text ts v rest
  parameter_completes [] v rest p = absurd p.2.2
  parameter_completes (u ∷ us) v rest p =
      let q = p.2 in
      let semicolon = p.3 in
      let label = q.3 in
      let right = label.3 in
      let ended : IsMark mark.Semicolon right.1 semicolon.0 rest = subst (λ m. IsMark mark.Semicolon m semicolon.0 rest) right.3.1 (subst (λ m. IsMark mark.Semicolon p.1 semicolon.0 m) (sym semicolon.3.1) semicolon.2) in
      let is = semicolon.3.0 ∙ right.3.0 ∙ ap (λ at. Declared at false None q.0.1 label.0 (Some right.0)) q.2.0 in
      declaration_completes u us (parameter q.0.1) q.1 v rest (type_completes (u ∷ us) q.0.1 q.1 q.2.1)
      (label_completes u.from false None q.0.1 q.1 label.0 label.1 (Some right.0) v rest label.2 (right_follows label.1 right.0 right.1 right.2) (right_completes false label.1 right.0 right.1 semicolon.0 rest right.2 ended) is)

  variable_completes : (ts : List Token) (v : Item) (rest : List Token) → Ended (PlainVariable text) ts v rest → IsItem text ts v rest
  variable_completes [] v rest p = absurd p.2.2
  variable_completes (u ∷ us) v rest p =
      let q = p.2 in
      let semicolon = p.3 in
      let label = q.3 in
      let right = label.3 in
      let ended : IsMark mark.Semicolon right.1 semicolon.0 rest = subst (λ m. IsMark mark.Semicolon m semicolon.0 rest) right.3.1 (subst (λ m. IsMark mark.Semicolon p.1 semicolon.0 m) (sym semicolon.3.1) semicolon.2) in
      let is = semicolon.3.0 ∙ right.3.0 ∙ ap (λ at. Declared at true None q.0.1 label.0 right.0) q.2.0 in
      let side = optional_completes label.1 right.0 right.1 semicolon.0 rest right.2 ended in
      declaration_completes u us (variable q.0.1) q.1 v rest (var_completes (u ∷ us) q.0.1 q.1 q.2.1 (one_ends (kind.Mark mark.Colon) (λ e. cc) (λ e. cc) q.1 label.2.0 label.2.1 label.2.2))
      (label_completes u.from true None q.0.1 q.1 label.0 label.1 right.0 v rest label.2 side.0 side.1 is)

  -- an array, behind whose `of` such a declaration stands
  array_completes : (ts : List Token) (array : ℕ × (ℤ × ℤ)) (middle : List Token) (element : _) (end : List Token) (v : Item) (rest : List Token) → PlainArrayOf ts array middle → IsElement middle element end → IsNamed text array.0 (Some array.1) element end v rest → IsItem text ts v rest
  array_completes ts array middle element end v rest p found n =
      let index = p.3.3 in
      let of = index.3.3 in
      let named = subst (λ (a : ℕ × (ℤ × ℤ)). IsNamed text a.0 (Some a.1) element end v rest) of.3.0 n in
      one_first (ItemAfter text) (kind.Word word.Array) ts p.0 p.1 v rest p.2 (p.3.0, p.3.1, p.3.2, (index.0, index.1, index.2, (index.3.0, index.3.1, index.3.2, (of.0, of.1, of.2, (element, end, subst (λ m. IsElement m element end) of.3.1 found, named)))))

  parameter_array_completes : (ts : List Token) (v : Item) (rest : List Token) → Ended (PlainParameterArray text) ts v rest → IsItem text ts v rest
  parameter_array_completes ts v rest p =
      let array = p.2 in
      let semicolon = p.3 in
      let type = array.3 in
      let label = type.3 in
      let right = label.3 in
      let ended : IsMark mark.Semicolon right.1 semicolon.0 rest = subst (λ m. IsMark mark.Semicolon m semicolon.0 rest) right.3.1 (subst (λ m. IsMark mark.Semicolon p.1 semicolon.0 m) (sym semicolon.3.1) semicolon.2) in
      array_completes ts array.0 array.1 (parameter type.0) type.1 v rest array.2 (type_completes array.1 type.0 type.1 type.2)
      (label_completes array.0.0 false (Some array.0.1) type.0 type.1 label.0 label.1 (Some right.0) v rest label.2 (right_follows label.1 right.0 right.1 right.2) (right_completes false label.1 right.0 right.1 semicolon.0 rest right.2 ended) (semicolon.3.0 ∙ right.3.0))

  variable_array_completes : (ts : List Token) (v : Item) (rest : List Token) → Ended (PlainVariableArray text) ts v rest → IsItem text ts v rest
  variable_array_completes ts v rest p =
      let array = p.2 in
      let semicolon = p.3 in
      let type = array.3 in
      let label = type.3 in
      let right = label.3 in
      let ended : IsMark mark.Semicolon right.1 semicolon.0 rest = subst (λ m. IsMark mark.Semicolon m semicolon.0 rest) right.3.1 (subst (λ m. IsMark mark.Semicolon p.1 semicolon.0 m) (sym semicolon.3.1) semicolon.2) in
      array_completes ts array.0 array.1 (variable type.0) type.1 v rest array.2 (var_completes array.1 type.0 type.1 type.2 (one_ends (kind.Mark mark.Colon) (λ e. cc) (λ e. cc) type.1 label.2.0 label.2.1 label.2.2))
      (label_completes array.0.0 true (Some array.0.1) type.0 type.1 label.0 label.1 (Some right.0) v rest label.2 (right_follows label.1 right.0 right.1 right.2) (right_completes false label.1 right.0 right.1 semicolon.0 rest right.2 ended) (semicolon.3.0 ∙ right.3.0))

  constraint_completes : (ts : List Token) (v : Item) (rest : List Token) → Ended (PlainConstraint text) ts v rest → IsItem text ts v rest
  constraint_completes ts v rest p =
      let first = p.2 in
      let called_by = first.3 in
      let paren = called_by.3 in
      let arguments = paren.3 in
      let says = arguments.3 in
      let semicolon = p.3 in
      let ended : IsMark mark.Semicolon says.1 semicolon.0 rest = subst (λ m. IsMark mark.Semicolon m semicolon.0 rest) says.3.1 (subst (λ m. IsMark mark.Semicolon p.1 semicolon.0 m) (sym semicolon.3.1) semicolon.2) in
      let follows = semicolon_follows says.1 semicolon.0 rest ended in
      one_first (ItemAfter text) (kind.Word word.Constraint) ts first.0 first.1 v rest first.2 (called_by.0, called_by.1, called_by.2, (paren.0, paren.1, paren.2, (arguments.0, arguments.1, list_maps PlainExpr IsExpr mark.CloseParen (λ e. cc) (λ e. cc) expr_completes paren.1 arguments.0 arguments.1 arguments.2, (says.0, says.1, annotations_complete text arguments.1 says.0 says.1 says.2 follows.ends follows.no_more, (semicolon.0, rest, ended, (semicolon.3.0 ∙ says.3.0, refl))))))

  -- a goal, and the `;` behind it
  goal_completes : (ts : List Token) (goal : Goal) (middle : List Token) (t : Token) (rest : List Token) → PlainGoal ts goal middle → IsMark mark.Semicolon middle t rest → NotesEnd ts × IsGoal ts goal rest
  goal_completes ts goal middle t rest p semicolon = ⊎_elim
      (λ any.
      let ended : IsMark mark.Semicolon any.1 t rest = subst (λ m. IsMark mark.Semicolon m t rest) any.3.1 semicolon in
      (one_follows (kind.Word word.Satisfy) (λ e. cc) (λ e. cc) (λ e. cc) ts any.0 any.1 any.2, one_first GoalAfter (kind.Word word.Satisfy) ts any.0 any.1 goal rest any.2 (t, rest, ended, (any.3.0, refl))))
      (λ more. ⊎_elim
      (λ least.
      let ended : IsMark mark.Semicolon least.3.1 t rest = subst (λ m. IsMark mark.Semicolon m t rest) least.3.3.1 semicolon in
      (one_follows (kind.Word word.Minimize) (λ e. cc) (λ e. cc) (λ e. cc) ts least.0 least.1 least.2, one_first GoalAfter (kind.Word word.Minimize) ts least.0 least.1 goal rest least.2 (least.3.0, rest, last_completes least.1 least.3.0 least.3.1 t rest least.3.2 ended, (least.3.3.0, refl))))
      (λ greatest.
      let ended : IsMark mark.Semicolon greatest.3.1 t rest = subst (λ m. IsMark mark.Semicolon m t rest) greatest.3.3.1 semicolon in
      (one_follows (kind.Word word.Maximize) (λ e. cc) (λ e. cc) (λ e. cc) ts greatest.0 greatest.1 greatest.2, one_first GoalAfter (kind.Word word.Maximize) ts greatest.0 greatest.1 goal rest greatest.2 (greatest.3.0, rest, last_completes greatest.1 greatest.3.0 greatest.3.1 t rest greatest.3.2 ended, (greatest.3.3.0, refl))))
      more)
      p

  solve_completes : (ts : List Token) (v : Item) (rest : List Token) → Ended (PlainSolve text) ts v rest → IsItem text ts v rest
  solve_completes ts v rest p =
      let first = p.2 in
      let says = first.3 in
      let goal = says.3 in
      let semicolon = p.3 in
      let ended : IsMark mark.Semicolon goal.1 semicolon.0 rest = subst (λ m. IsMark mark.Semicolon m semicolon.0 rest) goal.3.1 (subst (λ m. IsMark mark.Semicolon p.1 semicolon.0 m) (sym semicolon.3.1) semicolon.2) in
      let found = goal_completes says.1 goal.0 goal.1 semicolon.0 rest goal.2 ended in
      one_first (ItemAfter text) (kind.Word word.Solve) ts first.0 first.1 v rest first.2 (says.0, says.1, annotations_complete text first.1 says.0 says.1 says.2 found.0.ends found.0.no_more, (goal.0, rest, found.1, (semicolon.3.0 ∙ goal.3.0, refl)))

  item_completes : (ts : List Token) (v : Item) (rest : List Token) → PlainItem text ts v rest → IsItem text ts v rest
  item_completes ts v rest p = ⊎_elim
      (λ a. one_first (ItemAfter text) (kind.Word word.Predicate) ts a.0 a.1 v rest a.2 a.3)
      (λ p1. ⊎_elim (parameter_completes ts v rest)
      (λ p2. ⊎_elim (parameter_array_completes ts v rest)
      (λ p3. ⊎_elim (variable_completes ts v rest)
      (λ p4. ⊎_elim (variable_array_completes ts v rest)
      (λ p5. ⊎_elim (constraint_completes ts v rest) (solve_completes ts v rest) p5) p4) p3) p2) p1)
      p

  -- ---- to the plain grammar

  last_included : Includes IsLastExpr (Ended PlainExpr)
  last_included ts e rest p = (p.0, p.1, expr_included ts p.0 p.1 p.2, p.3)

  -- a right side that may not be missing
  right_included : (ts : List Token) (right : Option Expr) (rest : List Token) → RightSide false ts right rest → (e : Expr) × (right ≡ Some e) × Ended PlainRight ts e rest
  right_included ts right rest p = ⊎_elim
      (λ some.
      let last = last_included some.1 some.3.0 some.3.1 some.3.2 in
      (some.3.0, some.3.3.0, (last.0, last.1, (some.0, some.1, some.2, last.2), (last.3.0, last.3.1, last.3.2, (last.3.3.0, some.3.3.1 ∙ last.3.3.1)))))
      (λ nothing. absurd nothing)
      p

  -- one that may be
  optional_included : Includes (RightSide true) (Ended (Optional PlainRight))
  optional_included ts right rest p = ⊎_elim
      (λ some.
      let r = right_included ts right rest (inl some) in
      let e = r.2 in
      (Some e.0, e.1, inl (e.0, e.1, e.2, (refl, refl)), (e.3.0, e.3.1, e.3.2, (r.1 ∙ ap Some e.3.3.0, e.3.3.1))))
      (λ nothing. (None, ts, inr (refl, refl), (nothing.0, nothing.1, nothing.2, (nothing.3.0, nothing.3.1))))
      p

  -- a label and a right side
  named_included : (at : ℕ) (isvar : Bool) (index : Option (ℤ × ℤ)) (type : Base) (ts : List Token) (v : Item) (rest : List Token) → IsNamed text at index (record { variable = isvar; base = type }) ts v rest
      → (label : Token × Marked) × (middle : List Token) × PlainLabel text ts label middle × (right : Option Expr) × RightSide (isvar && is_none index) middle right rest × (v ≡ Declared at isvar index type label right)
  named_included at isvar index type ts v rest p =
      let name = p.3 in
      let says = name.3 in
      let side = says.3 in
      let label : Token × Marked = (name.0, says.0) in
      (label, says.1, (p.0, p.1, p.2, (name.0, name.1, name.2, (says.0, says.1, annotations_included text name.1 says.0 says.1 says.2, (refl, refl)))), side.0, subst (λ r. RightSide (isvar && is_none index) says.1 side.0 r) (sym side.3.1) side.2, side.3.0)

  declaration_included : (t : Token) (ts : List Token) (v : Item) (rest : List Token) → IsDeclaration text t ts v rest → PlainItem text (t ∷ ts) v rest
  declaration_included t ts v rest p = ⊎_elim
      (λ parameters.
      let n = named_included t.from false None parameters.0 p.1 v rest (subst (λ x. IsNamed text t.from None x p.1 v rest) parameters.1 p.3) in
      let r = right_included n.1 n.3 rest n.4 in
      let e = r.2 in
      let i = Declared t.from false None parameters.0 n.0 (Some e.0) in
      let is : v ≡ i = n.5 ∙ ap (Declared t.from false None parameters.0 n.0) (r.1 ∙ ap Some e.3.3.0) in
      inr (inl (i, e.1, ((t.from, parameters.0), p.1, (refl, parameters.2), (n.0, n.1, n.2, (e.0, e.1, e.2, (refl, refl)))), (e.3.0, e.3.1, e.3.2, (is, e.3.3.1)))))
      (λ variables.
      let n = named_included t.from true None variables.0 p.1 v rest (subst (λ x. IsNamed text t.from None x p.1 v rest) variables.1 p.3) in
      let e = optional_included n.1 n.3 rest n.4 in
      let i = Declared t.from true None variables.0 n.0 e.0 in
      let is : v ≡ i = n.5 ∙ ap (Declared t.from true None variables.0 n.0) e.3.3.0 in
      inr (inr (inr (inl (i, e.1, ((t.from, variables.0), p.1, (refl, variables.2), (n.0, n.1, n.2, (e.0, e.1, e.2, (refl, refl)))), (e.3.0, e.3.1, e.3.2, (is, e.3.3.1)))))))
      (element_after t.kind t ts p.0 p.1 refl p.2)

  array_included : (t : Token) (ts : List Token) (v : Item) (rest : List Token) → t.kind ≡ kind.Word word.Array → IsArray text t ts v rest → PlainItem text (t ∷ ts) v rest
  array_included t ts v rest is_array p =
      let index = p.3 in
      let close = index.3 in
      let of = close.3 in
      let element = of.3 in
      let array : PlainArrayOf (t ∷ ts) (t.from, index.0) of.1 = (t, ts, (is_array, refl, refl), (p.0, p.1, p.2, (index.0, index.1, index.2, (close.0, close.1, close.2, (of.0, of.1, of.2, (refl, refl)))))) in
      ⊎_elim
      (λ parameters.
      let n = named_included t.from false (Some index.0) parameters.0 element.1 v rest (subst (λ x. IsNamed text t.from (Some index.0) x element.1 v rest) parameters.1 element.3) in
      let r = right_included n.1 n.3 rest n.4 in
      let e = r.2 in
      let i = Declared t.from false (Some index.0) parameters.0 n.0 (Some e.0) in
      let is : v ≡ i = n.5 ∙ ap (Declared t.from false (Some index.0) parameters.0 n.0) (r.1 ∙ ap Some e.3.3.0) in
      inr (inr (inl (i, e.1, ((t.from, index.0), of.1, array, (parameters.0, element.1, parameters.2, (n.0, n.1, n.2, (e.0, e.1, e.2, (refl, refl))))), (e.3.0, e.3.1, e.3.2, (is, e.3.3.1))))))
      (λ variables.
      let n = named_included t.from true (Some index.0) variables.0 element.1 v rest (subst (λ x. IsNamed text t.from (Some index.0) x element.1 v rest) variables.1 element.3) in
      let r = right_included n.1 n.3 rest n.4 in
      let e = r.2 in
      let i = Declared t.from true (Some index.0) variables.0 n.0 (Some e.0) in
      let is : v ≡ i = n.5 ∙ ap (Declared t.from true (Some index.0) variables.0 n.0) (r.1 ∙ ap Some e.3.3.0) in
      inr (inr (inr (inr (inl (i, e.1, ((t.from, index.0), of.1, array, (variables.0, element.1, variables.2, (n.0, n.1, n.2, (e.0, e.1, e.2, (refl, refl))))), (e.3.0, e.3.1, e.3.2, (is, e.3.3.1))))))))
      (element_included of.1 element.0 element.1 element.2)

  constraint_included : (t : Token) (ts : List Token) (v : Item) (rest : List Token) → t.kind ≡ kind.Word word.Constraint → IsConstraint text t ts v rest → PlainItem text (t ∷ ts) v rest
  constraint_included t ts v rest is_constraint p =
      let paren = p.3 in
      let arguments = paren.3 in
      let says = arguments.3 in
      let semicolon = says.3 in
      let i = item.Constraint t.from p.0.from p.0.to arguments.0 in
      inr (inr (inr (inr (inr (inl (i, says.1, (t, ts, (is_constraint, refl, refl), (p.0, p.1, p.2, (paren.0, paren.1, paren.2, (arguments.0, arguments.1, list_maps IsExpr PlainExpr mark.CloseParen (λ e. cc) (λ e. cc) (whatever_follows IsExpr PlainExpr expr_included) paren.1 arguments.0 arguments.1 arguments.2, (says.0, says.1, annotations_included text arguments.1 says.0 says.1 says.2, (refl, refl)))))), semicolon))))))

  goal_after : (k : TokenKind) (t : Token) (ts : List Token) (goal : Goal) (rest : List Token) → t.kind ≡ k → GoalAfter k t ts goal rest → Ended PlainGoal (t ∷ ts) goal rest
  goal_after (kind.Word word.Satisfy) t ts goal rest e p = (goals.Satisfy, ts, inl (t, ts, (e, refl, refl), (refl, refl)), p)
  goal_after (kind.Word word.Minimize) t ts goal rest e p =
      let last = last_included ts p.0 p.1 p.2 in
      (goals.Minimize t.from last.0, last.1, inr (inl (t, ts, (e, refl, refl), (last.0, last.1, last.2, (refl, refl)))), (last.3.0, last.3.1, last.3.2, (p.3.0 ∙ ap (goals.Minimize t.from) last.3.3.0, p.3.1 ∙ last.3.3.1)))
  goal_after (kind.Word word.Maximize) t ts goal rest e p =
      let last = last_included ts p.0 p.1 p.2 in
      (goals.Maximize t.from last.0, last.1, inr (inr (t, ts, (e, refl, refl), (last.0, last.1, last.2, (refl, refl)))), (last.3.0, last.3.1, last.3.2, (p.3.0 ∙ ap (goals.Maximize t.from) last.3.3.0, p.3.1 ∙ last.3.3.1)))
  goal_after _ t ts goal rest e p = absurd p

  solve_included : (t : Token) (ts : List Token) (v : Item) (rest : List Token) → t.kind ≡ kind.Word word.Solve → IsSolve text t ts v rest → PlainItem text (t ∷ ts) v rest
  solve_included t ts v rest is_solve p =
      let goal = p.3 in
      let g = by_kind GoalAfter (Ended PlainGoal) goal_after p.1 goal.0 goal.1 goal.2 in
      let i = item.Solve t.from g.0 in
      let solve : PlainSolve text (t ∷ ts) i g.1 = (t, ts, (is_solve, refl, refl), (p.0, p.1, annotations_included text ts p.0 p.1 p.2, (g.0, g.1, g.2, (refl, refl)))) in
      inr (inr (inr (inr (inr (inr (i, g.1, solve, (g.3.0, g.3.1, g.3.2, (goal.3.0 ∙ ap (item.Solve t.from) g.3.3.0, goal.3.1 ∙ g.3.3.1))))))))

  item_after : (k : TokenKind) (t : Token) (ts : List Token) (v : Item) (rest : List Token) → t.kind ≡ k → ItemAfter text k t ts v rest → PlainItem text (t ∷ ts) v rest
  item_after (kind.Word word.Predicate) t ts v rest e p = inl (t, ts, (e, refl, refl), p)
  item_after (kind.Word word.Var) t ts v rest e p = declaration_included t ts v rest p
  item_after (kind.Word word.Bool) t ts v rest e p = declaration_included t ts v rest p
  item_after (kind.Word word.Int) t ts v rest e p = declaration_included t ts v rest p
  item_after (kind.Word word.Float) t ts v rest e p = declaration_included t ts v rest p
  item_after (kind.Word word.Set) t ts v rest e p = declaration_included t ts v rest p
  item_after (kind.Word word.Array) t ts v rest e p = array_included t ts v rest e p
  item_after (kind.Word word.Constraint) t ts v rest e p = constraint_included t ts v rest e p
  item_after (kind.Word word.Solve) t ts v rest e p = solve_included t ts v rest e p
  item_after _ t ts v rest e p = absurd p

  item_included : (ts : List Token) (v : Item) (rest : List Token) → IsItem text ts v rest → PlainItem text ts v rest
  item_included = by_kind (ItemAfter text) (PlainItem text) item_after

  -- ---- lists

  row_read : (ts : List Token) (is : List Item) (rest : List Token) → IsRow (PlainItem text) ts is rest → AreItemsTo text ts is rest
  row_read ts is rest (none at) = sym at
  row_read ts is rest (more {middle = middle} {v = i} {vs = others} a b) = (middle, item_completes ts i middle a, row_read middle others rest b)

  read_row : (ts : List Token) (is : List Item) (rest : List Token) → AreItemsTo text ts is rest → IsRow (PlainItem text) ts is rest
  read_row ts [] rest p = none (sym p)
  read_row ts (i ∷ is) rest p = more (item_included ts i p.0 p.1) (read_row p.0 is rest p.2)

pub items_agree : ItemsAgree
items_agree text ts i rest = (item_completes text ts i rest, item_included text ts i rest)

pub grammars_agree : GrammarsAgree
grammars_agree text ts is = (row_read text ts is [], read_row text ts is [])
