-- Items are read in one way, one after the other.
use Rattle.std.proofs.Common.{◌≡◌, ℕ, List, [], ◌∷◌, ◌++◌, sym, ◌∙◌, refl, ap, subst, ⊎_elim, inl, inr, Err, Result}
use Rattle.std.specs.Borrow.{Bor}
use Rattle.fzn_token.specs.declared.token.Token.{Token}
use Rattle.fzn_token.specs.declared.token.Word.{Word}
use Rattle.fzn_token.specs.declared.token.Word.TheVariants as word
use Rattle.fzn_token.specs.declared.token.Mark.TheVariants as mark
use Rattle.fzn_token.specs.declared.token.TokenKind.{TokenKind}
use Rattle.fzn_token.specs.declared.token.TokenKind.TheVariants as kind
use Rattle.fzn_item.specs.declared.item.Item.{Item}
use Rattle.fzn_item.specs.declared.item.Item.TheVariants as item
use Rattle.fzn_item.specs.declared.item.Expr.{Expr}
use Rattle.fzn_item.specs.declared.item.Marked.{Marked}
use Rattle.fzn_token.specs.declared.refusal.Refusal.TheVariants as refusal
use Rattle.fzn_token.specs.declared.refusal.ModelError.{ModelError}
use Rattle.fzn_token.specs.declared.refusal.ModelError.TheVariants as errors
use Rattle.fzn_item.specs.declared.item.Goal.{Goal}
use Rattle.fzn_item.specs.declared.item.Goal.TheVariants as goals
use Rattle.fzn_item.specs.declared.single.Stop.{Stop}
use Rattle.fzn_item.specs.Productions.{Production, Gives, ◌>>=◌, IsAny, IsMark, IsName, IsListOf, Fails}
use Rattle.fzn_item.specs.Readers.{Reads}
use Rattle.fzn_item.specs.Exprs.{IsExpr, IsLastExpr}
use Rattle.fzn_item.specs.Marks.{AreAnnotations}
use Rattle.fzn_item.specs.Items.{ToSemicolon, IsConstraint, GoalAfter, IsGoal, IsSolve, ItemAfter, IsItem, AreItemsTo, IsUnread, GivesNext, Answers}
use Rattle.fzn_item.proofs.Combining.{IsUnique, one_unique, gives_unique, then_unique, fails_first, fails_then, fails_after, reads_then, reads_after, refused_first}
use Rattle.fzn_item.proofs.ExprLaws.{arguments_unique, last_unique, nothing_unique, any_unique}
use Rattle.fzn_item.proofs.MarkLaws.{annotations_unique}
use Rattle.fzn_item.proofs.DeclarationLaws.{declaration_unique, array_unique}

-- the first `;` is one
pub to_semicolon_unique : IsUnique ToSemicolon
to_semicolon_unique [] v w r s p q = absurd p
to_semicolon_unique (t ∷ ts) v w r s p q = ⊎_elim
    (λ here. ⊎_elim (λ same. (refl, here.1 ∙ sym same.1)) (λ later. absurd (later.0 here.0)) q)
    (λ past. ⊎_elim (λ same. absurd (past.0 same.0)) (λ later. to_semicolon_unique ts v w r s past.1 later.1) q)
    p

-- the parts of a constraint after its annotations, its arguments, its `(` and its name
module _ (text : List ℕ) (first : Token) where
  -- the constraint with all its parts
  abbrev Full : Token → List Expr → Production Item
  Full name arguments = IsMark mark.Semicolon >>= (λ _. Gives (item.Constraint first.from name.from name.to arguments))

  -- what follows the arguments
  abbrev AfterArguments : Token → List Expr → Production Item
  AfterArguments name arguments = AreAnnotations text >>= (λ _. Full name arguments)

  -- what follows the `(`
  abbrev AfterParen : Token → Production Item
  AfterParen name = IsListOf IsExpr mark.CloseParen >>= AfterArguments name

  -- what follows the name
  abbrev AfterName : Token → Production Item
  AfterName name = IsMark mark.OpenParen >>= (λ _. AfterParen name)

  -- a constraint is read in one way
  constraint_unique : IsUnique (IsConstraint text first)
  constraint_unique = then_unique IsName AfterName (one_unique kind.Name) (λ name.
      then_unique (IsMark mark.OpenParen) (λ _. AfterParen name) (one_unique (kind.Mark mark.OpenParen)) (λ _.
      then_unique (IsListOf IsExpr mark.CloseParen) (AfterArguments name) arguments_unique (λ arguments.
      then_unique (AreAnnotations text) (λ _. Full name arguments) (annotations_unique text) (λ _.
      then_unique (IsMark mark.Semicolon) _ (one_unique (kind.Mark mark.Semicolon)) (λ _. gives_unique (item.Constraint first.from name.from name.to arguments))))))

  module _ (ts after_name after_paren : List Token) (name t : Token) (is_name : IsName ts name after_name) (paren : IsMark mark.OpenParen after_name t after_paren) where
    -- what follows the `(` decides
    after_the_paren : (r : Result (Item × Bor (List Token)) Stop) → Reads (AfterParen name) after_paren r → Reads (IsConstraint text first) ts r
    after_the_paren r reads = reads_after kind.Name AfterName ts after_name name r is_name (reads_after (kind.Mark mark.OpenParen) (λ _. AfterParen name) after_name after_paren t r paren reads)

    -- the arguments are refused
    pub arguments_refused : (e : Stop) → Reads (IsListOf IsExpr mark.CloseParen) after_paren (Err e) → Reads (IsConstraint text first) ts (Err e)
    arguments_refused e refused = after_the_paren (Err e) (refused_first (IsListOf IsExpr mark.CloseParen) (AfterArguments name) after_paren e refused)

    module _ (arguments : List Expr) (after_arguments : List Token) (found : IsListOf IsExpr mark.CloseParen after_paren arguments after_arguments) where
      -- the annotations are refused
      pub annotations_refused : (e : Stop) → Reads (AreAnnotations text) after_arguments (Err e) → Reads (IsConstraint text first) ts (Err e)
      annotations_refused e refused = after_the_paren (Err e) (reads_then (IsListOf IsExpr mark.CloseParen) (AfterArguments name) after_paren after_arguments arguments (Err e) arguments_unique found
          (refused_first (AreAnnotations text) (λ _. Full name arguments) after_arguments e refused))

      -- no `;` follows the annotations
      pub no_semicolon : (says : Marked) (rest : List Token) → AreAnnotations text after_arguments says rest → Fails (IsMark mark.Semicolon) rest → Fails (IsConstraint text first) ts
      no_semicolon says rest annotations fails =
          fails_after kind.Name AfterName ts after_name name is_name (fails_after (kind.Mark mark.OpenParen) (λ _. AfterParen name) after_name after_paren t paren
          (fails_then (IsListOf IsExpr mark.CloseParen) (AfterArguments name) after_paren after_arguments arguments arguments_unique found
          (fails_then (AreAnnotations text) (λ _. Full name arguments) after_arguments rest says (annotations_unique text) annotations
          (fails_first (IsMark mark.Semicolon) (λ _. Gives (item.Constraint first.from name.from name.to arguments)) rest fails))))

-- what follows a goal's word is read in one way
goal_after_unique : (k : TokenKind) (t : Token) → IsUnique (GoalAfter k t)
goal_after_unique (kind.Word word.Satisfy) t = then_unique _ _ (one_unique (kind.Mark mark.Semicolon)) (λ _. gives_unique goals.Satisfy)
goal_after_unique (kind.Word word.Minimize) t = then_unique _ _ last_unique (λ what. gives_unique (goals.Minimize t.from what))
goal_after_unique (kind.Word word.Maximize) t = then_unique _ _ last_unique (λ what. gives_unique (goals.Maximize t.from what))
goal_after_unique _ t = nothing_unique

-- a goal is read in one way
goal_unique : IsUnique IsGoal
goal_unique = then_unique _ (λ first. GoalAfter first.kind first) any_unique (λ first. goal_after_unique first.kind first)

-- no expression follows `minimize`
pub minimize_fails : (k : TokenKind) (w : Word) (t : Token) (ts : List Token) → k ≡ kind.Word w → w ≡ word.Minimize → Fails IsLastExpr ts → Fails (GoalAfter k t) ts
minimize_fails k w t ts is is_word fails = subst (λ x. Fails (GoalAfter x t) ts) (sym (is ∙ ap kind.Word is_word)) (λ v rest p. fails p.0 p.1 p.2)

-- no expression follows `maximize`
pub maximize_fails : (k : TokenKind) (w : Word) (t : Token) (ts : List Token) → k ≡ kind.Word w → w ≡ word.Maximize → Fails IsLastExpr ts → Fails (GoalAfter k t) ts
maximize_fails k w t ts is is_word fails = subst (λ x. Fails (GoalAfter x t) ts) (sym (is ∙ ap kind.Word is_word)) (λ v rest p. fails p.0 p.1 p.2)

-- the parts of a solve item after its goal and its annotations
module _ (text : List ℕ) (first : Token) where
  -- the solve item with its goal
  abbrev Solved : Goal → Production Item
  Solved goal = Gives (item.Solve first.from goal)

  -- what follows the annotations
  abbrev AfterAnnotations : Production Item
  AfterAnnotations = IsGoal >>= Solved

  -- a solve item is read in one way
  solve_unique : IsUnique (IsSolve text first)
  solve_unique = then_unique (AreAnnotations text) (λ _. AfterAnnotations) (annotations_unique text) (λ _. then_unique IsGoal Solved goal_unique (λ goal. gives_unique (item.Solve first.from goal)))

  -- the annotations are refused
  pub solve_annotations_refused : (ts : List Token) (e : Stop) → Reads (AreAnnotations text) ts (Err e) → Reads (IsSolve text first) ts (Err e)
  solve_annotations_refused ts e refused = refused_first (AreAnnotations text) (λ _. AfterAnnotations) ts e refused

  -- the goal is refused
  pub goal_refused : (ts rest : List Token) (says : Marked) (e : Stop) → AreAnnotations text ts says rest → Reads IsGoal rest (Err e) → Reads (IsSolve text first) ts (Err e)
  goal_refused ts rest says e found refused = reads_then (AreAnnotations text) (λ _. AfterAnnotations) ts rest says (Err e) (annotations_unique text) found (refused_first IsGoal Solved rest e refused)

-- what follows an item's first word is read in one way
item_after_unique : (text : List ℕ) (k : TokenKind) (t : Token) → IsUnique (ItemAfter text k t)
item_after_unique text (kind.Word word.Predicate) t = then_unique _ _ to_semicolon_unique (λ _. gives_unique (item.Predicate t.from))
item_after_unique text (kind.Word word.Var) t = declaration_unique text t
item_after_unique text (kind.Word word.Bool) t = declaration_unique text t
item_after_unique text (kind.Word word.Int) t = declaration_unique text t
item_after_unique text (kind.Word word.Float) t = declaration_unique text t
item_after_unique text (kind.Word word.Set) t = declaration_unique text t
item_after_unique text (kind.Word word.Array) t = array_unique text t
item_after_unique text (kind.Word word.Constraint) t = constraint_unique text t
item_after_unique text (kind.Word word.Solve) t = solve_unique text t
item_after_unique text _ t = nothing_unique

-- an item is read in one way
pub item_unique : (text : List ℕ) → IsUnique (IsItem text)
item_unique text = then_unique IsAny (λ first. ItemAfter text first.kind first) any_unique (λ first. item_after_unique text first.kind first)

-- one more item
pub items_push : (text : List ℕ) (ts : List Token) (is : List Item) (rest : List Token) (i : Item) (after : List Token) → AreItemsTo text ts is rest → IsItem text rest i after → AreItemsTo text ts (is ++ i ∷ []) after
items_push text ts [] rest i after before one = (after, subst (λ x. IsItem text x i after) (sym before) one, refl)
items_push text ts (j ∷ is) rest i after before one = (before.0, before.1, items_push text before.0 is rest i after before.2 one)

-- the place of an item that no production reads
pub unread : (text : List ℕ) (ts : List Token) (is : List Item) (rest : List Token) (first : Token) (tail : List Token) → rest ≡ first ∷ tail → AreItemsTo text ts is rest → Fails (IsItem text) rest → IsUnread text ts first.from
unread text ts is rest first tail same before fails = record {
  items = is;
  first = first;
  rest = tail;
  before = subst (λ x. AreItemsTo text ts is x) same before;
  fails = subst (λ x. Fails (IsItem text) x) same fails;
  place = refl;
}

-- where items are read and the next is refused, so are all
pub next_refused : (text : List ℕ) (ts : List Token) (is : List Item) (rest : List Token) (e : ModelError) → AreItemsTo text ts is rest → GivesNext text rest (Err e) → Answers text ts (Err e)
next_refused text ts is rest (errors.Refused (refusal.Syntax at)) before next = subst (IsUnread text ts) (sym next.place) (unread text ts is rest next.first next.rest next.begins before next.fails)
next_refused text ts is rest (errors.Refused _) before next = absurd next
next_refused text ts is rest errors.Memory before next = tt

-- the tokens so far have no `;`
pub record HasNoneSoFar (ts rest : List Token) : Type 0 where
  pub goes_on : (end : List Token) → ToSemicolon rest tt end → ToSemicolon ts tt end
  pub stops : Fails ToSemicolon rest → Fails ToSemicolon ts

-- at the start no token is passed
pub none_passed : (ts : List Token) → HasNoneSoFar ts ts
none_passed ts = record { goes_on = λ end p. p; stops = λ fails. fails }

-- one more token that is no `;` is passed
pub one_passed : (ts rest after : List Token) (t : Token) → HasNoneSoFar ts rest → rest ≡ t ∷ after → (t.kind ≡ kind.Mark mark.Semicolon → ⊥) → HasNoneSoFar ts after
one_passed ts rest after t so_far begins other = record {
  goes_on = λ end p. so_far.goes_on end (subst (λ x. ToSemicolon x tt end) (sym begins) (inr (other, p)));
  stops = λ fails. so_far.stops (λ v end p. ⊎_elim (λ here. other here.0) (λ past. fails v end past.1) (subst (λ x. ToSemicolon x v end) begins p));
}

-- the next token is the `;`
pub semicolon_here : (ts rest after : List Token) (t : Token) → HasNoneSoFar ts rest → rest ≡ t ∷ after → t.kind ≡ kind.Mark mark.Semicolon → ToSemicolon ts tt after
semicolon_here ts rest after t so_far begins is = so_far.goes_on after (subst (λ x. ToSemicolon x tt after) (sym begins) (inl (is, refl)))
