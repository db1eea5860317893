-- Items that are alike have the same problem.
use Rattle.std.proofs.Common.{◌≡◌, ℕ, ◌&&◌, not, Bool, true, false, inl, inr, List, [], ◌∷◌, length, Option, Some, None, is_some, Ok, refl, sym, subst}
use Rattle.std.specs.Prelude.{ℤ, nat_lt}
use Rattle.dcsp_domain.specs.Ranges.{count_between}
use Rattle.dcsp_domain.specs.Sets.{set_of as values_in}
use Rattle.fzn_token.specs.declared.token.Token.{Token}
use Rattle.fzn_token.specs.Tokens.{AreTokens}
use Rattle.fzn_token.proofs.OneAnswer.{one_answer_lem}
use Rattle.fzn_item.specs.declared.item.Expr.{Expr}
use Rattle.fzn_item.specs.declared.item.Base.{Base}
use Rattle.fzn_item.specs.declared.item.Base.TheVariants as base
use Rattle.fzn_item.specs.declared.item.Marked.{Marked}
use Rattle.fzn_item.specs.declared.item.Goal.{Goal}
use Rattle.fzn_item.specs.declared.item.Item.{Item}
use Rattle.fzn_item.specs.Items.{AreItemsTo}
use Rattle.dcsp_rule.specs.declared.rule.Term.{Term}
use Rattle.dcsp_rule.specs.declared.rule.Term.TheVariants.{Var}
use Rattle.dcsp_rule.specs.declared.rule.Members.{Members}
use Rattle.dcsp_rule.specs.declared.rule.Members.TheVariants as members
use Rattle.dcsp_rule.specs.declared.rule.Rule.TheVariants.{Plain}
use Rattle.dcsp_meaning.specs.declared.kinds.ConstraintKind.TheVariants.{SetIn}
use Rattle.dcsp_common.specs.declared.limits.Which.{Which}
use Rattle.dcsp_common.specs.declared.limits.Which.TheVariants as which
use Rattle.dcsp_common.specs.Limits.{most}
use Rattle.dcsp_rule.specs.Problems.{Contents}
use Rattle.fzn_scope.specs.declared.place.Wanted.{Wanted}
use Rattle.fzn_token.specs.declared.refusal.Refusal.TheVariants as refusal
use Rattle.fzn_scope.specs.Checks.{refused_if}
use Rattle.fzn_scope.specs.Names.{Scope, declared_as, bytes_at}
use Rattle.fzn_scope.specs.Places.{one_of, count_of, set_of}
use Rattle.fzn_scope.specs.Rules.{constraint_rule}
use Rattle.fzn_model.specs.Building.{with_variable, with_rule}
use Rattle.fzn_model.specs.Declarations.{SoFar, within, is_late, declaration, is_boolean, constant, value_of, parameter, domain_of, source_of, equality, with_source, variable, check_element, element_set, is_index, is_shaped, with_member, with_members, with_set, elements, array}
use Rattle.fzn_model.specs.Items.{start, declared_by, declare, constraint, an_integer, aim_of, solve, predicate, after, after_all, finished, resolved}
use Rattle.fzn_model.specs.Models.{Answers}
use Rattle.law_inputs.specs.Gapped.{AllAlike, GapsAreIgnored}
use Rattle.law_inputs.specs.Ignored.{NotesLeftOut, none, kept}
use Rattle.law_inputs.proofs.Carrying.{Pairwise, none_left}
use Rattle.law_inputs.proofs.AlikeItems.{ExprsAlike, RightsAlike, both_none, both_some, GoalsAlike, both_satisfy, both_least, both_greatest, ItemsAlike, both_predicate, both_declare, both_constraint, both_solve, item_carried}
use Rattle.law_inputs.proofs.Keeping.{Keeps, kept_value, keeps_itself, keeps_bind, keeps_if, one_keeps, list_keeps, count_keeps, set_keeps, constraint_keeps, variable_keeps, rule_keeps}

within_keeps : (w : Which) (count at to : ℕ) → Keeps (within w count at) (within w count to)
within_keeps w count at to = keeps_if (nat_lt (most w) count) (refusal.Limit w count at) (refusal.Limit w count to)

declaration_keeps : (s : SoFar) (at to name_at name_to : ℕ) (name : List ℕ) → Keeps (declaration s at name_at name) (declaration s to name_to name)
declaration_keeps s at to name_at name_to name =
    keeps_bind (refused_if (is_late s) (refusal.Misplaced at)) (refused_if (is_late s) (refusal.Misplaced to)) _ _ (keeps_if (is_late s) (refusal.Misplaced at) (refusal.Misplaced to)) (λ _.
    keeps_if (is_some (declared_as s.scope name)) (refusal.Duplicate name_at) (refusal.Duplicate name_to))

domain_keeps : (at to : ℕ) (type : Base) → Keeps (domain_of at type) (domain_of to type)
domain_keeps at to base.Bool = refl
domain_keeps at to base.Int = tt
domain_keeps at to base.Float = tt
domain_keeps at to base.Set = tt
domain_keeps at to (base.Range low high) = keeps_bind (within which.DomainSize (count_between low high) at) (within which.DomainSize (count_between low high) to) _ _ (within_keeps which.DomainSize (count_between low high) at to) (λ _. refl)
domain_keeps at to (base.Listed values) = keeps_bind (within which.DomainSize (length (values_in values)) at) (within which.DomainSize (length (values_in values)) to) _ _ (within_keeps which.DomainSize (length (values_in values)) at to) (λ _. refl)

with_source_keeps : (at to : ℕ) (problem : Contents) (boolean : Bool) (number : ℕ) (source : Option Term) → Keeps (with_source at problem boolean number source) (with_source to problem boolean number source)
with_source_keeps at to problem boolean number None = refl
with_source_keeps at to problem boolean number (Some source) = rule_keeps at to problem (Plain (equality boolean) (Var number ∷ source ∷ []) [] [] (members.Listed []))

element_keeps : (at to : ℕ) (type : Base) → Keeps (check_element at type) (check_element to type)
element_keeps at to base.Bool = refl
element_keeps at to base.Int = refl
element_keeps at to base.Float = tt
element_keeps at to base.Set = tt
element_keeps at to (base.Range low high) = refl
element_keeps at to (base.Listed values) = refl

member_keeps : (at to : ℕ) (problem : Contents) (set : Option Members) (term : Term) → Keeps (with_member at problem set term) (with_member to problem set term)
member_keeps at to problem None term = refl
member_keeps at to problem (Some set) term = rule_keeps at to problem (Plain SetIn (term ∷ []) [] [] set)

members_keep : (at to : ℕ) (problem : Contents) (set : Option Members) (terms : List Term) → Keeps (with_members at problem set terms) (with_members to problem set terms)
members_keep at to problem set [] = refl
members_keep at to problem set (term ∷ terms) = keeps_bind (with_member at problem set term) (with_member to problem set term) _ _ (member_keeps at to problem set term) (λ next. members_keep at to next set terms)

with_set_keeps : (isvar : Bool) (at to : ℕ) (problem : Contents) (set : Option Members) (terms : List Term) → Keeps (with_set isvar at problem set terms) (with_set isvar to problem set terms)
with_set_keeps true at to problem set terms = members_keep at to problem set terms
with_set_keeps false at to problem set terms = refl

predicate_keeps : (s : SoFar) (at to : ℕ) → Keeps (predicate s at) (predicate s to)
unfolding predicate
predicate_keeps s at to = keeps_bind (refused_if (is_late s) (refusal.Misplaced at)) (refused_if (is_late s) (refusal.Misplaced to)) _ _ (keeps_if (is_late s) (refusal.Misplaced at) (refusal.Misplaced to)) (λ _. refl)

module _ (text other : List ℕ) where
  constant_keeps : (scope : Scope) (boolean : Bool) (a b : Expr) → ExprsAlike text other a b → Keeps (constant text scope boolean a) (constant other scope boolean b)
  constant_keeps scope boolean a b h = let w : Wanted = record { boolean = boolean; constant = true } in keeps_bind (one_of text scope w a) (one_of other scope w b) _ _ (one_keeps text other scope w a b h) (λ _. refl)

  value_keeps : (scope : Scope) (at to : ℕ) (type : Base) (a b : Expr) → ExprsAlike text other a b → Keeps (value_of text scope at type a) (value_of other scope to type b)
  value_keeps scope at to base.Bool a b h = constant_keeps scope true a b h
  value_keeps scope at to base.Int a b h = constant_keeps scope false a b h
  value_keeps scope at to (base.Range low high) a b h = constant_keeps scope false a b h
  value_keeps scope at to (base.Listed values) a b h = constant_keeps scope false a b h
  value_keeps scope at to base.Float a b h = tt
  value_keeps scope at to base.Set a b h = keeps_bind (set_of text scope a) (set_of other scope b) _ _ (set_keeps text other scope a b h) (λ _. refl)

  parameter_keeps : (s : SoFar) (at to : ℕ) (type : Base) (name_at name_to : ℕ) (name : List ℕ) (x y : Option Expr) → RightsAlike text other x y → Keeps (parameter text s at type name_at name x) (parameter other s to type name_to name y)
  unfolding parameter
  parameter_keeps s at to type name_at name_to name _ _ both_none = tt
  parameter_keeps s at to type name_at name_to name _ _ (both_some {a = a} {b = b} h) = keeps_bind (value_of text s.scope at type a) (value_of other s.scope to type b) _ _ (value_keeps s.scope at to type a b h) (λ _. refl)

  source_keeps : (scope : Scope) (boolean : Bool) (x y : Option Expr) → RightsAlike text other x y → Keeps (source_of text scope boolean x) (source_of other scope boolean y)
  source_keeps scope boolean _ _ both_none = refl
  source_keeps scope boolean _ _ (both_some {a = a} {b = b} h) = let w : Wanted = record { boolean = boolean; constant = false } in keeps_bind (one_of text scope w a) (one_of other scope w b) _ _ (one_keeps text other scope w a b h) (λ _. refl)

  variable_is_kept : (s : SoFar) (at to : ℕ) (type : Base) (name_at name_to : ℕ) (name : List ℕ) (says : Marked) (x y : Option Expr) → RightsAlike text other x y → Keeps (variable text s at type name_at name says x) (variable other s to type name_to name says y)
  unfolding variable
  variable_is_kept s at to type name_at name_to name says x y h =
      let n = length s.problem.domains in
      keeps_bind (domain_of at type) (domain_of to type) _ _ (domain_keeps at to type) (λ domain.
      keeps_bind (source_of text s.scope (is_boolean type) x) (source_of other s.scope (is_boolean type) y) _ _ (source_keeps s.scope (is_boolean type) x y h) (λ source.
      keeps_bind (with_variable name_at s.problem domain) (with_variable name_to s.problem domain) _ _ (variable_keeps name_at name_to s.problem domain) (λ widened.
      keeps_bind (with_source name_at widened (is_boolean type) n source) (with_source name_to widened (is_boolean type) n source) _ _ (with_source_keeps name_at name_to widened (is_boolean type) n source) (λ _. refl))))

  elements_keep : (scope : Scope) (isvar : Bool) (type : Base) (index : ℤ × ℤ) (name_at name_to : ℕ) (a b : Expr) → ExprsAlike text other a b → Keeps (elements text scope isvar type index name_at a) (elements other scope isvar type index name_to b)
  unfolding elements
  elements_keep scope isvar type index name_at name_to a b h =
      keeps_bind (count_of text scope a) (count_of other scope b) _ _ (count_keeps text other scope a b h) (λ count.
      keeps_bind (refused_if (not (is_index index count)) (refusal.IllTyped name_at)) (refused_if (not (is_index index count)) (refusal.IllTyped name_to)) _ _ (keeps_if (not (is_index index count)) (refusal.IllTyped name_at) (refusal.IllTyped name_to)) (λ _.
      let w : Wanted = record { boolean = is_boolean type; constant = not isvar } in list_keeps text other scope w a b h))

  array_keeps : (s : SoFar) (at to : ℕ) (isvar : Bool) (index : ℤ × ℤ) (type : Base) (name_at name_to : ℕ) (name : List ℕ) (says : Marked) (x y : Option Expr) → RightsAlike text other x y → Keeps (array text s at isvar index type name_at name says x) (array other s to isvar index type name_to name says y)
  unfolding array
  array_keeps s at to isvar index type name_at name_to name says _ _ both_none = keeps_bind (check_element at type) (check_element to type) _ _ (element_keeps at to type) (λ _. tt)
  array_keeps s at to isvar index type name_at name_to name says _ _ (both_some {a = a} {b = b} h) =
      keeps_bind (check_element at type) (check_element to type) _ _ (element_keeps at to type) (λ _.
      keeps_bind (elements text s.scope isvar type index name_at a) (elements other s.scope isvar type index name_to b) _ _ (elements_keep s.scope isvar type index name_at name_to a b h) (λ terms.
      keeps_bind (refused_if (isvar && not (is_shaped says (length terms))) (refusal.OutputShape name_at)) (refused_if (isvar && not (is_shaped says (length terms))) (refusal.OutputShape name_to)) _ _ (keeps_if (isvar && not (is_shaped says (length terms))) (refusal.OutputShape name_at) (refusal.OutputShape name_to)) (λ _.
      keeps_bind (within which.Elements (length terms) name_at) (within which.Elements (length terms) name_to) _ _ (within_keeps which.Elements (length terms) name_at name_to) (λ _.
      keeps_bind (with_set isvar name_at s.problem (element_set type) terms) (with_set isvar name_to s.problem (element_set type) terms) _ _ (with_set_keeps isvar name_at name_to s.problem (element_set type) terms) (λ _. refl)))))

  declared_by_keeps : (s : SoFar) (at to : ℕ) (isvar : Bool) (index : Option (ℤ × ℤ)) (type : Base) (name_at name_to : ℕ) (name : List ℕ) (says : Marked) (x y : Option Expr) → RightsAlike text other x y → Keeps (declared_by text s at isvar index type name_at name says x) (declared_by other s to isvar index type name_to name says y)
  declared_by_keeps s at to isvar (Some index) type name_at name_to name says x y h = array_keeps s at to isvar index type name_at name_to name says x y h
  declared_by_keeps s at to true None type name_at name_to name says x y h = variable_is_kept s at to type name_at name_to name says x y h
  declared_by_keeps s at to false None type name_at name_to name says x y h = parameter_keeps s at to type name_at name_to name x y h

  constraint_is_kept : (s : SoFar) (at to name_at name_to : ℕ) (name : List ℕ) (xs ys : List Expr) → Pairwise (ExprsAlike text other) xs ys → Keeps (constraint text s at name_at name xs) (constraint other s to name_to name ys)
  unfolding constraint
  constraint_is_kept s at to name_at name_to name xs ys h =
      keeps_bind (refused_if s.solved (refusal.Misplaced at)) (refused_if s.solved (refusal.Misplaced to)) _ _ (keeps_if s.solved (refusal.Misplaced at) (refusal.Misplaced to)) (λ _.
      keeps_bind (constraint_rule text s.scope name_at name xs) (constraint_rule other s.scope name_to name ys) _ _ (constraint_keeps text other s.scope name_at name_to name xs ys h) (λ rule.
      keeps_bind (with_rule name_at s.problem rule) (with_rule name_to s.problem rule) _ _ (rule_keeps name_at name_to s.problem rule) (λ _. refl)))

  declare_keeps : (s : SoFar) (at to : ℕ) (isvar : Bool) (index : Option (ℤ × ℤ)) (type : Base) (name_at name_to : ℕ) (name : List ℕ) (says : Marked) (x y : Option Expr) → RightsAlike text other x y → Keeps (declare text s at isvar index type name_at name says x) (declare other s to isvar index type name_to name says y)
  declare_keeps s at to isvar index type name_at name_to name says x y h =
      keeps_bind (declaration s at name_at name) (declaration s to name_to name) _ _ (declaration_keeps s at to name_at name_to name) (λ _. declared_by_keeps s at to isvar index type name_at name_to name says x y h)

  goal_keeps : (scope : Scope) (x y : Goal) → GoalsAlike text other x y → Keeps (aim_of text scope x) (aim_of other scope y)
  goal_keeps scope _ _ both_satisfy = refl
  goal_keeps scope _ _ (both_least {a = a} {b = b} h) = keeps_bind (one_of text scope an_integer a) (one_of other scope an_integer b) _ _ (one_keeps text other scope an_integer a b h) (λ _. refl)
  goal_keeps scope _ _ (both_greatest {a = a} {b = b} h) = keeps_bind (one_of text scope an_integer a) (one_of other scope an_integer b) _ _ (one_keeps text other scope an_integer a b h) (λ _. refl)

  solve_keeps : (s : SoFar) (at to : ℕ) (a b : Goal) → GoalsAlike text other a b → Keeps (solve text s at a) (solve other s to b)
  unfolding solve
  solve_keeps s at to a b h =
      keeps_bind (refused_if s.solved (refusal.Misplaced at)) (refused_if s.solved (refusal.Misplaced to)) _ _ (keeps_if s.solved (refusal.Misplaced at) (refusal.Misplaced to)) (λ _.
      keeps_bind (aim_of text s.scope a) (aim_of other s.scope b) _ _ (goal_keeps s.scope a b h) (λ _. refl))

  pub item_keeps : (s : SoFar) (i j : Item) → ItemsAlike text other i j → Keeps (after text s i) (after other s j)
  item_keeps s _ _ (both_predicate {at = at} {to = to}) = predicate_keeps s at to
  item_keeps s _ _ (both_declare {at = at} {name_at = name_at} {name_to = name_to} {at2 = at2} {name_at2 = name_at2} {isvar = isvar} {index = index} {type = type} {says = says} {a = a} {b = b} e h) =
      let name = bytes_at text name_at name_to in
      subst (λ n. Keeps (declare text s at isvar index type name_at name says a) (declare other s at2 isvar index type name_at2 n says b)) e (declare_keeps s at at2 isvar index type name_at name_at2 name says a b h)
  item_keeps s _ _ (both_constraint {at = at} {name_at = name_at} {name_to = name_to} {at2 = at2} {name_at2 = name_at2} {a = a} {b = b} e h) =
      let name = bytes_at text name_at name_to in
      subst (λ n. Keeps (constraint text s at name_at name a) (constraint other s at2 name_at2 n b)) e (constraint_is_kept s at at2 name_at name_at2 name a b h)
  item_keeps s _ _ (both_solve {at = at} {to = to} {a = a} {b = b} h) = solve_keeps s at to a b h

  items_keep : (s : SoFar) (is js : List Item) → Pairwise (ItemsAlike text other) is js → Keeps (after_all text s is) (after_all other s js)
  items_keep s [] [] h = refl
  items_keep s [] (j ∷ js) h = absurd h
  items_keep s (i ∷ is) [] h = absurd h
  items_keep s (i ∷ is) (j ∷ js) h = keeps_bind (after text s i) (after other s j) _ _ (item_keeps s i j h.0) (λ next. items_keep next is js h.1)

  resolved_keeps : (is js : List Item) → Pairwise (ItemsAlike text other) is js → Keeps (resolved text is) (resolved other js)
  unfolding resolved
  resolved_keeps is js h = keeps_bind (after_all text start is) (after_all other start js) _ _ (items_keep start is js h) (λ s. keeps_itself (finished s))

  -- like tokens are such where no annotation is left out
  none_out : (ts us : List Token) → AllAlike text other ts us → NotesLeftOut text other true ts us
  none_out [] [] h = none
  none_out [] (u ∷ us) h = absurd h
  none_out (t ∷ ts) [] h = absurd h
  none_out (t ∷ ts) (u ∷ us) h = kept h.0 (none_out ts us h.1)

  -- items one after another
  items_carried : (ts us : List Token) (is : List Item) (rest : List Token) → NotesLeftOut text other true ts us → AreItemsTo text ts is rest
      → (js : List Item) × (end : List Token) × AreItemsTo other us js end × Pairwise (ItemsAlike text other) is js × NotesLeftOut text other true rest end
  items_carried ts us [] rest less h = ([], us, refl, tt, subst (λ r. NotesLeftOut text other true r us) h less)
  items_carried [] us (i ∷ is) rest less h = absurd h.1.2
  items_carried (t ∷ ts) us (i ∷ is) rest less h =
      let f = item_carried text other true t ts us (λ _. refl) less i h.0 h.1 in
      let g = items_carried h.0 f.1 is rest f.4 h.2 in
      (f.0 ∷ g.0, g.1, (f.1, f.2, g.2), (f.3, g.3), g.4)

same_tokens : (text : List ℕ) (ts us : List Token) → AreTokens text ts → AreTokens text us → ts ≡ us
same_tokens text ts us h k = let e = one_answer_lem text (Ok ts) (Ok us) h k (λ e. cc) (λ e. cc) in cc

-- a text that has a problem has items, and it is theirs
pub problem_of_items : (text : List ℕ) (ts : List Token) (p : Contents) → AreTokens text ts → Answers text (Ok p) → (is : List Item) × AreItemsTo text ts is [] × (resolved text is ≡ Ok p)
problem_of_items text ts p lexed h = elim h [
  | inl lexical ↦ absurd (let e = lexical.1 in cc)
  | inr rest ↦ elim rest [
    | inl unread ↦ absurd (let e = unread.result_is in cc)
    | inr r ↦ (r.items, subst (λ (x : List Token). AreItemsTo text x r.items []) (same_tokens text r.tokens ts r.lexed lexed) r.read, sym r.result_is)
  ]
]

-- and a text has the problem of its items
pub items_answer : (text : List ℕ) (ts : List Token) (is : List Item) (p : Contents) → AreTokens text ts → AreItemsTo text ts is [] → resolved text is ≡ Ok p → Answers text (Ok p)
items_answer text ts is p lexed read resolves = inr (inr (record { tokens = ts; items = is; lexed = lexed; read = read; result_is = sym resolves }))

pub gaps_are_ignored : GapsAreIgnored
gaps_are_ignored text other d p h =
    let r = problem_of_items text d.tokens p d.lexed h in
    let f = items_carried text other d.tokens d.others r.0 [] (none_out text other d.tokens d.others d.alike) r.1 in
    let nothing = none_left text other true [] f.1 f.4 refl in
    items_answer other d.others f.0 p d.other_lexed (subst (λ (x : List Token). AreItemsTo other d.others f.0 x) nothing f.2) (kept_value (resolved text r.0) (resolved other f.0) p (resolved_keeps text other r.0 f.0 f.3) r.2)
