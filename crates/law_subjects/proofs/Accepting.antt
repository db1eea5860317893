-- An accepted text denotes a problem.
use Rattle.std.proofs.Common.{◌≡◌, ℕ, zero, suc, ◌+◌, ◌^◌, ◌<◌, ◌≤◌, ◌==◌, ◌&&◌, inl, inr, Bool, true, false, not, if◌then◌else◌, List, [], ◌∷◌, length, Option, Some, None, Ok, Err, refl, sym, ap, ◌∙◌, subst, arith}
use Rattle.std.specs.Prelude.{ℤ, pos, nat_lt, nat_le, All, IfSome, IsTrue}
use Rattle.std.proofs.lemmas.Bool.Decides.{eqb_tells, nat_tests}
use Rattle.std.proofs.lemmas.List.{length_push}
use Rattle.dcsp_domain.specs.Ranges.{count_between, numbers_between}
use Rattle.dcsp_domain.specs.Sets.{IsDomain, set_of as values_of}
use Rattle.dcsp_domain.proofs.Domains.{domain_of_set, domain_of_range}
use Rattle.dcsp_defs.proofs.Lists.{and_left, and_right}
use Rattle.dcsp_rule.specs.declared.rule.Term.{Term}
use Rattle.dcsp_rule.specs.declared.rule.Term.TheVariants.{Var}
use Rattle.dcsp_rule.specs.declared.rule.Members.{Members}
use Rattle.dcsp_rule.specs.declared.rule.Members.TheVariants as members
use Rattle.dcsp_rule.specs.declared.rule.Rule.{Rule}
use Rattle.dcsp_rule.specs.declared.rule.Rule.TheVariants as rule
use Rattle.dcsp_meaning.specs.Table.{is_shape}
use Rattle.dcsp_rule.specs.declared.output.Output.{Output}
use Rattle.dcsp_rule.specs.declared.aim.Aim.{Aim}
use Rattle.dcsp_common.specs.declared.limits.Which.{Which}
use Rattle.dcsp_common.specs.declared.limits.Which.TheVariants as which
use Rattle.dcsp_rule.specs.Problems.{Contents}
use Rattle.dcsp_rule.specs.Rules.{IsTermOf, IsRuleOf, IsAimOf, terms_of, has_shape}
use Rattle.dcsp_problem.specs.Outputs.{IsOutputOf, AreRangesOf, range_product}
use Rattle.dcsp_common.specs.Limits.{most}
use Rattle.dcsp_problem.specs.Limits.{first_past, list_counts}
use Rattle.dcsp_problem.specs.WellFormed.{IsProblem}
use Rattle.dcsp_problem.proofs.WellFormed.{is_csp}
use Rattle.fzn_item.specs.declared.item.Item.{Item}
use Rattle.fzn_item.specs.declared.item.Base.{Base}
use Rattle.fzn_item.specs.declared.item.Base.TheVariants as base
use Rattle.fzn_item.specs.declared.item.Expr.{Expr}
use Rattle.fzn_item.specs.declared.item.Marked.{Marked}
use Rattle.fzn_item.specs.declared.item.Marked.TheVariants as marked
use Rattle.fzn_scope.specs.declared.names.Declared.{Declared}
use Rattle.fzn_scope.specs.declared.names.Declared.TheVariants as declared
use Rattle.fzn_scope.specs.Checks.{◌>>=◌, refused_if}
use Rattle.fzn_scope.specs.Names.{Scope, bytes_at}
use Rattle.fzn_scope.specs.Places.{one_of, list_of, count_of, set_of}
use Rattle.fzn_scope.specs.Known.{IsKnown, AreKnown}
use Rattle.fzn_scope.proofs.KnownLaws.{scope_of_more, scope_with_more, one_known, list_known, constraint_known}
use Rattle.fzn_scope.proofs.ShapeLaws.{constraint_shape}
use Rattle.fzn_token.specs.declared.refusal.Refusal.TheVariants as refusal
use Rattle.fzn_scope.specs.declared.place.Wanted.{Wanted}
use Rattle.fzn_model.proofs.Sound.{source_of_more}
use Rattle.fzn_model.specs.Building.{with_variable, with_rule, with_output}
use Rattle.fzn_model.specs.Declarations.{SoFar, named, within, is_boolean, is_late, right_side, constant, value_of, check_element, is_index, declaration, parameter, domain_of, source_of, equality, with_source, variable_output, variable, array_output, element_set, is_shaped, with_member, with_members, with_set, elements, array}
use Rattle.fzn_model.specs.Items.{start, declared_by, constraint, an_integer, aim_of, solve, predicate, after, after_all, finished, resolved}
use Rattle.fzn_model.specs.Models.{Answers, IsResolved, longest_text}
use Rattle.fzn_item.specs.Items.{ToSemicolon, AreItemsTo}
use Rattle.fzn_item.proofs.Endings.{items_end_law}
use Rattle.fzn_token.specs.declared.token.Token.{Token}
use Rattle.fzn_token.specs.Tokens.{AreTokens}
use Rattle.fzn_model.proofs.Counts.{tokens_so_far}
use Rattle.fzn_item.specs.declared.item.Item.TheVariants as item
use Rattle.fzn_item.specs.declared.item.Goal.{Goal}
use Rattle.fzn_item.specs.declared.item.Goal.TheVariants as goals
use Rattle.dcsp_rule.specs.declared.aim.Aim.TheVariants.{Satisfy, Least, Greatest}
use Rattle.dcsp_meaning.specs.declared.kinds.ConstraintKind.TheVariants.{SetIn}
use Rattle.dcsp_meaning.specs.Sums.{widest}
use Rattle.dcsp_rule.specs.Widths.{rule_width}
use Rattle.std.proofs.lemmas.Bool.{not-false}
use Rattle.fzn_scope.specs.Rules.{constraint_rule}
use Rattle.law_subjects.specs.Accepting.{AcceptedAreProblems}
use Rattle.law_subjects.proofs.ValueBounds.{AllFit, DomainsFit, all_fit, is_small, none_fit, tokens_fit}
use Rattle.law_subjects.proofs.Building.{parts_of, if_ok, variable_added, rule_added, output_added}

-- so far a problem, whose names stand for its own variables, with room for so many outputs more
record IsFine (s : SoFar) (more : ℕ) : Type 0 where
  problem : IsProblem s.problem
  known : AreKnown (length s.problem.domains) s.scope
  few : length s.problem.outputs + more < 2 ^ 32

-- a problem over as many variables, that prints as much
record Keeps (p q : Contents) : Type 0 where
  problem : IsProblem q
  variables : length q.domains ≡ length p.domains
  outputs : length q.outputs ≡ length p.outputs

none_at_all : {X : Type 0} (P : X → Type 0) → All P []
none_at_all P i d l = absurd (omega (arith, l))

one_alone : {X : Type 0} (P : X → Type 0) (x : X) → P x → All P (x ∷ [])
one_alone P x h zero d l = h
one_alone P x h (suc i) d l = absurd (omega (arith, l))

two_alone : {X : Type 0} (P : X → Type 0) (x y : X) → P x → P y → All P (x ∷ y ∷ [])
two_alone P x y h k zero d l = h
two_alone P x y h k (suc zero) d l = k
two_alone P x y h k (suc (suc i)) d l = absurd (omega (arith, l))

first_of : {X : Type 0} (P : X → Type 0) (x : X) (xs : List X) → All P (x ∷ xs) → P x
first_of P x xs h = h 0 x (omega arith)

rest_of : {X : Type 0} (P : X → Type 0) (x : X) (xs : List X) → All P (x ∷ xs) → All P xs
rest_of P x xs h i d l = h (suc i) d (omega (arith, l))

-- a count that was not refused
small : (w : Which) (count at : ℕ) → within w count at ≡ Ok tt → count ≤ most w
small w count at h =
    (elim (nat_lt (most w) count) as (λ b. nat_lt (most w) count ≡ b → refused_if b (refusal.Limit w count at) ≡ Ok tt → count ≤ most w) [
      | true ↦ λ is e. cc
      | false ↦ λ is e. grind (arith, nat_tests)
    ]) refl h

-- what was not refused is false
not_so : {E : Type 0} (b : Bool) (e : E) → refused_if b e ≡ Ok tt → b ≡ false
not_so true e h = cc
not_so false e h = refl

-- ---- terms

abbrev wanted_as : Bool → Bool → Wanted
wanted_as boolean fixed = record { boolean = boolean; constant = fixed }

term_meant : (n : ℕ) (text : List ℕ) (scope : Scope) (wanted : Wanted) (expr : Expr) (term : Term) → AreKnown n scope → one_of text scope wanted expr ≡ Ok term → IsTermOf n term
term_meant n text scope wanted expr term known h = if_ok (IsTermOf n) (one_of text scope wanted expr) term (one_known n text scope wanted expr known) h

terms_meant : (n : ℕ) (text : List ℕ) (scope : Scope) (wanted : Wanted) (expr : Expr) (terms : List Term) → AreKnown n scope → list_of text scope wanted expr ≡ Ok terms → All (IsTermOf n) terms
terms_meant n text scope wanted expr terms known h = if_ok (All (IsTermOf n)) (list_of text scope wanted expr) terms (list_known n text scope wanted expr known) h

constant_known : (n : ℕ) (text : List ℕ) (scope : Scope) (boolean : Bool) (expr : Expr) (meaning : Declared) → AreKnown n scope → constant text scope boolean expr ≡ Ok meaning → IsKnown n meaning
constant_known n text scope boolean expr meaning known h =
    let parts = parts_of (one_of text scope (wanted_as boolean true) expr) (λ (term : Term). Ok (declared.One boolean term)) meaning h in
    let is : declared.One boolean parts.0 ≡ meaning = cc in
    subst (λ (d : Declared). IsKnown n d) is (term_meant n text scope (wanted_as boolean true) expr parts.0 known parts.1)

value_known : (n : ℕ) (text : List ℕ) (scope : Scope) (at : ℕ) (b : Base) (expr : Expr) (meaning : Declared) → AreKnown n scope → value_of text scope at b expr ≡ Ok meaning → IsKnown n meaning
value_known n text scope at base.Bool expr meaning known h = constant_known n text scope true expr meaning known h
value_known n text scope at base.Int expr meaning known h = constant_known n text scope false expr meaning known h
value_known n text scope at (base.Range low high) expr meaning known h = constant_known n text scope false expr meaning known h
value_known n text scope at (base.Listed values) expr meaning known h = constant_known n text scope false expr meaning known h
value_known n text scope at base.Float expr meaning known h = cc
value_known n text scope at base.Set expr meaning known h =
    let parts = parts_of (set_of text scope expr) (λ (set : Members). Ok (declared.Set set)) meaning h in
    let is : declared.Set parts.0 ≡ meaning = cc in
    subst (λ (d : Declared). IsKnown n d) is tt

-- ---- declarations

name_added : (s : SoFar) (p : Contents) (name : List ℕ) (meaning : Declared) (more : ℕ) → IsProblem p → AreKnown (length p.domains) s.scope → IsKnown (length p.domains) meaning → length p.outputs + more < 2 ^ 32 → IsFine (named s p name meaning) more
name_added s p name meaning more problem known meaning_known few = record { problem = problem; known = scope_with_more (length p.domains) s.scope name meaning known meaning_known; few = few }

fewer : (s : SoFar) (more : ℕ) → IsFine s (more + 1) → length s.problem.outputs + more < 2 ^ 32
fewer s more h = let few = h.few in omega (arith, few)

parameter_fine : (text : List ℕ) (s : SoFar) (at : ℕ) (b : Base) (name_at : ℕ) (name : List ℕ) (right : Option Expr) (more : ℕ) (t : SoFar) → IsFine s (more + 1) → parameter text s at b name_at name right ≡ Ok t → IsFine t more
unfolding parameter
parameter_fine text s at b name_at name right more t h e =
    let first = parts_of (right_side name_at right) (λ (expr : Expr). value_of text s.scope at b expr >>= (λ (value : Declared). Ok (named s s.problem name value))) t e in
    let second = parts_of (value_of text s.scope at b first.0) (λ (value : Declared). Ok (named s s.problem name value)) t first.2 in
    let is : named s s.problem name second.0 ≡ t = cc in
    subst (λ (x : SoFar). IsFine x more) is (name_added s s.problem name second.0 more h.problem h.known (value_known (length s.problem.domains) text s.scope at b first.0 second.0 h.known second.1) (fewer s more h))

domain_is : (at : ℕ) (b : Base) (domain : List ℤ) → domain_of at b ≡ Ok domain → IsDomain domain
domain_is at base.Bool domain h = let is : pos 0 ∷ pos 1 ∷ [] ≡ domain = cc in subst (λ (d : List ℤ). IsDomain d) is (domain_of_set (pos 0 ∷ pos 1 ∷ []) (pos 0 ∷ pos 1 ∷ []) refl (omega arith))
domain_is at base.Int domain h = cc
domain_is at base.Float domain h = cc
domain_is at base.Set domain h = cc
domain_is at (base.Range low high) domain h =
    let parts = parts_of (within which.DomainSize (count_between low high) at) (λ _. Ok (numbers_between low high)) domain h in
    let is : numbers_between low high ≡ domain = cc in
    subst (λ (d : List ℤ). IsDomain d) is (domain_of_range low (count_between low high) (numbers_between low high) refl (small which.DomainSize (count_between low high) at parts.1))
domain_is at (base.Listed values) domain h =
    let parts = parts_of (within which.DomainSize (length (values_of values)) at) (λ _. Ok (values_of values)) domain h in
    let is : values_of values ≡ domain = cc in
    subst (λ (d : List ℤ). IsDomain d) is (domain_of_set values (values_of values) refl (small which.DomainSize (length (values_of values)) at parts.1))

source_known : (n : ℕ) (text : List ℕ) (scope : Scope) (boolean : Bool) (right : Option Expr) (source : Option Term) → AreKnown n scope → source_of text scope boolean right ≡ Ok source → IfSome source (IsTermOf n)
source_known n text scope boolean None source known h = let is : None ≡ source = cc in subst (λ (o : Option Term). IfSome o (IsTermOf n)) is tt
source_known n text scope boolean (Some expr) source known h =
    let parts = parts_of (one_of text scope (wanted_as boolean false) expr) (λ (term : Term). Ok (Some term)) source h in
    let is : Some parts.0 ≡ source = cc in
    subst (λ (o : Option Term). IfSome o (IsTermOf n)) is (term_meant n text scope (wanted_as boolean false) expr parts.0 known parts.1)

rule_kept : (at : ℕ) (p q : Contents) (rule : Rule) → IsProblem p → IsRuleOf (length p.domains) rule → with_rule at p rule ≡ Ok q → Keeps p q
rule_kept at p q rule h r e =
    let added = rule_added at p q rule h r e in
    record { problem = added.0; variables = ap (λ (x : Contents). length x.domains) added.1; outputs = ap (λ (x : Contents). length x.outputs) added.1 }

source_kept : (at : ℕ) (p q : Contents) (boolean : Bool) (number : ℕ) (source : Option Term) → IsProblem p → number < length p.domains → IfSome source (IsTermOf (length p.domains)) → with_source at p boolean number source ≡ Ok q → Keeps p q
source_kept at p q boolean number None h l known e = let is : p ≡ q = cc in subst (λ (x : Contents). Keeps p x) is (record { problem = h; variables = refl; outputs = refl })
source_kept at p q boolean number (Some source) h l known e =
    rule_kept at p q (rule.Plain (equality boolean) (Var number ∷ source ∷ []) [] [] (members.Listed [])) h
    (record { known = two_alone (IsTermOf (length p.domains)) (Var number) source l known; shape = elim boolean as (λ b. IsTrue (is_shape (equality b) 2 0 0)) [ true ↦ refl | false ↦ refl ] }) e

-- what is printed, if anything
output_kept : (p : Contents) (o : Option Output) (more : ℕ) → IsProblem p → IfSome o (IsOutputOf (length p.domains)) → length p.outputs + (more + 1) < 2 ^ 32
    → IsProblem (with_output p o) × (length (with_output p o).domains ≡ length p.domains) × (length (with_output p o).outputs + more < 2 ^ 32)
output_kept p None more h o few = (h, refl, omega (arith, few))
output_kept p (Some output) more h o few = (output_added p output h o (omega (arith, few)), refl, let size = length_push p.outputs output in omega (arith, size, few))

variable_printed : (name : List ℕ) (boolean : Bool) (number variables : ℕ) (m : Marked) → number < variables → IfSome (variable_output name boolean number m) (IsOutputOf variables)
variable_printed name boolean number variables marked.Nothing l = tt
variable_printed name boolean number variables marked.Variable l = record { known = one_alone (IsTermOf variables) (Var number) l; few = omega arith; shape = refl }
variable_printed name boolean number variables (marked.Ranges ranges) l = tt
variable_printed name boolean number variables marked.Wrong l = tt

variable_fine : (text : List ℕ) (s : SoFar) (at : ℕ) (b : Base) (name_at : ℕ) (name : List ℕ) (m : Marked) (right : Option Expr) (more : ℕ) (t : SoFar) → IsFine s (more + 1) → variable text s at b name_at name m right ≡ Ok t → IsFine t more
unfolding variable
variable_fine text s at b name_at name m right more t h e =
    let n = length s.problem.domains in
    let boolean = is_boolean b in
    let last = λ (ruled : Contents). Ok (named s (with_output ruled (variable_output name boolean n m)) name (declared.One boolean (Var n))) in
    let third = λ (source : Option Term) (widened : Contents). with_source name_at widened boolean n source >>= last in
    let second = λ (domain : List ℤ) (source : Option Term). with_variable name_at s.problem domain >>= third source in
    let a = parts_of (domain_of at b) (λ (domain : List ℤ). source_of text s.scope boolean right >>= second domain) t e in
    let c = parts_of (source_of text s.scope boolean right) (second a.0) t a.2 in
    let d = parts_of (with_variable name_at s.problem a.0) (third c.0) t c.2 in
    let f = parts_of (with_source name_at d.0 boolean n c.0) last t d.2 in
    let wider = variable_added name_at s.problem d.0 a.0 h.problem (domain_is at b a.0 a.1) d.1 in
    let size : length d.0.domains ≡ n + 1 = ap (λ (x : Contents). length x.domains) wider.1 ∙ length_push s.problem.domains a.0 in
    let printed : length d.0.outputs ≡ length s.problem.outputs = ap (λ (x : Contents). length x.outputs) wider.1 in
    let source = source_of_more n (length d.0.domains) (omega (arith, size)) c.0 (source_known n text s.scope boolean right c.0 h.known c.1) in
    let ruled = source_kept name_at d.0 f.0 boolean n c.0 wider.0 (omega (arith, size)) source f.1 in
    let variables = ruled.variables in
    let outputs = ruled.outputs in
    let few = h.few in
    let out = output_kept f.0 (variable_output name boolean n m) more ruled.problem (variable_printed name boolean n (length f.0.domains) m (omega (arith, size, variables))) (omega (arith, outputs, printed, few)) in
    let is : named s (with_output f.0 (variable_output name boolean n m)) name (declared.One boolean (Var n)) ≡ t = cc in
    subst (λ (x : SoFar). IsFine x more) is
    (name_added s (with_output f.0 (variable_output name boolean n m)) name (declared.One boolean (Var n)) more out.0
    (scope_of_more n (length (with_output f.0 (variable_output name boolean n m)).domains) (omega (arith, out.1, variables, size)) s.scope h.known)
    (let l : n < length (with_output f.0 (variable_output name boolean n m)).domains = omega (arith, out.1, variables, size) in l) out.2)

-- ---- arrays

member_kept : (at : ℕ) (p q : Contents) (set : Option Members) (term : Term) → IsProblem p → IsTermOf (length p.domains) term → with_member at p set term ≡ Ok q → Keeps p q
member_kept at p q None term h known e = let is : p ≡ q = cc in subst (λ (x : Contents). Keeps p x) is (record { problem = h; variables = refl; outputs = refl })
member_kept at p q (Some set) term h known e =
    rule_kept at p q (rule.Plain SetIn (term ∷ []) [] [] set) h (record { known = one_alone (IsTermOf (length p.domains)) term known; shape = refl }) e

kept_on : (p q r : Contents) → Keeps p q → Keeps q r → Keeps p r
kept_on p q r h k = record { problem = k.problem; variables = k.variables ∙ h.variables; outputs = k.outputs ∙ h.outputs }

members_kept : (at : ℕ) (p q : Contents) (set : Option Members) (terms : List Term) → IsProblem p → All (IsTermOf (length p.domains)) terms → with_members at p set terms ≡ Ok q → Keeps p q
members_kept at p q set [] h known e = let is : p ≡ q = cc in subst (λ (x : Contents). Keeps p x) is (record { problem = h; variables = refl; outputs = refl })
members_kept at p q set (term ∷ terms) h known e =
    let parts = parts_of (with_member at p set term) (λ (next : Contents). with_members at next set terms) q e in
    let first = member_kept at p parts.0 set term h (first_of (IsTermOf (length p.domains)) term terms known) parts.1 in
    let later : All (IsTermOf (length parts.0.domains)) terms = subst (λ (n : ℕ). All (IsTermOf n) terms) (sym first.variables) (rest_of (IsTermOf (length p.domains)) term terms known) in
    kept_on p parts.0 q first (members_kept at parts.0 q set terms first.problem later parts.2)

set_kept : (is_variable : Bool) (at : ℕ) (p q : Contents) (set : Option Members) (terms : List Term) → IsProblem p → All (IsTermOf (length p.domains)) terms → with_set is_variable at p set terms ≡ Ok q → Keeps p q
set_kept true at p q set terms h known e = members_kept at p q set terms h known e
set_kept false at p q set terms h known e = let is : p ≡ q = cc in subst (λ (x : Contents). Keeps p x) is (record { problem = h; variables = refl; outputs = refl })

elements_known : (n : ℕ) (text : List ℕ) (scope : Scope) (is_variable : Bool) (b : Base) (index : ℤ × ℤ) (name_at : ℕ) (expr : Expr) (terms : List Term) → AreKnown n scope → elements text scope is_variable b index name_at expr ≡ Ok terms → All (IsTermOf n) terms
unfolding elements
elements_known n text scope is_variable b index name_at expr terms known e =
    let last = list_of text scope (wanted_as (is_boolean b) (not is_variable)) expr in
    let counted = parts_of (count_of text scope expr) (λ (count : ℕ). refused_if (not (is_index index count)) (refusal.IllTyped name_at) >>= (λ _. last)) terms e in
    let indexed = parts_of (refused_if (not (is_index index counted.0)) (refusal.IllTyped name_at)) (λ _. last) terms counted.2 in
    terms_meant n text scope (wanted_as (is_boolean b) (not is_variable)) expr terms known indexed.2

ranges_are : (ranges : List (ℤ × ℤ)) (count : ℕ) → is_shaped (marked.Ranges ranges) count ≡ true → AreRangesOf count ranges
ranges_are ranges count h =
    let few = and_left (nat_le 1 (length ranges) && nat_le (length ranges) 6) (range_product ranges == count) h in
    let product = and_right (nat_le 1 (length ranges) && nat_le (length ranges) 6) (range_product ranges == count) h in
    let one = and_left (nat_le 1 (length ranges)) (nat_le (length ranges) 6) few in
    let six = and_right (nat_le 1 (length ranges)) (nat_le (length ranges) 6) few in
    record { some = grind (arith, nat_tests); few = grind (arith, nat_tests); product = elim (eqb_tells (range_product ranges) count) [ inl same ↦ same.1 | inr other ↦ cc (other.0, product) ] }

array_printed : (name : List ℕ) (is_variable boolean : Bool) (m : Marked) (terms : List Term) (n : ℕ) → All (IsTermOf n) terms → length terms ≤ most which.Elements → (is_variable && not (is_shaped m (length terms))) ≡ false
    → IfSome (array_output name is_variable boolean m terms) (IsOutputOf n)
array_printed name is_variable boolean marked.Nothing terms n known few shaped = tt
array_printed name is_variable boolean marked.Variable terms n known few shaped = tt
array_printed name is_variable boolean marked.Wrong terms n known few shaped = tt
array_printed name false boolean (marked.Ranges ranges) terms n known few shaped = tt
array_printed name true boolean (marked.Ranges ranges) terms n known few shaped =
    record { known = known; few = few; shape = ranges_are ranges (length terms) (not-false (is_shaped (marked.Ranges ranges) (length terms)) shaped) }

array_fine : (text : List ℕ) (s : SoFar) (at : ℕ) (is_variable : Bool) (index : ℤ × ℤ) (b : Base) (name_at : ℕ) (name : List ℕ) (m : Marked) (right : Option Expr) (more : ℕ) (t : SoFar) → IsFine s (more + 1) → array text s at is_variable index b name_at name m right ≡ Ok t → IsFine t more
unfolding array
array_fine text s at is_variable index b name_at name m right more t h e =
    let n = length s.problem.domains in
    let boolean = is_boolean b in
    let last = λ (terms : List Term) (ruled : Contents). Ok (named s (with_output ruled (array_output name is_variable boolean m terms)) name (declared.Many boolean is_variable terms)) in
    let fifth = λ (terms : List Term). with_set is_variable name_at s.problem (element_set b) terms >>= last terms in
    let fourth = λ (terms : List Term). within which.Elements (length terms) name_at >>= (λ _. fifth terms) in
    let third = λ (terms : List Term). refused_if (is_variable && not (is_shaped m (length terms))) (refusal.OutputShape name_at) >>= (λ _. fourth terms) in
    let second = λ (expr : Expr). elements text s.scope is_variable b index name_at expr >>= third in
    let a = parts_of (check_element at b) (λ _. right_side name_at right >>= second) t e in
    let c = parts_of (right_side name_at right) second t a.2 in
    let d = parts_of (elements text s.scope is_variable b index name_at c.0) third t c.2 in
    let terms = d.0 in
    let f = parts_of (refused_if (is_variable && not (is_shaped m (length terms))) (refusal.OutputShape name_at)) (λ _. fourth terms) t d.2 in
    let g = parts_of (within which.Elements (length terms) name_at) (λ _. fifth terms) t f.2 in
    let k = parts_of (with_set is_variable name_at s.problem (element_set b) terms) (last terms) t g.2 in
    let known = elements_known n text s.scope is_variable b index name_at c.0 terms h.known d.1 in
    let kept = set_kept is_variable name_at s.problem k.0 (element_set b) terms h.problem known k.1 in
    let variables = kept.variables in
    let outputs = kept.outputs in
    let few = h.few in
    let ruled_known : All (IsTermOf (length k.0.domains)) terms = subst (λ (v : ℕ). All (IsTermOf v) terms) (sym variables) known in
    let shaped = not_so (is_variable && not (is_shaped m (length terms))) (refusal.OutputShape name_at) f.1 in
    let out = output_kept k.0 (array_output name is_variable boolean m terms) more kept.problem (array_printed name is_variable boolean m terms (length k.0.domains) ruled_known (small which.Elements (length terms) name_at g.1) shaped) (omega (arith, outputs, few)) in
    let same : length (with_output k.0 (array_output name is_variable boolean m terms)).domains ≡ n = out.1 ∙ variables in
    let is : named s (with_output k.0 (array_output name is_variable boolean m terms)) name (declared.Many boolean is_variable terms) ≡ t = cc in
    subst (λ (x : SoFar). IsFine x more) is
    (name_added s (with_output k.0 (array_output name is_variable boolean m terms)) name (declared.Many boolean is_variable terms) more out.0
    (subst (λ (v : ℕ). AreKnown v s.scope) (sym same) h.known) (subst (λ (v : ℕ). All (IsTermOf v) terms) (sym same) known) out.2)

-- ---- items

constraint_fine : (text : List ℕ) (s : SoFar) (at name_at : ℕ) (name : List ℕ) (exprs : List Expr) (more : ℕ) (t : SoFar) → IsFine s (more + 1) → constraint text s at name_at name exprs ≡ Ok t → IsFine t more
unfolding constraint
constraint_fine text s at name_at name exprs more t h e =
    let n = length s.problem.domains in
    let last = λ (ruled : Contents). Ok (record s { problem = ruled; constrained = true }) in
    let second = λ (r : Rule). with_rule name_at s.problem r >>= last in
    let meaning = constraint_rule text s.scope name_at name exprs in
    let a = parts_of (refused_if s.solved (refusal.Misplaced at)) (λ _. meaning >>= second) t e in
    let b = parts_of meaning second t a.2 in
    let c = parts_of (with_rule name_at s.problem b.0) last t b.2 in
    let fits : IsRuleOf n b.0 = record { known = if_ok (λ (r : Rule). All (IsTermOf n) (terms_of r)) meaning b.0 (constraint_known n text s.scope name_at name exprs h.known) b.1; shape = if_ok (λ (r : Rule). IsTrue (has_shape r)) meaning b.0 (constraint_shape text s.scope name_at name exprs) b.1 } in
    let kept = rule_kept name_at s.problem c.0 b.0 h.problem fits c.1 in
    let outputs = kept.outputs in
    let few = h.few in
    let next : SoFar = record s { problem = c.0; constrained = true } in
    let is : next ≡ t = cc in
    subst (λ (x : SoFar). IsFine x more) is (record { problem = kept.problem; known = subst (λ (v : ℕ). AreKnown v s.scope) (sym kept.variables) h.known; few = omega (arith, outputs, few) })

aim_known : (n : ℕ) (text : List ℕ) (scope : Scope) (goal : Goal) (aim : Aim) → AreKnown n scope → aim_of text scope goal ≡ Ok aim → IsAimOf n aim
aim_known n text scope goals.Satisfy aim known e = let is : Satisfy ≡ aim = cc in subst (λ (x : Aim). IsAimOf n x) is tt
aim_known n text scope (goals.Minimize at what) aim known e =
    let parts = parts_of (one_of text scope an_integer what) (λ (term : Term). Ok (Least term)) aim e in
    let is : Least parts.0 ≡ aim = cc in
    subst (λ (x : Aim). IsAimOf n x) is (term_meant n text scope an_integer what parts.0 known parts.1)
aim_known n text scope (goals.Maximize at what) aim known e =
    let parts = parts_of (one_of text scope an_integer what) (λ (term : Term). Ok (Greatest term)) aim e in
    let is : Greatest parts.0 ≡ aim = cc in
    subst (λ (x : Aim). IsAimOf n x) is (term_meant n text scope an_integer what parts.0 known parts.1)

with_aim : (p : Contents) (aim : Aim) → IsProblem p → IsAimOf (length p.domains) aim → IsProblem (record p { aim = aim })
with_aim p aim h a = record {
  domains = h.domains;
  rules = h.rules;
  outputs = h.outputs;
  aim = a;
  few_variables = h.few_variables;
  few_values = h.few_values;
  few_rules = h.few_rules;
  few_terms = h.few_terms;
  few_outputs = h.few_outputs;
  short_lists = h.short_lists;
  narrow_sums = h.narrow_sums;
}

solve_fine : (text : List ℕ) (s : SoFar) (at : ℕ) (goal : Goal) (more : ℕ) (t : SoFar) → IsFine s (more + 1) → solve text s at goal ≡ Ok t → IsFine t more
unfolding solve
solve_fine text s at goal more t h e =
    let last = λ (aim : Aim). Ok (record s { problem = record s.problem { aim = aim }; solved = true }) in
    let a = parts_of (refused_if s.solved (refusal.Misplaced at)) (λ _. aim_of text s.scope goal >>= last) t e in
    let b = parts_of (aim_of text s.scope goal) last t a.2 in
    let next : SoFar = record s { problem = record s.problem { aim = b.0 }; solved = true } in
    let is : next ≡ t = cc in
    subst (λ (x : SoFar). IsFine x more) is (record { problem = with_aim s.problem b.0 h.problem (aim_known (length s.problem.domains) text s.scope goal b.0 h.known b.1); known = h.known; few = fewer s more h })

predicate_fine : (s : SoFar) (at : ℕ) (more : ℕ) (t : SoFar) → IsFine s (more + 1) → predicate s at ≡ Ok t → IsFine t more
unfolding predicate
predicate_fine s at more t h e =
    let a = parts_of (refused_if (is_late s) (refusal.Misplaced at)) (λ _. Ok s) t e in
    let is : s ≡ t = cc in
    subst (λ (x : SoFar). IsFine x more) is (record { problem = h.problem; known = h.known; few = fewer s more h })

declared_fine : (text : List ℕ) (s : SoFar) (at : ℕ) (is_variable : Bool) (index : Option (ℤ × ℤ)) (b : Base) (name_at : ℕ) (name : List ℕ) (m : Marked) (right : Option Expr) (more : ℕ) (t : SoFar) → IsFine s (more + 1) → declared_by text s at is_variable index b name_at name m right ≡ Ok t → IsFine t more
declared_fine text s at is_variable (Some index) b name_at name m right more t h e = array_fine text s at is_variable index b name_at name m right more t h e
declared_fine text s at true None b name_at name m right more t h e = variable_fine text s at b name_at name m right more t h e
declared_fine text s at false None b name_at name m right more t h e = parameter_fine text s at b name_at name right more t h e

after_fine : (text : List ℕ) (s : SoFar) (i : Item) (more : ℕ) (t : SoFar) → IsFine s (more + 1) → after text s i ≡ Ok t → IsFine t more
after_fine text s (item.Predicate at) more t h e = predicate_fine s at more t h e
after_fine text s (item.Declare at is_variable index b name_at name_to m right) more t h e =
    let name = bytes_at text name_at name_to in
    let parts = parts_of (declaration s at name_at name) (λ _. declared_by text s at is_variable index b name_at name m right) t e in
    declared_fine text s at is_variable index b name_at name m right more t h parts.2
after_fine text s (item.Constraint at name_at name_to arguments) more t h e = constraint_fine text s at name_at (bytes_at text name_at name_to) arguments more t h e
after_fine text s (item.Solve at goal) more t h e = solve_fine text s at goal more t h e

all_fine : (text : List ℕ) (s : SoFar) (items : List Item) (t : SoFar) → IsFine s (length items) → after_all text s items ≡ Ok t → IsFine t 0
all_fine text s [] t h e = let is : s ≡ t = cc in subst (λ (x : SoFar). IsFine x 0) is h
all_fine text s (i ∷ items) t h e =
    let parts = parts_of (after text s i) (λ (next : SoFar). after_all text next items) t e in
    let few = h.few in
    let with_one : IsFine s (length items + 1) = record { problem = h.problem; known = h.known; few = omega (arith, few) } in
    all_fine text parts.0 items t (after_fine text s i (length items) parts.0 with_one parts.1) parts.2

-- ---- texts

-- an item has a token
fewer_tokens : (ts rest : List Token) → ToSemicolon ts tt rest → length rest + 1 ≤ length ts
fewer_tokens [] rest h = absurd h
fewer_tokens (t ∷ ts) rest h = elim h [
  | inl here ↦ let size = ap (λ (us : List Token). length us) here.1 in omega (arith, size)
  | inr later ↦ let less = fewer_tokens ts rest later.1 in omega (arith, less)
]

few_items : (text : List ℕ) (ts : List Token) (items : List Item) (rest : List Token) → AreItemsTo text ts items rest → length items + length rest ≤ length ts
few_items text ts [] rest h = let size = ap (λ (us : List Token). length us) h in omega (arith, size)
few_items text ts (i ∷ items) rest h =
    let less = fewer_tokens ts h.0 (items_end_law text ts i h.0 h.1) in
    let later = few_items text h.0 items rest h.2 in
    omega (arith, less, later)

begun : (more : ℕ) → more < 2 ^ 32 → IsFine start more
begun more few = record {
  problem = record {
    domains = none_at_all IsDomain;
    rules = none_at_all (IsRuleOf 0);
    outputs = none_at_all (IsOutputOf 0);
    aim = tt;
    few_variables = omega arith;
    few_values = omega arith;
    few_rules = omega arith;
    few_terms = omega arith;
    few_outputs = omega arith;
    short_lists = none_at_all (λ (r : Rule). first_past (list_counts r) ≡ None);
    narrow_sums = none_at_all (λ (r : Rule). rule_width [] r ≤ widest);
  };
  known = none_at_all (λ (d : List ℕ × Declared). IsKnown 0 d.1);
  few = omega (arith, few);
}

end_is : (s : SoFar) (p : Contents) → finished s ≡ Ok p → s.problem ≡ p
end_is s p h = (elim s.solved as (λ b. (if b then Ok s.problem else Err refusal.NoSolve) ≡ Ok p → s.problem ≡ p) [ true ↦ λ e. cc | false ↦ λ e. cc ]) h

resolved_problem : (text : List ℕ) (items : List Item) (p : Contents) → length items < 2 ^ 32 → resolved text items ≡ Ok p → IsProblem p
unfolding resolved
resolved_problem text items p few h =
    let parts = parts_of (after_all text start items) finished p h in
    let fine = all_fine text start items parts.0 (begun (length items) few) parts.1 in
    subst (λ (x : Contents). IsProblem x) (end_is parts.0 p parts.2) fine.problem

-- the values of its domains
resolved_values : (text : List ℕ) (ts : List Token) (items : List Item) (p : Contents) → AreItemsTo text ts items [] → AllFit ts → resolved text items ≡ Ok p → DomainsFit p.domains
unfolding resolved
resolved_values text ts items p read fit h =
    let parts = parts_of (after_all text start items) finished p h in
    subst (λ (x : Contents). DomainsFit x.domains) (end_is parts.0 p parts.2) (all_fit text ts items [] start parts.0 read fit parts.1 none_fit)

read_problem : (text : List ℕ) (p : Contents) → length text ≤ longest_text → IsResolved text (Ok p) → IsProblem p
read_problem text p short r =
    let tokens : AreTokens text r.tokens = r.lexed in
    let items : AreItemsTo text r.tokens r.items [] = r.read in
    let few = tokens_so_far text r.tokens (length text) (record { end = tokens.end; before = tokens.all; gap = tokens.gap }) in
    let fewer = few_items text r.tokens r.items [] items in
    resolved_problem text r.items p (omega (arith, short, few, fewer)) (sym r.result_is)

read_values : (text : List ℕ) (p : Contents) → IsResolved text (Ok p) → DomainsFit p.domains
read_values text p r =
    let tokens : AreTokens text r.tokens = r.lexed in
    let items : AreItemsTo text r.tokens r.items [] = r.read in
    resolved_values text r.tokens r.items p items (tokens_fit text 0 r.tokens tokens.end tokens.all) (sym r.result_is)

accepted : (text : List ℕ) (p : Contents) → length text ≤ longest_text → Answers text (Ok p) → IsProblem p
accepted text p short (inl lexical) = let is = lexical.1 in cc
accepted text p short (inr (inl unread)) = let is = unread.result_is in cc
accepted text p short (inr (inr resolved_)) = read_problem text p short resolved_

values : (text : List ℕ) (p : Contents) → Answers text (Ok p) → DomainsFit p.domains
values text p (inl lexical) = let is = lexical.1 in cc
values text p (inr (inl unread)) = let is = unread.result_is in cc
values text p (inr (inr resolved_)) = read_values text p resolved_

pub accepted_are_problems : (text : List ℕ) → AcceptedAreProblems text
accepted_are_problems text = record { within_limits = accepted text; well_formed = λ p short h. is_csp p (accepted text p short h); small = λ p short h. is_small p (accepted text p short h) (values text p h) }
