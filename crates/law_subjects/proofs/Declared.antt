-- What declarations add, and what they ask of values.
use Rattle.std.proofs.Common.{◌≡◌, ℕ, zero, suc, ◌<◌, pos, Bool, true, false, not, ◌&&◌, ◌⊎◌, inl, inr, List, [], ◌∷◌, ◌++◌, length, Option, Some, None, is_some, Ok, IfSome, refl, sym, ap, ◌∙◌, subst, append-nil, append_assoc, arith}
use Rattle.std.specs.Prelude.{◌↔◌, map, ℤ, slice_get, slice_index_or, nat_lt}
use Rattle.std.specs.Option.{option_map}
use Rattle.std.specs.Ordering.{int_eq}
use Rattle.std.proofs.lemmas.Bool.Decides.{Decides-int_eq}
use Rattle.fzn_item.specs.declared.item.Expr.{Expr}
use Rattle.fzn_item.specs.declared.item.Base.{Base}
use Rattle.fzn_item.specs.declared.item.Base.TheVariants as base
use Rattle.fzn_item.specs.declared.item.Marked.{Marked}
use Rattle.dcsp_meaning.specs.declared.kinds.ConstraintKind.TheVariants.{SetIn}
use Rattle.dcsp_meaning.specs.Table.{truth}
use Rattle.dcsp_meaning.specs.Words.{is_one, same}
use Rattle.dcsp_defs.specs.Words.{In}
use Rattle.dcsp_defs.specs.Csp.{Assignment}
use Rattle.dcsp_defs.proofs.Lists.{In-map, or_cases}
use Rattle.dcsp_rule.specs.declared.rule.Term.{Term}
use Rattle.dcsp_rule.specs.declared.rule.Term.TheVariants.{Const, Var}
use Rattle.dcsp_rule.specs.declared.rule.Members.{Members}
use Rattle.dcsp_rule.specs.declared.rule.Members.TheVariants as members
use Rattle.dcsp_rule.specs.declared.rule.Rule.{Rule}
use Rattle.dcsp_rule.specs.declared.rule.Rule.TheVariants.{Plain}
use Rattle.dcsp_rule.specs.declared.output.Output.{Output}
use Rattle.dcsp_common.specs.declared.limits.Which.TheVariants as which
use Rattle.dcsp_common.specs.Limits.{most}
use Rattle.dcsp_problem.specs.Limits.{variable_refusal, rule_refusal}
use Rattle.dcsp_rule.specs.Members.{is_member}
use Rattle.dcsp_rule.specs.Rules.{value_under, rule_truth}
use Rattle.dcsp_rule.specs.Problems.{Contents}
use Rattle.fzn_scope.specs.declared.names.Declared.{Declared}
use Rattle.fzn_scope.specs.declared.names.Declared.TheVariants as declared
use Rattle.fzn_scope.specs.declared.place.Wanted.{Wanted}
use Rattle.fzn_token.specs.declared.refusal.Refusal.{Refusal}
use Rattle.fzn_token.specs.declared.refusal.Refusal.TheVariants as refusal
use Rattle.fzn_scope.specs.Checks.{refused_if}
use Rattle.fzn_scope.specs.Names.{Scope, declared_as}
use Rattle.fzn_scope.specs.Places.{one_of, list_of, count_of, set_of}
use Rattle.fzn_model.specs.Building.{refused_at, with_variable, with_output}
use Rattle.fzn_model.specs.Declarations.{SoFar, named, is_late, declaration, is_boolean, right_side, constant, value_of, parameter, domain_of, source_of, equality, with_source, variable_output, variable, check_element, element_set, is_index, is_shaped, with_member, with_members, with_set, array_output, elements, array}
use Rattle.law_subjects.specs.Environments.{Value, Number, Numbers, Environment, expr_value}
use Rattle.law_subjects.specs.Holding.{in_set, in_type, IsVariable, IsArray}
use Rattle.law_subjects.proofs.Checks.{bind_ok, not_refused}
use Rattle.law_subjects.proofs.MeantNames.{meaning, Agrees}
use Rattle.law_subjects.proofs.Values.{one_value, list_value, set_value}
use Rattle.law_subjects.proofs.Sorts.{IsTruthTerm, IsSorted, Sorted, one_is}
use Rattle.law_subjects.proofs.Growth.{InDomains, Hold, rule_alone, no_rules, unmap}
use Rattle.law_subjects.proofs.Domains.{in_domain}
use Rattle.law_subjects.proofs.Fits.{Fits, Grown, InDomain}

pub right_is : (at : ℕ) (right : Option Expr) (x : Expr) → right_side at right ≡ Ok x → right ≡ Some x
right_is at None x e = absurd cc
right_is at (Some y) x e = let is : y ≡ x = cc in ap Some is

pub output_domains : (p : Contents) (o : Option Output) → (with_output p o).domains ≡ p.domains
output_domains p None = refl
output_domains p (Some o) = refl

pub output_rules : (p : Contents) (o : Option Output) → (with_output p o).rules ≡ p.rules
output_rules p None = refl
output_rules p (Some o) = refl

refused_not : (b : Bool) (r : Refusal) (u : Unit {0}) → refused_if b r ≡ Ok u → b ≡ false
refused_not true r u e = absurd cc
refused_not false r u e = refl

no_value : {X : Type 0} (o : Option X) → is_some o ≡ false → o ≡ None
no_value None e = refl
no_value (Some x) e = absurd cc

pub is_new : (s : SoFar) (at name_at : ℕ) (name : List ℕ) (u : Unit {0}) → declaration s at name_at name ≡ Ok u → declared_as s.scope name ≡ None
is_new s at name_at name u e =
    let n = not_refused (is_late s) (refusal.Misplaced at) (λ v. refused_if (is_some (declared_as s.scope name)) (refusal.Duplicate name_at)) u e in
    no_value (declared_as s.scope name) (refused_not (is_some (declared_as s.scope name)) (refusal.Duplicate name_at) u n.1)

-- ---- parameters

pub record Parameter (text : List ℕ) (s t : SoFar) (at : ℕ) (type : Base) (name : List ℕ) (right : Option Expr) : Type 0 where
  pub expr : Expr
  pub value : Declared
  pub right_is : right ≡ Some expr
  pub value_is : value_of text s.scope at type expr ≡ Ok value
  pub result_is : named s s.problem name value ≡ t

pub parameter_is : (text : List ℕ) (s t : SoFar) (at : ℕ) (type : Base) (name_at : ℕ) (name : List ℕ) (right : Option Expr) → parameter text s at type name_at name right ≡ Ok t → Parameter text s t at type name right
unfolding parameter
parameter_is text s t at type name_at name right e =
    let x = bind_ok (right_side name_at right) _ t e in
    let v = bind_ok (value_of text s.scope at type x.0) _ t x.2 in
    let is : named s s.problem name v.0 ≡ t = let k = v.2 in cc in
    record { expr = x.0; value = v.0; right_is = right_is name_at right x.0 x.1; value_is = v.1; result_is = is }

pub parameter_grown : (text : List ℕ) (s t : SoFar) (at : ℕ) (type : Base) (name : List ℕ) (right : Option Expr) → declared_as s.scope name ≡ None → (p : Parameter text s t at type name right) → Grown s t name p.value None []
parameter_grown text s t at type name right fresh p = record {
  fresh = fresh;
  scope = ap (λ (x : SoFar). x.scope) (sym p.result_is);
  domains = ap (λ (x : SoFar). x.problem.domains) (sym p.result_is) ∙ sym (append-nil s.problem.domains);
  rules = ap (λ (x : SoFar). x.problem.rules) (sym p.result_is) ∙ sym (append-nil s.problem.rules);
}

constant_value : (text : List ℕ) (values : Assignment) (env : Environment) (scope : Scope) → Agrees values env scope → (boolean : Bool) (x : Expr) (d : Declared) → constant text scope boolean x ≡ Ok d → expr_value text env x ≡ meaning values d
constant_value text values env scope agrees boolean x d e =
    let wanted : Wanted = record { boolean = boolean; constant = true } in
    let b = bind_ok (one_of text scope wanted x) (λ term. Ok (declared.One boolean term)) d e in
    let is : declared.One boolean b.0 ≡ d = let k = b.2 in cc in
    one_value text values env scope agrees wanted x b.0 b.1 ∙ ap (meaning values) is

pub parameter_value : (text : List ℕ) (values : Assignment) (env : Environment) (scope : Scope) → Agrees values env scope → (at : ℕ) (type : Base) (x : Expr) (d : Declared) → value_of text scope at type x ≡ Ok d → expr_value text env x ≡ meaning values d
parameter_value text values env scope agrees at base.Bool x d e = constant_value text values env scope agrees true x d e
parameter_value text values env scope agrees at base.Int x d e = constant_value text values env scope agrees false x d e
parameter_value text values env scope agrees at (base.Range low high) x d e = constant_value text values env scope agrees false x d e
parameter_value text values env scope agrees at (base.Listed vs) x d e = constant_value text values env scope agrees false x d e
parameter_value text values env scope agrees at base.Float x d e = absurd cc
parameter_value text values env scope agrees at base.Set x d e =
    let b = bind_ok (set_of text scope x) (λ set. Ok (declared.Set set)) d e in
    let is : declared.Set b.0 ≡ d = let k = b.2 in cc in
    set_value text values env scope agrees x b.0 b.1 ∙ ap (meaning values) is

constant_sorted : (text : List ℕ) (domains : List (List ℤ)) (scope : Scope) → Sorted domains scope → (boolean : Bool) (x : Expr) (d : Declared) → constant text scope boolean x ≡ Ok d → IsSorted domains d
constant_sorted text domains scope sorted true x d e =
    let wanted : Wanted = record { boolean = true; constant = true } in
    let b = bind_ok (one_of text scope wanted x) (λ term. Ok (declared.One true term)) d e in
    let is : declared.One true b.0 ≡ d = let k = b.2 in cc in
    subst (IsSorted domains) is ((one_is text domains scope sorted wanted x b.0 b.1).0 refl)
constant_sorted text domains scope sorted false x d e =
    let wanted : Wanted = record { boolean = false; constant = true } in
    let b = bind_ok (one_of text scope wanted x) (λ term. Ok (declared.One false term)) d e in
    let is : declared.One false b.0 ≡ d = let k = b.2 in cc in
    subst (IsSorted domains) is tt

pub parameter_sorted : (text : List ℕ) (domains : List (List ℤ)) (scope : Scope) → Sorted domains scope → (at : ℕ) (type : Base) (x : Expr) (d : Declared) → value_of text scope at type x ≡ Ok d → IsSorted domains d
parameter_sorted text domains scope sorted at base.Bool x d e = constant_sorted text domains scope sorted true x d e
parameter_sorted text domains scope sorted at base.Int x d e = constant_sorted text domains scope sorted false x d e
parameter_sorted text domains scope sorted at (base.Range low high) x d e = constant_sorted text domains scope sorted false x d e
parameter_sorted text domains scope sorted at (base.Listed vs) x d e = constant_sorted text domains scope sorted false x d e
parameter_sorted text domains scope sorted at base.Float x d e = absurd cc
parameter_sorted text domains scope sorted at base.Set x d e =
    let b = bind_ok (set_of text scope x) (λ set. Ok (declared.Set set)) d e in
    let is : declared.Set b.0 ≡ d = let k = b.2 in cc in
    subst (IsSorted domains) is tt

-- ---- variables

abbrev pub source_rules : Bool → ℕ → Option Term → List Rule
source_rules boolean n None = []
source_rules boolean n (Some source) = Plain (equality boolean) (Var n ∷ source ∷ []) [] [] (members.Listed []) ∷ []

source_added : (at : ℕ) (p : Contents) (boolean : Bool) (n : ℕ) (o : Option Term) (q : Contents) → with_source at p boolean n o ≡ Ok q → (q.domains ≡ p.domains) × (q.rules ≡ p.rules ++ source_rules boolean n o)
source_added at p boolean n None q e = let is : p ≡ q = cc in (ap (λ (x : Contents). x.domains) (sym is), ap (λ (x : Contents). x.rules) (sym is) ∙ sym (append-nil p.rules))
source_added at p boolean n (Some source) q e =
    let rule = Plain (equality boolean) (Var n ∷ source ∷ []) [] [] (members.Listed []) in
    let b = bind_ok (refused_at at (rule_refusal p rule)) (λ u. Ok (record p { rules = p.rules ++ rule ∷ [] })) q e in
    let is : record p { rules = p.rules ++ rule ∷ [] } ≡ q = let k = b.2 in cc in
    (ap (λ (x : Contents). x.domains) (sym is), ap (λ (x : Contents). x.rules) (sym is))

pub record Variable (text : List ℕ) (s t : SoFar) (at : ℕ) (type : Base) (name : List ℕ) (right : Option Expr) : Type 0 where
  pub domain : List ℤ
  pub source : Option Term
  pub domain_is : domain_of at type ≡ Ok domain
  pub source_is : source_of text s.scope (is_boolean type) right ≡ Ok source
  pub scope : t.scope ≡ s.scope ++ (name, declared.One (is_boolean type) (Var (length s.problem.domains))) ∷ []
  pub domains : t.problem.domains ≡ s.problem.domains ++ domain ∷ []
  pub rules : t.problem.rules ≡ s.problem.rules ++ source_rules (is_boolean type) (length s.problem.domains) source
  pub solved : t.solved ≡ s.solved

pub variable_is : (text : List ℕ) (s t : SoFar) (at : ℕ) (type : Base) (name_at : ℕ) (name : List ℕ) (marked : Marked) (right : Option Expr) → variable text s at type name_at name marked right ≡ Ok t → Variable text s t at type name right
unfolding variable
variable_is text s t at type name_at name marked right e =
    let n = length s.problem.domains in
    let d = bind_ok (domain_of at type) _ t e in
    let o = bind_ok (source_of text s.scope (is_boolean type) right) _ t d.2 in
    let w = bind_ok (with_variable name_at s.problem d.0) _ t o.2 in
    let r = bind_ok (with_source name_at w.0 (is_boolean type) n o.0) _ t w.2 in
    let v = bind_ok (refused_at name_at (variable_refusal s.problem d.0)) (λ u. Ok (record s.problem { domains = s.problem.domains ++ d.0 ∷ [] })) w.0 w.1 in
    let widened : record s.problem { domains = s.problem.domains ++ d.0 ∷ [] } ≡ w.0 = let k = v.2 in cc in
    let ruled = source_added name_at w.0 (is_boolean type) n o.0 r.0 r.1 in
    let out = variable_output name (is_boolean type) n marked in
    let is : named s (with_output r.0 out) name (declared.One (is_boolean type) (Var n)) ≡ t = let k = r.2 in cc in
    record {
      domain = d.0;
      source = o.0;
      domain_is = d.1;
      source_is = o.1;
      scope = ap (λ (x : SoFar). x.scope) (sym is);
      domains = ap (λ (x : SoFar). x.problem.domains) (sym is) ∙ output_domains r.0 out ∙ ruled.0 ∙ ap (λ (x : Contents). x.domains) (sym widened);
      rules = ap (λ (x : SoFar). x.problem.rules) (sym is) ∙ output_rules r.0 out ∙ ruled.1 ∙ ap (λ (x : Contents). x.rules ++ source_rules (is_boolean type) n o.0) (sym widened);
      solved = ap (λ (x : SoFar). x.solved) (sym is);
    }

-- a truth's number
abbrev IsZeroOne : ℤ → Type 0
IsZeroOne v = (v ≡ pos 0) ⊎ (v ≡ pos 1)

get_is : {X : Type 0} (xs : List X) (k : ℕ) (x d : X) → slice_get xs k ≡ Some x → (k < length xs) × (slice_index_or xs k d ≡ x)
get_is [] k x d e = absurd cc
get_is (y ∷ ys) zero x d e = (omega arith, cc)
get_is (y ∷ ys) (suc k) x d e = let r = get_is ys k x d e in (omega (arith, r.0), r.1)

zero_one_of : (values : Assignment) (domains : List (List ℤ)) (t : Term) → InDomains values domains → IsTruthTerm domains t → IsZeroOne (value_under values t)
zero_one_of values domains (Const v) h e = e
zero_one_of values domains (Var k) h e =
    let g = get_is domains k (pos 0 ∷ pos 1 ∷ []) [] e in
    let i : In (values k) (pos 0 ∷ pos 1 ∷ []) = subst (λ (x : List ℤ). In (values k) x) g.1 (h k g.0) in
    elim i [ inl a ↦ inl a | inr b ↦ elim b [ inl c ↦ inr c | inr none ↦ absurd none ] ]

same_itself : (b : Bool) → same b b ≡ true
same_itself true = refl
same_itself false = refl

truths_equal : (v w : ℤ) → IsZeroOne v → IsZeroOne w → same (is_one v) (is_one w) ≡ true → v ≡ w
truths_equal v w (inl a) (inl b) e = a ∙ sym b
truths_equal v w (inl a) (inr b) e = absurd (let f : same (is_one (pos 0)) (is_one (pos 1)) ≡ true = subst (λ (x : ℤ). same (is_one (pos 0)) (is_one x) ≡ true) b (subst (λ (x : ℤ). same (is_one x) (is_one w) ≡ true) a e) in cc)
truths_equal v w (inr a) (inl b) e = absurd (let f : same (is_one (pos 1)) (is_one (pos 0)) ≡ true = subst (λ (x : ℤ). same (is_one (pos 1)) (is_one x) ≡ true) b (subst (λ (x : ℤ). same (is_one x) (is_one w) ≡ true) a e) in cc)
truths_equal v w (inr a) (inr b) e = a ∙ sym b

zero_one_typed : (v : ℤ) → in_type base.Bool v ≡ true → IsZeroOne v
zero_one_typed v h = elim (or_cases (int_eq v (pos 0)) (int_eq v (pos 1)) h) [ inl a ↦ inl ((Decides-int_eq v (pos 0)).0 a) | inr b ↦ inr ((Decides-int_eq v (pos 1)).0 b) ]

-- an equality holds of equal numbers alone
equal_is : (type : Base) (v w : ℤ) (member : ℤ → Bool) → in_type type v ≡ true → (is_boolean type ≡ true → IsZeroOne w) → (truth (equality (is_boolean type)) (v ∷ w ∷ []) [] [] member ≡ true) ↔ (v ≡ w)
equal_is base.Bool v w member h z = ((λ e. truths_equal v w (zero_one_typed v h) (z refl) e), (λ e. subst (λ (x : ℤ). same (is_one v) (is_one x) ≡ true) e (same_itself (is_one v))))
equal_is base.Int v w member h z = Decides-int_eq v w
equal_is base.Float v w member h z = Decides-int_eq v w
equal_is base.Set v w member h z = Decides-int_eq v w
equal_is (base.Range low high) v w member h z = Decides-int_eq v w
equal_is (base.Listed vs) v w member h z = Decides-int_eq v w

number_inside : (v w : ℤ) → Number v ≡ Number w → v ≡ w
number_inside v w e = cc

source_holds : (text : List ℕ) (values : Assignment) (env : Environment) (s : SoFar) → Fits values env s → Sorted s.problem.domains s.scope → (type : Base) (n : ℕ) (right : Option Expr) (source : Option Term)
    → in_type type (values n) ≡ true → source_of text s.scope (is_boolean type) right ≡ Ok source
    → Hold values (source_rules (is_boolean type) n source) ↔ IfSome (option_map (expr_value text env) right) (λ other. Number (values n) ≡ other)
source_holds text values env s fits sorted type n None source h e =
    let is : None ≡ source = cc in
    ((λ x. tt), (λ x. subst (λ (o : Option Term). Hold values (source_rules (is_boolean type) n o)) is (no_rules values)))
source_holds text values env s fits sorted type n (Some x) source h e =
    let wanted : Wanted = record { boolean = is_boolean type; constant = false } in
    let b = bind_ok (one_of text s.scope wanted x) (λ term. Ok (Some term)) source e in
    let is : Some b.0 ≡ source = let k = b.2 in cc in
    let v = one_value text values env s.scope fits.agrees wanted x b.0 b.1 in
    let w = value_under values b.0 in
    let q = equal_is type (values n) w (is_member (members.Listed [])) h (λ t. zero_one_of values s.problem.domains b.0 fits.domains ((one_is text s.problem.domains s.scope sorted wanted x b.0 b.1).0 t)) in
    let rule = Plain (equality (is_boolean type)) (Var n ∷ b.0 ∷ []) [] [] (members.Listed []) in (
      (λ hold. ap Number (q.0 ((rule_alone values rule).0 (subst (λ (o : Option Term). Hold values (source_rules (is_boolean type) n o)) (sym is) hold))) ∙ sym v),
      (λ same. subst (λ (o : Option Term). Hold values (source_rules (is_boolean type) n o)) is ((rule_alone values rule).1 (q.1 (number_inside (values n) w (same ∙ v))))),
    )

pub variable_holds : (text : List ℕ) (values : Assignment) (env : Environment) (s t : SoFar) → Fits values env s → Sorted s.problem.domains s.scope → (at : ℕ) (type : Base) (name : List ℕ) (right : Option Expr) → (p : Variable text s t at type name right)
    → ((env name ≡ Number (values (length s.problem.domains))) × InDomain values (length s.problem.domains) (Some p.domain) × Hold values (source_rules (is_boolean type) (length s.problem.domains) p.source))
    ↔ (IsVariable type (option_map (expr_value text env) right) (env name) × (env name ≡ Number (values (length s.problem.domains))))
variable_holds text values env s t fits sorted at type name right p =
    let n = length s.problem.domains in
    let inside = in_domain at type p.domain (values n) p.domain_is in
    let o = option_map (expr_value text env) right in (
      (λ h.
          let typed = inside.0 h.1 in
          let equal = (source_holds text values env s fits sorted type n right p.source typed p.source_is).0 h.2 in
          (record { number = values n; single = h.0; typed = typed; equal = subst (λ (v : Value). IfSome o (λ other. v ≡ other)) (sym h.0) equal }, h.0)),
      (λ h.
          let is : h.0.number ≡ values n = number_inside h.0.number (values n) (sym h.0.single ∙ h.1) in
          let typed : in_type type (values n) ≡ true = subst (λ (v : ℤ). in_type type v ≡ true) is h.0.typed in
          (h.1, inside.1 typed, (source_holds text values env s fits sorted type n right p.source typed p.source_is).1 (subst (λ (v : Value). IfSome o (λ other. v ≡ other)) h.1 h.0.equal))),
    )

-- ---- arrays

abbrev pub set_rule : Members → Term → Rule
set_rule set term = Plain SetIn (term ∷ []) [] [] set

abbrev pub member_rules : Option Members → List Term → List Rule
member_rules None terms = []
member_rules (Some set) terms = map (set_rule set) terms

abbrev pub array_rules : Bool → Option Members → List Term → List Rule
array_rules true set terms = member_rules set terms
array_rules false set terms = []

members_none : (at : ℕ) (p : Contents) (terms : List Term) (q : Contents) → with_members at p None terms ≡ Ok q → p ≡ q
members_none at p [] q e = cc
members_none at p (t ∷ ts) q e = members_none at p ts q e

members_some : (at : ℕ) (p : Contents) (set : Members) (terms : List Term) (q : Contents) → with_members at p (Some set) terms ≡ Ok q → (q.domains ≡ p.domains) × (q.rules ≡ p.rules ++ map (set_rule set) terms)
members_some at p set [] q e = let is : p ≡ q = cc in (ap (λ (x : Contents). x.domains) (sym is), ap (λ (x : Contents). x.rules) (sym is) ∙ sym (append-nil p.rules))
members_some at p set (t ∷ ts) q e =
    let b = bind_ok (with_member at p (Some set) t) (λ next. with_members at next (Some set) ts) q e in
    let c = bind_ok (refused_at at (rule_refusal p (set_rule set t))) (λ u. Ok (record p { rules = p.rules ++ set_rule set t ∷ [] })) b.0 b.1 in
    let is : record p { rules = p.rules ++ set_rule set t ∷ [] } ≡ b.0 = let k = c.2 in cc in
    let r = members_some at b.0 set ts q b.2 in
    (r.0 ∙ ap (λ (x : Contents). x.domains) (sym is), r.1 ∙ ap (λ (x : Contents). x.rules ++ map (set_rule set) ts) (sym is) ∙ append_assoc p.rules (set_rule set t ∷ []) (map (set_rule set) ts))

set_added : (at : ℕ) (p : Contents) (variable : Bool) (set : Option Members) (terms : List Term) (q : Contents) → with_set variable at p set terms ≡ Ok q → (q.domains ≡ p.domains) × (q.rules ≡ p.rules ++ array_rules variable set terms)
set_added at p false set terms q e = let is : p ≡ q = cc in (ap (λ (x : Contents). x.domains) (sym is), ap (λ (x : Contents). x.rules) (sym is) ∙ sym (append-nil p.rules))
set_added at p true None terms q e = let is = members_none at p terms q e in (ap (λ (x : Contents). x.domains) (sym is), ap (λ (x : Contents). x.rules) (sym is) ∙ sym (append-nil p.rules))
set_added at p true (Some set) terms q e = members_some at p set terms q e

pub record Array (text : List ℕ) (s t : SoFar) (isvar : Bool) (type : Base) (name : List ℕ) (right : Option Expr) : Type 0 where
  pub expr : Expr
  pub terms : List Term
  pub right_is : right ≡ Some expr
  pub terms_are : list_of text s.scope (record { boolean = is_boolean type; constant = not isvar }) expr ≡ Ok terms
  pub scope : t.scope ≡ s.scope ++ (name, declared.Many (is_boolean type) isvar terms) ∷ []
  pub domains : t.problem.domains ≡ s.problem.domains ++ []
  pub rules : t.problem.rules ≡ s.problem.rules ++ array_rules isvar (element_set type) terms
  pub solved : t.solved ≡ s.solved

elements_are : (text : List ℕ) (scope : Scope) (isvar : Bool) (type : Base) (index : ℤ × ℤ) (name_at : ℕ) (x : Expr) (terms : List Term) → elements text scope isvar type index name_at x ≡ Ok terms → list_of text scope (record { boolean = is_boolean type; constant = not isvar }) x ≡ Ok terms
unfolding elements
elements_are text scope isvar type index name_at x terms e =
    let c = bind_ok (count_of text scope x) _ terms e in
    (not_refused (not (is_index index c.0)) (refusal.IllTyped name_at) _ terms c.2).1

pub array_is : (text : List ℕ) (s t : SoFar) (at : ℕ) (isvar : Bool) (index : ℤ × ℤ) (type : Base) (name_at : ℕ) (name : List ℕ) (marked : Marked) (right : Option Expr) → array text s at isvar index type name_at name marked right ≡ Ok t → Array text s t isvar type name right
unfolding array
array_is text s t at isvar index type name_at name marked right e =
    let u = bind_ok (check_element at type) _ t e in
    let x = bind_ok (right_side name_at right) _ t u.2 in
    let l = bind_ok (elements text s.scope isvar type index name_at x.0) _ t x.2 in
    let a = not_refused (isvar && not (is_shaped marked (length l.0))) (refusal.OutputShape name_at) _ t l.2 in
    let b = not_refused (nat_lt (most which.Elements) (length l.0)) (refusal.Limit which.Elements (length l.0) name_at) _ t a.1 in
    let r = bind_ok (with_set isvar name_at s.problem (element_set type) l.0) _ t b.1 in
    let ruled = set_added name_at s.problem isvar (element_set type) l.0 r.0 r.1 in
    let out = array_output name isvar (is_boolean type) marked l.0 in
    let is : named s (with_output r.0 out) name (declared.Many (is_boolean type) isvar l.0) ≡ t = let k = r.2 in cc in
    record {
      expr = x.0;
      terms = l.0;
      right_is = right_is name_at right x.0 x.1;
      terms_are = elements_are text s.scope isvar type index name_at x.0 l.0 l.1;
      scope = ap (λ (y : SoFar). y.scope) (sym is);
      domains = ap (λ (y : SoFar). y.problem.domains) (sym is) ∙ output_domains r.0 out ∙ ruled.0 ∙ sym (append-nil s.problem.domains);
      rules = ap (λ (y : SoFar). y.problem.rules) (sym is) ∙ output_rules r.0 out ∙ ruled.1;
      solved = ap (λ (y : SoFar). y.solved) (sym is);
    }

members_hold : (values : Assignment) (set : Members) (terms : List Term) → Hold values (map (set_rule set) terms) ↔ ((v : ℤ) → In v (map (value_under values) terms) → is_member set v ≡ true)
members_hold values set terms = (
  (λ h v i. let u = unmap (value_under values) terms v i in subst (λ (x : ℤ). is_member set x ≡ true) u.2 (h (set_rule set u.0) (In-map (set_rule set) u.0 terms u.1))),
  (λ h r i. let u = unmap (set_rule set) terms r i in subst (λ (x : Rule). rule_truth x values ≡ true) u.2 (h (value_under values u.0) (In-map (value_under values) u.0 terms u.1))),
)

type_holds : (values : Assignment) (type : Base) (terms : List Term) → Hold values (member_rules (element_set type) terms) ↔ ((v : ℤ) → In v (map (value_under values) terms) → in_set type v ≡ true)
type_holds values base.Bool terms = ((λ h v i. refl), (λ h. no_rules values))
type_holds values base.Int terms = ((λ h v i. refl), (λ h. no_rules values))
type_holds values base.Float terms = ((λ h v i. refl), (λ h. no_rules values))
type_holds values base.Set terms = ((λ h v i. refl), (λ h. no_rules values))
type_holds values (base.Range low high) terms = members_hold values (members.Between low high) terms
type_holds values (base.Listed vs) terms = members_hold values (members.Listed vs) terms

array_rules_hold : (values : Assignment) (isvar : Bool) (type : Base) (terms : List Term) → Hold values (array_rules isvar (element_set type) terms) ↔ (isvar ≡ true → (v : ℤ) → In v (map (value_under values) terms) → in_set type v ≡ true)
array_rules_hold values true type terms = ((λ h e. (type_holds values type terms).0 h), (λ h. (type_holds values type terms).1 (h refl)))
array_rules_hold values false type terms = ((λ h e. absurd cc), (λ h. no_rules values))

numbers_inside : (vs ws : List ℤ) → Numbers vs ≡ Numbers ws → vs ≡ ws
numbers_inside vs ws e = cc

some_inside : (v w : Value) → Some v ≡ Some w → v ≡ w
some_inside v w e = cc

pub array_holds : (text : List ℕ) (values : Assignment) (env : Environment) (s t : SoFar) → Fits values env s → (isvar : Bool) (type : Base) (name : List ℕ) (right : Option Expr) → (p : Array text s t isvar type name right)
    → ((env name ≡ Numbers (map (value_under values) p.terms)) × InDomain values (length s.problem.domains) None × Hold values (array_rules isvar (element_set type) p.terms))
    ↔ (IsArray isvar type (option_map (expr_value text env) right) (env name) × Unit {0})
array_holds text values env s t fits isvar type name right p =
    let xs = map (value_under values) p.terms in
    let wanted : Wanted = record { boolean = is_boolean type; constant = not isvar } in
    let v = list_value text values env s.scope fits.agrees wanted p.expr p.terms p.terms_are in
    let o : option_map (expr_value text env) right ≡ Some (expr_value text env p.expr) = ap (option_map (expr_value text env)) p.right_is in
    let rules = array_rules_hold values isvar type p.terms in (
      (λ h. (
        record {
          equal = o ∙ ap Some (v ∙ sym h.0);
          elements = λ e vs x is i. rules.0 h.2 e x (subst (λ (l : List ℤ). In x l) (numbers_inside vs xs (sym is ∙ h.0)) i);
        },
        tt,
      )),
      (λ h.
          let is : env name ≡ Numbers xs = sym (some_inside (expr_value text env p.expr) (env name) (sym o ∙ h.0.equal)) ∙ v in
          (is, tt, rules.1 (λ e x i. h.0.elements e xs x is i))),
    )
