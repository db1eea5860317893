-- Declarations are judged by the sorts of names and by counts.
use Rattle.std.proofs.Common.{◌≡◌, ℕ, ◌+◌, ◌≤◌, Bool, true, false, not, ◌&&◌, List, [], ◌∷◌, ◌++◌, length, Option, Some, None, refl, sym, ap, ◌∙◌, subst, append_assoc, append-nil, length-append, arith}
use Rattle.std.specs.Prelude.{ℤ, sum, nat_lt, is_some}
use Rattle.std.proofs.lemmas.Bool.Decides.{nat_tests}
use Rattle.std.proofs.lemmas.List.{map-append}
use Rattle.std.proofs.lemmas.List.Sums.{sum_by-append}
use Rattle.dcsp_domain.specs.Ranges.{count_between, numbers_between}
use Rattle.dcsp_domain.specs.Sets.{set_of as values_of_list}
use Rattle.fzn_item.specs.declared.item.Expr.{Expr}
use Rattle.fzn_item.specs.declared.item.Base.{Base}
use Rattle.fzn_item.specs.declared.item.Base.TheVariants as base
use Rattle.dcsp_meaning.specs.Sums.{widest}
use Rattle.dcsp_meaning.specs.declared.kinds.ConstraintKind.{ConstraintKind}
use Rattle.dcsp_meaning.specs.declared.kinds.ConstraintKind.TheVariants.{SetIn}
use Rattle.dcsp_common.specs.declared.limits.Which.TheVariants.{DomainSize, Variables, DomainValues, Rules, Terms, Elements}
use Rattle.dcsp_rule.specs.declared.rule.Term.{Term}
use Rattle.dcsp_rule.specs.declared.rule.Term.TheVariants.{Var}
use Rattle.dcsp_rule.specs.declared.rule.Members.{Members}
use Rattle.dcsp_rule.specs.declared.rule.Members.TheVariants as members
use Rattle.dcsp_rule.specs.declared.rule.Rule.{Rule}
use Rattle.dcsp_rule.specs.declared.rule.Rule.TheVariants.{Plain}
use Rattle.dcsp_rule.specs.declared.output.Output.{Output}
use Rattle.dcsp_common.specs.Limits.{most}
use Rattle.dcsp_rule.specs.Members.{values_of}
use Rattle.dcsp_rule.specs.Rules.{size_of}
use Rattle.dcsp_rule.specs.Problems.{Contents, term_count}
use Rattle.fzn_scope.specs.declared.names.Declared.{Declared}
use Rattle.fzn_scope.specs.declared.names.Declared.TheVariants as declared
use Rattle.fzn_scope.specs.declared.place.Wanted.{Wanted}
use Rattle.fzn_token.specs.declared.refusal.Refusal.TheVariants as refusal
use Rattle.fzn_scope.specs.Checks.{◌>>=◌, refused_if}
use Rattle.fzn_scope.specs.Names.{Scope}
use Rattle.fzn_scope.specs.Places.{one_of, list_of, count_of, set_of}
use Rattle.fzn_model.specs.Building.{with_rule, with_output}
use Rattle.fzn_model.specs.Declarations.{SoFar, named, within, is_boolean, constant, value_of, domain_of, source_of, equality, with_source, check_element, element_set, is_index, with_members, elements}
use Rattle.law_inputs.specs.Sorts.{Sort, One, Set, Names, one_suits, one_size, list_suits, list_sizes, set_suits, set_count}
use Rattle.law_inputs.specs.Arguments.{is_within}
use Rattle.law_inputs.specs.Accepted.{values_in, is_bounded, is_of_numbers, member_size, value_suits, source_suits, value_sort, source_sizes, member_sizes, are_few}
use Rattle.law_inputs.proofs.Judging.{Judged, judged_bind, judged_map, judged_if, judged_test, judged_more, judged_with, and_absorbs}
use Rattle.law_inputs.proofs.SortedNames.{AreSized, HasSort, HaveSorts}
use Rattle.law_inputs.proofs.JudgedExprs.{IsGiven, AreGiven, one_judged, list_judged, count_judged, set_judged, is_counted, list_counted}
use Rattle.law_inputs.proofs.JudgedLimits.{none_past, not_past, Counted, with_domain, with_one_rule, rule_tests, few_split, rule_judged}

-- ---- counts

within_less : (m n k : ℕ) → n ≤ k → not (nat_lt m k) ≡ true → not (nat_lt m n) ≡ true
within_less m n k h e = grind (arith, nat_tests)

-- fewer rules are few where more are
pub few_less : (variables rules more : List ℕ) → are_few variables (rules ++ more) ≡ true → are_few variables rules ≡ true
few_less variables rules more h =
    let a = length-append rules more in
    let b = sum_by-append (λ (n : ℕ). n) rules more in
    let fewer : length rules ≤ length (rules ++ more) = omega (arith, a) in
    let less : sum rules ≤ sum (rules ++ more) = omega (arith, b) in
    few_split (is_within Variables (length variables)) (is_within DomainValues (sum variables)) (is_within Rules (length (rules ++ more))) (is_within Terms (sum (rules ++ more))) (is_within Rules (length rules)) (is_within Terms (sum rules))
    (within_less (most Rules) (length rules) (length (rules ++ more)) fewer) (within_less (most Terms) (sum rules) (sum (rules ++ more)) less) h

pub counted_domain : (p : Contents) (variables rules : List ℕ) (domain : List ℤ) → Counted p variables rules → are_few (variables ++ length domain ∷ []) rules ≡ true → Counted (with_domain p domain) (variables ++ length domain ∷ []) rules
counted_domain p variables rules domain h few = record {
  variables_are = map-append length p.domains (domain ∷ []) ∙ ap (λ (ns : List ℕ). ns ++ length domain ∷ []) h.variables_are;
  rules_are = h.rules_are;
  few = few;
}

pub counted_rule : (p : Contents) (variables rules : List ℕ) (rule : Rule) (n : ℕ) → Counted p variables rules → size_of rule ≡ n → are_few variables (rules ++ n ∷ []) ≡ true → Counted (with_one_rule p rule) variables (rules ++ n ∷ [])
counted_rule p variables rules rule n h e few = record {
  variables_are = h.variables_are;
  rules_are = map-append size_of p.rules (rule ∷ []) ∙ ap (λ (ns : List ℕ). ns ++ size_of rule ∷ []) h.rules_are ∙ ap (λ (k : ℕ). rules ++ k ∷ []) e;
  few = few;
}

-- the same, of which nothing more is said than this
pub counted_nil : (p : Contents) (variables rules : List ℕ) → Counted p variables rules → Counted p (variables ++ []) (rules ++ [])
counted_nil p variables rules h = subst (λ (vs : List ℕ). Counted p vs (rules ++ [])) (sym (append-nil variables)) (subst (λ (rs : List ℕ). Counted p variables rs) (sym (append-nil rules)) h)

pub counted_output : (p : Contents) (variables rules : List ℕ) (o : Option Output) → Counted p variables rules → Counted (with_output p o) variables rules
counted_output p variables rules None h = h
counted_output p variables rules (Some o) h = record { variables_are = h.variables_are; rules_are = h.rules_are; few = h.few }

pub output_domains : (p : Contents) (o : Option Output) → (with_output p o).domains ≡ p.domains
output_domains p None = refl
output_domains p (Some o) = refl

-- ---- small rules

all_true : (a b c d e : Bool) → a ≡ true → b ≡ true → c ≡ true → d ≡ true → (a && (b && (c && (d && e)))) ≡ e
all_true true true true true e f g h k = refl
all_true true true true false e f g h k = absurd cc
all_true true true false d e f g h k = absurd cc
all_true true false c d e f g h k = absurd cc
all_true false b c d e f g h k = absurd cc

-- the rules of variables and of elements are within their own limits
small_judged : (at : ℕ) (p : Contents) (variables rules : List ℕ) (kind : ConstraintKind) (scalars : List Term) (set : Members) → Counted p variables rules → length scalars ≤ 4
    → Judged (with_rule at p (Plain kind scalars [] [] set)) (are_few variables (rules ++ size_of (Plain kind scalars [] [] set) ∷ [])) (λ q. q ≡ with_one_rule p (Plain kind scalars [] [] set))
small_judged at p variables rules kind scalars set counted few =
    let rule = Plain kind scalars [] [] set in
    let fewer : length scalars ≤ 65536 = omega (arith, few) in
    let nothing : 0 ≤ 65536 = omega arith in
    let narrow : 0 ≤ widest = omega arith in
    judged_test (with_rule at p rule) _ (are_few variables (rules ++ size_of rule ∷ [])) (λ q. q ≡ with_one_rule p rule)
    (all_true (not (nat_lt widest 0)) (is_within Elements (length scalars)) (is_within Elements 0) (is_within Elements 0) (none_past ((Rules, length p.rules + 1) ∷ (Terms, term_count p + size_of rule) ∷ []))
    (not_past widest 0 narrow) (not_past 65536 (length scalars) fewer) (not_past 65536 0 nothing) (not_past 65536 0 nothing)
    ∙ rule_tests p variables rules (size_of rule) counted)
    (rule_judged at p rule)

-- rules of these sizes are added, and nothing else changes
pub record AreAdded (p : Contents) (variables rules : List ℕ) (q : Contents) : Type 0 where
  pub domains : q.domains ≡ p.domains
  pub counted : Counted q variables rules

-- ---- parameters

-- a name is declared with this sort
pub record IsNamed (s : SoFar) (name : List ℕ) (sort : Sort) (t : SoFar) : Type 0 where
  pub value : Declared
  pub result_is : t ≡ named s s.problem name value
  pub sorted : HasSort s.problem.domains value sort

module _ (text : List ℕ) (names : Names) (domains : List (List ℤ)) (scope : Scope) (sorted : HaveSorts domains scope names) where
  constant_judged : (boolean : Bool) (x : Expr) → Judged (constant text scope boolean x) (one_suits text names (record { boolean = boolean; constant = true }) x) (λ d. HasSort domains d (One boolean true (one_size text names x)))
  constant_judged boolean x =
      let w : Wanted = record { boolean = boolean; constant = true } in
      judged_map (one_of text scope w x) (λ term. declared.One boolean term) (one_suits text names w x) (IsGiven domains w (one_size text names x)) (λ d. HasSort domains d (One boolean true (one_size text names x)))
      (one_judged text domains scope names sorted w x) (λ term g. (refl, g.1 refl, g.0))

  pub value_judged : (at : ℕ) (type : Base) (x : Expr) → Judged (value_of text scope at type x) (value_suits text names type x) (λ d. HasSort domains d (value_sort text names type (Some x)))
  value_judged at base.Bool x = constant_judged true x
  value_judged at base.Int x = constant_judged false x
  value_judged at base.Float x = refl
  value_judged at base.Set x = judged_map (set_of text scope x) declared.Set (set_suits text names x) (λ (m : Members). length (values_of m) ≡ set_count text names x) (λ d. HasSort domains d (Set (set_count text names x))) (set_judged text domains scope names sorted x) (λ m e. e)
  value_judged at (base.Range low high) x = constant_judged false x
  value_judged at (base.Listed values) x = constant_judged false x

  pub source_judged : (type : Base) (right : Option Expr) → Judged (source_of text scope (is_boolean type) right) (source_suits text names type right) (λ (o : Option Term). is_some o ≡ is_some right)
  source_judged type None = (refl, refl)
  source_judged type (Some x) =
      let w : Wanted = record { boolean = is_boolean type; constant = false } in
      judged_map (one_of text scope w x) (λ term. Some term) (one_suits text names w x) (IsGiven domains w (one_size text names x)) (λ (o : Option Term). is_some o ≡ true) (one_judged text domains scope names sorted w x) (λ term g. refl)

  index_tests : (a b c : Bool) → (c ≡ true → a ≡ true) → (a && (not (not b) && c)) ≡ (c && b)
  index_tests true true c h = and_last c where
    and_last : (c : Bool) → c ≡ (c && true)
    and_last true = refl
    and_last false = refl
  index_tests true false c h = and_none c where
    and_none : (c : Bool) → false ≡ (c && false)
    and_none true = refl
    and_none false = refl
  index_tests false b true h = absurd (let e = h refl in cc)
  index_tests false b false h = refl

  pub elements_judged : (isvar : Bool) (type : Base) (index : ℤ × ℤ) (name_at : ℕ) (x : Expr)
      → Judged (elements text scope isvar type index name_at x) (list_suits text names (record { boolean = is_boolean type; constant = not isvar }) x && is_index index (length (list_sizes text names x))) (AreGiven domains (record { boolean = is_boolean type; constant = not isvar }) (list_sizes text names x))
  unfolding elements
  elements_judged isvar type index name_at x =
      let w : Wanted = record { boolean = is_boolean type; constant = not isvar } in
      let n = length (list_sizes text names x) in
      let suits = list_suits text names w x in
      let rest : (count : ℕ) → count ≡ n → Judged (refused_if (not (is_index index count)) (refusal.IllTyped name_at) >>= (λ _. list_of text scope w x)) (not (not (is_index index n)) && suits) (AreGiven domains w (list_sizes text names x)) =
      λ count e. subst (λ (k : ℕ). Judged (refused_if (not (is_index index count)) (refusal.IllTyped name_at) >>= (λ _. list_of text scope w x)) (not (not (is_index index k)) && suits) (AreGiven domains w (list_sizes text names x))) e
      (judged_bind (refused_if (not (is_index index count)) (refusal.IllTyped name_at)) (λ _. list_of text scope w x) (not (not (is_index index count))) suits (λ _. not (is_index index count) ≡ false) (AreGiven domains w (list_sizes text names x)) (judged_if (not (is_index index count)) (refusal.IllTyped name_at)) (λ _ _. list_judged text domains scope names sorted w x)) in
      judged_test (elements text scope isvar type index name_at x) _ (suits && is_index index n) (AreGiven domains w (list_sizes text names x)) (index_tests (is_counted text names x) (is_index index n) suits (list_counted text names w x))
      (judged_bind (count_of text scope x) (λ count. refused_if (not (is_index index count)) (refusal.IllTyped name_at) >>= (λ _. list_of text scope w x)) (is_counted text names x) (not (not (is_index index n)) && suits) (λ count. count ≡ n) (AreGiven domains w (list_sizes text names x)) (count_judged text domains scope names sorted x) rest)

pub domain_judged : (at : ℕ) (type : Base) → Judged (domain_of at type) (is_bounded type) (λ domain. domain ≡ values_in type)
domain_judged at base.Bool = (refl, refl)
domain_judged at base.Int = refl
domain_judged at base.Float = refl
domain_judged at base.Set = refl
domain_judged at (base.Range low high) =
    let n = count_between low high in
    judged_map (within DomainSize n at) (λ _. numbers_between low high) (is_within DomainSize n) (λ _. nat_lt (most DomainSize) n ≡ false) (λ domain. domain ≡ numbers_between low high) (judged_if (nat_lt (most DomainSize) n) (refusal.Limit DomainSize n at)) (λ _ _. refl)
domain_judged at (base.Listed values) =
    let n = length (values_of_list values) in
    judged_map (within DomainSize n at) (λ _. values_of_list values) (is_within DomainSize n) (λ _. nat_lt (most DomainSize) n ≡ false) (λ domain. domain ≡ values_of_list values) (judged_if (nat_lt (most DomainSize) n) (refusal.Limit DomainSize n at)) (λ _ _. refl)

pub element_judged : (at : ℕ) (type : Base) → Judged (check_element at type) (is_of_numbers type) (λ _. Unit {0})
element_judged at base.Bool = (refl, tt)
element_judged at base.Int = (refl, tt)
element_judged at base.Float = refl
element_judged at base.Set = refl
element_judged at (base.Range low high) = (refl, tt)
element_judged at (base.Listed values) = (refl, tt)

-- the rule of a right side
pub with_source_judged : (at : ℕ) (q : Contents) (variables rules : List ℕ) (boolean : Bool) (number : ℕ) (o : Option Term) (right : Option Expr) → Counted q variables rules → is_some o ≡ is_some right
    → Judged (with_source at q boolean number o) (are_few variables (rules ++ source_sizes right)) (AreAdded q variables (rules ++ source_sizes right))
with_source_judged at q variables rules boolean number None None h e =
    let k = subst (λ (rs : List ℕ). Counted q variables rs) (sym (append-nil rules)) h in
    (k.few, record { domains = refl; counted = k })
with_source_judged at q variables rules boolean number None (Some x) h e = absurd cc
with_source_judged at q variables rules boolean number (Some source) None h e = absurd cc
with_source_judged at q variables rules boolean number (Some source) (Some x) h e =
    let rule = Plain (equality boolean) (Var number ∷ source ∷ []) [] [] (members.Listed []) in
    let two : size_of rule ≡ 2 = omega arith in
    let few : 2 ≤ 4 = omega arith in
    judged_more (with_rule at q rule) (are_few variables (rules ++ 2 ∷ [])) (λ r. (are_few variables (rules ++ 2 ∷ []) ≡ true) × (r ≡ with_one_rule q rule)) (AreAdded q variables (rules ++ 2 ∷ []))
    (λ r k. record { domains = ap (λ (z : Contents). z.domains) k.1; counted = subst (λ (z : Contents). Counted z variables (rules ++ 2 ∷ [])) (sym k.1) (counted_rule q variables rules rule 2 h two k.0) })
    (judged_with (with_rule at q rule) (are_few variables (rules ++ 2 ∷ [])) (λ r. r ≡ with_one_rule q rule)
    (subst (λ (n : ℕ). Judged (with_rule at q rule) (are_few variables (rules ++ n ∷ [])) (λ r. r ≡ with_one_rule q rule)) two (small_judged at q variables rules (equality boolean) (Var number ∷ source ∷ []) (members.Listed []) h few)))

-- the rules that elements are in a set
members_judged : (at : ℕ) (q : Contents) (variables rules : List ℕ) (set : Members) (count : ℕ) (domains : List (List ℤ)) (terms : List Term) (ns : List ℕ) → AreSized domains terms ns → 1 + length (values_of set) ≡ count → Counted q variables rules
    → Judged (with_members at q (Some set) terms) (are_few variables (rules ++ member_sizes (Some count) ns)) (AreAdded q variables (rules ++ member_sizes (Some count) ns))
members_judged at q variables rules set count domains [] [] z e h =
    let k = subst (λ (rs : List ℕ). Counted q variables rs) (sym (append-nil rules)) h in
    (k.few, record { domains = refl; counted = k })
members_judged at q variables rules set count domains [] (n ∷ ns) z e h = absurd z
members_judged at q variables rules set count domains (t ∷ ts) [] z e h = absurd z
members_judged at q variables rules set count domains (t ∷ ts) (n ∷ ns) z e h =
    let rule = Plain SetIn (t ∷ []) [] [] set in
    let rest = member_sizes (Some count) ns in
    let same : (rules ++ count ∷ []) ++ rest ≡ rules ++ count ∷ rest = append_assoc rules (count ∷ []) rest in
    let sized : size_of rule ≡ count = sized_of e in
    let few : 1 ≤ 4 = omega arith in
    let here = are_few variables (rules ++ count ∷ []) in
    let all = are_few variables (rules ++ count ∷ rest) in
    let one : Judged (with_rule at q rule) here (λ r. (here ≡ true) × (r ≡ with_one_rule q rule)) =
    judged_with (with_rule at q rule) here (λ r. r ≡ with_one_rule q rule) (subst (λ (m : ℕ). Judged (with_rule at q rule) (are_few variables (rules ++ m ∷ [])) (λ r. r ≡ with_one_rule q rule)) sized (small_judged at q variables rules SetIn (t ∷ []) set h few)) in
    let more : (r : Contents) → (here ≡ true) × (r ≡ with_one_rule q rule) → Judged (with_members at r (Some set) ts) all (AreAdded q variables (rules ++ count ∷ rest)) =
    λ r k.
    let c = subst (λ (x : Contents). Counted x variables (rules ++ count ∷ [])) (sym k.1) (counted_rule q variables rules rule count h sized k.0) in
    let d : r.domains ≡ q.domains = ap (λ (x : Contents). x.domains) k.1 in
    judged_more (with_members at r (Some set) ts) all (AreAdded r variables (rules ++ count ∷ rest)) (AreAdded q variables (rules ++ count ∷ rest)) (λ x a. record { domains = a.domains ∙ d; counted = a.counted })
    (subst (λ (rs : List ℕ). Judged (with_members at r (Some set) ts) (are_few variables rs) (AreAdded r variables rs)) same (members_judged at r variables (rules ++ count ∷ []) set count domains ts ns z.1 e c)) in
    judged_test (with_rule at q rule >>= (λ r. with_members at r (Some set) ts)) (here && all) all (AreAdded q variables (rules ++ count ∷ rest))
    (and_absorbs here all (λ f. few_less variables (rules ++ count ∷ []) rest (subst (λ (rs : List ℕ). are_few variables rs ≡ true) (sym same) f)))
    (judged_bind (with_rule at q rule) (λ r. with_members at r (Some set) ts) here all (λ r. (here ≡ true) × (r ≡ with_one_rule q rule)) (AreAdded q variables (rules ++ count ∷ rest)) one more) where
      sized_of : 1 + length (values_of set) ≡ count → size_of (Plain SetIn (t ∷ []) [] [] set) ≡ count
      sized_of e = omega (arith, e)

none_judged : (at : ℕ) (q : Contents) (variables rules : List ℕ) (terms : List Term) → Counted q variables rules → Judged (with_members at q None terms) (are_few variables (rules ++ [])) (AreAdded q variables (rules ++ []))
none_judged at q variables rules [] h =
    let k = subst (λ (rs : List ℕ). Counted q variables rs) (sym (append-nil rules)) h in
    (k.few, record { domains = refl; counted = k })
none_judged at q variables rules (t ∷ ts) h = none_judged at q variables rules ts h

pub set_rules_judged : (at : ℕ) (q : Contents) (variables rules : List ℕ) (type : Base) (domains : List (List ℤ)) (terms : List Term) (ns : List ℕ) → AreSized domains terms ns → Counted q variables rules
    → Judged (with_members at q (element_set type) terms) (are_few variables (rules ++ member_sizes (member_size type) ns)) (AreAdded q variables (rules ++ member_sizes (member_size type) ns))
set_rules_judged at q variables rules base.Bool domains terms ns z h = none_judged at q variables rules terms h
set_rules_judged at q variables rules base.Int domains terms ns z h = none_judged at q variables rules terms h
set_rules_judged at q variables rules base.Float domains terms ns z h = none_judged at q variables rules terms h
set_rules_judged at q variables rules base.Set domains terms ns z h = none_judged at q variables rules terms h
set_rules_judged at q variables rules (base.Range low high) domains terms ns z h = members_judged at q variables rules (members.Between low high) 1 domains terms ns z (omega arith) h
set_rules_judged at q variables rules (base.Listed values) domains terms ns z h = members_judged at q variables rules (members.Listed values) (1 + length values) domains terms ns z refl h
