-- Each item is judged by the items before it.
use Rattle.std.proofs.Common.{◌≡◌, ℕ, ◌+◌, Bool, true, false, not, ◌&&◌, ◌||◌, List, [], ◌∷◌, ◌++◌, length, Option, Some, None, Result, Ok, Err, refl, sym, ap, ◌∙◌, subst, append-nil, length-append, arith}
use Rattle.std.specs.Prelude.{ℤ, nat_lt, is_some, is_none}
use Rattle.std.proofs.Math.Seq.{get_or-append_seam}
use Rattle.fzn_item.specs.declared.item.Expr.{Expr}
use Rattle.fzn_item.specs.declared.item.Base.{Base}
use Rattle.fzn_item.specs.declared.item.Marked.{Marked}
use Rattle.fzn_item.specs.declared.item.Goal.{Goal}
use Rattle.fzn_item.specs.declared.item.Goal.TheVariants as goals
use Rattle.fzn_item.specs.declared.item.Item.TheVariants as item
use Rattle.dcsp_common.specs.declared.limits.Which.TheVariants.{Elements}
use Rattle.dcsp_rule.specs.declared.aim.Aim.{Aim}
use Rattle.dcsp_rule.specs.declared.aim.Aim.TheVariants.{Least, Greatest}
use Rattle.dcsp_rule.specs.declared.rule.Term.{Term}
use Rattle.dcsp_rule.specs.declared.rule.Term.TheVariants.{Var}
use Rattle.dcsp_rule.specs.declared.rule.Rule.{Rule}
use Rattle.dcsp_common.specs.Limits.{most}
use Rattle.dcsp_rule.specs.Rules.{size_of}
use Rattle.dcsp_rule.specs.Widths.{greatest_among}
use Rattle.dcsp_rule.specs.Problems.{Contents}
use Rattle.fzn_scope.specs.declared.names.Declared.{Declared}
use Rattle.fzn_scope.specs.declared.names.Declared.TheVariants as declared
use Rattle.fzn_scope.specs.declared.place.Wanted.{Wanted}
use Rattle.fzn_token.specs.declared.refusal.Refusal.{Refusal}
use Rattle.fzn_token.specs.declared.refusal.Refusal.TheVariants as refusal
use Rattle.fzn_scope.specs.Checks.{◌>>=◌, refused_if}
use Rattle.fzn_scope.specs.Names.{declared_as, bytes_at}
use Rattle.fzn_scope.specs.Places.{one_of}
use Rattle.fzn_scope.specs.Forms.{form_named}
use Rattle.fzn_scope.specs.Rules.{constraint_rule}
use Rattle.fzn_model.specs.Building.{with_variable, with_rule, with_output}
use Rattle.fzn_model.specs.Declarations.{SoFar, named, within, is_late, declaration, is_boolean, value_of, parameter, domain_of, source_of, with_source, variable_output, variable, check_element, element_set, is_index, is_shaped, with_set, array_output, elements, array}
use Rattle.fzn_model.specs.Items.{declared_by, constraint, an_integer, aim_of, solve, predicate}
use Rattle.law_inputs.specs.Sorts.{Sort, One, Many, Names, sort_named, one_suits, one_size, list_suits, list_sizes}
use Rattle.law_inputs.specs.Arguments.{is_within, constraint_suits, constraint_size}
use Rattle.law_inputs.specs.Accepted.{values_in, is_bounded, is_of_numbers, member_size, value_suits, parameter_suits, source_suits, elements_suit, declaration_suits, right_sizes, value_sort, sort_of, variable_sizes, source_sizes, member_sizes, rule_sizes, are_few, goal_suits}
use Rattle.law_inputs.proofs.Judging.{Judged, judged_bind, judged_map, judged_if, judged_test, judged_more, judged_with, and_absorbs}
use Rattle.law_inputs.proofs.SortedNames.{IsSized, AreSized, HasSort, IsDeclaredSo, HaveSorts, Looked, looked, pairwise_push, pairwise_length, sorts_more}
use Rattle.law_inputs.proofs.JudgedExprs.{IsGiven, AreGiven, one_judged}
use Rattle.law_inputs.proofs.JudgedLimits.{Counted, with_domain, with_one_rule, variable_judged}
use Rattle.law_inputs.proofs.JudgedRules.{HasRule, named_judged}
use Rattle.law_inputs.proofs.JudgedDeclarations.{few_less, counted_domain, counted_rule, counted_nil, counted_output, output_domains, AreAdded, value_judged, source_judged, elements_judged, domain_judged, element_judged, with_source_judged, set_rules_judged}

-- what there is so far is as the items say: the sorts of names, the counts, and whether there was a solve item and a constraint
pub record Stands (names : Names) (variables rules : List ℕ) (solved constrained : Bool) (s : SoFar) : Type 0 where
  pub sorted : HaveSorts s.problem.domains s.scope names
  pub counted : Counted s.problem variables rules
  pub solved_is : s.solved ≡ solved
  pub constrained_is : s.constrained ≡ constrained

-- ---- truths

or_false : (b : Bool) → b ≡ (b || false)
or_false true = refl
or_false false = refl

or_true : (b : Bool) → true ≡ (b || true)
or_true true = refl
or_true false = refl

and_true : (a b : Bool) → b ≡ true → a ≡ (a && b)
and_true a b e = subst (λ (c : Bool). a ≡ (a && c)) (sym e) (alone a) where
  alone : (a : Bool) → a ≡ (a && true)
  alone true = refl
  alone false = refl

pub and_assoc : (a b c : Bool) → (a && (b && c)) ≡ ((a && b) && c)
and_assoc true b c = refl
and_assoc false b c = refl

and_nothing : (a b : Bool) → (a && false) ≡ ((a && false) && b)
and_nothing true b = refl
and_nothing false b = refl

variable_group : (b s f g : Bool) → (g ≡ true → f ≡ true) → (b && (s && (f && g))) ≡ ((b && s) && g)
variable_group true true f g h = and_absorbs f g h
variable_group true false f g h = refl
variable_group false s f g h = refl

array_group : (o l i t w f : Bool) → (o && ((l && i) && (t && (w && f)))) ≡ ((o && (((l && i) && t) && w)) && f)
array_group true true true true w f = refl
array_group true true true false w f = refl
array_group true true false t w f = refl
array_group true false i t w f = refl
array_group false l i t w f = refl

bind_assoc : {A B C E : Type 0} (x : Result A E) (f : A → Result B E) (g : B → Result C E) → ((x >>= f) >>= g) ≡ (x >>= (λ a. f a >>= g))
bind_assoc (Ok a) f g = refl
bind_assoc (Err e) f g = refl

-- ---- items

module _ (text : List ℕ) (names : Names) (variables rules : List ℕ) (solved constrained : Bool) (s : SoFar) (h : Stands names variables rules solved constrained s) where
  late : not (is_late s) ≡ not (solved || constrained)
  late = ap (λ (b : Bool). not (b || s.constrained)) h.solved_is ∙ ap (λ (b : Bool). not (solved || b)) h.constrained_is

  few : are_few (variables ++ []) (rules ++ []) ≡ true
  few = (counted_nil s.problem variables rules h.counted).few

  -- what adds nothing
  unchanged : Stands names (variables ++ []) (rules ++ []) (solved || false) (constrained || false) s
  unchanged = record { sorted = h.sorted; counted = counted_nil s.problem variables rules h.counted; solved_is = h.solved_is ∙ or_false solved; constrained_is = h.constrained_is ∙ or_false constrained }

  pub predicate_judged : (at : ℕ) → Judged (predicate s at) (not (solved || constrained) && are_few (variables ++ []) (rules ++ [])) (Stands names (variables ++ []) (rules ++ []) (solved || false) (constrained || false))
  unfolding predicate
  predicate_judged at =
      judged_test (predicate s at) (not (is_late s)) (not (solved || constrained) && are_few (variables ++ []) (rules ++ [])) (Stands names (variables ++ []) (rules ++ []) (solved || false) (constrained || false))
      (late ∙ and_true (not (solved || constrained)) (are_few (variables ++ []) (rules ++ [])) few)
      (judged_map (refused_if (is_late s) (refusal.Misplaced at)) (λ _. s) (not (is_late s)) (λ _. is_late s ≡ false) (Stands names (variables ++ []) (rules ++ []) (solved || false) (constrained || false)) (judged_if (is_late s) (refusal.Misplaced at)) (λ _ _. unchanged))

  -- ---- the goal

  goal_judged : (goal : Goal) → Judged (aim_of text s.scope goal) (goal_suits text names goal) (λ _. Unit {0})
  goal_judged goals.Satisfy = (refl, tt)
  goal_judged (goals.Minimize at what) = judged_map (one_of text s.scope an_integer what) Least (one_suits text names an_integer what) (IsGiven s.problem.domains an_integer (one_size text names what)) (λ _. Unit {0}) (one_judged text s.problem.domains s.scope names h.sorted an_integer what) (λ _ _. tt)
  goal_judged (goals.Maximize at what) = judged_map (one_of text s.scope an_integer what) Greatest (one_suits text names an_integer what) (IsGiven s.problem.domains an_integer (one_size text names what)) (λ _. Unit {0}) (one_judged text s.problem.domains s.scope names h.sorted an_integer what) (λ _ _. tt)

  aimed : (aim : Aim) → Stands names (variables ++ []) (rules ++ []) (solved || true) (constrained || false) (record s { problem = record s.problem { aim = aim }; solved = true })
  aimed aim =
      let k = counted_nil s.problem variables rules h.counted in
      record { sorted = h.sorted; counted = record { variables_are = k.variables_are; rules_are = k.rules_are; few = k.few }; solved_is = or_true solved; constrained_is = h.constrained_is ∙ or_false constrained }

  pub solve_judged : (at : ℕ) (goal : Goal) → Judged (solve text s at goal) ((not solved && goal_suits text names goal) && are_few (variables ++ []) (rules ++ [])) (Stands names (variables ++ []) (rules ++ []) (solved || true) (constrained || false))
  unfolding solve
  solve_judged at goal =
      let P = Stands names (variables ++ []) (rules ++ []) (solved || true) (constrained || false) in
      let rest : Unit {0} → Result SoFar Refusal = λ _. aim_of text s.scope goal >>= (λ aim. Ok (record s { problem = record s.problem { aim = aim }; solved = true })) in
      judged_test (refused_if s.solved (refusal.Misplaced at) >>= rest) (not s.solved && goal_suits text names goal) ((not solved && goal_suits text names goal) && are_few (variables ++ []) (rules ++ [])) P
      (ap (λ (b : Bool). not b && goal_suits text names goal) h.solved_is ∙ and_true (not solved && goal_suits text names goal) (are_few (variables ++ []) (rules ++ [])) few)
      (judged_bind (refused_if s.solved (refusal.Misplaced at)) rest (not s.solved) (goal_suits text names goal) (λ _. s.solved ≡ false) P (judged_if s.solved (refusal.Misplaced at))
      (λ _ _. judged_map (aim_of text s.scope goal) (λ aim. record s { problem = record s.problem { aim = aim }; solved = true }) (goal_suits text names goal) (λ _. Unit {0}) P (goal_judged goal) (λ aim _. aimed aim)))

  -- ---- constraints

  ruled : (n : ℕ) (q : Contents) (rule : Rule) → are_few (variables ++ []) (rules ++ n ∷ []) ≡ true → q ≡ with_one_rule s.problem rule → size_of rule ≡ n
      → Stands names (variables ++ []) (rules ++ n ∷ []) (solved || false) (constrained || true) (record s { problem = q; constrained = true })
  ruled n q rule f e k =
      let c = subst (λ (vs : List ℕ). Counted s.problem vs rules) (sym (append-nil variables)) h.counted in
      record {
        sorted = subst (λ (ds : List (List ℤ)). HaveSorts ds s.scope names) (sym (ap (λ (x : Contents). x.domains) e)) h.sorted;
        counted = subst (λ (x : Contents). Counted x (variables ++ []) (rules ++ n ∷ [])) (sym e) (counted_rule s.problem (variables ++ []) rules rule n c k f);
        solved_is = h.solved_is ∙ or_false solved;
        constrained_is = or_true constrained;
      }

  pub constraint_judged : (at name_at : ℕ) (name : List ℕ) (xs : List Expr)
      → Judged (constraint text s at name_at name xs) ((not solved && constraint_suits text names (form_named name) xs) && are_few (variables ++ []) (rules ++ constraint_size text names (form_named name) xs ∷ []))
      (Stands names (variables ++ []) (rules ++ constraint_size text names (form_named name) xs ∷ []) (solved || false) (constrained || true))
  unfolding constraint
  constraint_judged at name_at name xs =
      let n = constraint_size text names (form_named name) xs in
      let suits = constraint_suits text names (form_named name) xs in
      let enough = are_few (variables ++ []) (rules ++ n ∷ []) in
      let P = Stands names (variables ++ []) (rules ++ n ∷ []) (solved || false) (constrained || true) in
      let c = subst (λ (vs : List ℕ). Counted s.problem vs rules) (sym (append-nil variables)) h.counted in
      let put : Rule → Result Contents Refusal = λ rule. with_rule name_at s.problem rule in
      let end : Contents → SoFar = λ q. record s { problem = q; constrained = true } in
      let added : Result Contents Refusal = constraint_rule text s.scope name_at name xs >>= put in
      let rest : Unit {0} → Result SoFar Refusal = λ _. constraint_rule text s.scope name_at name xs >>= (λ rule. put rule >>= (λ q. Ok (end q))) in
      let rule_of_it : Judged added (suits && enough) (HasRule text names s.scope s.problem h.sorted name_at xs n) = named_judged text names s.scope s.problem h.sorted name_at xs name (variables ++ []) rules c in
      let whole : Judged (added >>= (λ q. Ok (end q))) (suits && enough) P =
      judged_map added end (suits && enough) (λ q. ((suits && enough) ≡ true) × HasRule text names s.scope s.problem h.sorted name_at xs n q) P (judged_with added (suits && enough) (HasRule text names s.scope s.problem h.sorted name_at xs n) rule_of_it)
      (λ q k. ruled n q k.1.rule (right_of suits enough k.0) k.1.added k.1.sized) in
      judged_test (refused_if s.solved (refusal.Misplaced at) >>= rest) (not s.solved && (suits && enough)) ((not solved && suits) && enough) P
      (ap (λ (b : Bool). not b && (suits && enough)) h.solved_is ∙ and_assoc (not solved) suits enough)
      (judged_bind (refused_if s.solved (refusal.Misplaced at)) rest (not s.solved) (suits && enough) (λ _. s.solved ≡ false) P (judged_if s.solved (refusal.Misplaced at))
      (λ _ _. subst (λ (x : Result SoFar Refusal). Judged x (suits && enough) P) (bind_assoc (constraint_rule text s.scope name_at name xs) put (λ q. Ok (end q))) whole)) where
        right_of : (a b : Bool) → (a && b) ≡ true → b ≡ true
        right_of true b e = e
        right_of false b e = absurd cc

  -- ---- declarations

  is_new_as : (d : Option Declared) (o : Option Sort) → Looked s.problem.domains d o → not (is_some d) ≡ is_none o
  is_new_as None None k = refl
  is_new_as None (Some o) k = absurd k
  is_new_as (Some d) None k = absurd k
  is_new_as (Some d) (Some o) k = refl

  pub declaration_judged : (at name_at : ℕ) (name : List ℕ) → Judged (declaration s at name_at name) (not (solved || constrained) && is_none (sort_named names name)) (λ _. Unit {0})
  declaration_judged at name_at name =
      let old = is_some (declared_as s.scope name) in
      let second : Unit {0} → Result (Unit {0}) Refusal = λ _. refused_if old (refusal.Duplicate name_at) in
      judged_test (refused_if (is_late s) (refusal.Misplaced at) >>= second) (not (is_late s) && not old) (not (solved || constrained) && is_none (sort_named names name)) (λ _. Unit {0})
      (ap (λ (b : Bool). b && not old) late ∙ ap (λ (b : Bool). not (solved || constrained) && b) (is_new_as (declared_as s.scope name) (sort_named names name) (looked s.problem.domains s.scope names h.sorted name)))
      (judged_bind (refused_if (is_late s) (refusal.Misplaced at)) second (not (is_late s)) (not old) (λ _. is_late s ≡ false) (λ _. Unit {0}) (judged_if (is_late s) (refusal.Misplaced at))
      (λ _ _. judged_more (refused_if old (refusal.Duplicate name_at)) (not old) (λ _. old ≡ false) (λ _. Unit {0}) (λ _ _. tt) (judged_if old (refusal.Duplicate name_at))))

  -- a name more, over these domains
  name_more : (name : List ℕ) (d : Declared) (sort : Sort) (domains : List (List ℤ)) → HaveSorts domains s.scope names → HasSort domains d sort → HaveSorts domains (s.scope ++ (name, d) ∷ []) (names ++ (name, sort) ∷ [])
  name_more name d sort domains k l = pairwise_push (IsDeclaredSo domains) s.scope names (name, d) (name, sort) k (refl, l)

  parameter_judged : (at : ℕ) (type : Base) (name_at : ℕ) (name : List ℕ) (right : Option Expr)
      → Judged (parameter text s at type name_at name right) (parameter_suits text names type right && are_few (variables ++ []) (rules ++ [])) (Stands (names ++ (name, value_sort text names type right) ∷ []) (variables ++ []) (rules ++ []) (solved || false) (constrained || false))
  unfolding parameter
  parameter_judged at type name_at name None = refl
  parameter_judged at type name_at name (Some x) =
      let sort = value_sort text names type (Some x) in
      let P = Stands (names ++ (name, sort) ∷ []) (variables ++ []) (rules ++ []) (solved || false) (constrained || false) in
      let end : Declared → SoFar = λ d. named s s.problem name d in
      judged_test (value_of text s.scope at type x >>= (λ d. Ok (end d))) (value_suits text names type x) (value_suits text names type x && are_few (variables ++ []) (rules ++ [])) P (and_true (value_suits text names type x) (are_few (variables ++ []) (rules ++ [])) few)
      (judged_map (value_of text s.scope at type x) end (value_suits text names type x) (λ d. HasSort s.problem.domains d sort) P (value_judged text names s.problem.domains s.scope h.sorted at type x)
      (λ d k. record { sorted = name_more name d sort s.problem.domains h.sorted k; counted = unchanged.counted; solved_is = unchanged.solved_is; constrained_is = unchanged.constrained_is }))

  variable_is_judged : (at : ℕ) (type : Base) (name_at : ℕ) (name : List ℕ) (marked : Marked) (right : Option Expr)
      → Judged (variable text s at type name_at name marked right) ((is_bounded type && source_suits text names type right) && are_few (variables ++ length (values_in type) ∷ []) (rules ++ source_sizes right))
      (Stands (names ++ (name, One (is_boolean type) false (greatest_among (values_in type))) ∷ []) (variables ++ length (values_in type) ∷ []) (rules ++ source_sizes right) (solved || false) (constrained || false))
  unfolding variable
  variable_is_judged at type name_at name marked right =
      let n = length s.problem.domains in
      let boolean = is_boolean type in
      let domain = values_in type in
      let vs = variables ++ length domain ∷ [] in
      let rs = rules ++ source_sizes right in
      let value = declared.One boolean (Var n) in
      let sort = One boolean false (greatest_among domain) in
      let out = variable_output name boolean n marked in
      let P = Stands (names ++ (name, sort) ∷ []) vs rs (solved || false) (constrained || false) in
      let end : Contents → SoFar = λ r. named s (with_output r out) name value in
      let wide = s.problem.domains ++ domain ∷ [] in
      let long : length wide ≡ n + 1 = length-append s.problem.domains (domain ∷ []) in
      let own : HasSort wide value sort = (refl, refl, (ap (λ (d : List ℤ). greatest_among d) (get_or-append_seam s.problem.domains domain [] []), omega (arith, long))) in
      let stands : (q r : Contents) → q ≡ with_domain s.problem domain → AreAdded q vs rs r → P (end r) =
      λ q r e a.
      let same : (with_output r out).domains ≡ wide = output_domains r out ∙ a.domains ∙ ap (λ (x : Contents). x.domains) e in
      record {
        sorted = subst (λ (ds : List (List ℤ)). HaveSorts ds (s.scope ++ (name, value) ∷ []) (names ++ (name, sort) ∷ [])) (sym same) (name_more name value sort wide (sorts_more s.problem.domains (domain ∷ []) s.scope names h.sorted) own);
        counted = counted_output r vs rs out a.counted;
        solved_is = h.solved_is ∙ or_false solved;
        constrained_is = h.constrained_is ∙ or_false constrained;
      } in
      let enough = are_few vs rules in
      let last : (o : Option Term) → is_some o ≡ is_some right → (q : Contents) → (enough ≡ true) × (q ≡ with_domain s.problem domain) → Judged (with_source name_at q boolean n o >>= (λ r. Ok (end r))) (are_few vs rs) P =
      λ o e q k.
      let c = subst (λ (x : Contents). Counted x vs rules) (sym k.1) (counted_domain s.problem variables rules domain h.counted k.0) in
      judged_map (with_source name_at q boolean n o) end (are_few vs rs) (AreAdded q vs rs) P (with_source_judged name_at q vs rules boolean n o right c e) (λ r a. stands q r k.1 a) in
      let third : (o : Option Term) → is_some o ≡ is_some right → Judged (with_variable name_at s.problem domain >>= (λ q. with_source name_at q boolean n o >>= (λ r. Ok (end r)))) (enough && are_few vs rs) P =
      λ o e. judged_bind (with_variable name_at s.problem domain) (λ q. with_source name_at q boolean n o >>= (λ r. Ok (end r))) enough (are_few vs rs) (λ q. (enough ≡ true) × (q ≡ with_domain s.problem domain)) P
      (judged_with (with_variable name_at s.problem domain) enough (λ q. q ≡ with_domain s.problem domain) (variable_judged name_at s.problem variables rules domain h.counted)) (last o e) in
      let after_domain : List ℤ → Result SoFar Refusal = λ d. source_of text s.scope boolean right >>= (λ o. with_variable name_at s.problem d >>= (λ q. with_source name_at q boolean n o >>= (λ r. Ok (end r)))) in
      let second : Judged (after_domain domain) (source_suits text names type right && (enough && are_few vs rs)) P =
      judged_bind (source_of text s.scope boolean right) (λ o. with_variable name_at s.problem domain >>= (λ q. with_source name_at q boolean n o >>= (λ r. Ok (end r)))) (source_suits text names type right) (enough && are_few vs rs) (λ (o : Option Term). is_some o ≡ is_some right) P
      (source_judged text names s.problem.domains s.scope h.sorted type right) third in
      judged_test (domain_of at type >>= after_domain) (is_bounded type && (source_suits text names type right && (enough && are_few vs rs))) ((is_bounded type && source_suits text names type right) && are_few vs rs) P
      (variable_group (is_bounded type) (source_suits text names type right) enough (are_few vs rs) (few_less vs rules (source_sizes right)))
      (judged_bind (domain_of at type) after_domain (is_bounded type) (source_suits text names type right && (enough && are_few vs rs)) (λ d. d ≡ domain) P (domain_judged at type)
      (λ d e. subst (λ (x : List ℤ). Judged (after_domain x) (source_suits text names type right && (enough && are_few vs rs)) P) (sym e) second))

  -- the constraints of an array's elements
  abbrev element_sizes : Bool → Base → List ℕ → List ℕ
  element_sizes true type ns = member_sizes (member_size type) ns
  element_sizes false type ns = []

  with_set_judged : (isvar : Bool) (at : ℕ) (vs : List ℕ) (type : Base) (terms : List Term) (ns : List ℕ) → Counted s.problem vs rules → AreSized s.problem.domains terms ns
      → Judged (with_set isvar at s.problem (element_set type) terms) (are_few vs (rules ++ element_sizes isvar type ns)) (AreAdded s.problem vs (rules ++ element_sizes isvar type ns))
  with_set_judged true at vs type terms ns c z = set_rules_judged at s.problem vs rules type s.problem.domains terms ns z c
  with_set_judged false at vs type terms ns c z =
      let k = subst (λ (rs : List ℕ). Counted s.problem vs rs) (sym (append-nil rules)) c in
      (k.few, record { domains = refl; counted = k })

  array_is_judged : (at : ℕ) (isvar : Bool) (index : ℤ × ℤ) (type : Base) (name_at : ℕ) (name : List ℕ) (marked : Marked) (right : Option Expr)
      → Judged (array text s at isvar index type name_at name marked right)
      ((is_of_numbers type && elements_suit text names isvar index type marked right) && are_few (variables ++ []) (rules ++ element_sizes isvar type (right_sizes text names right)))
      (Stands (names ++ (name, Many (is_boolean type) isvar (right_sizes text names right)) ∷ []) (variables ++ []) (rules ++ element_sizes isvar type (right_sizes text names right)) (solved || false) (constrained || false))
  unfolding array
  array_is_judged at isvar index type name_at name marked None =
      let P = Stands (names ++ (name, Many (is_boolean type) isvar []) ∷ []) (variables ++ []) (rules ++ element_sizes isvar type []) (solved || false) (constrained || false) in
      let enough = are_few (variables ++ []) (rules ++ element_sizes isvar type []) in
      let refused : Unit {0} → Result SoFar Refusal = λ _. Err (refusal.IllTyped name_at) in
      judged_test (check_element at type >>= refused) (is_of_numbers type && false) ((is_of_numbers type && false) && enough) P (and_nothing (is_of_numbers type) enough)
      (judged_bind (check_element at type) refused (is_of_numbers type) false (λ _. Unit {0}) P (element_judged at type) (λ _ _. refl))
  array_is_judged at isvar index type name_at name marked (Some x) =
      let boolean = is_boolean type in
      let w : Wanted = record { boolean = boolean; constant = not isvar } in
      let ns = list_sizes text names x in
      let vs = variables ++ [] in
      let rs = rules ++ element_sizes isvar type ns in
      let sort = Many boolean isvar ns in
      let P = Stands (names ++ (name, sort) ∷ []) vs rs (solved || false) (constrained || false) in
      let c = subst (λ (xs : List ℕ). Counted s.problem xs rules) (sym (append-nil variables)) h.counted in
      let end : List Term → Contents → SoFar = λ terms r. named s (with_output r (array_output name isvar boolean marked terms)) name (declared.Many boolean isvar terms) in
      let stands : (terms : List Term) → AreGiven s.problem.domains w ns terms → (r : Contents) → AreAdded s.problem vs rs r → P (end terms r) =
      λ terms g r a.
      let out = array_output name isvar boolean marked terms in
      let same : (with_output r out).domains ≡ s.problem.domains = output_domains r out ∙ a.domains in
      record {
        sorted = subst (λ (ds : List (List ℤ)). HaveSorts ds (s.scope ++ (name, declared.Many boolean isvar terms) ∷ []) (names ++ (name, sort) ∷ [])) (sym same)
            (name_more name (declared.Many boolean isvar terms) sort s.problem.domains h.sorted (refl, refl, g.0, λ e. g.1 (ap not e)));
        counted = counted_output r vs rs out a.counted;
        solved_is = h.solved_is ∙ or_false solved;
        constrained_is = h.constrained_is ∙ or_false constrained;
      } in
      let put : List Term → Result SoFar Refusal = λ terms. with_set isvar name_at s.problem (element_set type) terms >>= (λ r. Ok (end terms r)) in
      let counted_in : List Term → Result SoFar Refusal = λ terms. within Elements (length terms) name_at >>= (λ _. put terms) in
      let shaped : List Term → Result SoFar Refusal = λ terms. refused_if (isvar && not (is_shaped marked (length terms))) (refusal.OutputShape name_at) >>= (λ _. counted_in terms) in
      let enough = are_few vs rs in
      let last : (terms : List Term) → AreGiven s.problem.domains w ns terms → Judged (put terms) enough P =
      λ terms g. judged_map (with_set isvar name_at s.problem (element_set type) terms) (end terms) enough (AreAdded s.problem vs rs) P (with_set_judged isvar name_at vs type terms ns c g.0) (stands terms g) in
      let third : (terms : List Term) → AreGiven s.problem.domains w ns terms → Judged (counted_in terms) (is_within Elements (length terms) && enough) P =
      λ terms g. judged_bind (within Elements (length terms) name_at) (λ _. put terms) (is_within Elements (length terms)) enough (λ _. nat_lt (most Elements) (length terms) ≡ false) P (judged_if (nat_lt (most Elements) (length terms)) (refusal.Limit Elements (length terms) name_at)) (λ _ _. last terms g) in
      let second : (terms : List Term) → AreGiven s.problem.domains w ns terms → Judged (shaped terms) (not (isvar && not (is_shaped marked (length terms))) && (is_within Elements (length terms) && enough)) P =
      λ terms g. judged_bind (refused_if (isvar && not (is_shaped marked (length terms))) (refusal.OutputShape name_at)) (λ _. counted_in terms) (not (isvar && not (is_shaped marked (length terms)))) (is_within Elements (length terms) && enough) (λ _. (isvar && not (is_shaped marked (length terms))) ≡ false) P (judged_if (isvar && not (is_shaped marked (length terms))) (refusal.OutputShape name_at)) (λ _ _. third terms g) in
      let sized : (terms : List Term) → AreGiven s.problem.domains w ns terms → Judged (shaped terms) (not (isvar && not (is_shaped marked (length ns))) && (is_within Elements (length ns) && enough)) P =
      λ terms g. subst (λ (n : ℕ). Judged (shaped terms) (not (isvar && not (is_shaped marked n)) && (is_within Elements n && enough)) P) (pairwise_length (IsSized s.problem.domains) terms ns g.0) (second terms g) in
      let listed = list_suits text names w x && is_index index (length ns) in
      let after_element : Unit {0} → Result SoFar Refusal = λ _. elements text s.scope isvar type index name_at x >>= shaped in
      let first : Judged (elements text s.scope isvar type index name_at x >>= shaped) (listed && (not (isvar && not (is_shaped marked (length ns))) && (is_within Elements (length ns) && enough))) P =
      judged_bind (elements text s.scope isvar type index name_at x) shaped listed (not (isvar && not (is_shaped marked (length ns))) && (is_within Elements (length ns) && enough)) (AreGiven s.problem.domains w ns) P (elements_judged text names s.problem.domains s.scope h.sorted isvar type index name_at x) sized in
      judged_test (check_element at type >>= after_element) (is_of_numbers type && (listed && (not (isvar && not (is_shaped marked (length ns))) && (is_within Elements (length ns) && enough)))) ((is_of_numbers type && elements_suit text names isvar index type marked (Some x)) && enough) P
      (array_group (is_of_numbers type) (list_suits text names w x) (is_index index (length ns)) (not (isvar && not (is_shaped marked (length ns)))) (is_within Elements (length ns)) enough)
      (judged_bind (check_element at type) after_element (is_of_numbers type) (listed && (not (isvar && not (is_shaped marked (length ns))) && (is_within Elements (length ns) && enough))) (λ _. Unit {0}) P (element_judged at type) (λ _ _. first))

  pub declared_by_judged : (at : ℕ) (isvar : Bool) (index : Option (ℤ × ℤ)) (type : Base) (name_at name_to : ℕ) (marked : Marked) (right : Option Expr)
      → Judged (declared_by text s at isvar index type name_at (bytes_at text name_at name_to) marked right)
      (declaration_suits text names isvar index type marked right && are_few (variables ++ variable_sizes (item.Declare at isvar index type name_at name_to marked right)) (rules ++ rule_sizes text names (item.Declare at isvar index type name_at name_to marked right)))
      (Stands (names ++ (bytes_at text name_at name_to, sort_of text names isvar index type right) ∷ []) (variables ++ variable_sizes (item.Declare at isvar index type name_at name_to marked right)) (rules ++ rule_sizes text names (item.Declare at isvar index type name_at name_to marked right)) (solved || false) (constrained || false))
  declared_by_judged at true (Some index) type name_at name_to marked right = array_is_judged at true index type name_at (bytes_at text name_at name_to) marked right
  declared_by_judged at false (Some index) type name_at name_to marked right = array_is_judged at false index type name_at (bytes_at text name_at name_to) marked right
  declared_by_judged at true None type name_at name_to marked right = variable_is_judged at type name_at (bytes_at text name_at name_to) marked right
  declared_by_judged at false None type name_at name_to marked right = parameter_judged at type name_at (bytes_at text name_at name_to) right
