-- What the code reads off its lists.
use Rattle.std.proofs.Common.{◌≡◌, ℕ, zero, suc, ◌+◌, ◌-◌, ◌<◌, ◌≤◌, ◌^◌, List, [], ◌∷◌, ◌++◌, map, length, get_or, take, refl, sym, ap, ◌∙◌, arith}
use Rattle.std.specs.Prelude.{ℤ, pos, All, Option, Some, None, IfSome, slice_get, filter_map}
use Rattle.std.specs.Option.{option_to_list}
use Rattle.std.proofs.lemmas.List.{append_assoc, take_more, get_or_default, get_or-map, length-map}
use Rattle.std.proofs.lemmas.List.Elements.{filter_map-append, All-get_or, All-tail, All-head}
use Rattle.std.proofs.lemmas.Option.{unwrap_or-slice_get, get_or_from_slice_get}
use Rattle.dcsp_defs.specs.Csp.{IsConstraint, filled}
use Rattle.dcsp_rule.specs.declared.rule.Term.{Term}
use Rattle.dcsp_rule.specs.declared.rule.Rule.{Rule}
use Rattle.dcsp_rule.specs.Rules.{variable_of, scope_of, rule_truth, mentions, IsRuleOf, no_rule}
use Rattle.dcsp_rule.specs.Problems.{Contents, csp_of, rule_at, constraint_at}
use Rattle.dcsp_problem.specs.WellFormed.{IsProblem}
use Rattle.dcsp_problem.specs.Owners.{last_of}
use Rattle.dcsp_problem.proofs.RisingNumbers.{In-get_or, In-filter_below}
use Rattle.dcsp_problem.proofs.Local.{truth_local}
use Rattle.dcsp_problem.proofs.WellFormed.{is_constraint}

variable_alone : (term : Term) → option_to_list (variable_of term) ≡ filter_map variable_of (term ∷ [])
variable_alone term = by_variable (variable_of term) where
  by_variable : (o : Option ℕ) → option_to_list o ≡ filter_map (λ (x : Option ℕ). x) (o ∷ [])
  by_variable None = refl
  by_variable (Some v) = refl

-- one more term's variable
pub variables_more : (vs old : List ℕ) (terms : List Term) (i : ℕ) (d : Term) → i < length terms → vs ≡ old ++ filter_map variable_of (take i terms)
    → vs ++ option_to_list (variable_of (get_or terms i d)) ≡ old ++ filter_map variable_of (take (i + 1) terms)
variables_more vs old terms i d l is =
    let t = get_or terms i d in
    let more : filter_map variable_of (take (i + 1) terms) ≡ filter_map variable_of (take i terms) ++ filter_map variable_of (t ∷ []) =
    ap (λ z. filter_map variable_of z) (take_more terms i d l) ∙ filter_map-append variable_of (take i terms) (t ∷ []) in
    ap (λ z. z ++ option_to_list (variable_of t)) is
    ∙ append_assoc old (filter_map variable_of (take i terms)) (option_to_list (variable_of t))
    ∙ ap (λ z. old ++ (filter_map variable_of (take i terms) ++ z)) (variable_alone t)
    ∙ ap (λ z. old ++ z) (sym more)

-- the variables of three lists
pub variables_of_three : (none one two three : List ℕ) (a b c : List Term) → none ≡ [] → one ≡ none ++ filter_map variable_of a → two ≡ one ++ filter_map variable_of b → three ≡ two ++ filter_map variable_of c
    → three ≡ filter_map variable_of ((a ++ b) ++ c)
variables_of_three none one two three a b c e f g h =
    let all = filter_map-append variable_of (a ++ b) c in
    let front = filter_map-append variable_of a b in
    rw (all, front, h, g, f, e) refl

variable_first : (term : Term) (rest : List Term) → filter_map variable_of (term ∷ rest) ≡ option_to_list (variable_of term) ++ filter_map variable_of rest
variable_first term rest = filter_map-append variable_of (term ∷ []) rest ∙ ap (λ z. z ++ filter_map variable_of rest) (sym (variable_alone term))

-- the variables of a sum's terms, of its total, and of the term of its truth
pub variables_of_total : (none one two : List ℕ) (terms : List Term) (total : Term) → none ≡ [] → one ≡ none ++ filter_map variable_of terms → two ≡ one ++ option_to_list (variable_of total)
    → two ≡ filter_map variable_of (terms ++ total ∷ [])
variables_of_total none one two terms total e f g =
    let all = filter_map-append variable_of terms (total ∷ []) in
    rw (all, g, f, e, variable_alone total) refl

pub variables_of_told : (none one two three : List ℕ) (terms : List Term) (total told : Term) → none ≡ [] → one ≡ none ++ filter_map variable_of terms → two ≡ one ++ option_to_list (variable_of total) → three ≡ two ++ option_to_list (variable_of told)
    → three ≡ filter_map variable_of (terms ++ total ∷ told ∷ [])
variables_of_told none one two three terms total told e f g h =
    let all = filter_map-append variable_of terms (total ∷ told ∷ []) in
    let last = variable_first total (told ∷ []) in
    let front : two ≡ filter_map variable_of terms ++ option_to_list (variable_of total) = g ∙ ap (λ z. z ++ option_to_list (variable_of total)) (f ∙ ap (λ z. z ++ filter_map variable_of terms) e) in
    h
    ∙ ap (λ z. z ++ option_to_list (variable_of told)) front
    ∙ append_assoc (filter_map variable_of terms) (option_to_list (variable_of total)) (option_to_list (variable_of told))
    ∙ ap (λ z. filter_map variable_of terms ++ (option_to_list (variable_of total) ++ z)) (variable_alone told)
    ∙ ap (λ z. filter_map variable_of terms ++ z) (sym last)
    ∙ sym all

-- the rule that stands at a number
pub rule_is : (p : Contents) (k : ℕ) (rule : Rule) → k < length p.rules → rule ≡ get_or p.rules k rule → rule ≡ rule_at p k
rule_is p k rule l e = e ∙ get_or_default p.rules k rule no_rule l

pub rule_read : (p : Contents) (k : ℕ) (rule : Rule) → slice_get p.rules k ≡ Some rule → rule ≡ rule_at p k
rule_read p k rule e = sym (get_or_from_slice_get p.rules k rule no_rule e)

-- the scope that stands at a number
pub scope_is : (p : Contents) (scopes : List (List ℕ)) (k : ℕ) (scope : List ℕ) → scopes ≡ map (scope_of (length p.domains)) p.rules → k < length p.rules → scope ≡ get_or scopes k scope
    → scope ≡ scope_of (length p.domains) (rule_at p k)
scope_is p scopes k scope is l e = e ∙ ap (λ z. get_or z k scope) is ∙ get_or-map (scope_of (length p.domains)) p.rules k no_rule scope l

pub scope_inside : (n : ℕ) (rule : Rule) → All (λ v. v < n) (scope_of n rule)
scope_inside n rule = λ k d l. (In-filter_below (mentions rule) n (get_or (scope_of n rule) k d) (In-get_or (scope_of n rule) k d l)).0

pub scopes_inside : (n : ℕ) (rules : List Rule) → All (λ scope. All (λ v. v < n) scope) (map (scope_of n) rules)
scopes_inside n rules = λ k d l.
    let size = length-map rules (scope_of n) in
    let in_range : k < length rules = omega arith in
    let is = get_or-map (scope_of n) rules k no_rule d in_range in
    rw is (scope_inside n (get_or rules k no_rule))

pub scopes_few : (p : Contents) → IsProblem p → length (map (scope_of (length p.domains)) p.rules) ≤ 2 ^ 32
scopes_few p h = let size = length-map p.rules (scope_of (length p.domains)) in let few : length p.rules ≤ 262144 = h.few_rules in omega arith

-- a rule of a problem denotes a well-formed constraint
pub constraint_ok : (p : Contents) (k : ℕ) → IsProblem p → k < length p.rules → IsConstraint (csp_of p) (constraint_at p k)
constraint_ok p k h l = is_constraint p (rule_at p k) (All-get_or (IsRuleOf (length p.domains)) p.rules k no_rule l h.rules)

get_inside : (P : ℕ → Type 0) (xs : List ℕ) (k : ℕ) → All P xs → IfSome (slice_get xs k) P
get_inside P [] k all = tt
get_inside P (x ∷ xs) zero all = All-head P x xs all
get_inside P (x ∷ xs) (suc k) all = get_inside P xs k (All-tail P x xs all)

-- the last variable of a scope is one of those that there are
pub last_inside : (n : ℕ) (scope : List ℕ) → All (λ v. v < n) scope → IfSome (last_of scope) (λ v. v < n)
last_inside n scope all = get_inside (λ v. v < n) scope (length scope - 1) all

-- values in order, as an assignment
pub truth_of_values : (rule : Rule) (values : List ℤ) → rule_truth rule (filled (slice_get values)) ≡ rule_truth rule (λ var. get_or values var (pos 0))
truth_of_values rule values = truth_local rule _ _ (λ v i. unwrap_or-slice_get values v (pos 0))
