-- A problem of whose domains one is cut down is a problem, and what is kept beside it stays as it is.
use Rattle.std.proofs.Common.{◌≡◌, ℕ, zero, suc, ◌+◌, ◌*◌, ◌<◌, ◌≤◌, Bool, true, false, cond, max, List, [], ◌∷◌, map, length, get_or, filter, zip, refl, sym, ap, ◌∙◌, arith, subst}
use Rattle.std.specs.Prelude.{ℤ, nat_lt, ◌&&◌, All, unsigned_abs, sum_by, slice_set, slice_index_or, Option, Some}
use Rattle.std.specs.List.{list_any}
use Rattle.std.proofs.lemmas.List.{length-set}
use Rattle.std.proofs.lemmas.List.Sums.{sum_by-set, sum_by-cons}
use Rattle.std.proofs.lemmas.Nat.{mul-le}
use Rattle.dcsp_domain.specs.Sets.{IsDomain}
use Rattle.dcsp_domain.proofs.Domains.{domain_of_filter, length_filter}
use Rattle.dcsp_meaning.specs.Sums.{greatest_size}
use Rattle.dcsp_meaning.specs.declared.linear.TheConstants.{WIDEST}
use Rattle.dcsp_defs.specs.Words.{below}
use Rattle.dcsp_defs.specs.Csp.{Constraint, owned}
use Rattle.dcsp_rule.specs.declared.rule.Term.{Term}
use Rattle.dcsp_rule.specs.declared.rule.Term.TheVariants.{Const, Var}
use Rattle.dcsp_rule.specs.declared.rule.Rule.{Rule}
use Rattle.dcsp_rule.specs.declared.rule.Rule.TheVariants.{Plain, Sum}
use Rattle.dcsp_rule.specs.Rules.{IsRuleOf, IsAimOf, scope_of}
use Rattle.dcsp_problem.specs.Outputs.{IsOutputOf}
use Rattle.dcsp_rule.specs.Widths.{greatest_among, greatest_of, rule_width}
use Rattle.dcsp_rule.specs.Problems.{Contents, constraint_of}
use Rattle.dcsp_rule.specs.declared.form.Form.{Form}
use Rattle.dcsp_problem.specs.Index.{IsIndexed}
use Rattle.dcsp_problem.specs.Lower.{joins}
use Rattle.dcsp_problem.specs.WellFormed.{IsProblem}
use Rattle.dcsp_rule.specs.declared.aim.Aim.{Aim}
use Rattle.dcsp_rule.specs.declared.aim.Aim.TheVariants.{Satisfy, Least, Greatest}
use Rattle.dcsp_rule.specs.Aims.{aimed_at, is_better, narrowed_domains, narrowed_at, narrowed}

-- each value's absolute value is at most the greatest of all
greatest_filter : (p : ℤ → Bool) (xs : List ℤ) → greatest_among (filter p xs) ≤ greatest_among xs
greatest_filter p [] = omega arith
greatest_filter p (x ∷ xs) = kept (p x) (greatest_filter p xs) where
  kept : (b : Bool) → greatest_among (filter p xs) ≤ greatest_among xs → greatest_among (cond b (x ∷ filter p xs) (filter p xs)) ≤ max (unsigned_abs x) (greatest_among xs)
  kept true few = omega arith
  kept false few = omega arith

-- each domain's greatest absolute value is at most what it was
record AreNoWider (new old : List (List ℤ)) : Type 0 where
  each : (var : ℕ) → greatest_among (slice_index_or new var []) ≤ greatest_among (slice_index_or old var [])

no_wider_set : (test : ℤ → Bool) (domains : List (List ℤ)) (place var : ℕ) → greatest_among (slice_index_or (slice_set domains place (filter test (slice_index_or domains place []))) var []) ≤ greatest_among (slice_index_or domains var [])
no_wider_set test [] place var = omega arith
no_wider_set test (d ∷ ds) zero zero = greatest_filter test d
no_wider_set test (d ∷ ds) zero (suc var) = omega arith
no_wider_set test (d ∷ ds) (suc place) zero = omega arith
no_wider_set test (d ∷ ds) (suc place) (suc var) = no_wider_set test ds place var

term_no_wider : (new old : List (List ℤ)) (term : Term) → AreNoWider new old → greatest_of new term ≤ greatest_of old term
term_no_wider new old (Const value) h = omega arith
term_no_wider new old (Var var) h = h.each var

products_no_wider : (new old : List (List ℤ)) (coefs : List ℤ) (terms : List Term) → AreNoWider new old
    → sum_by greatest_size (zip coefs (map (greatest_of new) terms)) ≤ sum_by greatest_size (zip coefs (map (greatest_of old) terms))
products_no_wider new old [] terms h = omega arith
products_no_wider new old (coef ∷ coefs) [] h = omega arith
products_no_wider new old (coef ∷ coefs) (term ∷ terms) h =
    let same : unsigned_abs coef ≤ unsigned_abs coef = omega arith in
    let product = mul-le (unsigned_abs coef) (greatest_of new term) (unsigned_abs coef) (greatest_of old term) same (term_no_wider new old term h) in
    let rest = products_no_wider new old coefs terms h in
    let both : unsigned_abs coef * greatest_of new term + sum_by greatest_size (zip coefs (map (greatest_of new) terms)) ≤ unsigned_abs coef * greatest_of old term + sum_by greatest_size (zip coefs (map (greatest_of old) terms)) = omega arith in
    rw (sum_by-cons greatest_size (coef, greatest_of new term) (zip coefs (map (greatest_of new) terms)), sum_by-cons greatest_size (coef, greatest_of old term) (zip coefs (map (greatest_of old) terms))) both

width_no_wider : (new old : List (List ℤ)) (rule : Rule) → AreNoWider new old → rule_width new rule ≤ rule_width old rule
width_no_wider new old (Plain kind xs ys zs members) h = omega arith
width_no_wider new old (Sum rel coefs terms total told) h =
    let products = products_no_wider new old coefs terms h in
    let last = term_no_wider new old total h in
    omega arith

-- the domains, where of one only the values that pass the test stay
abbrev cut : (ℤ → Bool) → ℕ → List (List ℤ) → List (List ℤ)
cut test var domains = slice_set domains var (filter test (slice_index_or domains var []))

all_set : (test : ℤ → Bool) (domains : List (List ℤ)) (var : ℕ) → All IsDomain domains → All IsDomain (cut test var domains)
all_set test domains var all = λ k d l. at domains k var d l all where
  at : (ds : List (List ℤ)) (k place : ℕ) (d : List ℤ) → k < length (cut test place ds) → All IsDomain ds → IsDomain (get_or (cut test place ds) k d)
  at [] k place d l h = absurd (omega arith)
  at (x ∷ xs) zero zero d l h = domain_of_filter test x (filter test x) refl (h 0 [] (omega arith))
  at (x ∷ xs) zero (suc place) d l h = h 0 d (omega arith)
  at (x ∷ xs) (suc k) zero d l h = h (suc k) d (omega arith)
  at (x ∷ xs) (suc k) (suc place) d l h = at xs k place d (omega arith) (λ i e m. h (suc i) e (omega arith))

narrow_sums_cut : (test : ℤ → Bool) (var : ℕ) (domains : List (List ℤ)) (rules : List Rule) → All (λ rule. rule_width domains rule ≤ WIDEST) rules → All (λ rule. rule_width (cut test var domains) rule ≤ WIDEST) rules
narrow_sums_cut test var domains rules all = λ k d l.
    let here = width_no_wider (cut test var domains) domains (get_or rules k d) (record { each = no_wider_set test domains var }) in
    let was : rule_width domains (get_or rules k d) ≤ WIDEST = all k d l in
    omega arith

few_values_cut : (test : ℤ → Bool) (var : ℕ) (domains : List (List ℤ)) → var < length domains → sum_by length (cut test var domains) ≤ sum_by length domains
few_values_cut test var domains l =
    let sums = sum_by-set length domains var (filter test (slice_index_or domains var [])) [] l in
    let few = length_filter test (slice_index_or domains var []) in
    omega arith

-- the problem with one domain cut down
abbrev pub cut_problem : (ℤ → Bool) → ℕ → Contents → Contents
cut_problem test var p = record p { domains = cut test var p.domains }

is_problem_cut : (test : ℤ → Bool) (var : ℕ) (p : Contents) → var < length p.domains → IsProblem p → IsProblem (cut_problem test var p)
is_problem_cut test var p l h =
    let same = length-set p.domains var (filter test (slice_index_or p.domains var [])) in
    let few = few_values_cut test var p.domains l in
    let most_values = h.few_values in
    let most_variables = h.few_variables in
    record {
      domains = all_set test p.domains var h.domains;
      rules = subst (λ (n : ℕ). All (IsRuleOf n) p.rules) (sym same) h.rules;
      outputs = subst (λ (n : ℕ). All (IsOutputOf n) p.outputs) (sym same) h.outputs;
      aim = subst (λ (n : ℕ). IsAimOf n p.aim) (sym same) h.aim;
      few_variables = omega arith;
      few_values = omega arith;
      few_rules = h.few_rules;
      few_terms = h.few_terms;
      few_outputs = h.few_outputs;
      short_lists = h.short_lists;
      narrow_sums = narrow_sums_cut test var p.domains p.rules h.narrow_sums;
    }

-- the problem that an aim is narrowed to is a problem
pub is_problem_narrowed : (p : Contents) (bound : ℤ) (var : ℕ) → var < length p.domains → IsProblem p → IsProblem (record p { domains = narrowed_domains p.aim bound var p.domains })
is_problem_narrowed p bound var l h = is_problem_cut (is_better p.aim bound) var p l h

-- what a variable owns, and who owns a rule over it, told by the number of variables and the rules
abbrev owned_of : ℕ → List Rule → ℕ → List ℕ
owned_of n rules var = map (λ (x : ℕ × Constraint). x.0) (owned (record { domains = []; constraints = map (constraint_of n) rules }) var)

abbrev lower_of : ℕ → List Rule → ℕ → List ℕ
lower_of n rules var = filter (λ owner. nat_lt var owner && list_any (joins owner var) (map (constraint_of n) rules)) (below n)

pub is_indexed_cut : (test : ℤ → Bool) (var : ℕ) (p : Contents) (scopes : List (List ℕ)) (forms : List Form) (by_owner lower : List (List ℕ)) → var < length p.domains → IsIndexed p scopes forms by_owner lower → IsIndexed (cut_problem test var p) scopes forms by_owner lower
is_indexed_cut test var p scopes forms by_owner lower l h =
    let same = sym (length-set p.domains var (filter test (slice_index_or p.domains var []))) in
    record {
      problem = is_problem_cut test var p l h.problem;
      each_scope = h.each_scope ∙ ap (λ (n : ℕ). map (scope_of n) p.rules) same;
      each_form = h.each_form;
      each_owned = h.each_owned ∙ ap (λ (n : ℕ). map (owned_of n p.rules) (below n)) same;
      each_lower = h.each_lower ∙ ap (λ (n : ℕ). map (lower_of n p.rules) (below n)) same;
    }

-- the same of the problem that an aim is narrowed to
pub is_indexed_narrowed : (p : Contents) (bound : ℤ) (var : ℕ) (domains : List (List ℤ)) (scopes : List (List ℕ)) (forms : List Form) (by_owner lower : List (List ℕ)) → var < length p.domains → domains ≡ narrowed_domains p.aim bound var p.domains
    → IsIndexed p scopes forms by_owner lower → IsIndexed (record p { domains = domains }) scopes forms by_owner lower
is_indexed_narrowed p bound var domains scopes forms by_owner lower l is h =
    subst (λ (z : List (List ℤ)). IsIndexed (record p { domains = z }) scopes forms by_owner lower) (sym is) (is_indexed_cut (is_better p.aim bound) var p scopes forms by_owner lower l h)

-- an aim at a variable is at one of the problem's
pub aimed_below : (n : ℕ) (aim : Aim) (var : ℕ) → IsAimOf n aim → aimed_at aim ≡ Some var → var < n
aimed_below n Satisfy var is at = absurd (cc)
aimed_below n (Least (Const value)) var is at = absurd (cc)
aimed_below n (Least (Var x)) var is at = let same : x ≡ var = cc in omega (arith, is)
aimed_below n (Greatest (Const value)) var is at = absurd (cc)
aimed_below n (Greatest (Var x)) var is at = let same : x ≡ var = cc in omega (arith, is)

pub narrowed_is : (p : Contents) (bound : ℤ) (var : ℕ) → aimed_at p.aim ≡ Some var → narrowed p bound ≡ record p { domains = narrowed_domains p.aim bound var p.domains }
narrowed_is p bound var at = ap (λ (z : Option ℕ). narrowed_at z p bound) at
