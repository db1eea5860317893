-- Limits are judged by counts.
use Rattle.std.proofs.Common.{◌≡◌, ℕ, ◌+◌, ◌≤◌, Bool, true, false, not, ◌&&◌, cond, List, [], ◌∷◌, ◌++◌, map, length, Option, Some, refl, sym, ap, subst, length-append, arith}
use Rattle.std.specs.Prelude.{ℤ, sum, nat_lt, if◌then◌else◌}
use Rattle.std.specs.List.{list_all}
use Rattle.std.specs.Option.{option_map}
use Rattle.std.proofs.lemmas.Bool.Decides.{nat_tests}
use Rattle.std.proofs.lemmas.List.{length-map}
use Rattle.std.proofs.lemmas.List.Sums.{sum-map, sum_by_push}
use Rattle.dcsp_defs.proofs.Lists.{and_left, and_right}
use Rattle.dcsp_meaning.specs.Sums.{widest}
use Rattle.dcsp_common.specs.declared.limits.Which.{Which}
use Rattle.dcsp_common.specs.declared.limits.Which.TheVariants.{Variables, DomainValues, Rules, Terms}
use Rattle.dcsp_problem.specs.declared.limits.BuildError.TheVariants.{WideSum}
use Rattle.dcsp_rule.specs.declared.rule.Rule.{Rule}
use Rattle.dcsp_rule.specs.Rules.{size_of}
use Rattle.dcsp_rule.specs.Widths.{rule_width}
use Rattle.dcsp_rule.specs.Problems.{Contents, term_count, value_count}
use Rattle.dcsp_common.specs.Limits.{most}
use Rattle.dcsp_problem.specs.Limits.{first_past, limit_of, variable_counts, variable_refusal, rule_counts, rule_refusal}
use Rattle.fzn_model.specs.Building.{refused_at, with_variable, with_rule}
use Rattle.law_inputs.specs.Arguments.{is_within}
use Rattle.law_inputs.specs.Accepted.{are_few}
use Rattle.law_inputs.proofs.Judging.{Judged, judged_map, judged_test}

pub not_past : (m n : ℕ) → n ≤ m → not (nat_lt m n) ≡ true
not_past m n h = let e : nat_lt m n ≡ false = grind (arith, nat_tests) in ap not e

-- none of the counts passes its limit
abbrev pub none_past : List (Which × ℕ) → Bool
none_past counts = list_all (λ (x : Which × ℕ). is_within x.0 x.1) counts

past_chosen : (at : ℕ) (b : Bool) (x : Which × ℕ) (o : Option (Which × ℕ)) (rest : Bool) → Judged (refused_at at (option_map limit_of o)) rest (λ _. Unit {0}) → Judged (refused_at at (option_map limit_of (cond b (Some x) o))) (not b && rest) (λ _. Unit {0})
past_chosen at true x o rest h = refl
past_chosen at false x o rest h = h

pub past_judged : (at : ℕ) (counts : List (Which × ℕ)) → Judged (refused_at at (option_map limit_of (first_past counts))) (none_past counts) (λ _. Unit {0})
past_judged at [] = (refl, tt)
past_judged at (x ∷ counts) = past_chosen at (nat_lt (most x.0) x.1) x (first_past counts) (none_past counts) (past_judged at counts)

wide_chosen : (at : ℕ) (b : Bool) (counts : List (Which × ℕ)) → Judged (refused_at at (if b then Some WideSum else option_map limit_of (first_past counts))) (not b && none_past counts) (λ _. Unit {0})
wide_chosen at true counts = refl
wide_chosen at false counts = past_judged at counts

-- ---- with what there is so far

-- the variables have so many values, and the rules so many terms
pub record Counted (p : Contents) (variables rules : List ℕ) : Type 0 where
  pub variables_are : map length p.domains ≡ variables
  pub rules_are : map size_of p.rules ≡ rules
  pub few : are_few variables rules ≡ true

abbrev pub with_domain : Contents → List ℤ → Contents
with_domain p domain = record p { domains = p.domains ++ domain ∷ [] }

abbrev pub with_one_rule : Contents → Rule → Contents
with_one_rule p rule = record p { rules = p.rules ++ rule ∷ [] }

-- two tests that are both true may be left out
both_true : (a b c d x y : Bool) → c ≡ true → d ≡ true → a ≡ x → b ≡ y → (a && (b && true)) ≡ (((x && y) && c) && d)
both_true a b c d x y h k e f = subst (λ (z : Bool). (a && (b && true)) ≡ (((x && y) && z) && d)) (sym h) (subst (λ (z : Bool). (a && (b && true)) ≡ (((x && y) && true) && z)) (sym k) (by_cases a b x y e f)) where
  by_cases : (a b x y : Bool) → a ≡ x → b ≡ y → (a && (b && true)) ≡ (((x && y) && true) && true)
  by_cases true true x y e f = subst (λ (z : Bool). true ≡ (((z && y) && true) && true)) e (subst (λ (z : Bool). true ≡ (((true && z) && true) && true)) f refl)
  by_cases true false x y e f = subst (λ (z : Bool). false ≡ (((z && y) && true) && true)) e (subst (λ (z : Bool). false ≡ (((true && z) && true) && true)) f refl)
  by_cases false b x y e f = subst (λ (z : Bool). false ≡ (((z && y) && true) && true)) e refl

few_with_rule : (a b c d x y : Bool) → a ≡ true → b ≡ true → c ≡ x → d ≡ y → (c && (d && true)) ≡ (((a && b) && x) && y)
few_with_rule a b c d x y h k e f = subst (λ (z : Bool). (c && (d && true)) ≡ (((z && b) && x) && y)) (sym h) (subst (λ (z : Bool). (c && (d && true)) ≡ (((true && z) && x) && y)) (sym k) (by_cases c d x y e f)) where
  by_cases : (c d x y : Bool) → c ≡ x → d ≡ y → (c && (d && true)) ≡ ((true && x) && y)
  by_cases true true x y e f = subst (λ (z : Bool). true ≡ ((true && z) && y)) e f
  by_cases true false x y e f = subst (λ (z : Bool). false ≡ ((true && z) && y)) e f
  by_cases false d x y e f = subst (λ (z : Bool). false ≡ ((true && z) && y)) e refl

pub variable_tests : (p : Contents) (variables rules : List ℕ) (domain : List ℤ) → Counted p variables rules → none_past (variable_counts p domain) ≡ are_few (variables ++ length domain ∷ []) rules
variable_tests p variables rules domain h =
    let long : length p.domains + 1 ≡ length (variables ++ length domain ∷ []) =
    let a = length-map p.domains length in
    let b = ap (λ (xs : List ℕ). length xs) h.variables_are in
    let c = length-append variables (length domain ∷ []) in
    omega (arith, a, b, c) in
    let whole : value_count p + length domain ≡ sum (variables ++ length domain ∷ []) =
    let a = sum-map (λ (xs : List ℤ). length xs) p.domains in
    let b = ap (λ (xs : List ℕ). sum xs) h.variables_are in
    let c = sum_by_push (λ (n : ℕ). n) variables (length domain) in
    omega (arith, a, b, c) in
    let few_terms = and_right (is_within Variables (length variables) && is_within DomainValues (sum variables) && is_within Rules (length rules)) (is_within Terms (sum rules)) h.few in
    let rest = and_left (is_within Variables (length variables) && is_within DomainValues (sum variables) && is_within Rules (length rules)) (is_within Terms (sum rules)) h.few in
    let few_rules = and_right (is_within Variables (length variables) && is_within DomainValues (sum variables)) (is_within Rules (length rules)) rest in
    both_true _ _ (is_within Rules (length rules)) (is_within Terms (sum rules)) _ _ few_rules few_terms (ap (is_within Variables) long) (ap (is_within DomainValues) whole)

pub rule_tests : (p : Contents) (variables rules : List ℕ) (n : ℕ) → Counted p variables rules → none_past ((Rules, length p.rules + 1) ∷ (Terms, term_count p + n) ∷ []) ≡ are_few variables (rules ++ n ∷ [])
rule_tests p variables rules n h =
    let long : length p.rules + 1 ≡ length (rules ++ n ∷ []) =
    let a = length-map p.rules size_of in
    let b = ap (λ (xs : List ℕ). length xs) h.rules_are in
    let c = length-append rules (n ∷ []) in
    omega (arith, a, b, c) in
    let whole : term_count p + n ≡ sum (rules ++ n ∷ []) =
    let a = sum-map size_of p.rules in
    let b = ap (λ (xs : List ℕ). sum xs) h.rules_are in
    let c = sum_by_push (λ (m : ℕ). m) rules n in
    omega (arith, a, b, c) in
    let rest = and_left (is_within Variables (length variables) && is_within DomainValues (sum variables) && is_within Rules (length rules)) (is_within Terms (sum rules)) h.few in
    let both = and_left (is_within Variables (length variables) && is_within DomainValues (sum variables)) (is_within Rules (length rules)) rest in
    few_with_rule (is_within Variables (length variables)) (is_within DomainValues (sum variables)) _ _ _ _ (and_left (is_within Variables (length variables)) (is_within DomainValues (sum variables)) both) (and_right (is_within Variables (length variables)) (is_within DomainValues (sum variables)) both)
    (ap (is_within Rules) long) (ap (is_within Terms) whole)

-- fewer rules are few where more are
pub few_split : (a b c d e f : Bool) → (c ≡ true → e ≡ true) → (d ≡ true → f ≡ true) → (((a && b) && c) && d) ≡ true → (((a && b) && e) && f) ≡ true
few_split true true true true e f h k x = subst (λ (z : Bool). (z && f) ≡ true) (sym (h refl)) (k refl)
few_split true true true false e f h k x = absurd cc
few_split true true false d e f h k x = absurd cc
few_split true false c d e f h k x = absurd cc
few_split false b c d e f h k x = absurd cc

pub variable_judged : (at : ℕ) (p : Contents) (variables rules : List ℕ) (domain : List ℤ) → Counted p variables rules → Judged (with_variable at p domain) (are_few (variables ++ length domain ∷ []) rules) (λ q. q ≡ with_domain p domain)
variable_judged at p variables rules domain h =
    judged_test (with_variable at p domain) (none_past (variable_counts p domain)) (are_few (variables ++ length domain ∷ []) rules) (λ q. q ≡ with_domain p domain) (variable_tests p variables rules domain h)
    (judged_map (refused_at at (variable_refusal p domain)) (λ _. with_domain p domain) (none_past (variable_counts p domain)) (λ _. Unit {0}) (λ q. q ≡ with_domain p domain) (past_judged at (variable_counts p domain)) (λ _ _. refl))

pub rule_judged : (at : ℕ) (p : Contents) (rule : Rule) → Judged (with_rule at p rule) (not (nat_lt widest (rule_width p.domains rule)) && none_past (rule_counts p rule)) (λ q. q ≡ with_one_rule p rule)
rule_judged at p rule =
    judged_map (refused_at at (rule_refusal p rule)) (λ _. with_one_rule p rule) (not (nat_lt widest (rule_width p.domains rule)) && none_past (rule_counts p rule)) (λ _. Unit {0}) (λ q. q ≡ with_one_rule p rule) (wide_chosen at (nat_lt widest (rule_width p.domains rule)) (rule_counts p rule)) (λ _ _. refl)
