-- Problems with one thing more, where it was not refused.
use Rattle.std.proofs.Common.{◌≡◌, ℕ, ◌+◌, ◌^◌, ◌<◌, ◌≤◌, inl, inr, true, false, if◌then◌else◌, List, [], ◌∷◌, ◌++◌, length, Option, Some, None, Result, Ok, Err, refl, sym, ◌∙◌, subst, arith}
use Rattle.std.specs.Prelude.{ℤ, nat_lt, IfOk}
use Rattle.std.specs.Option.{option_map}
use Rattle.std.proofs.lemmas.Bool.Decides.{leb_tells, nat_tests}
use Rattle.std.proofs.lemmas.List.{length_push}
use Rattle.std.proofs.lemmas.List.Elements.{All-push}
use Rattle.dcsp_domain.specs.Sets.{IsDomain}
use Rattle.dcsp_meaning.specs.Sums.{widest}
use Rattle.dcsp_common.specs.declared.limits.Which.{Which}
use Rattle.dcsp_common.specs.declared.limits.Which.TheVariants.{Variables, DomainValues, Rules, Terms}
use Rattle.dcsp_problem.specs.declared.limits.BuildError.TheVariants as errors
use Rattle.dcsp_rule.specs.declared.output.Output.{Output}
use Rattle.dcsp_rule.specs.declared.rule.Rule.{Rule}
use Rattle.dcsp_rule.specs.Problems.{Contents, value_count, term_count}
use Rattle.dcsp_rule.specs.Rules.{IsRuleOf, size_of}
use Rattle.dcsp_problem.specs.Outputs.{IsOutputOf}
use Rattle.dcsp_rule.specs.Widths.{rule_width}
use Rattle.dcsp_problem.specs.WellFormed.{IsProblem}
use Rattle.dcsp_common.specs.Limits.{most}
use Rattle.dcsp_problem.specs.Limits.{first_past, limit_of, list_counts, rule_counts, rule_refusal, variable_counts, variable_refusal}
use Rattle.dcsp_problem.specs.Index.{IsTallied}
use Rattle.dcsp_problem.proofs.Counts.{past_here, past_later, tallied_variable, tallied_rule}
use Rattle.fzn_scope.specs.Checks.{◌>>=◌}
use Rattle.fzn_token.specs.declared.refusal.Refusal.{Refusal}
use Rattle.fzn_model.specs.Building.{refused_at, with_variable, with_rule}

-- where a result is this, each part was
pub parts_of : {A B : Type 0} (x : Result A Refusal) (f : A → Result B Refusal) (b : B) → (x >>= f) ≡ Ok b → (a : A) × (x ≡ Ok a) × (f a ≡ Ok b)
parts_of (Ok a) f b h = (a, refl, h)
parts_of (Err e) f b h = cc

pub if_ok : {A E : Type 0} (P : A → Type 0) (r : Result A E) (a : A) → IfOk r P → r ≡ Ok a → P a
if_ok P (Ok x) a h e = let same : x ≡ a = cc in subst P same h
if_ok P (Err x) a h e = cc

-- a count that is not past its limit
first_fits : (which : Which) (n : ℕ) (rest : List (Which × ℕ)) → first_past ((which, n) ∷ rest) ≡ None → (n ≤ most which) × (first_past rest ≡ None)
first_fits which n rest h = elim (leb_tells n (most which)) [
  | inl few ↦ (few.1, sym (past_later which n rest few.1) ∙ h)
  | inr many ↦ let past = past_here which n rest many.1 in cc
]

front_fits : (xs ys : List (Which × ℕ)) → first_past (xs ++ ys) ≡ None → (first_past xs ≡ None) × (first_past ys ≡ None)
front_fits [] ys h = (refl, h)
front_fits (x ∷ xs) ys h =
    let fits = first_fits x.0 x.1 (xs ++ ys) h in
    let rest = front_fits xs ys fits.1 in
    (past_later x.0 x.1 xs fits.0 ∙ rest.0, rest.1)

limit_none : (o : Option (Which × ℕ)) → option_map limit_of o ≡ None → o ≡ None
limit_none None h = refl
limit_none (Some x) h = cc

-- no limit is want of memory
not_refused : (at : ℕ) (o : Option (Which × ℕ)) → refused_at at (option_map limit_of o) ≡ Ok tt → o ≡ None
not_refused at None h = refl
not_refused at (Some x) h = cc

tallied : (p : Contents) → IsProblem p → IsTallied p (value_count p) (term_count p)
tallied p h = record { problem = h; all_values = refl; all_terms = refl }

pub variable_added : (at : ℕ) (p q : Contents) (domain : List ℤ) → IsProblem p → IsDomain domain → with_variable at p domain ≡ Ok q → IsProblem q × (q ≡ record p { domains = p.domains ++ domain ∷ [] })
variable_added at p q domain h d e =
    let next : Contents = record p { domains = p.domains ++ domain ∷ [] } in
    let parts = parts_of (refused_at at (variable_refusal p domain)) (λ _. Ok next) q e in
    let is : next ≡ q = cc in
    let none = not_refused at (first_past (variable_counts p domain)) parts.1 in
    let one = first_fits Variables (length p.domains + 1) ((DomainValues, value_count p + length domain) ∷ []) none in
    let two = first_fits DomainValues (value_count p + length domain) [] one.1 in
    (subst (λ (x : Contents). IsProblem x) is (tallied_variable p domain (value_count p) (term_count p) (value_count p + length domain) (tallied p h) d refl one.0 two.0).problem, sym is)

-- a rule that was not refused is narrow, and no count is past its limit
rule_fits : (at : ℕ) (p : Contents) (rule : Rule) → refused_at at (rule_refusal p rule) ≡ Ok tt → (rule_width p.domains rule ≤ widest) × (first_past (rule_counts p rule) ≡ None)
rule_fits at p rule h =
    (elim (nat_lt widest (rule_width p.domains rule)) as (λ b. nat_lt widest (rule_width p.domains rule) ≡ b → refused_at at (if b then Some errors.WideSum else option_map limit_of (first_past (rule_counts p rule))) ≡ Ok tt → (rule_width p.domains rule ≤ widest) × (first_past (rule_counts p rule) ≡ None)) [
      | true ↦ λ is e. cc
      | false ↦ λ is e. (grind (arith, nat_tests), not_refused at (first_past (rule_counts p rule)) e)
    ]) refl h

pub rule_added : (at : ℕ) (p q : Contents) (rule : Rule) → IsProblem p → IsRuleOf (length p.domains) rule → with_rule at p rule ≡ Ok q → IsProblem q × (q ≡ record p { rules = p.rules ++ rule ∷ [] })
rule_added at p q rule h r e =
    let next : Contents = record p { rules = p.rules ++ rule ∷ [] } in
    let parts = parts_of (refused_at at (rule_refusal p rule)) (λ _. Ok next) q e in
    let is : next ≡ q = cc in
    let fits = rule_fits at p rule parts.1 in
    let lists = front_fits (list_counts rule) ((Rules, length p.rules + 1) ∷ (Terms, term_count p + size_of rule) ∷ []) fits.1 in
    let one = first_fits Rules (length p.rules + 1) ((Terms, term_count p + size_of rule) ∷ []) lists.1 in
    let two = first_fits Terms (term_count p + size_of rule) [] one.1 in
    (subst (λ (x : Contents). IsProblem x) is (tallied_rule p rule (value_count p) (term_count p) (term_count p + size_of rule) (tallied p h) r lists.0 fits.0 refl one.0 two.0).problem, sym is)

pub output_added : (p : Contents) (output : Output) → IsProblem p → IsOutputOf (length p.domains) output → length p.outputs + 1 < 2 ^ 32 → IsProblem (record p { outputs = p.outputs ++ output ∷ [] })
output_added p output h o few = record {
  domains = h.domains;
  rules = h.rules;
  outputs = All-push (IsOutputOf (length p.domains)) p.outputs output h.outputs o;
  aim = h.aim;
  few_variables = h.few_variables;
  few_values = h.few_values;
  few_rules = h.few_rules;
  few_terms = h.few_terms;
  few_outputs = let size = length_push p.outputs output in omega (arith, size, few);
  short_lists = h.short_lists;
  narrow_sums = h.narrow_sums;
}
