-- Counts against their limits, and how they grow.
use Rattle.std.proofs.Common.{◌≡◌, ℕ, ◌+◌, ◌<◌, ◌≤◌, Bool, true, false, cond, List, [], ◌∷◌, ◌++◌, length, refl, sym, ap, ◌∙◌, subst, arith}
use Rattle.std.specs.Prelude.{ℤ, nat_lt, Option, Some, None, MatchOption, Result, Ok, Err, if◌then◌else◌}
use Rattle.std.specs.Option.{option_map}
use Rattle.std.proofs.lemmas.Bool.Decides.{nat_tests}
use Rattle.std.proofs.lemmas.List.{length_push}
use Rattle.std.proofs.lemmas.List.Elements.{All-push, All-weaker}
use Rattle.std.proofs.lemmas.List.Sums.{sum_by_push}
use Rattle.dcsp_domain.specs.Sets.{IsDomain}
use Rattle.dcsp_meaning.specs.declared.linear.TheConstants.{WIDEST}
use Rattle.dcsp_common.specs.declared.limits.Which.{Which}
use Rattle.dcsp_problem.specs.declared.limits.BuildError.{BuildError}
use Rattle.dcsp_problem.specs.declared.limits.BuildError.TheVariants.{Limit, WideSum, Memory}
use Rattle.dcsp_common.specs.declared.limits.Which.TheVariants.{Variables, DomainValues, Rules, Terms}
use Rattle.dcsp_rule.specs.declared.aim.Aim.{Aim}
use Rattle.dcsp_rule.specs.declared.aim.Aim.TheVariants.{Satisfy, Least, Greatest}
use Rattle.dcsp_rule.specs.declared.rule.Term.{Term}
use Rattle.dcsp_rule.specs.declared.rule.Term.TheVariants.{Const, Var}
use Rattle.dcsp_rule.specs.declared.rule.Rule.{Rule}
use Rattle.dcsp_rule.specs.declared.output.Output.{Output}
use Rattle.dcsp_rule.specs.Rules.{terms_of, size_of, IsTermOf, IsRuleOf, IsAimOf}
use Rattle.dcsp_rule.specs.Widths.{rule_width}
use Rattle.dcsp_problem.specs.Outputs.{IsOutputOf}
use Rattle.dcsp_rule.specs.Problems.{Contents, term_count}
use Rattle.dcsp_common.specs.Limits.{most}
use Rattle.dcsp_problem.specs.Limits.{first_past, limit_of, list_counts, rule_counts, rule_refusal, IsErrorOf}
use Rattle.dcsp_problem.specs.Index.{IsTallied}
use Rattle.dcsp_problem.proofs.WidthLaws.{narrow_with}

above_test : (m n : ℕ) → m < n → nat_lt m n ≡ true
above_test m n h = grind (arith, nat_tests)

within_test : (m n : ℕ) → n ≤ m → nat_lt m n ≡ false
within_test m n h = grind (arith, nat_tests)

-- a count past its limit is the first
pub past_here : (which : Which) (n : ℕ) (rest : List (Which × ℕ)) → most which < n → first_past ((which, n) ∷ rest) ≡ Some (which, n)
past_here which n rest h = rw (above_test (most which) n h) refl

-- a count within its limit is passed over
pub past_later : (which : Which) (n : ℕ) (rest : List (Which × ℕ)) → n ≤ most which → first_past ((which, n) ∷ rest) ≡ first_past rest
past_later which n rest h = rw (within_test (most which) n h) refl

term_of_more : (n : ℕ) (term : Term) → IsTermOf n term → IsTermOf (n + 1) term
term_of_more n (Const value) h = tt
term_of_more n (Var var) h = omega (arith, h)

rule_of_more : (n : ℕ) (rule : Rule) → IsRuleOf n rule → IsRuleOf (n + 1) rule
rule_of_more n rule h = record { known = All-weaker (IsTermOf n) (IsTermOf (n + 1)) (term_of_more n) (terms_of rule) h.known; shape = h.shape }

aim_of_more : (n : ℕ) (aim : Aim) → IsAimOf n aim → IsAimOf (n + 1) aim
aim_of_more n Satisfy h = tt
aim_of_more n (Least term) h = term_of_more n term h
aim_of_more n (Greatest term) h = term_of_more n term h

output_of_more : (n : ℕ) (output : Output) → IsOutputOf n output → IsOutputOf (n + 1) output
output_of_more n output h =
    record { known = All-weaker (IsTermOf n) (IsTermOf (n + 1)) (term_of_more n) output.terms h.known; few = h.few; shape = h.shape }

-- a further variable within the limits
pub tallied_variable : (p : Contents) (domain : List ℤ) (values terms total : ℕ) → IsTallied p values terms → IsDomain domain → total ≡ values + length domain
    → length p.domains + 1 ≤ most Variables → total ≤ most DomainValues
    → IsTallied (record { domains = p.domains ++ domain ∷ []; rules = p.rules; outputs = p.outputs; aim = p.aim }) total terms
tallied_variable p domain values terms total t d sum few small =
    let size = length_push p.domains domain in
    let added = sum_by_push length p.domains domain in
    let same : length (p.domains ++ domain ∷ []) ≡ length p.domains + 1 = omega arith in
    record {
      problem = record {
        domains = All-push IsDomain p.domains domain t.problem.domains d;
        rules = rw same (All-weaker (IsRuleOf (length p.domains)) (IsRuleOf (length p.domains + 1)) (rule_of_more (length p.domains)) p.rules t.problem.rules);
        outputs = rw same (All-weaker (IsOutputOf (length p.domains)) (IsOutputOf (length p.domains + 1)) (output_of_more (length p.domains)) p.outputs t.problem.outputs);
        aim = rw same (aim_of_more (length p.domains) p.aim t.problem.aim);
        few_variables = omega (arith, same);
        few_values = let v = t.all_values in omega arith;
        few_rules = t.problem.few_rules;
        few_terms = t.problem.few_terms;
        few_outputs = t.problem.few_outputs;
        short_lists = t.problem.short_lists;
        narrow_sums = narrow_with p.domains domain p.rules t.problem.rules t.problem.narrow_sums;
      };
      all_values = let v = t.all_values in omega arith;
      all_terms = t.all_terms;
    }

-- a further rule within the limits
pub tallied_rule : (p : Contents) (rule : Rule) (values terms total : ℕ) → IsTallied p values terms → IsRuleOf (length p.domains) rule → first_past (list_counts rule) ≡ None
    → rule_width p.domains rule ≤ WIDEST → total ≡ terms + size_of rule → length p.rules + 1 ≤ most Rules → total ≤ most Terms
    → IsTallied (record { domains = p.domains; rules = p.rules ++ rule ∷ []; outputs = p.outputs; aim = p.aim }) values total
tallied_rule p rule values terms total t r short narrow sum few small =
    let size = length_push p.rules rule in
    let added = sum_by_push size_of p.rules rule in
    record {
      problem = record {
        domains = t.problem.domains;
        rules = All-push (IsRuleOf (length p.domains)) p.rules rule t.problem.rules r;
        outputs = t.problem.outputs;
        aim = t.problem.aim;
        few_variables = t.problem.few_variables;
        few_values = t.problem.few_values;
        few_rules = omega arith;
        few_terms = let v = t.all_terms in omega arith;
        few_outputs = t.problem.few_outputs;
        short_lists = All-push (λ (x : Rule). first_past (list_counts x) ≡ None) p.rules rule t.problem.short_lists short;
        narrow_sums = All-push (λ (x : Rule). rule_width p.domains x ≤ WIDEST) p.rules rule t.problem.narrow_sums narrow;
      };
      all_values = t.all_values;
      all_terms = let v = t.all_terms in omega arith;
    }

-- a rule whose lists were counted to the end has none that is too long
pub counts_fit : (past : Option (Which × ℕ)) (added terms : ℕ) → MatchOption past (◌≡◌ {A = Result ℕ BuildError} (Ok added) (Ok terms)) (λ x. ◌≡◌ {A = Result ℕ BuildError} (Ok added) (Err (Limit x.0 x.1))) → (past ≡ None) × (added ≡ terms)
counts_fit None added terms h = (refl, cc)
counts_fit (Some x) added terms h = absurd (cc)

-- one whose lists were not counted to the end has one that is
pub counts_pass : (past : Option (Which × ℕ)) (error : BuildError) (terms : ℕ) → MatchOption past (◌≡◌ {A = Result ℕ BuildError} (Err error) (Ok terms)) (λ x. ◌≡◌ {A = Result ℕ BuildError} (Err error) (Err (Limit x.0 x.1))) → option_map limit_of past ≡ Some error
counts_pass None error terms h = absurd (cc)
counts_pass (Some x) error terms h = cc

-- a width that is not refused is narrow
pub narrow_from : (width : ℕ) → ◌≡◌ {A = Option BuildError} (if nat_lt WIDEST width then Some WideSum else None) None → width ≤ WIDEST
narrow_from width h = by_test (nat_lt WIDEST width) refl h where
  by_test : (b : Bool) → nat_lt WIDEST width ≡ b → ◌≡◌ {A = Option BuildError} (if b then Some WideSum else None) None → width ≤ WIDEST
  by_test true e h = absurd (cc)
  by_test false e h = grind (arith, nat_tests)

-- a list that is too long stays the first count past its limit, whatever counts follow
lists_first : (xs ys : List (Which × ℕ)) (error : BuildError) → option_map limit_of (first_past xs) ≡ Some error → option_map limit_of (first_past (xs ++ ys)) ≡ Some error
lists_first [] ys error h = absurd (cc)
lists_first (x ∷ xs) ys error h = by_test (nat_lt (most x.0) x.1) h (lists_first xs ys error) where
  by_test : (b : Bool) → option_map limit_of (cond b (Some x) (first_past xs)) ≡ Some error → (option_map limit_of (first_past xs) ≡ Some error → option_map limit_of (first_past (xs ++ ys)) ≡ Some error)
      → option_map limit_of (cond b (Some x) (first_past (xs ++ ys))) ≡ Some error
  by_test true h later = h
  by_test false h later = later h

-- where no list is too long, the counts that follow decide
lists_passed : (xs ys : List (Which × ℕ)) → first_past xs ≡ None → first_past (xs ++ ys) ≡ first_past ys
lists_passed [] ys h = refl
lists_passed (x ∷ xs) ys h = by_test (nat_lt (most x.0) x.1) h (lists_passed xs ys) where
  by_test : (b : Bool) → ◌≡◌ {A = Option (Which × ℕ)} (cond b (Some x) (first_past xs)) None → (first_past xs ≡ None → first_past (xs ++ ys) ≡ first_past ys) → cond b (Some x) (first_past (xs ++ ys)) ≡ first_past ys
  by_test true h later = absurd (cc)
  by_test false h later = later h

error_of : (refusal : Option BuildError) (error : BuildError) → refusal ≡ Some error → IsErrorOf refusal error
error_of refusal (Limit which count) h = h
error_of refusal WideSum h = h
error_of refusal Memory h = tt

narrow_refusal : (p : Contents) (rule : Rule) → rule_width p.domains rule ≤ WIDEST → rule_refusal p rule ≡ option_map limit_of (first_past (rule_counts p rule))
narrow_refusal p rule h = rw (within_test WIDEST (rule_width p.domains rule) h) refl

-- a narrow rule with a list that is too long
pub refused_for_list : (p : Contents) (rule : Rule) (error : BuildError) → rule_width p.domains rule ≤ WIDEST → option_map limit_of (first_past (list_counts rule)) ≡ Some error → IsErrorOf (rule_refusal p rule) error
refused_for_list p rule error narrow h = error_of (rule_refusal p rule) error (narrow_refusal p rule narrow ∙ lists_first (list_counts rule) _ error h)

-- one rule too many
pub refused_for_number : (p : Contents) (rule : Rule) (error : BuildError) (number : ℕ) → rule_width p.domains rule ≤ WIDEST → first_past (list_counts rule) ≡ None
    → number ≡ length p.rules + 1 → (error ≡ Limit Rules number) × (most Rules < number) → IsErrorOf (rule_refusal p rule) error
refused_for_number p rule error number narrow short sum e =
    let here : first_past (rule_counts p rule) ≡ Some (Rules, length p.rules + 1) =
    lists_passed (list_counts rule) _ short ∙ past_here Rules (length p.rules + 1) ((Terms, term_count p + size_of rule) ∷ []) (subst (λ (z : ℕ). most Rules < z) sum e.1) in
    error_of (rule_refusal p rule) error (narrow_refusal p rule narrow ∙ ap (λ z. option_map limit_of z) here ∙ ap (λ z. Some (Limit Rules z)) (sym sum) ∙ ap (λ z. Some z) (sym e.0))

-- terms too many
pub refused_for_terms : (p : Contents) (rule : Rule) (error : BuildError) (terms : ℕ) → rule_width p.domains rule ≤ WIDEST → first_past (list_counts rule) ≡ None → length p.rules + 1 ≤ most Rules
    → terms ≡ term_count p + size_of rule → (error ≡ Limit Terms terms) × (most Terms < terms) → IsErrorOf (rule_refusal p rule) error
refused_for_terms p rule error terms narrow short few sum e =
    let last : first_past ((Terms, term_count p + size_of rule) ∷ []) ≡ Some (Terms, term_count p + size_of rule) = past_here Terms (term_count p + size_of rule) [] (subst (λ (z : ℕ). most Terms < z) sum e.1) in
    let rest : first_past (rule_counts p rule) ≡ Some (Terms, term_count p + size_of rule) =
    lists_passed (list_counts rule) _ short ∙ past_later Rules (length p.rules + 1) ((Terms, term_count p + size_of rule) ∷ []) few ∙ last in
    error_of (rule_refusal p rule) error (narrow_refusal p rule narrow ∙ ap (λ z. option_map limit_of z) rest ∙ ap (λ z. Some (Limit Terms z)) (sym sum) ∙ ap (λ z. Some z) (sym e.0))

-- a sum that is too wide
pub refused_for_width : (p : Contents) (rule : Rule) (error : BuildError) → IsErrorOf (if nat_lt WIDEST (rule_width p.domains rule) then Some WideSum else None) error → IsErrorOf (rule_refusal p rule) error
refused_for_width p rule error h = by_test (nat_lt WIDEST (rule_width p.domains rule)) (option_map limit_of (first_past (rule_counts p rule))) error h where
  by_test : (b : Bool) (later : Option BuildError) (e : BuildError) → IsErrorOf (if b then Some WideSum else None) e → IsErrorOf (if b then Some WideSum else later) e
  by_test true later e h = h
  by_test false later Memory h = tt
  by_test false later WideSum h = absurd (cc)
  by_test false later (Limit which count) h = absurd (cc)

-- a narrow rule that passes no limit
pub not_refused : (p : Contents) (rule : Rule) → rule_width p.domains rule ≤ WIDEST → first_past (list_counts rule) ≡ None → length p.rules + 1 ≤ most Rules → term_count p + size_of rule ≤ most Terms → rule_refusal p rule ≡ None
not_refused p rule narrow short few small =
    narrow_refusal p rule narrow
    ∙ ap (option_map limit_of) (lists_passed (list_counts rule) _ short ∙ past_later Rules (length p.rules + 1) ((Terms, term_count p + size_of rule) ∷ []) few ∙ past_later Terms (term_count p + size_of rule) [] small)
