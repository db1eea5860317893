-- A problem under an order keeps the limits.
use Rattle.std.proofs.Common.{◌≡◌, ℕ, ◌+◌, ◌≤◌, List, [], ◌∷◌, map, length, None, refl, sym, ap, ◌∙◌, inl, inr, subst, arith}
use Rattle.std.specs.Prelude.{All, IsTrue, ◌==◌}
use Rattle.std.specs.Option.{option_to_list}
use Rattle.std.proofs.lemmas.List.Elements.{All-contains}
use Rattle.std.proofs.lemmas.List.{length-map}
use Rattle.dcsp_domain.specs.Sets.{IsDomain}
use Rattle.dcsp_meaning.specs.Table.{is_shape}
use Rattle.dcsp_meaning.specs.Sums.{width_of, widest}
use Rattle.dcsp_defs.specs.Words.{In}
use Rattle.dcsp_defs.proofs.Lists.{In-left, In-right}
use Rattle.dcsp_rule.specs.declared.rule.Term.{Term}
use Rattle.dcsp_rule.specs.declared.rule.Term.TheVariants.{Const, Var}
use Rattle.dcsp_rule.specs.declared.rule.Rule.{Rule}
use Rattle.dcsp_rule.specs.declared.rule.Rule.TheVariants.{Plain, Sum}
use Rattle.dcsp_rule.specs.declared.output.Output.{Output}
use Rattle.dcsp_rule.specs.declared.aim.Aim.{Aim}
use Rattle.dcsp_rule.specs.declared.aim.Aim.TheVariants.{Satisfy, Least, Greatest}
use Rattle.dcsp_rule.specs.Rules.{terms_of, listed_of, size_of, has_shape, IsTermOf, IsRuleOf, IsAimOf}
use Rattle.dcsp_rule.specs.Widths.{greatest_among, greatest_of, rule_width}
use Rattle.dcsp_rule.specs.Problems.{Contents, value_count, term_count}
use Rattle.dcsp_common.specs.declared.limits.Which.TheVariants.{Elements}
use Rattle.dcsp_problem.specs.Limits.{first_past, list_counts}
use Rattle.dcsp_problem.specs.Outputs.{IsOutputOf, IsShapeOf}
use Rattle.dcsp_problem.specs.WellFormed.{IsProblem}
use Rattle.dcsp_problem.proofs.RisingNumbers.{Contains-In}
use Rattle.dcsp_order.specs.Orders.{IsOrder}
use Rattle.dcsp_order.specs.Under.{term_under, terms_under, rule_under, output_under, aim_under, under, domain_at}
use Rattle.dcsp_order.proofs.Mapped.{from_map, all_of}
use Rattle.dcsp_order.proofs.Places.{low_place}
use Rattle.dcsp_order.proofs.Rules.{moved_terms, rule_known}
use Rattle.dcsp_order.proofs.Solutions.{same_count, domain_of_place}
use Rattle.dcsp_order.proofs.Counts.{sum_map, sum_places, sum_order}

-- what holds of each item of a list holds of each item of the changed list
all_map : {X Y : Type 0} → (P : X → Type 0) (Q : Y → Type 0) (f : X → Y) (xs : List X) → All P xs → ((x : X) → In x xs → P x → Q (f x)) → All Q (map f xs)
all_map P Q f xs all each = all_of Q (map f xs) (λ y i.
    let from = from_map f y xs i in
    subst Q from.2 (each from.0 from.1 (All-contains P xs from.0 all (Contains-In xs from.0 from.1))))

same_size : (order : List ℕ) (rule : Rule) → size_of (rule_under order rule) ≡ size_of rule
same_size order rule = ap (λ z. z + length (listed_of (rule_under order rule))) (ap length (moved_terms order rule) ∙ length-map (terms_of rule) (term_under order)) ∙ ap (λ z. length (terms_of rule) + z) (listed rule)
  where
    listed : (rule : Rule) → length (listed_of (rule_under order rule)) ≡ length (listed_of rule)
    listed (Plain kind xs ys zs members) = refl
    listed (Sum rel coefs terms total told) = refl

same_shape : (order : List ℕ) (rule : Rule) → has_shape (rule_under order rule) ≡ has_shape rule
same_shape order (Plain kind xs ys zs members) =
    let f = term_under order in
    ap (λ n. is_shape kind n (length (map f ys)) (length (map f zs))) (length-map xs f)
    ∙ ap (λ n. is_shape kind (length xs) n (length (map f zs))) (length-map ys f)
    ∙ ap (λ n. is_shape kind (length xs) (length ys) n) (length-map zs f)
same_shape order (Sum rel coefs terms total told) = ap (λ n. length coefs == n) (length-map terms (term_under order))

same_lists : (order : List ℕ) (rule : Rule) → list_counts (rule_under order rule) ≡ list_counts rule
same_lists order (Plain kind xs ys zs members) =
    let f = term_under order in
    ap (λ n. (Elements, n) ∷ (Elements, length (map f ys)) ∷ (Elements, length (map f zs)) ∷ []) (length-map xs f)
    ∙ ap (λ n. (Elements, length xs) ∷ (Elements, n) ∷ (Elements, length (map f zs)) ∷ []) (length-map ys f)
    ∙ ap (λ n. (Elements, length xs) ∷ (Elements, length ys) ∷ (Elements, n) ∷ []) (length-map zs f)
same_lists order (Sum rel coefs terms total told) = ap (λ n. (Elements, length coefs) ∷ (Elements, n) ∷ []) (length-map terms (term_under order))

module _ (p : Contents) (ok : IsProblem p) (order : List ℕ) (good : IsOrder (length p.domains) order) where
  abbrev n : ℕ
  n = length p.domains

  abbrev m : ℕ
  m = length (under order p).domains

  term_stays : (term : Term) → IsTermOf n term → IsTermOf m (term_under order term)
  term_stays (Const value) known = tt
  term_stays (Var var) known = let low = low_place n order good var known in let same = same_count p ok order good in omega (arith, low, same)

  terms_stay : (terms : List Term) → All (IsTermOf n) terms → All (IsTermOf m) (terms_under order terms)
  terms_stay terms all = all_map (IsTermOf n) (IsTermOf m) (term_under order) terms all (λ term i known. term_stays term known)

  rule_stays : (rule : Rule) → IsRuleOf n rule → IsRuleOf m (rule_under order rule)
  rule_stays rule r = record {
    known = subst (λ (z : List Term). All (IsTermOf m) z) (sym (moved_terms order rule)) (terms_stay (terms_of rule) r.known);
    shape = subst IsTrue (sym (same_shape order rule)) r.shape;
  }

  output_stays : (output : Output) → IsOutputOf n output → IsOutputOf m (output_under order output)
  output_stays output o =
      let many : length (terms_under order output.terms) ≡ length output.terms = length-map output.terms (term_under order) in
      let few = o.few in
      record {
        known = terms_stay output.terms o.known;
        few = omega (arith, many, few);
        shape = subst (λ z. IsShapeOf z output.shape) (sym many) o.shape;
      }

  aim_stays : (aim : Aim) → IsAimOf n aim → IsAimOf m (aim_under order aim)
  aim_stays Satisfy known = tt
  aim_stays (Least term) known = term_stays term known
  aim_stays (Greatest term) known = term_stays term known

  same_greatest : (term : Term) → IsTermOf n term → greatest_of (under order p).domains (term_under order term) ≡ greatest_of p.domains term
  same_greatest (Const value) known = refl
  same_greatest (Var var) known = ap greatest_among (domain_of_place p ok order good var known)

  same_greatests : (terms : List Term) → ((term : Term) → In term terms → IsTermOf n term)
      → map (greatest_of (under order p).domains) (terms_under order terms) ≡ map (greatest_of p.domains) terms
  same_greatests [] known = refl
  same_greatests (term ∷ terms) known =
      ap (λ z. z ∷ map (greatest_of (under order p).domains) (terms_under order terms)) (same_greatest term (known term (inl refl)))
      ∙ ap (λ z. greatest_of p.domains term ∷ z) (same_greatests terms (λ x i. known x (inr i)))

  same_width : (rule : Rule) → IsRuleOf n rule → rule_width (under order p).domains (rule_under order rule) ≡ rule_width p.domains rule
  same_width (Plain kind xs ys zs members) r = refl
  same_width (Sum rel coefs terms total told) r =
      let rest : List Term = total ∷ option_to_list told in
      let all : (x : Term) → In x (terms_of (Sum rel coefs terms total told)) → IsTermOf n x =
      λ x i. All-contains (IsTermOf n) (terms_of (Sum rel coefs terms total told)) x r.known (Contains-In (terms_of (Sum rel coefs terms total told)) x i)
      in
      ap (λ (z : List ℕ). width_of coefs z (greatest_of (under order p).domains (term_under order total))) (same_greatests terms (λ x i. all x (In-left x terms rest i)))
      ∙ ap (λ z. width_of coefs (map (greatest_of p.domains) terms) z) (same_greatest total (all total (In-right total terms rest (inl refl))))

  same_values : value_count (under order p) ≡ value_count p
  same_values =
      let size : ℕ → ℕ = λ k. length (domain_at p k) in
      sum_map length size (domain_at p) order (λ k i. refl)
      ∙ sum_order size n order good
      ∙ sym (sum_places length p.domains [])

  same_terms : term_count (under order p) ≡ term_count p
  same_terms = sum_map size_of size_of (rule_under order) p.rules (λ rule i. same_size order rule)

  -- the problem under the order keeps the limits
  pub still_problem : IsProblem (under order p)
  still_problem =
      let variables = same_count p ok order good in
      let few_variables = ok.few_variables in
      let few_values = ok.few_values in
      let few_rules = ok.few_rules in
      let few_terms = ok.few_terms in
      let few_outputs = ok.few_outputs in
      record {
        domains = all_of IsDomain (map (domain_at p) order) (λ d i. let from = from_map (domain_at p) d order i in subst IsDomain from.2 (ok.domains from.0 [] (good.inside from.0 from.1)));
        rules = all_map (IsRuleOf n) (IsRuleOf m) (rule_under order) p.rules ok.rules (λ rule i r. rule_stays rule r);
        outputs = all_map (IsOutputOf n) (IsOutputOf m) (output_under order) p.outputs ok.outputs (λ output i o. output_stays output o);
        aim = aim_stays p.aim ok.aim;
        few_variables = omega (arith, variables, few_variables);
        few_values = omega (arith, same_values, few_values);
        few_rules = omega (arith, length-map p.rules (rule_under order), few_rules);
        few_terms = omega (arith, same_terms, few_terms);
        few_outputs = omega (arith, length-map p.outputs (output_under order), few_outputs);
        short_lists = all_map (λ rule. first_past (list_counts rule) ≡ None) (λ rule. first_past (list_counts rule) ≡ None) (rule_under order) p.rules ok.short_lists (λ rule i short. ap first_past (same_lists order rule) ∙ short);
        narrow_sums = all_map (λ rule. rule_width p.domains rule ≤ widest) (λ rule. rule_width (under order p).domains rule ≤ widest) (rule_under order) p.rules ok.narrow_sums (λ rule i narrow. let same = same_width rule (rule_known p ok rule i) in omega (arith, same, narrow));
      }
