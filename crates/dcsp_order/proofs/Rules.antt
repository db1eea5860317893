-- Rules under an order: their variables and their truth.
use Rattle.std.proofs.Common.{◌≡◌, ℕ, ◌<◌, true, List, [], ◌∷◌, ◌++◌, map, zip, length, Option, Some, None, refl, sym, ap, ◌∙◌, subst}
use Rattle.std.specs.Prelude.{ℤ, filter_map, ◌==◌}
use Rattle.std.specs.Option.{option_map, option_to_list}
use Rattle.std.proofs.lemmas.Bool.Decides.{Decides-eqb}
use Rattle.std.proofs.lemmas.List.Elements.{All-contains}
use Rattle.std.proofs.lemmas.List.{map-append}
use Rattle.dcsp_meaning.specs.Table.{truth}
use Rattle.dcsp_meaning.specs.Sums.{sum_of, stands}
use Rattle.dcsp_defs.specs.Words.{In, below}
use Rattle.dcsp_defs.specs.Csp.{Assignment}
use Rattle.dcsp_defs.proofs.Lists.{In-map, In-filter, below-In, list_any-In}
use Rattle.dcsp_rule.specs.declared.rule.Term.{Term}
use Rattle.dcsp_rule.specs.declared.rule.Term.TheVariants.{Const, Var}
use Rattle.dcsp_rule.specs.declared.rule.Rule.{Rule}
use Rattle.dcsp_rule.specs.declared.rule.Rule.TheVariants.{Plain, Sum}
use Rattle.dcsp_rule.specs.Members.{is_member}
use Rattle.dcsp_rule.specs.Rules.{variable_of, value_under, terms_of, variables_of, mentions, scope_of, is_told, rule_truth, IsRuleOf}
use Rattle.dcsp_rule.specs.Problems.{Contents}
use Rattle.dcsp_problem.specs.WellFormed.{IsProblem}
use Rattle.dcsp_problem.proofs.Local.{truth_local}
use Rattle.dcsp_problem.proofs.RisingNumbers.{Contains-In}
use Rattle.dcsp_problem.proofs.Scopes.{variables_below, In-from_scope}
use Rattle.dcsp_order.specs.Orders.{place_of}
use Rattle.dcsp_order.specs.Under.{term_under, terms_under, rule_under, by_number}

-- the variables among changed terms
moved_variables : (order : List ℕ) (terms : List Term) → filter_map variable_of (terms_under order terms) ≡ map (place_of order) (filter_map variable_of terms)
moved_variables order [] = refl
moved_variables order (Const value ∷ terms) = moved_variables order terms
moved_variables order (Var var ∷ terms) = ap (λ z. place_of order var ∷ z) (moved_variables order terms)

moved_told : (order : List ℕ) (told : Option Term) → option_to_list (option_map (term_under order) told) ≡ terms_under order (option_to_list told)
moved_told order None = refl
moved_told order (Some term) = refl

pub moved_terms : (order : List ℕ) (rule : Rule) → terms_of (rule_under order rule) ≡ terms_under order (terms_of rule)
moved_terms order (Plain kind xs ys zs members) =
    let f = term_under order in
    ap (λ (z : List Term). z ++ map f zs) (sym (map-append f xs ys)) ∙ sym (map-append f (xs ++ ys) zs)
moved_terms order (Sum rel coefs terms total told) =
    let f = term_under order in
    ap (λ (z : List Term). map f terms ++ f total ∷ z) (moved_told order told) ∙ sym (map-append f terms (total ∷ option_to_list told))

-- the rule's variables have become their places
pub moved : (order : List ℕ) (rule : Rule) → variables_of (rule_under order rule) ≡ map (place_of order) (variables_of rule)
moved order rule = ap (filter_map variable_of) (moved_terms order rule) ∙ moved_variables order (terms_of rule)

same_value : (order : List ℕ) (values : Assignment) (term : Term) → value_under values (term_under order term) ≡ value_under (by_number order values) term
same_value order values (Const value) = refl
same_value order values (Var var) = refl

same_values : (order : List ℕ) (values : Assignment) (terms : List Term) → map (value_under values) (terms_under order terms) ≡ map (value_under (by_number order values)) terms
same_values order values [] = refl
same_values order values (term ∷ terms) =
    ap (λ z. z ∷ map (value_under values) (terms_under order terms)) (same_value order values term)
    ∙ ap (λ z. value_under (by_number order values) term ∷ z) (same_values order values terms)

same_told : (order : List ℕ) (values : Assignment) (told : Option Term) → option_map (value_under values) (option_map (term_under order) told) ≡ option_map (value_under (by_number order values)) told
same_told order values None = refl
same_told order values (Some term) = ap (λ z. Some z) (same_value order values term)

-- a rule is as true under the order as it is where the values are told by numbers
pub same_truth : (order : List ℕ) (values : Assignment) (rule : Rule) → rule_truth (rule_under order rule) values ≡ rule_truth rule (by_number order values)
same_truth order values (Plain kind xs ys zs members) =
    let g = by_number order values in
    ap (λ (l : List ℤ). truth kind l (map (value_under values) (terms_under order ys)) (map (value_under values) (terms_under order zs)) (is_member members)) (same_values order values xs)
    ∙ ap (λ (l : List ℤ). truth kind (map (value_under g) xs) l (map (value_under values) (terms_under order zs)) (is_member members)) (same_values order values ys)
    ∙ ap (λ (l : List ℤ). truth kind (map (value_under g) xs) (map (value_under g) ys) l (is_member members)) (same_values order values zs)
same_truth order values (Sum rel coefs terms total told) =
    let g = by_number order values in
    ap (λ (o : Option ℤ). is_told o (stands rel (sum_of (zip coefs (map (value_under values) (terms_under order terms)))) (value_under values (term_under order total)))) (same_told order values told)
    ∙ ap (λ (l : List ℤ). is_told (option_map (value_under g) told) (stands rel (sum_of (zip coefs l)) (value_under values (term_under order total)))) (same_values order values terms)
    ∙ ap (λ (t : ℤ). is_told (option_map (value_under g) told) (stands rel (sum_of (zip coefs (map (value_under g) terms))) t)) (same_value order values total)

-- the place of a variable in the scope is in the scope under the order
pub scope_goes : (n m : ℕ) (order : List ℕ) (rule : Rule) (v : ℕ) → In v (scope_of n rule) → place_of order v < m → In (place_of order v) (scope_of m (rule_under order rule))
scope_goes n m order rule v i low =
    let there : In (place_of order v) (variables_of (rule_under order rule)) =
    subst (λ (z : List ℕ). In (place_of order v) z) (sym (moved order rule)) (In-map (place_of order) v (variables_of rule) (In-from_scope n rule v i))
    in
    let named : mentions (rule_under order rule) (place_of order v) ≡ true =
    list_any-In (λ w. w == place_of order v) (place_of order v) (variables_of (rule_under order rule)) there ((Decides-eqb (place_of order v) (place_of order v)).1 refl)
    in
    In-filter (mentions (rule_under order rule)) (place_of order v) (below m) (below-In m (place_of order v) low) named

-- a rule looks at its own variables' values alone
pub truth_stays : (n : ℕ) (rule : Rule) → IsRuleOf n rule → (f g : Assignment) → ((v : ℕ) → v < n → f v ≡ g v) → rule_truth rule f ≡ rule_truth rule g
truth_stays n rule r f g same = truth_local rule f g (λ v i. same v (variables_below n rule r v i))

pub rule_known : (p : Contents) → IsProblem p → (rule : Rule) → In rule p.rules → IsRuleOf (length p.domains) rule
rule_known p ok rule i = All-contains (IsRuleOf (length p.domains)) p.rules rule ok.rules (Contains-In p.rules rule i)
