-- Solutions under an order.
use Rattle.std.proofs.Common.{◌≡◌, ℕ, ◌<◌, true, List, [], length, sym, ap, ◌∙◌, subst, arith}
use Rattle.std.specs.Prelude.{ℤ}
use Rattle.std.proofs.lemmas.List.{length-map}
use Rattle.dcsp_defs.specs.Words.{In}
use Rattle.dcsp_defs.specs.Csp.{Constraint, domain}
use Rattle.dcsp_defs.proofs.Lists.{In-map}
use Rattle.dcsp_rule.specs.declared.rule.Rule.{Rule}
use Rattle.dcsp_rule.specs.Rules.{rule_truth}
use Rattle.dcsp_rule.specs.Problems.{Contents, constraint_of, csp_of}
use Rattle.dcsp_problem.specs.WellFormed.{IsProblem}
use Rattle.dcsp_order.specs.Orders.{number_at, place_of, IsOrder}
use Rattle.dcsp_order.specs.Under.{rule_under, under, domain_at, by_number, by_place}
use Rattle.dcsp_order.specs.Laws.{SolutionsGo, SolutionsCome}
use Rattle.dcsp_order.proofs.Mapped.{map_item, from_map}
use Rattle.dcsp_order.proofs.Places.{low_place, low_number, number_back}
use Rattle.dcsp_order.proofs.Rules.{same_truth, truth_stays, rule_known}

module _ (p : Contents) (ok : IsProblem p) (order : List ℕ) (good : IsOrder (length p.domains) order) where
  -- there are as many variables
  pub same_count : length (under order p).domains ≡ length p.domains
  same_count = length-map order (domain_at p) ∙ good.whole

  -- the domain at a place is that of the variable that stands there
  pub domain_there : (place : ℕ) → place < length p.domains → domain (csp_of (under order p)) place ≡ domain (csp_of p) (number_at order place)
  domain_there place l = let whole = good.whole in map_item (domain_at p) order place [] place (omega (arith, l, whole))

  pub domain_of_place : (k : ℕ) → k < length p.domains → domain (csp_of (under order p)) (place_of order k) ≡ domain (csp_of p) k
  domain_of_place k l =
      domain_there (place_of order k) (low_place (length p.domains) order good k l)
      ∙ ap (domain_at p) (number_back (length p.domains) order good k (place_of order k) l)

pub solutions_go : SolutionsGo
solutions_go p ok order good values solution = record {
  domains = λ place l.
      let low : place < length p.domains = omega (arith, l, same_count p ok order good) in
      subst (λ (d : List ℤ). In (values (number_at order place)) d) (sym (domain_there p ok order good place low))
      (solution.domains (number_at order place) (low_number (length p.domains) order good place low));
  constraints = λ c i.
      let m = length (under order p).domains in
      let moved = from_map (constraint_of m) c (under order p).rules i in
      let from = from_map (rule_under order) moved.0 p.rules moved.1 in
      let rule : Rule = from.0 in
      let holds : rule_truth rule values ≡ true = solution.constraints (constraint_of (length p.domains) rule) (In-map (constraint_of (length p.domains)) rule p.rules from.1) in
      let here : rule_truth (rule_under order rule) (by_place order values) ≡ true =
      same_truth order (by_place order values) rule
      ∙ truth_stays (length p.domains) rule (rule_known p ok rule from.1) (by_number order (by_place order values)) values
      (λ v l. ap values (number_back (length p.domains) order good v (place_of order v) l))
      ∙ holds
      in
      ap (λ (z : Constraint). z.test (by_place order values)) (sym moved.2)
      ∙ ap (λ (z : Rule). rule_truth z (by_place order values)) (sym from.2)
      ∙ here;
}

pub solutions_come : SolutionsCome
solutions_come p ok order good values solution = record {
  domains = λ k l.
      subst (λ (d : List ℤ). In (values (place_of order k)) d) (domain_of_place p ok order good k l)
      (solution.domains (place_of order k) (let low = low_place (length p.domains) order good k l in omega (arith, low, same_count p ok order good)));
  constraints = λ c i.
      let m = length (under order p).domains in
      let from = from_map (constraint_of (length p.domains)) c p.rules i in
      let rule : Rule = from.0 in
      let there = In-map (constraint_of m) (rule_under order rule) (under order p).rules (In-map (rule_under order) rule p.rules from.1) in
      let holds : rule_truth (rule_under order rule) values ≡ true = solution.constraints (constraint_of m (rule_under order rule)) there in
      ap (λ (z : Constraint). z.test (by_number order values)) (sym from.2) ∙ (sym (same_truth order values rule) ∙ holds);
}
