-- The problem of each round is well-formed, and its bound is at most that of the whole problem.
use Rattle.std.proofs.Common.{◌≡◌, ℕ, zero, suc, ◌≤◌, ℤ, Bool, List, [], ◌∷◌, length, filter, map, Option, Some, None, refl, sym, ◌∙◌, subst, arith}
use Rattle.std.specs.Prelude.{All, slice_set, slice_index_or}
use Rattle.std.proofs.lemmas.List.{length-set}
use Rattle.dcsp_domain.specs.Sets.{IsDomain, IsRising}
use Rattle.dcsp_domain.proofs.Domains.{length_filter}
use Rattle.dcsp_rule.specs.Problems.{Contents, constraint_of, csp_of}
use Rattle.dcsp_problem.specs.WellFormed.{IsProblem}
use Rattle.dcsp_rule.specs.Aims.{aimed_at, is_better, narrowed_domains, narrowed_at}
use Rattle.dcsp_problem.proofs.Narrowed.{is_problem_narrowed, aimed_below}
use Rattle.abt_defs.specs.Bound.{message_bound}
use Rattle.abt_optimum.specs.Rounds.{aim_values_at, aim_values, round_problem}
use Rattle.std.proofs.lemmas.List.{length-map}
use Rattle.dcsp_rule.specs.declared.rule.Rule.{Rule}
use Rattle.dcsp_order.specs.Under.{domain_at, rule_under, under}
use Rattle.dcsp_order.specs.Told.{ordered}
use Rattle.line_solve.proofs.Bounds.{bound_smaller}

-- the domains, where of one only the values that pass the test stay
abbrev cut : (ℤ → Bool) → ℕ → List (List ℤ) → List (List ℤ)
cut test var domains = slice_set domains var (filter test (slice_index_or domains var []))

no_longer : (test : ℤ → Bool) (domains : List (List ℤ)) (var i : ℕ) → length (slice_index_or (cut test var domains) i []) ≤ length (slice_index_or domains i [])
no_longer test [] var i = omega arith
no_longer test (d ∷ ds) zero zero = length_filter test d
no_longer test (d ∷ ds) zero (suc i) = omega arith
no_longer test (d ∷ ds) (suc var) zero = omega arith
no_longer test (d ∷ ds) (suc var) (suc i) = no_longer test ds var i

module _ (p : Contents) (bound : ℤ) (h : IsProblem p) where
  narrowed_problem : (o : Option ℕ) → aimed_at p.aim ≡ o → IsProblem (narrowed_at o p bound)
  narrowed_problem None e = h
  narrowed_problem (Some var) e = is_problem_narrowed p bound var (aimed_below (length p.domains) p.aim var h.aim e) h

  narrowed_bound : (o : Option ℕ) → message_bound (csp_of (narrowed_at o p bound)) ≤ message_bound (csp_of p)
  narrowed_bound None = omega arith
  narrowed_bound (Some var) =
      let domains = narrowed_domains p.aim bound var p.domains in
      let same : length domains ≡ length p.domains = length-set p.domains var (filter (is_better p.aim bound) (slice_index_or p.domains var [])) in
      let less = bound_smaller (map (constraint_of (length p.domains)) p.rules) domains p.domains (record { count = same; each = no_longer (is_better p.aim bound) p.domains var }) in
      subst (λ (n : ℕ). message_bound (record { domains = domains; constraints = map (constraint_of n) p.rules }) ≤ message_bound (csp_of p)) (sym same) less

-- the values that a problem's aim may have rise
rising_at : (domains : List (List ℤ)) (var : ℕ) → All IsDomain domains → IsRising (slice_index_or domains var [])
rising_at [] var all = λ i j d l m. absurd (omega arith)
rising_at (d ∷ ds) zero all = (all 0 d (omega arith)).rising
rising_at (d ∷ ds) (suc var) all = rising_at ds var (λ i e m. all (suc i) e (omega arith))

pub rising_values : (p : Contents) → IsProblem p → IsRising (aim_values p)
rising_values p h = by (aimed_at p.aim)
  where
    by : (o : Option ℕ) → IsRising (aim_values_at o p)
    by None = λ i j d l m. absurd (omega arith)
    by (Some var) = rising_at p.domains var h.domains

-- the problem of a round is a problem
pub round_is_problem : (p : Contents) (better : Option ℤ) → IsProblem p → IsProblem (round_problem p better)
round_is_problem p None h = h
round_is_problem p (Some bound) h = narrowed_problem p bound h (aimed_at p.aim) refl

-- and has no greater bound than the whole one
pub round_bound : (p : Contents) (better : Option ℤ) → IsProblem p → message_bound (csp_of (round_problem p better)) ≤ message_bound (csp_of p)
round_bound p None h = omega arith
round_bound p (Some bound) h = narrowed_bound p bound h (aimed_at p.aim)

-- ---- under an order

lists_no_longer : (f g : ℕ → List ℤ) → ((k : ℕ) → length (f k) ≤ length (g k)) → (xs : List ℕ) (i : ℕ) → length (slice_index_or (map f xs) i []) ≤ length (slice_index_or (map g xs) i [])
lists_no_longer f g each [] i = omega arith
lists_no_longer f g each (x ∷ xs) zero = each x
lists_no_longer f g each (x ∷ xs) (suc i) = lists_no_longer f g each xs i

-- the same rules over domains that are no longer, under the order
under_smaller : (order : List ℕ) (p q : Contents) → q.rules ≡ p.rules → ((k : ℕ) → length (domain_at q k) ≤ length (domain_at p k)) → message_bound (csp_of (under order q)) ≤ message_bound (csp_of (under order p))
under_smaller order p q rules each =
    let new = map (domain_at q) order in
    let old = map (domain_at p) order in
    let same : length new ≡ length old = length-map order (domain_at q) ∙ sym (length-map order (domain_at p)) in
    let mine = map (rule_under order) p.rules in
    let less = bound_smaller (map (constraint_of (length old)) mine) new old (record { count = same; each = lists_no_longer (domain_at q) (domain_at p) each order }) in
    let counted = subst (λ (n : ℕ). message_bound (record { domains = new; constraints = map (constraint_of n) mine }) ≤ message_bound (csp_of (under order p))) (sym same) less in
    subst (λ (rs : List Rule). message_bound (record { domains = new; constraints = map (constraint_of (length new)) (map (rule_under order) rs) }) ≤ message_bound (csp_of (under order p))) (sym rules) counted

under_narrowed : (order : List ℕ) (p : Contents) (bound : ℤ) (o : Option ℕ) → message_bound (csp_of (under order (narrowed_at o p bound))) ≤ message_bound (csp_of (under order p))
under_narrowed order p bound None = omega arith
under_narrowed order p bound (Some var) = under_smaller order p (narrowed_at (Some var) p bound) refl (λ k. no_longer (is_better p.aim bound) p.domains var k)

-- the problem of a round under an order has no greater bound than the whole one under it
pub ordered_bound : (order : Option (List ℕ)) (p : Contents) (better : Option ℤ) → IsProblem p → message_bound (csp_of (ordered order (round_problem p better))) ≤ message_bound (csp_of (ordered order p))
ordered_bound None p better h = round_bound p better h
ordered_bound (Some order) p None h = omega arith
ordered_bound (Some order) p (Some bound) h = under_narrowed order p bound (aimed_at p.aim)
