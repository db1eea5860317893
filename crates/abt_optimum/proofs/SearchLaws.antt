-- What every search keeps, and what a whole one finds.
use Rattle.std.proofs.Common.{◌≡◌, ◌∙◌, ℕ, ◌-◌, Bool, true, false, List, [], ◌∷◌, ◌++◌, length, take, refl, sym, ap, subst, inl, inr}
use Rattle.dcsp_domain.specs.Sets.{IsRising}
use Rattle.std.specs.Prelude.{ℤ, ◌↔◌, is_some, is_none, Option, Some, None, IsSomeAnd, IfSome, IsTrue, option_map}
use Rattle.std.specs.Option.{option_map_or}
use Rattle.std.proofs.lemmas.List.{length-set}
use Rattle.dcsp_defs.specs.Csp.{IsSolution, HasNoSolution}
use Rattle.dcsp_rule.specs.declared.rule.Term.TheVariants.{Const, Var}
use Rattle.dcsp_rule.specs.declared.aim.Aim.{Aim}
use Rattle.dcsp_rule.specs.declared.aim.Aim.TheVariants.{Satisfy, Least, Greatest}
use Rattle.dcsp_rule.specs.Rules.{IsAimOf}
use Rattle.dcsp_rule.specs.Problems.{Contents, csp_of}
use Rattle.dcsp_rule.specs.Aims.{aimed_at, is_better, narrowed_at, narrowed}
use Rattle.abt_defs.specs.declared.end.End.{End}
use Rattle.abt_defs.specs.declared.end.End.TheVariants.{Solved, Refuted, Spent, Capped}
use Rattle.abt_optimum.specs.declared.round.Round.{Round}
use Rattle.abt_optimum.specs.declared.best.BestEnd.{BestEnd}
use Rattle.abt_optimum.specs.declared.best.BestEnd.TheVariants.{NoSolution}
use Rattle.abt_optimum.specs.Best.{assigned, aim_value, Solves, HasNoBetter}
use Rattle.abt_optimum.specs.declared.round.Known.{Known}
use Rattle.abt_optimum.specs.Halves.{next_value}
use Rattle.abt_optimum.specs.Rounds.{is_open, last_round, known_at_first, known_after, known_of, best_value, aim_values_at, aim_values, better_than, ends_search, is_last, is_done, round_problem, IsAimValue, IsAllowed, MayEnd, Follows}
use Rattle.abt_optimum.specs.Searches.{SearchState, end_at, next_better, round_after, values_after, EndsRightly, IsSearch}
use Rattle.abt_optimum.specs.Outcomes.{IsRefutedAt, BeginsRefuted, EndsCapped, IsOptimal, IsUnsolvable, IsBestEnd}
use Rattle.abt_optimum.specs.Kept.{end_of}
use Rattle.abt_optimum.proofs.Narrowing.{keeps_better, decides}
use Rattle.abt_optimum.proofs.Ranks.{better_itself, next_or, none_next}
use Rattle.abt_optimum.proofs.RoundLists.{last_more, rounds_more, some_aim, known_is, goes_on_after, only_round, only_refuted, some_of, neither_ends}
use Rattle.abt_optimum.proofs.Fewer.{round_aim}

-- a solution of a round's problem is one of the whole problem
narrowed_solution : (p : Contents) (bound : ℤ) (values : ℕ → ℤ) (o : Option ℕ) → IsAimOf (length p.domains) p.aim → aimed_at p.aim ≡ o → IsSolution (csp_of (narrowed p bound)) values → IsSolution (csp_of p) values
narrowed_solution p bound values None known at h = subst (λ (o : Option ℕ). IsSolution (csp_of (narrowed_at o p bound)) values) at h
narrowed_solution p bound values (Some var) known at h = ((keeps_better p known (ap is_some at) bound values).0 h).0

narrowed_many : (p : Contents) (bound : ℤ) (o : Option ℕ) → length (narrowed_at o p bound).domains ≡ length p.domains
narrowed_many p bound None = refl
narrowed_many p bound (Some var) = length-set p.domains var _

pub round_many : (p : Contents) (better : Option ℤ) → length (round_problem p better).domains ≡ length p.domains
round_many p None = refl
round_many p (Some bound) = narrowed_many p bound (aimed_at p.aim)

pub solves_whole : (p : Contents) (better : Option ℤ) (values : List ℤ) → IsAimOf (length p.domains) p.aim → Solves (round_problem p better) values → Solves p values
solves_whole p None values known h = h
solves_whole p (Some bound) values known h = record {
  many = h.many ∙ round_many p (Some bound);
  solution = narrowed_solution p bound (assigned values) (aimed_at p.aim) known refl h.solution;
}

-- the values of a solution at an aim are some that it may have
solved_aim : (q : Contents) (aim : Aim) (values : List ℤ) → IsAimOf (length q.domains) aim → Solves q values → IsAimValue q aim (aim_value aim (assigned values))
solved_aim q Satisfy values known h = refl
solved_aim q (Least (Const x)) values known h = refl
solved_aim q (Least (Var x)) values known h = h.solution.domains x known
solved_aim q (Greatest (Const x)) values known h = refl
solved_aim q (Greatest (Var x)) values known h = h.solution.domains x known

-- a solution is at no excluded value
allowed : (p : Contents) (limit : Option ℤ) (values : List ℤ) → IfSome limit (HasNoBetter p) → Solves p values → IsAllowed p.aim limit (aim_value p.aim (assigned values))
allowed p None values none h = tt
allowed p (Some limit) values none h = none (assigned values) h.solution

may_end : (p : Contents) (better limit : Option ℤ) (end : End (List ℤ)) → IsAimOf (length p.domains) p.aim → IfSome limit (HasNoBetter p) → EndsRightly (round_problem p better) end → MayEnd (round_problem p better) limit (end_at p.aim end)
may_end p better limit (Solved values) known none right =
    let q = round_problem p better in
    let value = aim_value p.aim (assigned values) in
    let aim = sym (round_aim p better) in
    let there = solved_aim q p.aim values (subst (λ (n : ℕ). IsAimOf n p.aim) (sym (round_many p better)) known) right in
    (subst (λ (aim : Aim). IsAimValue q aim value) aim there, subst (λ (aim : Aim). IsAllowed aim limit value) aim (allowed p limit values none (solves_whole p better values known right)))
may_end p better limit Refuted known none right = tt
may_end p better limit Spent known none right = tt
may_end p better limit Capped known none right = tt

-- ---- no better values

-- where the aim is at no variable, no value is better than another
none_better_at : (aim : Aim) (f g : ℕ → ℤ) → aimed_at aim ≡ None → is_better aim (aim_value aim f) (aim_value aim g) ≡ false
none_better_at Satisfy f g at = refl
none_better_at (Least (Const x)) f g at = better_itself (Least (Const x)) x
none_better_at (Least (Var x)) f g at = cc
none_better_at (Greatest (Const x)) f g at = better_itself (Greatest (Const x)) x
none_better_at (Greatest (Var x)) f g at = cc

-- where nothing solves the problem of a round that was to better a value, no solution has a better one
none_better : (p : Contents) (values : List ℤ) → IsAimOf (length p.domains) p.aim → HasNoSolution (csp_of (narrowed p (aim_value p.aim (assigned values)))) → HasNoBetter p (aim_value p.aim (assigned values))
none_better p values known none = by (aimed_at p.aim) refl where
  by : (o : Option ℕ) → aimed_at p.aim ≡ o → HasNoBetter p (aim_value p.aim (assigned values))
  by None at = λ f h. none_better_at p.aim (assigned values) f at
  by (Some var) at = ((decides p known (ap is_some at) (aim_value p.aim (assigned values))).0 none)

-- the search after one round more
module _ (s : SearchState) (h : IsSearch s) (known : IsAimOf (length s.problem.domains) s.problem.aim) (still : is_done s.problem.aim s.rounds ≡ false) where
  abbrev taken : End (List ℤ) → SearchState
  taken end = record { problem = s.problem; halves = s.halves; rounds = s.rounds ++ round_after s end ∷ []; values = values_after s.values end }

  solves_more : (end : End (List ℤ)) → EndsRightly (round_problem s.problem (next_better s)) end → IfSome (values_after s.values end) (Solves s.problem)
  solves_more (Solved values) right = solves_whole s.problem (next_better s) values known right
  solves_more Refuted right = h.solves
  solves_more Spent right = h.solves
  solves_more Capped right = h.solves

  value_more : (end : End (List ℤ)) → option_map (λ values. aim_value s.problem.aim (assigned values)) (values_after s.values end) ≡ (known_after (known_of s.rounds) (next_better s) (end_at s.problem.aim end)).best
  value_more (Solved values) = refl
  value_more Refuted = h.value
  value_more Spent = h.value
  value_more Capped = h.value

  refuted_more : (end : End (List ℤ)) → EndsRightly (round_problem s.problem (next_better s)) end → (round : Round) → round_after s end ≡ round → round.end ≡ Refuted → HasNoSolution (csp_of (round_problem s.problem round.better))
  refuted_more (Solved values) right round e is = let clash : Solved (aim_value s.problem.aim (assigned values)) ≡ Refuted = ap (λ (r : Round). r.end) e ∙ is in cc
  refuted_more Refuted right round e is = subst (λ (r : Round). HasNoSolution (csp_of (round_problem s.problem r.better))) e right
  refuted_more Spent right round e is = let clash : true ≡ false = ap is_open (ap (λ (r : Round). r.end) e ∙ is) in cc
  refuted_more Capped right round e is = let clash : true ≡ false = ap is_open (ap (λ (r : Round). r.end) e ∙ is) in cc

  -- where another round follows, and one has ended, the aim is at a variable
  some_variable : (bound : ℤ) → next_better s ≡ Some bound → is_none (aimed_at s.problem.aim) ≡ false
  some_variable bound e = by (last_round s.rounds) refl where
    by : (o : Option Round) → last_round s.rounds ≡ o → is_none (aimed_at s.problem.aim) ≡ false
    by None last =
        let none : next_better s ≡ None = ap (λ (o : Option Round). better_than s.problem s.halves (option_map_or (λ (r : Round). known_after r.known r.better r.end) o known_at_first)) last in
        let clash : None ≡ Some bound = sym none ∙ e in
        cc
    by (Some round) last = some_aim s.problem.aim round (goes_on_after s.problem.aim s.rounds round last still)

  -- a refuted round excludes what is better than its bound
  excluded_by : HasNoSolution (csp_of (round_problem s.problem (next_better s))) → IfSome (next_better s) (HasNoBetter s.problem)
  excluded_by none = by (next_better s) refl where
    by : (o : Option ℤ) → next_better s ≡ o → IfSome o (HasNoBetter s.problem)
    by None e = tt
    by (Some bound) e = (decides s.problem known (some_of (aimed_at s.problem.aim) (some_variable bound e)) bound).0 (subst (λ (o : Option ℤ). HasNoSolution (csp_of (round_problem s.problem o))) e none)

  excluded_more : (end : End (List ℤ)) → EndsRightly (round_problem s.problem (next_better s)) end → IfSome (known_after (known_of s.rounds) (next_better s) (end_at s.problem.aim end)).limit (HasNoBetter s.problem)
  excluded_more (Solved values) right = h.excluded
  excluded_more Refuted right = excluded_by right
  excluded_more Spent right = h.excluded
  excluded_more Capped right = h.excluded

  pub search_more : (end : End (List ℤ)) → EndsRightly (round_problem s.problem (next_better s)) end → IsSearch (taken end)
  search_more end right =
      let round = round_after s end in
      let last = last_more s.rounds round in
      let is = known_is (s.rounds ++ round ∷ []) round last in
      let may = may_end s.problem (next_better s) (known_of s.rounds).limit end known h.excluded right in
      record {
        aimed = h.aimed;
        rounds = rounds_more s.halves s.problem s.rounds round h.rounds (record { goes_on = still; known = refl; better = refl; end = may });
        solves = solves_more end right;
        value = value_more end ∙ sym (ap (λ (z : Known). z.best) is);
        refuted = λ other e ends. let same : Some round ≡ Some other = sym last ∙ e in refuted_more end right other (cc) ends;
        excluded = subst (λ (z : Known). IfSome z.limit (HasNoBetter s.problem)) (sym is) (excluded_more end right);
      }

-- ---- a whole search

module _ (s : SearchState) (h : IsSearch s) (known : IsAimOf (length s.problem.domains) s.problem.aim) (rising : IsRising (aim_values s.problem)) where
  abbrev told : List ℤ → ℤ
  told values = aim_value s.problem.aim (assigned values)

  -- the best value is that of the values
  some_best : (values : List ℤ) → s.values ≡ Some values → best_value s.rounds ≡ Some (told values)
  some_best values is = sym h.value ∙ ap (option_map told) is

  no_best : s.values ≡ None → best_value s.rounds ≡ None
  no_best is = sym h.value ∙ ap (option_map told) is

  solved : (values : List ℤ) → s.values ≡ Some values → Solves s.problem values
  solved values is = subst (λ (o : Option (List ℤ)). IfSome o (Solves s.problem)) is h.solves

  -- ---- a last round that was refuted

  module _ (round : Round) (last : last_round s.rounds ≡ Some round) (refuted : round.end ≡ Refuted) where
    abbrev before : List Round
    before = take (length s.rounds - 1) s.rounds

    follows : Follows s.halves s.problem before round
    follows = h.rounds (length s.rounds - 1) round last

    -- it changes nothing of the best value
    best_before : best_value s.rounds ≡ (known_of before).best
    best_before = ap (λ (z : Known). z.best) (known_is s.rounds round last ∙ ap (known_after round.known round.better) refuted) ∙ ap (λ (z : Known). z.best) follows.known

    -- it was to better that value itself
    bettered : (best : ℤ) → (known_of before).best ≡ Some best → is_last s.problem.aim round ≡ true → round.better ≡ Some best
    bettered best is over =
        let bound = next_value s.halves s.problem.aim (aim_values s.problem) best (known_of before).limit in
        let to : round.better ≡ Some bound = follows.better ∙ ap (option_map (λ b. next_value s.halves s.problem.aim (aim_values s.problem) b (known_of before).limit)) is in
        to ∙ ap Some (itself (aimed_at s.problem.aim) refl)
      where
        not_beyond : is_better s.problem.aim best (next_value s.halves s.problem.aim (aim_values s.problem) best (known_of before).limit) ≡ true → (var : ℕ) → aimed_at s.problem.aim ≡ Some var → ⊥
        not_beyond beyond var at =
            let ends : ends_search s.problem.aim round.known.best round.better Refuted ≡ true = subst (λ (x : End ℤ). ends_search s.problem.aim round.known.best round.better x ≡ true) refuted over in
            let first : ends_search s.problem.aim (Some best) round.better Refuted ≡ true = subst (λ (o : Option ℤ). ends_search s.problem.aim o round.better Refuted ≡ true) (ap (λ (z : Known). z.best) follows.known ∙ is) ends in
            let bound : round.better ≡ Some (next_value s.halves s.problem.aim (aim_values s.problem) best (known_of before).limit) = follows.better ∙ ap (option_map (λ b. next_value s.halves s.problem.aim (aim_values s.problem) b (known_of before).limit)) is in
            let second : ends_search s.problem.aim (Some best) (Some (next_value s.halves s.problem.aim (aim_values s.problem) best (known_of before).limit)) Refuted ≡ true = subst (λ (o : Option ℤ). ends_search s.problem.aim (Some best) o Refuted ≡ true) bound first in
            neither_ends _ _ beyond (ap is_none at) second

        itself : (o : Option ℕ) → aimed_at s.problem.aim ≡ o → next_value s.halves s.problem.aim (aim_values s.problem) best (known_of before).limit ≡ best
        itself None at = none_next s.halves s.problem.aim best (known_of before).limit (ap (λ (o : Option ℕ). aim_values_at o s.problem) at)
        itself (Some var) at = elim (next_or s.halves s.problem.aim var at (aim_values s.problem) (λ _. rising) best (known_of before).limit) [
          | inl same ↦ same
          | inr beyond ↦ absurd (not_beyond beyond var at)
        ]

    optimal_refuted : (values : List ℤ) → is_last s.problem.aim round ≡ true → s.values ≡ Some values → IsOptimal s values
    optimal_refuted values over is =
        let best = sym best_before ∙ some_best values is in
        let better = bettered (told values) best over in
        let none = subst (λ (o : Option ℤ). HasNoSolution (csp_of (round_problem s.problem o))) better (h.refuted round last refuted) in
        record {
          kept = is;
          best = record { solves = solved values is; none_better = none_better s.problem values known none };
          shown = λ _. subst (λ (o : Option Round). IsSomeAnd o (IsRefutedAt (told values))) (sym last) (record { better = better; end = refuted });
        }

    unsolvable : s.values ≡ None → IsUnsolvable s
    unsolvable is =
        let none = sym best_before ∙ no_best is in
        let better : round.better ≡ None = follows.better ∙ ap (option_map (λ b. next_value s.halves s.problem.aim (aim_values s.problem) b (known_of before).limit)) none in
        let only = only_round s.halves s.problem s.rounds round h.rounds last better in
        let begins : BeginsRefuted s.rounds = subst BeginsRefuted (sym only) refuted in
        record {
          rounds = only_refuted s.halves s.problem s.rounds h.rounds begins;
          none = subst (λ (o : Option ℤ). HasNoSolution (csp_of (round_problem s.problem o))) better (h.refuted round last refuted);
        }

  -- a last round that was solved, as the aim is at no variable
  optimal_solved : (values : List ℤ) → aimed_at s.problem.aim ≡ None → s.values ≡ Some values → IsOptimal s values
  optimal_solved values at is = record {
    kept = is;
    best = record { solves = solved values is; none_better = λ f g. none_better_at s.problem.aim (assigned values) f at };
    shown = λ some. let clash : false ≡ true = sym (ap is_some at) ∙ some in cc;
  }

  no_variable : is_none (aimed_at s.problem.aim) ≡ true → aimed_at s.problem.aim ≡ None
  no_variable none = by (aimed_at s.problem.aim) none where
    by : (o : Option ℕ) → is_none o ≡ true → o ≡ None
    by None n = refl
    by (Some var) n = cc

  open_last : (round : Round) → last_round s.rounds ≡ Some round → IsTrue (is_open round.end) → EndsCapped s.rounds
  open_last round last e = subst (λ (o : Option Round). IsSomeAnd o (λ (round : Round). IsTrue (is_open round.end))) (sym last) e

  module _ (round : Round) (last : last_round s.rounds ≡ Some round) (over : is_last s.problem.aim round ≡ true) (not_capped : EndsCapped s.rounds → ⊥) where
    -- a last round that is not open, with the values of the last solved one
    settled_some : (end : End ℤ) (values : List ℤ) → round.end ≡ end → s.values ≡ Some values → IsOptimal s values
    settled_some (Solved value) values e is = optimal_solved values (no_variable (ap (ends_search s.problem.aim round.known.best round.better) (sym e) ∙ over)) is
    settled_some Refuted values e is = optimal_refuted round last e values over is
    settled_some Spent values e is = absurd (not_capped (open_last round last (ap is_open e)))
    settled_some Capped values e is = absurd (not_capped (open_last round last (ap is_open e)))

    -- and without such values
    settled_none : (end : End ℤ) → round.end ≡ end → s.values ≡ None → IsUnsolvable s
    settled_none (Solved value) e is =
        let some : best_value s.rounds ≡ Some value = ap (λ (z : Known). z.best) (known_is s.rounds round last ∙ ap (known_after round.known round.better) e) in
        let clash : Some value ≡ None = sym some ∙ no_best is in
        cc
    settled_none Refuted e is = unsolvable round last e is
    settled_none Spent e is = absurd (not_capped (open_last round last (ap is_open e)))
    settled_none Capped e is = absurd (not_capped (open_last round last (ap is_open e)))

    settled : IsBestEnd s (end_of false s.values)
    settled = by s.values refl where
      by : (o : Option (List ℤ)) → s.values ≡ o → IsBestEnd s (end_of false o)
      by None is = settled_none round.end refl is
      by (Some values) is = settled_some round.end values refl is

  -- what is told of a whole search is so
  pub end_is : (capped : Bool) → is_done s.problem.aim s.rounds ≡ true → (capped ≡ true) ↔ EndsCapped s.rounds → IsBestEnd s (end_of capped s.values)
  end_is true over cap = record { capped = cap.0 refl; kept = refl; solves = h.solves }
  end_is false over cap = by (last_round s.rounds) refl where
    by : (o : Option Round) → last_round s.rounds ≡ o → IsBestEnd s (end_of false s.values)
    by None last = let clash : false ≡ true = ap (λ (o : Option Round). option_map_or (is_last s.problem.aim) o false) (sym last) ∙ over in cc
    by (Some round) last = settled round last (ap (λ (o : Option Round). option_map_or (is_last s.problem.aim) o false) (sym last) ∙ over) (λ e. let clash : false ≡ true = cap.1 e in cc)

  -- no solution is told exactly where the first round was refuted
  pub no_solution_is : (end : BestEnd) (capped : Bool) → end ≡ end_of capped s.values → (capped ≡ true) ↔ EndsCapped s.rounds → IsBestEnd s end → BeginsRefuted s.rounds ↔ (end ≡ NoSolution)
  no_solution_is end capped is cap so = (λ first. is ∙ told_none first, λ none. begins (subst (IsBestEnd s) none so)) where
    begins : IsUnsolvable s → BeginsRefuted s.rounds
    begins u = subst BeginsRefuted (sym u.rounds) refl

    told_none : BeginsRefuted s.rounds → end_of capped s.values ≡ NoSolution
    told_none first =
        let one = only_refuted s.halves s.problem s.rounds h.rounds first in
        by capped s.values cap.0 (h.value ∙ ap best_value one) (λ e. let clash : false ≡ true = subst EndsCapped one e in cc) where
          by : (b : Bool) (o : Option (List ℤ)) → (b ≡ true → EndsCapped s.rounds) → option_map told o ≡ None → (EndsCapped s.rounds → ⊥) → end_of b o ≡ NoSolution
          by true o ends none not_capped = absurd (not_capped (ends refl))
          by false None ends none not_capped = refl
          by false (Some values) ends none not_capped = cc
