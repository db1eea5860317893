-- Each solved round is better than those solved before it, and best values are of one value at the aim.
use Rattle.std.proofs.Common.{◌≡◌, ◌⊎◌, ◌∙◌, ℕ, zero, suc, ◌+◌, ◌-◌, ◌<◌, ◌≤◌, Bool, true, false, List, [], ◌∷◌, length, take, slice_get, Option, Some, None, refl, sym, ap, subst, inl, inr, arith}
use Rattle.std.specs.Prelude.{ℤ, is_none}
use Rattle.dcsp_domain.specs.Sets.{IsRising}
use Rattle.dcsp_rule.specs.declared.rule.Term.TheVariants.{Const, Var}
use Rattle.dcsp_rule.specs.declared.aim.Aim.{Aim}
use Rattle.dcsp_rule.specs.declared.aim.Aim.TheVariants.{Satisfy, Least, Greatest}
use Rattle.dcsp_rule.specs.Problems.{Contents}
use Rattle.dcsp_rule.specs.Aims.{aimed_at, is_better}
use Rattle.abt_defs.specs.declared.end.End.{End}
use Rattle.abt_defs.specs.declared.end.End.TheVariants.{Solved, Refuted, Spent, Capped}
use Rattle.abt_optimum.specs.declared.round.Known.{Known}
use Rattle.abt_optimum.specs.declared.round.Round.{Round}
use Rattle.abt_optimum.specs.Best.{assigned, aim_value, IsBest}
use Rattle.abt_optimum.specs.Halves.{next_value}
use Rattle.abt_optimum.specs.Rounds.{known_after, known_of, best_value, aim_values, better_than, is_done, round_problem, MayEnd, AreRounds, AreImproving}
use Rattle.abt_optimum.proofs.Ranks.{better_through, next_or, neither_better}
use Rattle.abt_optimum.proofs.RoundLists.{last_first, get_some, some_aim, known_is, goes_on_after}
use Rattle.abt_optimum.proofs.Fewer.{round_value}

some_variable : (o : Option ℕ) → is_none o ≡ false → (var : ℕ) × (o ≡ Some var)
some_variable None e = absurd (cc)
some_variable (Some var) e = (var, refl)

module _ (halves : Bool) (p : Contents) (rising : halves ≡ true → IsRising (aim_values p)) (rounds : List Round) (h : AreRounds halves p rounds) (var : ℕ) (at : aimed_at p.aim ≡ Some var) (old : ℤ) where
  -- the value is at least as good as this one
  abbrev IsAsGood : Option ℤ → Type 0
  IsAsGood None = ⊥
  IsAsGood (Some best) = (best ≡ old) ⊎ (is_better p.aim old best ≡ true)

  -- what a solved round found is better than what was found before
  solved_better : (best limit better : Option ℤ) (value : ℤ) → IsAsGood best → better ≡ better_than p halves (record { best = best; limit = limit }) → MayEnd (round_problem p better) limit (Solved value) → is_better p.aim old value ≡ true
  solved_better None limit better value good e may = absurd good
  solved_better (Some best) limit better value good e may =
      let bound = next_value halves p.aim (aim_values p) best limit in
      let narrow = subst (λ (o : Option ℤ). MayEnd (round_problem p o) limit (Solved value)) e may in
      let past = (round_value p var bound value at narrow.0).1 in
      from_best good (elim (next_or halves p.aim var at (aim_values p) rising best limit) [
        | inl same ↦ subst (λ (x : ℤ). is_better p.aim x value ≡ true) same past
        | inr beyond ↦ better_through p.aim best bound value beyond past
      ])
    where
      from_best : (best ≡ old) ⊎ (is_better p.aim old best ≡ true) → is_better p.aim best value ≡ true → is_better p.aim old value ≡ true
      from_best (inl same) past = subst (λ (x : ℤ). is_better p.aim x value ≡ true) same past
      from_best (inr better) past = better_through p.aim old best value better past

  good_after : (known : Known) (better : Option ℤ) (end : End ℤ) → IsAsGood known.best → better ≡ better_than p halves known → MayEnd (round_problem p better) known.limit end → IsAsGood (known_after known better end).best
  good_after known better (Solved value) good e may = inr (solved_better known.best known.limit better value good e may)
  good_after known better Refuted good e may = good
  good_after known better Spent good e may = good
  good_after known better Capped good e may = good

  -- after the round that found it the best value is at least as good
  stays_good : (j n : ℕ) (one : Round) → slice_get rounds j ≡ Some one → one.end ≡ Solved old → n + suc j ≤ length rounds → IsAsGood (best_value (take (n + suc j) rounds))
  stays_good j zero one there is within =
      let last = last_first rounds j (omega arith) ∙ there in
      let known = known_is (take (suc j) rounds) one last ∙ ap (known_after one.known one.better) is in
      let z : 0 + suc j ≡ suc j = omega arith in
      subst (λ (m : ℕ). IsAsGood (best_value (take m rounds))) (sym z) (subst (λ (k : Known). IsAsGood k.best) (sym known) (inl refl))
  stays_good j (suc n) one there is within = by (slice_get rounds (n + suc j)) refl (stays_good j n one there is (omega arith)) where
    by : (o : Option Round) → slice_get rounds (n + suc j) ≡ o → IsAsGood (best_value (take (n + suc j) rounds)) → IsAsGood (best_value (take (suc n + suc j) rounds))
    by None none before = absurd (get_some rounds (n + suc j) (omega arith) none)
    by (Some round) some before =
        let f = h (n + suc j) round some in
        let last = last_first rounds (n + suc j) (omega arith) ∙ some in
        let known = known_is (take (suc (n + suc j)) rounds) round last ∙ ap (λ (k : Known). known_after k round.better round.end) f.known in
        let z : suc n + suc j ≡ suc (n + suc j) = omega arith in
        subst (λ (m : ℕ). IsAsGood (best_value (take m rounds))) (sym z) (subst (λ (k : Known). IsAsGood k.best) (sym known) (good_after (known_of (take (n + suc j) rounds)) round.better round.end before f.better f.end))

pub improving : (halves : Bool) (p : Contents) (rounds : List Round) → (halves ≡ true → IsRising (aim_values p)) → AreRounds halves p rounds → AreImproving p.aim rounds
improving halves p rounds rising h j k one other old new less there that is ends =
    let l : k < length rounds = within rounds k that in
    let last = last_first rounds j (omega (arith, l)) ∙ there in
    let open_ = before_open (suc j) (omega (arith, l)) in
    let some = some_variable (aimed_at p.aim) (some_aim p.aim one (goes_on_after p.aim (take (suc j) rounds) one last open_)) in
    let f = h k other that in
    let z : (k - suc j) + suc j ≡ k = omega arith in
    let good = subst (λ (m : ℕ). IsAsGood halves p rising rounds h some.0 some.1 old (best_value (take m rounds))) z (stays_good halves p rising rounds h some.0 some.1 old j (k - suc j) one there is (omega (arith, l))) in
    let known = known_of (take k rounds) in
    let may = subst (MayEnd (round_problem p other.better) known.limit) ends f.end in
    solved_better halves p rising rounds h some.0 some.1 old known.best known.limit other.better new good f.better may
  where
    within : (xs : List Round) (i : ℕ) {x : Round} → slice_get xs i ≡ Some x → i < length xs
    within [] i e = absurd (cc)
    within (x ∷ xs) zero e = omega arith
    within (x ∷ xs) (suc i) e = let l = within xs i e in omega (arith, l)

    before_open : (i : ℕ) → suc i ≤ length rounds → is_done p.aim (take i rounds) ≡ false
    before_open i l = by (slice_get rounds i) refl where
      by : (o : Option Round) → slice_get rounds i ≡ o → is_done p.aim (take i rounds) ≡ false
      by None none = absurd (get_some rounds i (omega arith) none)
      by (Some round) some = (h i round some).goes_on

-- ---- best values

constant_aim : (aim : Aim) (f g : ℕ → ℤ) → aimed_at aim ≡ None → aim_value aim f ≡ aim_value aim g
constant_aim Satisfy f g at = refl
constant_aim (Least (Const x)) f g at = refl
constant_aim (Least (Var x)) f g at = cc
constant_aim (Greatest (Const x)) f g at = refl
constant_aim (Greatest (Var x)) f g at = cc

pub one_value : (p : Contents) (xs ys : List ℤ) → IsBest p xs → IsBest p ys → aim_value p.aim (assigned xs) ≡ aim_value p.aim (assigned ys)
one_value p xs ys x y = by (aimed_at p.aim) refl where
  none_worse : is_better p.aim (aim_value p.aim (assigned ys)) (aim_value p.aim (assigned xs)) ≡ false
  none_worse = y.none_better (assigned xs) x.solves.solution

  by : (o : Option ℕ) → aimed_at p.aim ≡ o → aim_value p.aim (assigned xs) ≡ aim_value p.aim (assigned ys)
  by None at = constant_aim p.aim (assigned xs) (assigned ys) at
  by (Some var) at = neither_better p.aim var (aim_value p.aim (assigned xs)) (aim_value p.aim (assigned ys)) at (x.none_better (assigned ys) y.solves.solution) none_worse
