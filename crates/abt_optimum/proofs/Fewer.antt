-- There are fewer candidates at each round than at the one before it, and by halves half as many at most; so there are few rounds.
use Rattle.std.proofs.Common.{◌≡◌, ◌∙◌, ℕ, zero, suc, ◌+◌, ◌*◌, ◌^◌, ◌<◌, ◌≤◌, Bool, true, false, List, [], ◌∷◌, length, filter, take, slice_get, refl, sym, ap, subst, arith}
use Rattle.std.specs.Prelude.{ℤ, is_none, IsSome, Option, Some, None, slice_set, slice_index_or}
use Rattle.std.proofs.lemmas.List.{take_all}
use Rattle.std.proofs.Math.Nat.{mul-le-mul_right, two-pow-succ}
use Rattle.dcsp_domain.specs.Sets.{IsRising}
use Rattle.dcsp_defs.specs.Words.{In}
use Rattle.dcsp_defs.specs.Csp.{domain}
use Rattle.dcsp_defs.proofs.Lists.{filter-from}
use Rattle.dcsp_rule.specs.declared.rule.Term.TheVariants.{Const, Var}
use Rattle.dcsp_rule.specs.declared.aim.Aim.{Aim}
use Rattle.dcsp_rule.specs.declared.aim.Aim.TheVariants.{Satisfy, Least, Greatest}
use Rattle.dcsp_rule.specs.Problems.{Contents, csp_of}
use Rattle.dcsp_rule.specs.Aims.{aimed_at, is_better, narrowed_at, narrowed}
use Rattle.dcsp_problem.proofs.Narrowed.{narrowed_is}
use Rattle.abt_defs.specs.declared.end.End.{End}
use Rattle.abt_defs.specs.declared.end.End.TheVariants.{Solved, Refuted, Spent, Capped}
use Rattle.abt_optimum.specs.declared.round.Known.{Known}
use Rattle.abt_optimum.specs.declared.round.Round.{Round}
use Rattle.abt_optimum.specs.Halves.{candidates, next_value}
use Rattle.abt_optimum.specs.Rounds.{known_after, known_of, aim_values_at, aim_values, better_than, is_beyond, ends_search, is_done, round_problem, IsAimValue, IsAllowed, MayEnd, AreRounds, most_rounds_at, most_rounds, AreFewByHalves}
use Rattle.abt_optimum.proofs.Ranks.{filter_shorter, better_itself, rank_less, left_few, left_half, next_rank, left_some, allowed_rank}
use Rattle.abt_optimum.proofs.RoundLists.{last_first, get_some, some_aim, not_or, known_is, goes_on_after}

-- a filtered list at a place, whether or not the place is within
set_here : (test : ℤ → Bool) (lists : List (List ℤ)) (place : ℕ) → slice_index_or (slice_set lists place (filter test (slice_index_or lists place []))) place [] ≡ filter test (slice_index_or lists place [])
set_here test [] place = refl
set_here test (x ∷ xs) zero = refl
set_here test (x ∷ xs) (suc place) = set_here test xs place

narrowed_domain : (p : Contents) (bound : ℤ) (var : ℕ) → aimed_at p.aim ≡ Some var → domain (csp_of (narrowed p bound)) var ≡ filter (is_better p.aim bound) (domain (csp_of p) var)
narrowed_domain p bound var at = ap (λ (q : Contents). domain (csp_of q) var) (narrowed_is p bound var at) ∙ set_here (is_better p.aim bound) p.domains var

pub narrowed_aim : (p : Contents) (bound : ℤ) (o : Option ℕ) → (narrowed_at o p bound).aim ≡ p.aim
narrowed_aim p bound None = refl
narrowed_aim p bound (Some var) = refl

-- a round's problem has the aim of the whole one
pub round_aim : (p : Contents) (better : Option ℤ) → (round_problem p better).aim ≡ p.aim
round_aim p None = refl
round_aim p (Some bound) = narrowed_aim p bound (aimed_at p.aim)

in_domain : (q : Contents) (aim : Aim) (var : ℕ) (value : ℤ) → aimed_at aim ≡ Some var → IsAimValue q aim value → In value (domain (csp_of q) var)
in_domain q Satisfy var value at h = cc
in_domain q (Least (Const x)) var value at h = cc
in_domain q (Least (Var x)) var value at h = let same : x ≡ var = cc in subst (λ (k : ℕ). In value (domain (csp_of q) k)) same h
in_domain q (Greatest (Const x)) var value at h = cc
in_domain q (Greatest (Var x)) var value at h = let same : x ≡ var = cc in subst (λ (k : ℕ). In value (domain (csp_of q) k)) same h

-- a value of a round's problem is one of the whole problem's, and better than the bound
pub round_value : (p : Contents) (var : ℕ) (bound value : ℤ) → aimed_at p.aim ≡ Some var → IsAimValue (narrowed p bound) (narrowed p bound).aim value
    → In value (domain (csp_of p) var) × (is_better p.aim bound value ≡ true)
round_value p var bound value at h =
    let there = in_domain (narrowed p bound) (narrowed p bound).aim var value (ap aimed_at (round_aim p (Some bound)) ∙ at) h in
    let here = subst (In value) (narrowed_domain p bound var at) there in
    filter-from (is_better p.aim bound) value (domain (csp_of p) var) here

-- ---- the candidates that are left

half_less : (x y m n : ℕ) → x + x ≤ y → y * m < n → x * (m + m) < n
half_less x y m n h less =
    let twice : x * (m + m) ≡ (x + x) * m = grind arith in
    let more : (x + x) * m ≤ y * m = mul-le-mul_right m h in
    omega (arith, twice, more)

some_more : (x m n : ℕ) → 1 ≤ x → x * m < n → m < n
some_more x m n h less =
    let more : 1 * m ≤ x * m = mul-le-mul_right m h in
    omega (arith, more)

module _ (halves : Bool) (p : Contents) (rising : halves ≡ true → IsRising (aim_values p)) where
  -- how many values may still be found: all before the first round, and then the candidates
  abbrev pub open_at : Option ℤ → Option ℤ → ℕ
  open_at None limit = length (aim_values p)
  open_at (Some best) limit = candidates p.aim (aim_values p) best limit

  abbrev pub open_values : Known → ℕ
  open_values known = open_at known.best known.limit

  -- what a round leaves after which another follows
  pub record Leaves (known : Known) (next : Known) : Type 0 where
    pub found : IsSome next.best
    pub less : open_values next < open_values known
    pub half : IsSome known.best → halves ≡ true → open_values next + open_values next ≤ open_values known

  module _ (var : ℕ) (at : aimed_at p.aim ≡ Some var) where
    values_are : domain (csp_of p) var ≡ aim_values p
    values_are = sym (ap (λ (o : Option ℕ). aim_values_at o p) at)

    solved_first : (limit : Option ℤ) (value : ℤ) → MayEnd p limit (Solved value) → Leaves (record { best = None; limit = limit }) (record { best = Some value; limit = limit })
    solved_first limit value may =
        let there = subst (In value) values_are (in_domain p p.aim var value at may.0) in
        let less = filter_shorter (is_better p.aim value) value (aim_values p) there (better_itself p.aim value) in
        record { found = refl; less = omega (arith, less); half = λ some. absurd (cc) }

    solved_more : (best : ℤ) (limit : Option ℤ) (value : ℤ) → MayEnd (narrowed p (next_value halves p.aim (aim_values p) best limit)) limit (Solved value)
        → Leaves (record { best = Some best; limit = limit }) (record { best = Some value; limit = limit })
    solved_more best limit value may =
        let bound = next_value halves p.aim (aim_values p) best limit in
        let h = round_value p var bound value at may.0 in
        let less = rank_less p.aim (aim_values p) bound value h.1 (subst (In value) values_are h.0) in
        let is = next_rank halves p.aim var at (aim_values p) rising best limit in
        let few = left_few halves p.aim var at (aim_values p) rising best limit in
        let half = left_half halves p.aim var at (aim_values p) rising best limit in
        let allowed = allowed_rank p.aim (aim_values p) limit value (subst (λ (aim : Aim). IsAllowed aim limit value) (round_aim p (Some bound)) may.1) in
        record { found = refl; less = omega (arith, less, is, few, allowed); half = λ some is_so. let most = half is_so in omega (arith, less, is, few, allowed, most) }

    refuted_more : (best : ℤ) (limit : Option ℤ) → is_better p.aim best (next_value halves p.aim (aim_values p) best limit) ≡ true
        → Leaves (record { best = Some best; limit = limit }) (record { best = Some best; limit = Some (next_value halves p.aim (aim_values p) best limit) })
    refuted_more best limit beyond =
        let is = next_rank halves p.aim var at (aim_values p) rising best limit in
        let few = left_few halves p.aim var at (aim_values p) rising best limit in
        let some = left_some halves p.aim var at (aim_values p) rising best limit beyond in
        record { found = refl; less = omega (arith, is, few, some); half = λ known is_so. omega (arith, is, few, some) }

    step : (best limit better : Option ℤ) (end : End ℤ) → better ≡ better_than p halves (record { best = best; limit = limit }) → MayEnd (round_problem p better) limit end → ends_search p.aim best better end ≡ false
        → Leaves (record { best = best; limit = limit }) (known_after (record { best = best; limit = limit }) better end)
    step None limit better (Solved value) e may still = solved_first limit value (subst (λ (o : Option ℤ). MayEnd (round_problem p o) limit (Solved value)) e may)
    step None limit better Refuted e may still = absurd (cc)
    step (Some best) limit better (Solved value) e may still = solved_more best limit value (subst (λ (o : Option ℤ). MayEnd (round_problem p o) limit (Solved value)) e may)
    step (Some best) limit better Refuted e may still =
        let beyond : is_beyond p.aim (Some best) (Some (next_value halves p.aim (aim_values p) best limit)) ≡ true = subst (λ (o : Option ℤ). is_beyond p.aim (Some best) o ≡ true) e (not_or _ _ still) in
        subst (λ (o : Option ℤ). Leaves (record { best = Some best; limit = limit }) (record { best = Some best; limit = o })) (sym e) (refuted_more best limit beyond)
    step best limit better Spent e may still = cc
    step best limit better Capped e may still = cc

    -- the first k rounds, and those that may still come, are at most as many as all
    module _ (rounds : List Round) (h : AreRounds halves p rounds) where
      step_at : (k : ℕ) (round : Round) → k < length rounds → slice_get rounds k ≡ Some round → is_done p.aim (take (suc k) rounds) ≡ false → Leaves (known_of (take k rounds)) (known_of (take (suc k) rounds))
      step_at k round within there still =
          let f = h k round there in
          let last = last_first rounds k within ∙ there in
          let goes_on = goes_on_after p.aim (take (suc k) rounds) round last still in
          let is = known_is (take (suc k) rounds) round last ∙ ap (λ (z : Known). known_after z round.better round.end) f.known in
          let same : ends_search p.aim (known_of (take k rounds)).best round.better round.end ≡ false = subst (λ (z : Known). ends_search p.aim z.best round.better round.end ≡ false) f.known goes_on in
          subst (Leaves (known_of (take k rounds))) (sym is) (step (known_of (take k rounds)).best (known_of (take k rounds)).limit round.better round.end f.better f.end same)

      turn_at : (k : ℕ) → suc k ≤ length rounds → is_done p.aim (take (suc k) rounds) ≡ false → (is_done p.aim (take k rounds) ≡ false) × Leaves (known_of (take k rounds)) (known_of (take (suc k) rounds))
      turn_at k within still = by (slice_get rounds k) refl where
        by : (o : Option Round) → slice_get rounds k ≡ o → (is_done p.aim (take k rounds) ≡ false) × Leaves (known_of (take k rounds)) (known_of (take (suc k) rounds))
        by None there = absurd (get_some rounds k (omega arith) there)
        by (Some round) there = ((h k round there).goes_on, step_at k round (omega arith) there still)

      first_room : (k : ℕ) → k ≤ length rounds → is_done p.aim (take k rounds) ≡ false → k + open_values (known_of (take k rounds)) ≤ length (aim_values p)
      first_room zero within still = omega arith
      first_room (suc k) within still =
          let turn = turn_at k within still in
          let before = first_room k (omega arith) turn.0 in
          let less = turn.1.less in
          omega (arith, before, less)

      half_room : halves ≡ true → (k : ℕ) → suc k ≤ length rounds → is_done p.aim (take (suc k) rounds) ≡ false → (open_values (known_of (take (suc k) rounds)) * 2 ^ k < length (aim_values p)) × IsSome (known_of (take (suc k) rounds)).best
      half_room is_so zero within still =
          let turn = turn_at 0 within still in
          let less : open_values (known_of (take 1 rounds)) < length (aim_values p) = turn.1.less in
          let one : open_values (known_of (take 1 rounds)) * 2 ^ 0 ≡ open_values (known_of (take 1 rounds)) = grind arith in
          (omega (arith, less, one), turn.1.found)
      half_room is_so (suc k) within still =
          let turn = turn_at (suc k) within still in
          let before = half_room is_so k (omega arith) turn.0 in
          let half = turn.1.half before.1 is_so in
          let less = half_less (open_values (known_of (take (suc (suc k)) rounds))) (open_values (known_of (take (suc k) rounds))) (2 ^ k) (length (aim_values p)) half before.0 in
          let power : 2 ^ suc k ≡ 2 ^ k + 2 ^ k = two-pow-succ k in
          (subst (λ (m : ℕ). open_values (known_of (take (suc (suc k)) rounds)) * m < length (aim_values p)) (sym power) less, turn.1.found)

  -- ---- all rounds

  module _ (rounds : List Round) (h : AreRounds halves p rounds) where
    -- where the aim is at no variable the first round is the last one
    only_first : aimed_at p.aim ≡ None → (k : ℕ) → suc k ≤ length rounds → is_done p.aim (take (suc k) rounds) ≡ false → ⊥
    only_first at k within still = by (slice_get rounds k) refl where
      by : (o : Option Round) → slice_get rounds k ≡ o → ⊥
      by None there = get_some rounds k (omega arith) there
      by (Some round) there =
          let last = last_first rounds k (omega arith) ∙ there in
          let some = some_aim p.aim round (goes_on_after p.aim (take (suc k) rounds) round last still) in
          let clash : true ≡ false = sym (ap is_none at) ∙ some in
          cc

    before_is_open : (k : ℕ) → suc k ≤ length rounds → is_done p.aim (take k rounds) ≡ false
    before_is_open k within = by (slice_get rounds k) refl where
      by : (o : Option Round) → slice_get rounds k ≡ o → is_done p.aim (take k rounds) ≡ false
      by None there = absurd (get_some rounds k (omega arith) there)
      by (Some round) there = (h k round there).goes_on

    whole_open : is_done p.aim rounds ≡ false → is_done p.aim (take (length rounds) rounds) ≡ false
    whole_open still = subst (λ (l : List Round). is_done p.aim l ≡ false) (sym (take_all (length rounds) rounds (omega arith))) still

    -- where another round follows there is room for one
    pub room : is_done p.aim rounds ≡ false → length rounds < most_rounds p
    room still = by (aimed_at p.aim) refl where
      by : (o : Option ℕ) → aimed_at p.aim ≡ o → length rounds < most_rounds_at o p
      by None at = none (length rounds) refl where
        none : (n : ℕ) → length rounds ≡ n → n < 1
        none zero size = omega arith
        none (suc n) size = absurd (only_first at n (omega arith) (subst (λ (m : ℕ). is_done p.aim (take m rounds) ≡ false) size (whole_open still)))
      by (Some var) at =
          let all = first_room var at rounds h (length rounds) (omega arith) (whole_open still) in
          let same = ap length (values_are var at) in
          omega (arith, all, same)

    pub few : length rounds ≤ most_rounds p
    few = by (aimed_at p.aim) refl (length rounds) refl where
      by : (o : Option ℕ) → aimed_at p.aim ≡ o → (n : ℕ) → length rounds ≡ n → n ≤ most_rounds_at o p
      by None at zero size = omega arith
      by None at (suc zero) size = omega arith
      by None at (suc (suc n)) size = absurd (only_first at n (omega arith) (before_is_open (suc n) (omega arith)))
      by (Some var) at zero size = omega arith
      by (Some var) at (suc n) size =
          let all = first_room var at rounds h n (omega arith) (before_is_open n (omega arith)) in
          let same = ap length (values_are var at) in
          omega (arith, all, same)

    -- by halves there are few
    pub halved : halves ≡ true → AreFewByHalves p (length rounds)
    halved is_so r within = by (aimed_at p.aim) refl where
      by : (o : Option ℕ) → aimed_at p.aim ≡ o → 2 ^ r < length (aim_values p)
      by None at = absurd (only_first at r (omega arith) (before_is_open (suc r) (omega arith)))
      by (Some var) at =
          let before = half_room var at rounds h is_so r (omega arith) (before_is_open (suc r) (omega arith)) in
          let less = (turn_at var at rounds h (suc r) (omega arith) (before_is_open (suc (suc r)) (omega arith))).1.less in
          some_more (open_values (known_of (take (suc r) rounds))) (2 ^ r) (length (aim_values p)) (omega (arith, less)) before.0
