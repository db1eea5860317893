-- The loop of a search: a turn for each round.
use Rattle.std.proofs.Common.{◌≡◌, ◌∙◌, ℕ, zero, suc, ◌+◌, ◌-◌, ◌^◌, ◌<◌, ◌≤◌, Bool, true, false, List, [], ◌∷◌, ◌++◌, length, Option, Some, None, Result, Ok, Err, refl, sym, ap, subst, arith, length-append}
use Rattle.std.specs.Prelude.{ℤ, All, slice_index_or, IsErr, IsErrAnd}
use Rattle.dcsp_domain.specs.Sets.{IsDomain}
use Rattle.dcsp_script.specs.declared.stop.Stop.{Stop}
use Rattle.dcsp_script.specs.Scripts.{World}
use Rattle.dcsp_script.specs.Ways.{Did, Wrote}
use Rattle.dcsp_script.proofs.Ways.{did_nothing, did_both, then_wrote}
use Rattle.dcsp_script.proofs.Lines.{then_stopped}
use Rattle.dcsp_rule.specs.Problems.{Contents}
use Rattle.dcsp_problem.specs.WellFormed.{IsProblem}
use Rattle.dcsp_rule.specs.Aims.{aimed_at}
use Rattle.abt_session.proofs.Pieces.{wrote_as}
use Rattle.abt_optimum.specs.Rounds.{most_rounds, most_rounds_at}
use Rattle.abt_optimum.specs.Searches.{SearchState}
use Rattle.line_solve.specs.Searching.{AskedSearch, IsAskable, search_after, whole_search, round_count}
use Rattle.line_solve.specs.SearchScripts.{round_script, rounds_script}
use Rattle.line_solve.specs.declared.runner.SearchRunner.{SearchRunner}
use Rattle.line_solve.specs.Runners.{IsFresh, HasMade}
use Rattle.line_solve.proofs.Rounds.{is_over, goes_on, stops, stays, counted}
use Rattle.line_solve.proofs.Writing.{none_is, more_is, rounds_begin}
use Rattle.line_solve.proofs.Making.{problem_is, made_none}

-- ---- how many rounds there may be

few_at : (o : Option ℕ) (p : Contents) → IsProblem p → most_rounds_at o p < 2 ^ 20
few_at None p h = omega arith
few_at (Some var) p h = small p.domains var h.domains
  where
    small : (domains : List (List ℤ)) (var : ℕ) → All IsDomain domains → length (slice_index_or domains var []) + 1 < 2 ^ 20
    small [] var all = omega arith
    small (d ∷ ds) zero all = let l = (all 0 d (omega arith)).small in omega (arith, l)
    small (d ∷ ds) (suc var) all = small ds var (λ i e m. all (suc i) e (omega arith))

pub few_rounds : (p : Contents) → IsProblem p → most_rounds p < 2 ^ 20
few_rounds p h = few_at (aimed_at p.aim) p h

module _ (asked : AskedSearch) where
  -- a search of more turns has no fewer rounds
  longer : (n : ℕ) (over : Bool) → is_over (search_after asked n) ≡ over → length (search_after asked n).rounds ≤ length (search_after asked (suc n)).rounds
  longer n true e = let l = ap (λ (s : SearchState). length s.rounds) (stops asked n e) in omega (arith, l)
  longer n false e = let l = ap (λ (s : SearchState). length s.rounds) (goes_on asked n e) ∙ length-append (search_after asked n).rounds (_ ∷ []) in omega (arith, l)

  grows : (n k : ℕ) → length (search_after asked n).rounds ≤ length (search_after asked (k + n)).rounds
  grows n zero = let z : 0 + n ≡ n = omega arith in let l = ap (λ (i : ℕ). length (search_after asked i).rounds) z in omega (arith, l)
  grows n (suc k) =
      let z : suc k + n ≡ suc (k + n) = omega arith in
      let l = ap (λ (i : ℕ). length (search_after asked i).rounds) z in
      let more = longer (k + n) (is_over (search_after asked (k + n))) refl in
      let rest = grows n k in
      omega (arith, l, more, rest)

  -- a round that follows is one of the search
  pub round_within : (n : ℕ) → n < most_rounds asked.problem → is_over (search_after asked n) ≡ false → n < round_count asked
  round_within n l e =
      let full : length (search_after asked (suc n)).rounds ≡ suc n = ap (λ (s : SearchState). length s.rounds) (goes_on asked n e) ∙ length-append (search_after asked n).rounds (_ ∷ []) ∙ ap (λ (i : ℕ). i + 1) ((counted asked n).full e) ∙ omega arith in
      let far : (most_rounds asked.problem - suc n) + suc n ≡ most_rounds asked.problem = omega arith in
      let all = grows (suc n) (most_rounds asked.problem - suc n) in
      let same = ap (λ (i : ℕ). length (search_after asked i).rounds) far in
      omega (arith, full, all, same)

  -- after the last round the search is whole
  pub whole_after : (n : ℕ) → n ≤ most_rounds asked.problem → is_over (search_after asked n) ≡ true → whole_search asked ≡ search_after asked n
  whole_after n l e = let far : most_rounds asked.problem ≡ (most_rounds asked.problem - n) + n = omega arith in ap (search_after asked) far ∙ stays asked n (most_rounds asked.problem - n) e

  -- ---- what is written

  -- the rounds so far were made, and this is how many there are
  pub record Turn (n : ℕ) (r : SearchRunner) (a b : World) : Type 0 where
    pub made : HasMade asked n r
    pub did : Did (rounds_script asked n) a b
    pub handed : b.folder.handed ≡ a.folder.handed

  pub first_turn : (r : SearchRunner) (a : World) → IsFresh asked.problem asked.set.halves r → Turn r.rounds r a a
  first_turn r a h =
      let none : r.rounds ≡ 0 = h.rounds in
      subst (λ (n : ℕ). Turn n r a a) (sym none) (record { made = made_none asked r h; did = subst (λ s. Did s a a) (sym (none_is asked)) (did_nothing a); handed = refl })

  -- there is room for one more round
  pub record HasRoom (n : ℕ) : Type 0 where
    pub few : n < 2 ^ 20
    pub room : n < most_rounds asked.problem

  pub room_is : IsAskable asked → (n : ℕ) (r : SearchRunner) (a b : World) → Turn n r a b → length r.search.rounds < most_rounds r.search.problem → HasRoom n
  room_is ok n r a b h less =
      let many = h.made.many in
      let same = ap most_rounds (problem_is asked n r h.made) in
      let few = few_rounds asked.problem ok.problem in
      record { few = omega (arith, many, same, few, less); room = omega (arith, many, same, less) }

  pub within_is : (n : ℕ) (r : SearchRunner) (a b : World) → Turn n r a b → HasRoom n → is_over r.search ≡ false → n < round_count asked
  within_is n r a b h room still = round_within n room.room (subst (λ (s : SearchState). is_over s ≡ false) h.made.search still)

  -- one round more
  pub next_turn : {T : Type 0} {x : T} (n : ℕ) (r t : SearchRunner) (a b c : World) → Turn n r a b → HasMade asked (n + 1) t → Wrote {T = T} (round_script asked n) b c (Ok x) → Turn t.rounds t a c
  next_turn n r t a b c h made w =
      let next : suc n ≡ t.rounds = (let e = made.rounds in omega (arith, e)) in
      let more : n + 1 ≡ t.rounds = (let e = made.rounds in omega (arith, e)) in
      record {
        made = subst (λ (i : ℕ). HasMade asked i t) more made;
        did = subst (λ (i : ℕ). Did (rounds_script asked i) a c) next (subst (λ s. Did s a c) (sym (more_is asked n)) (did_both (rounds_script asked n) (round_script asked n) a b c h.did w.ended));
        handed = w.handed ∙ h.handed;
      }

  -- a round was stopped
  pub turn_stopped : {T U : Type 0} {e : Stop} (n : ℕ) (r : SearchRunner) (a b c : World) → Turn n r a b → n < round_count asked → (result : Result U Stop) → IsErr result × IsErrAnd result (λ y. y ≡ e) → Wrote {T = T} (round_script asked n) b c (Err e) → Wrote (rounds_script asked (round_count asked)) a c result
  turn_stopped {T = T} {U = U} {e = e} n r a b c h l result is w =
      let far : (round_count asked - suc n) + suc n ≡ round_count asked = omega arith in
      let begins = rounds_begin asked (suc n) (round_count asked - suc n) in
      let stopped : Wrote {T = T} (rounds_script asked n ++ round_script asked n) a c (Err e) = then_wrote h.did h.handed w in
      wrote_as (ap (λ s. s ++ begins.0) (sym (more_is asked n)) ∙ sym begins.1 ∙ ap (rounds_script asked) far) (then_stopped {T = T} begins.0 is stopped)

  -- all rounds were made
  pub last_turn : (n : ℕ) (r : SearchRunner) (a b : World) → Turn n r a b → length r.search.rounds ≤ most_rounds r.search.problem → is_over r.search ≡ true → Wrote {T = Unit {0}} (rounds_script asked (round_count asked)) a b (Ok tt) × HasMade asked (round_count asked) r
  last_turn n r a b h few e =
      let l : n ≤ most_rounds asked.problem = (let many = h.made.many in let same = ap most_rounds (problem_is asked n r h.made) in omega (arith, many, same, few)) in
      let over : is_over (search_after asked n) ≡ true = subst (λ (s : SearchState). is_over s ≡ true) h.made.search e in
      let whole = whole_after n l over in
      let count : n ≡ round_count asked = sym (h.made.many) ∙ ap (λ (s : SearchState). length s.rounds) (h.made.search ∙ sym whole) in
      (record { ended = subst (λ (i : ℕ). Did (rounds_script asked i) a b) count h.did; handed = h.handed }, subst (λ (i : ℕ). HasMade asked i r) count h.made)
