-- The last round of a search, and the one before it.
use Rattle.std.proofs.Common.{◌≡◌, ◌⊎◌, ◌∙◌, ℕ, zero, suc, ◌+◌, ◌-◌, ◌<◌, ◌≤◌, Bool, true, false, List, [], ◌∷◌, ◌++◌, length, slice_get, Option, Some, None, refl, sym, ap, subst, inl, inr, arith}
use Rattle.std.specs.Prelude.{◌↔◌, ℤ, nat_lt, option_map, IfSome, IsSome, IsSomeAnd, IsTrue}
use Rattle.std.proofs.lemmas.Bool.Decides.{nat_tests}
use Rattle.dcsp_defs.proofs.Lists.{get-last}
use Rattle.std.specs.Option.{option_map_or}
use Rattle.dcsp_rule.specs.declared.aim.Aim.{Aim}
use Rattle.dcsp_rule.specs.Problems.{Contents}
use Rattle.abt_defs.specs.Runs as runs
use Rattle.abt_defs.specs.Runs.{Run}
use Rattle.line_replay.specs.Endings.{final_values}
use Rattle.abt_optimum.specs.declared.round.Round.{Round}
use Rattle.abt_defs.specs.declared.end.End.{End}
use Rattle.abt_defs.specs.declared.end.End.TheVariants.{Solved, Refuted, Spent, Capped}
use Rattle.abt_optimum.specs.Rounds.{is_open, last_round, known_at_first, known_of, better_than, is_beyond, is_last, most_rounds}
use Rattle.abt_optimum.specs.Searches.{SearchState, end_at, next_better, round_after, values_after}
use Rattle.abt_optimum.specs.Outcomes.{EndsCapped}
use Rattle.abt_optimum.proofs.Ranks.{better_itself}
use Rattle.abt_optimum.proofs.RoundLists.{last_more, not_or}
use Rattle.abt_session.specs.Sessions.{run_of}
use Rattle.line_solve.specs.Searching.{AskedSearch, next_problem, next_session, end_as, next_end, with_round, search_after, whole_search, round_count, problem_after, run_after, first_run}
use Rattle.line_solve.specs.BestAnswers.{ends_capped}
use Rattle.line_solve.proofs.Rounds.{is_over, starts, goes_on, same_halves, counted, many_before}
use Rattle.line_solve.proofs.Headlines.{has_round}

-- an element before the end of a list stays where it is
get_before : (xs : List Round) (x : Round) (i : ℕ) → i < length xs → slice_get (xs ++ x ∷ []) i ≡ slice_get xs i
get_before [] x i l = absurd (omega arith)
get_before (y ∷ ys) x zero l = refl
get_before (y ∷ ys) x (suc i) l = get_before ys x i (omega arith)

pub lt-or-eq : (k n : ℕ) → k < suc n → (k < n) ⊎ (k ≡ n)
lt-or-eq k n l = by (nat_lt k n) refl
  where
    by : (b : Bool) → nat_lt k n ≡ b → (k < n) ⊎ (k ≡ n)
    by true e = inl (grind (arith, nat_tests))
    by false e = inr (grind (arith, nat_tests))

-- ---- how a run ended, by how its round did

pub end_refuted : (aim : Aim) (order : Option (List ℕ)) (p : Contents) (run : Run) (end : runs.End) → end_at aim (end_as order p run end) ≡ Refuted → end ≡ runs.Refuted
end_refuted aim order p run runs.Solved e = absurd cc
end_refuted aim order p run runs.Refuted e = refl
end_refuted aim order p run runs.Capped e = absurd cc
end_refuted aim order p run runs.Spent e = absurd cc

-- without halves a refuted round is the last one, so a round that another one follows was solved
plain_last : (s : SearchState) → s.halves ≡ false → is_beyond s.problem.aim (known_of s.rounds).best (next_better s) ≡ false
plain_last s plain = ap (λ (b : Bool). is_beyond s.problem.aim (known_of s.rounds).best (better_than s.problem b (known_of s.rounds))) plain ∙ by (known_of s.rounds).best
  where
    by : (o : Option ℤ) → is_beyond s.problem.aim o (option_map (λ best. best) o) ≡ false
    by None = refl
    by (Some best) = better_itself s.problem.aim best

pub end_solved : (s : SearchState) (order : Option (List ℕ)) (p : Contents) (run : Run) (end : runs.End) → s.halves ≡ false → is_last s.problem.aim (round_after s (end_as order p run end)) ≡ false → end_as order p run end ≡ Solved (final_values order p run)
end_solved s order p run runs.Solved plain e = refl
end_solved s order p run runs.Refuted plain e =
    let clash : is_beyond s.problem.aim (known_of s.rounds).best (next_better s) ≡ true = not_or _ _ e in
    let plainly = plain_last s plain in
    let no_way : true ≡ false = sym clash ∙ plainly in
    cc
end_solved s order p run runs.Capped plain e = absurd cc
end_solved s order p run runs.Spent plain e = absurd cc

-- ---- whether the last round is open

capped_at : (o : Option Round) → (option_map_or (λ (round : Round). is_open round.end) o false ≡ true) ↔ IsSomeAnd o (λ (round : Round). IsTrue (is_open round.end))
capped_at None = ((λ e. absurd cc), (λ h. absurd h))
capped_at (Some round) = ((λ e. e), (λ e. e))

pub capped_iff : (rounds : List Round) → (ends_capped rounds ≡ true) ↔ EndsCapped rounds
capped_iff rounds = capped_at (last_round rounds)

-- ---- the last round

module _ (asked : AskedSearch) where
  -- how many rounds come before it
  abbrev pub before_last : ℕ
  before_last = round_count asked - 1

  pub some_before : suc before_last ≡ round_count asked
  some_before = let h = has_round asked in omega arith

  pub goes_before : (n : ℕ) → n < round_count asked → is_over (search_after asked n) ≡ false
  goes_before n l = (counted asked (most_rounds asked.problem)).before n l

  -- the rounds so far, and the next one
  pub next_after : (n : ℕ) → n < round_count asked → search_after asked (suc n) ≡ with_round (search_after asked n) (next_end asked (search_after asked n))
  next_after n l = goes_on asked n (goes_before n l)

  pub whole_is : whole_search asked ≡ with_round (search_after asked before_last) (next_end asked (search_after asked before_last))
  whole_is =
      let h = has_round asked in
      sym ((counted asked (most_rounds asked.problem)).again) ∙ ap (search_after asked) (sym some_before) ∙ next_after before_last (omega arith)

  -- its entry
  abbrev pub last_entry : Round
  last_entry = let s = search_after asked before_last in round_after s (next_end asked s)

  pub last_is : last_round (whole_search asked).rounds ≡ Some last_entry
  last_is = ap (λ (s : SearchState). last_round s.rounds) whole_is ∙ last_more (search_after asked before_last).rounds last_entry

  pub last_capped : ends_capped (whole_search asked).rounds ≡ is_open (end_at (search_after asked before_last).problem.aim (next_end asked (search_after asked before_last)))
  last_capped = ap (λ (o : Option Round). option_map_or (λ (round : Round). is_open round.end) o false) last_is

  -- a round that another one follows is not the last
  pub not_last : (n : ℕ) → suc n < round_count asked → is_last (search_after asked n).problem.aim (round_after (search_after asked n) (next_end asked (search_after asked n))) ≡ false
  not_last n l =
      let s = search_after asked n in
      let entry = round_after s (next_end asked s) in
      let still : is_over (search_after asked (suc n)) ≡ false = goes_before (suc n) l in
      let next = ap is_over (next_after n (omega arith)) in
      sym (next ∙ ap (λ (o : Option Round). option_map_or (is_last s.problem.aim) o false) (last_more s.rounds entry)) ∙ still

  -- without halves it was solved, and its values are kept
  pub kept_after : (n : ℕ) → asked.set.halves ≡ false → suc n < round_count asked → (search_after asked (suc n)).values ≡ Some (final_values asked.order (problem_after asked n) (run_after asked n))
  kept_after n plain l =
      let s = search_after asked n in
      let solved = end_solved s asked.order (problem_after asked n) (run_after asked n) (run_after asked n).end (same_halves asked n ∙ plain) (not_last n l) in
      ap (λ (z : SearchState). z.values) (next_after n (omega arith)) ∙ ap (λ (x : End (List ℤ)). values_after s.values x) solved

  -- ---- the last round that was solved

  -- these values are those of the last round that was solved among the first ones, so many of them
  pub record LastSolved (n : ℕ) (values : List ℤ) : Type 0 where
    pub number : ℕ
    pub within : number < n
    pub solved : next_end asked (search_after asked number) ≡ Solved values
    pub later : (k : ℕ) (other : List ℤ) → number < k → k < n → next_end asked (search_after asked k) ≡ Solved other → ⊥

  still_last : (n : ℕ) (values : List ℤ) (end : End (List ℤ)) → next_end asked (search_after asked n) ≡ end → ((other : List ℤ) → end ≡ Solved other → ⊥) → LastSolved n values → LastSolved (suc n) values
  still_last n values end e unsolved h = record {
    number = h.number;
    within = (let l = h.within in omega (arith, l));
    solved = h.solved;
    later = λ k other l m f. elim (lt-or-eq k n (omega arith)) [
      | inl before ↦ h.later k other l before f
      | inr same ↦ unsolved other (sym e ∙ subst (λ (i : ℕ). next_end asked (search_after asked i) ≡ Solved other) same f)
    ];
  }

  later_more : (n : ℕ) (old : Option (List ℤ)) (end : End (List ℤ)) → next_end asked (search_after asked n) ≡ end → IfSome old (LastSolved n) → IfSome (values_after old end) (LastSolved (suc n))
  later_more n old (Solved values) e h = record { number = n; within = omega arith; solved = e; later = λ k other l m f. absurd (omega arith) }
  later_more n None Refuted e h = tt
  later_more n None Spent e h = tt
  later_more n None Capped e h = tt
  later_more n (Some values) Refuted e h = still_last n values Refuted e (λ other f. absurd (cc)) h
  later_more n (Some values) Spent e h = still_last n values Spent e (λ other f. absurd (cc)) h
  later_more n (Some values) Capped e h = still_last n values Capped e (λ other f. absurd (cc)) h

  pub last_solved : (n : ℕ) → n ≤ round_count asked → IfSome (search_after asked n).values (LastSolved n)
  last_solved zero l = subst (λ (s : SearchState). IfSome s.values (LastSolved 0)) (sym (starts asked)) tt
  last_solved (suc n) l =
      let s = search_after asked n in
      let more = later_more n s.values (next_end asked s) refl (last_solved n (omega arith)) in
      subst (λ (z : SearchState). IfSome z.values (LastSolved (suc n))) (sym (next_after n (omega arith))) more

  -- the first round, where another follows, was solved; and values stay
  first_solved : (end : End (List ℤ)) → is_last asked.problem.aim (record { known = known_at_first; better = None; end = end_at asked.problem.aim end }) ≡ false → IsSome (values_after None end)
  first_solved (Solved values) e = refl
  first_solved Refuted e = absurd cc
  first_solved Spent e = absurd cc
  first_solved Capped e = absurd cc

  some_stay : (old : Option (List ℤ)) (end : End (List ℤ)) → IsSome old → IsSome (values_after old end)
  some_stay old (Solved values) h = refl
  some_stay old Refuted h = h
  some_stay old Spent h = h
  some_stay old Capped h = h

  pub some_values : (n : ℕ) → suc n < round_count asked → IsSome (search_after asked (suc n)).values
  some_values zero l =
      let s : SearchState = record { problem = asked.problem; halves = asked.set.halves; rounds = []; values = None } in
      let first = subst (λ (z : SearchState). is_last z.problem.aim (round_after z (next_end asked z)) ≡ false) (starts asked) (not_last 0 l) in
      let some = first_solved (next_end asked s) first in
      let next = next_after 0 (omega arith) ∙ ap (λ (z : SearchState). with_round z (next_end asked z)) (starts asked) in
      subst (λ (z : SearchState). IsSome z.values) (sym next) some
  some_values (suc n) l =
      let s = search_after asked (suc n) in
      let before = some_values n (omega arith) in
      subst (λ (z : SearchState). IsSome z.values) (sym (next_after (suc n) (omega arith))) (some_stay s.values (next_end asked s) before)

  -- ---- the entries of rounds

  -- the entry of a round stays where it is
  pub entry_at : (n k : ℕ) → k + suc n ≤ round_count asked → slice_get (search_after asked (k + suc n)).rounds n ≡ Some (round_after (search_after asked n) (next_end asked (search_after asked n)))
  entry_at n zero l =
      let s = search_after asked n in
      let many = many_before asked (most_rounds asked.problem) n (omega arith) in
      let z : 0 + suc n ≡ suc n = omega arith in
      ap (λ (i : ℕ). slice_get (search_after asked i).rounds n) z ∙ ap (λ (y : SearchState). slice_get y.rounds n) (next_after n (omega arith))
      ∙ ap (slice_get (s.rounds ++ round_after s (next_end asked s) ∷ [])) (sym many) ∙ get-last s.rounds (round_after s (next_end asked s))
  entry_at n (suc k) l =
      let s = search_after asked (k + suc n) in
      let many = many_before asked (most_rounds asked.problem) (k + suc n) (omega arith) in
      let z : suc k + suc n ≡ suc (k + suc n) = omega arith in
      ap (λ (i : ℕ). slice_get (search_after asked i).rounds n) z ∙ ap (λ (y : SearchState). slice_get y.rounds n) (next_after (k + suc n) (omega arith))
      ∙ get_before s.rounds (round_after s (next_end asked s)) n (omega (arith, many)) ∙ entry_at n k (omega arith)

  -- the first round is on the whole problem
  pub first_is : run_after asked 0 ≡ first_run asked
  first_is = ap (λ (s : SearchState). run_of (next_session asked s)) (starts asked)

  pub first_problem : problem_after asked 0 ≡ asked.problem
  first_problem = ap (λ (s : SearchState). next_problem asked s) (starts asked)
