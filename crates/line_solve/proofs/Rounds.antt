-- A search after some of its rounds.
use Rattle.std.proofs.Common.{◌≡◌, ℕ, zero, suc, ◌+◌, ◌<◌, ◌≤◌, Bool, true, false, if◌then◌else◌, [], ◌∷◌, length, None, refl, sym, ap, ◌∙◌, arith, length-append, below_more}
use Rattle.abt_optimum.specs.Rounds.{is_done}
use Rattle.abt_optimum.specs.Searches.{SearchState}
use Rattle.line_solve.specs.Searching.{AskedSearch, next_end, with_round, one_more, search_after}

-- whether a search has had all its rounds
abbrev pub is_over : SearchState → Bool
is_over s = is_done s.problem.aim s.rounds

module _ (asked : AskedSearch) where
  pub starts : search_after asked 0 ≡ record { problem = asked.problem; halves = asked.set.halves; rounds = []; values = None }
  unfolding search_after
  starts = refl

  next_is : (n : ℕ) → search_after asked (suc n) ≡ one_more asked (search_after asked n)
  unfolding search_after
  next_is n = refl

  more_if : (s : SearchState) (over : Bool) → is_over s ≡ over → one_more asked s ≡ (if over then s else with_round s (next_end asked s))
  more_if s over e = rw e refl

  pub goes_on : (n : ℕ) → is_over (search_after asked n) ≡ false → search_after asked (suc n) ≡ with_round (search_after asked n) (next_end asked (search_after asked n))
  goes_on n e = next_is n ∙ more_if (search_after asked n) false e

  pub stops : (n : ℕ) → is_over (search_after asked n) ≡ true → search_after asked (suc n) ≡ search_after asked n
  stops n e = next_is n ∙ more_if (search_after asked n) true e

  pub stays : (n k : ℕ) → is_over (search_after asked n) ≡ true → search_after asked (k + n) ≡ search_after asked n
  stays n zero e = let z : 0 + n ≡ n = omega arith in ap (search_after asked) z
  stays n (suc k) e =
      let z : suc k + n ≡ suc (k + n) = omega arith in
      let rest = stays n k e in
      ap (search_after asked) z ∙ stops (k + n) (ap is_over rest ∙ e) ∙ rest

  -- one turn, whether it makes a round or not
  problem_next : (n : ℕ) (over : Bool) → is_over (search_after asked n) ≡ over → (search_after asked (suc n)).problem ≡ (search_after asked n).problem
  problem_next n true e = ap (λ (s : SearchState). s.problem) (stops n e)
  problem_next n false e = ap (λ (s : SearchState). s.problem) (goes_on n e)

  pub same_problem : (n : ℕ) → (search_after asked n).problem ≡ asked.problem
  same_problem zero = ap (λ (s : SearchState). s.problem) starts
  same_problem (suc n) = problem_next n (is_over (search_after asked n)) refl ∙ same_problem n

  halves_next : (n : ℕ) (over : Bool) → is_over (search_after asked n) ≡ over → (search_after asked (suc n)).halves ≡ (search_after asked n).halves
  halves_next n true e = ap (λ (s : SearchState). s.halves) (stops n e)
  halves_next n false e = ap (λ (s : SearchState). s.halves) (goes_on n e)

  pub same_halves : (n : ℕ) → (search_after asked n).halves ≡ asked.set.halves
  same_halves zero = ap (λ (s : SearchState). s.halves) starts
  same_halves (suc n) = halves_next n (is_over (search_after asked n)) refl ∙ same_halves n

  -- how many rounds there are after so many turns, and that they are the first ones
  pub record Counted (n : ℕ) : Type 0 where
    pub full : is_over (search_after asked n) ≡ false → length (search_after asked n).rounds ≡ n
    pub at_most : length (search_after asked n).rounds ≤ n
    pub before : (k : ℕ) → k < length (search_after asked n).rounds → is_over (search_after asked k) ≡ false
    pub again : search_after asked (length (search_after asked n).rounds) ≡ search_after asked n

  counted_next : (n : ℕ) (over : Bool) → is_over (search_after asked n) ≡ over → Counted n → Counted (suc n)
  counted_next n true e h =
      let same = stops n e in
      let long : length (search_after asked (suc n)).rounds ≡ length (search_after asked n).rounds = ap (λ (s : SearchState). length s.rounds) same in
      let few = h.at_most in
      record {
        full = λ no. absurd (let yes : is_over (search_after asked (suc n)) ≡ true = ap is_over same ∙ e in cc);
        at_most = omega arith;
        before = λ k l. h.before k (omega arith);
        again = ap (search_after asked) long ∙ h.again ∙ sym same;
      }
  counted_next n false e h =
      let next = goes_on n e in
      let full = h.full e in
      let long : length (search_after asked (suc n)).rounds ≡ suc n = ap (λ (s : SearchState). length s.rounds) next ∙ length-append (search_after asked n).rounds (_ ∷ []) ∙ omega arith in
      record {
        full = λ no. long;
        at_most = omega arith;
        before = λ k l. below_more (λ (i : ℕ). is_over (search_after asked i) ≡ false) n (λ i m. h.before i (omega arith)) e k (omega arith);
        again = ap (search_after asked) long;
      }

  pub counted : (n : ℕ) → Counted n
  counted zero =
      let none : length (search_after asked 0).rounds ≡ 0 = ap (λ (s : SearchState). length s.rounds) starts in
      record {
        full = λ e. none;
        at_most = omega arith;
        before = λ k l. absurd (omega arith);
        again = ap (search_after asked) none;
      }
  counted (suc n) = counted_next n (is_over (search_after asked n)) refl (counted n)

  -- so many rounds were made once so many turns follow one another
  pub many_before : (n k : ℕ) → k < length (search_after asked n).rounds → length (search_after asked k).rounds ≡ k
  many_before n k l = (counted k).full ((counted n).before k l)
