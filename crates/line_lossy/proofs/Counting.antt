-- How many events a run has, and when a verdict stands.
use Rattle.std.proofs.Common.{◌≡◌, ℕ, zero, suc, ◌+◌, ◌*◌, ◌<◌, ◌≤◌, Bool, true, false, cond, ◌||◌, List, [], ◌∷◌, ◌++◌, length, length-append, refl, sym, ap, ◌∙◌, arith}
use Rattle.dcsp_defs.specs.Csp.{Csp, IsCsp}
use Rattle.abt_defs.specs.Bound.{message_bound}
use Rattle.law_runs.specs.Worlds.{World, begin, event, after}
use Rattle.law_runs.specs.LossyEnds.{is_quiet, has_verdict, used, calm_word, calm_words, calm}
use Rattle.law_runs.specs.CalmEvents.{AreCalmEvents}
use Rattle.law_runs.proofs.CalmEvents.{calm_budget}
use Rattle.law_runs.proofs.WorldSizes.{world_is_small, calm_events, no_verdict_yet}
use Rattle.line_lossy.specs.Asked.{words_of}
use Rattle.line_lossy.proofs.Worlds.{after_both, none_calm}

-- ---- words before a verdict

pub used_short : (p : Csp) (words : List ℕ) (w : World) → length (used p words w) ≤ length words
used_short p [] w = omega arith
used_short p (x ∷ xs) w = let h = used_short p xs (event p x w) in elim (has_verdict p w) as (λ b. length (cond b [] (x ∷ used p xs (event p x w))) ≤ suc (length xs)) [ true ↦ omega arith | false ↦ omega (arith, h) ]

no_refutation : (a b : Bool) → (a || b) ≡ false → a ≡ false
no_refutation true b h = cc
no_refutation false b h = refl

-- where no verdict stands in the end, all were used
used_all : (p : Csp) (words : List ℕ) (w : World) → has_verdict p (after p (used p words w) w) ≡ false → used p words w ≡ words
used_all p [] w h = refl
used_all p (x ∷ xs) w h =
    (elim (has_verdict p w) as (λ b. has_verdict p w ≡ b → has_verdict p (after p (cond b [] (x ∷ used p xs (event p x w))) w) ≡ false → cond b [] (x ∷ used p xs (event p x w)) ≡ x ∷ xs) [
      | true ↦ λ e g. let z : true ≡ false = sym e ∙ g in cc
      | false ↦ λ e g.
          let alive = no_refutation w.network.refuted (is_quiet p w) e in
          ap (λ (l : List ℕ). x ∷ l) (used_all p xs (event p x w) (sym (ap (λ b. has_verdict p (cond b w (after p (used p xs (event p x w)) (event p x w)))) alive) ∙ g))
    ]) refl h

-- ---- calm events

calm_stays : (p : Csp) (n : ℕ) (w : World) → has_verdict p w ≡ true → calm p n w ≡ w
calm_stays p zero w v = refl
calm_stays p (suc n) w v = ap (λ b. cond b w (calm p n (event p (calm_word w) w))) v

-- where m calm events bring a verdict, no more are made
calm_soon : (p : Csp) (m n : ℕ) (w : World) → has_verdict p (calm p m w) ≡ true → length (calm_words p n w) ≤ m
calm_soon p zero n w h = let e = ap length (none_calm p n w h) in omega (arith, e)
calm_soon p (suc m) zero w h = omega arith
calm_soon p (suc m) (suc n) w h =
    (elim (has_verdict p w) as (λ b. has_verdict p (cond b w (calm p m (event p (calm_word w) w))) ≡ true → length (cond b [] (calm_word w ∷ calm_words p n (event p (calm_word w) w))) ≤ suc m) [
      | true ↦ λ g. omega arith
      | false ↦ λ g. let l = calm_soon p m n (event p (calm_word w) w) g in omega (arith, l)
    ]) h

-- ---- all words

module _ (p : Csp) (ok : IsCsp p) (given : List ℕ) (n : ℕ) where
  abbrev first : List ℕ
  first = used p given (begin p)

  abbrev between : World
  between = after p first (begin p)

  abbrev calm_ones : List ℕ
  calm_ones = calm_words p n between

  abbrev end : World
  end = after p (words_of p given n) (begin p)

  law : AreCalmEvents p n between
  law = calm_events p n between

  words_are : words_of p given n ≡ first ++ calm_ones
  unfolding words_of
  words_are = refl

  end_is : end ≡ calm p n between
  end_is = ap (λ l. after p l (begin p)) words_are ∙ after_both p first calm_ones (begin p) ∙ sym law.same

  long : length (words_of p given n) ≡ length first + length calm_ones
  long = ap length words_are ∙ length-append first calm_ones

  -- where no verdict stands all events were made
  pub all_made : has_verdict p end ≡ false → length (words_of p given n) ≡ length given + n
  all_made h =
      let later : has_verdict p (calm p n between) ≡ false = sym (ap (has_verdict p) end_is) ∙ h in
      let calm_all = law.all_made later in
      let earlier : has_verdict p between ≡ false = (elim (has_verdict p between) as (λ b. has_verdict p between ≡ b → b ≡ false) [
        | true ↦ λ e. let z : true ≡ false = sym (ap (has_verdict p) (calm_stays p n between e) ∙ e) ∙ later in cc
        | false ↦ λ e. refl
      ]) refl in
      let given_all = ap length (used_all p given (begin p) earlier) in
      omega (arith, long, calm_all, given_all)

  -- a verdict comes within the calm budget
  pub soon : length (words_of p given n) ≤ length given + (2 * length given + 3 * message_bound p)
  soon =
      let short = used_short p given (begin p) in
      let small = (world_is_small p first).pool in
      let few = calm_soon p (2 * length between.pool + 3 * message_bound p) n between (calm_budget p ok first (2 * length between.pool + 3 * message_bound p) (omega arith)) in
      omega (arith, long, short, small, few)

  -- so none is left undecided where as many may be made
  pub past_budget : has_verdict p end ≡ false → n < 2 * length given + 3 * message_bound p
  past_budget h =
      let short = used_short p given (begin p) in
      let l = no_verdict_yet p ok first n (sym (ap (has_verdict p) end_is) ∙ h) in
      omega (arith, short, l)
