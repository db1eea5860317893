-- How soon calm events bring a verdict.
use Rattle.std.specs.Prelude.{◌≡◌, ℕ, suc, ◌+◌, ◌*◌, ◌<◌, ◌≤◌, true, false, List, length, if◌then◌else◌}
use Rattle.dcsp_defs.specs.Csp.{Csp, IsCsp}
use Rattle.abt_defs.specs.Bound.{message_bound}
use Rattle.law_runs.specs.Worlds.{World, begin, event, after}
use Rattle.law_runs.specs.LossyEnds.{has_verdict, calm, calm_word, calm_words}

-- After any events a verdict stands within two calm events for each packet of the pool and three for each message of the bound.
abbrev pub CalmBudget : Csp → Type 0
CalmBudget p = IsCsp p → (words : List ℕ) (n : ℕ)
    → let w = after p words (begin p) in
    2 * length w.pool + 3 * message_bound p ≤ n → has_verdict p (calm p n w) ≡ true

-- Where n calm events after these words brought no verdict, two for each word and three for each message of the bound are more than n.
abbrev pub NoVerdictYet : Csp → Type 0
NoVerdictYet p = IsCsp p → (words : List ℕ) (n : ℕ) → has_verdict p (calm p n (after p words (begin p))) ≡ false → n < 2 * length words + 3 * message_bound p

-- n calm events are the events of their words, at most n of them, all n where no verdict stands, and each further one is the calm event of the world before it
pub record AreCalmEvents (p : Csp) (n : ℕ) (w : World) : Type 0 where
  pub same : calm p n w ≡ after p (calm_words p n w) w
  pub at_most : length (calm_words p n w) ≤ n
  pub all_made : has_verdict p (calm p n w) ≡ false → length (calm_words p n w) ≡ n
  pub more : calm p (suc n) w ≡ (if has_verdict p (calm p n w) then calm p n w else event p (calm_word (calm p n w)) (calm p n w))

-- It is so from every world.
abbrev pub CalmEvents : Csp → Type 0
CalmEvents p = (n : ℕ) (w : World) → AreCalmEvents p n w
