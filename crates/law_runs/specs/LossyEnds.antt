-- When a run is over, and its calm events.
use Rattle.std.specs.Prelude.{ℕ, zero, suc, Bool, ◌||◌, List, [], ◌∷◌, ◌++◌, length, ◌==◌, if◌then◌else◌}
use Rattle.std.specs.List.{list_all}
use Rattle.dcsp_defs.specs.Csp.{Csp, count}
use Rattle.abt_defs.specs.Network.{pairs, is_empty}
use Rattle.law_runs.specs.Worlds.{World, begin, event, after}

-- every message that was sent was handed up
abbrev pub is_quiet : Csp → World → Bool
is_quiet p w = list_all (λ (x : ℕ × ℕ). w.handed_up x.0 x.1 == length (w.network.links x.0 x.1)) (pairs (count p))

-- the run is refuted, or the world is quiet
abbrev pub has_verdict : Csp → World → Bool
has_verdict p w = w.network.refuted || is_quiet p w

-- those of the words that come before a verdict
abbrev pub used : Csp → List ℕ → World → List ℕ
used p [] w = []
used p (word ∷ words) w = if has_verdict p w then [] else word ∷ used p words (event p word w)

-- A calm event delivers the first packet of the pool. Where there is none, the first pair sends that may.
abbrev pub calm_word : World → ℕ
calm_word w = if is_empty w.pool then 0 else 1

-- the words of at most n calm events, until a verdict stands
abbrev pub calm_words : Csp → ℕ → World → List ℕ
calm_words p zero w = []
calm_words p (suc n) w = if has_verdict p w then [] else calm_word w ∷ calm_words p n (event p (calm_word w) w)

-- the world after them
abbrev pub calm : Csp → ℕ → World → World
calm p zero w = w
calm p (suc n) w = if has_verdict p w then w else calm p n (event p (calm_word w) w)

-- the words of a whole run: those given, until a verdict stands, and then at most n calm ones
abbrev pub all_words : Csp → List ℕ → ℕ → List ℕ
all_words p given n = let first = used p given (begin p) in first ++ calm_words p n (after p first (begin p))
