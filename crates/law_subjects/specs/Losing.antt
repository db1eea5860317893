-- The events of a run over a medium that loses, repeats and reorders.
use Rattle.std.specs.Prelude.{◌≡◌, ◌⊎◌, ℕ, ◌≤◌, false, List, [], ◌∷◌, ◌++◌, length}
use Rattle.dcsp_defs.specs.Csp.{Csp}
use Rattle.law_runs.specs.Worlds.{World, begin, after}
use Rattle.law_runs.specs.LossyEnds.{has_verdict, calm_word, all_words}

-- each of the words from a world on makes the calm event of the world that it meets
abbrev pub AreCalm : Csp → List ℕ → World → Type 0
AreCalm p words world = (before later : List ℕ) (word : ℕ) → words ≡ before ++ word ∷ later → word ≡ calm_word (after p before world)

-- the words of a run are the first of those given, and then, where all were used, calm ones
pub record GivenThenCalm (p : Csp) (given : List ℕ) (most : ℕ) : Type 0 where
  pub first : List ℕ
  pub unused : List ℕ
  pub are_given : first ++ unused ≡ given
  pub calm : List ℕ
  pub all : all_words p given most ≡ first ++ calm
  pub few : length calm ≤ most
  pub are_calm : AreCalm p calm (after p first (begin p))
  pub used_first : (calm ≡ []) ⊎ (unused ≡ [])

-- No verdict stands before an event, so the events of a run end where its verdict comes; they are those of the words given, and then calm ones.
pub record EventsEndAtVerdict (p : Csp) (given : List ℕ) (most : ℕ) : Type 0 where
  pub none_before : (before later : List ℕ) (word : ℕ) → all_words p given most ≡ before ++ word ∷ later → has_verdict p (after p before (begin p)) ≡ false
  pub words : GivenThenCalm p given most
