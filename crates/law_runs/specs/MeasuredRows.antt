-- The measures of small runs, which a reader works out by hand from the definitions.
use Rattle.std.specs.Prelude.{◌≡◌, ℕ, List, [], ◌∷◌, map}
use Rattle.dcsp_defs.specs.Words.{below}
use Rattle.dcsp_defs.specs.Csp.{Csp, count}
use Rattle.abt_defs.specs.Network.{start}
use Rattle.abt_defs.specs.Events.{Act, acts, later_acts, start_acts}
use Rattle.abt_defs.specs.Clocks.{Weights, all_checks, constraints_alone, messages_alone, clock}
use Rattle.abt_defs.specs.Measures.{Kinds, Row, row, most_in_transit, most_recorded, learned}
use Rattle.law_runs.specs.Models.{clash, asked, nine, queens, zeros}

abbrev pub kinds : ℕ → ℕ → ℕ → Kinds
kinds ok nogood link = record { ok = ok; nogood = nogood; link = link }

abbrev pub agent : Kinds → Kinds → ℕ → ℕ → ℕ → Row
agent sent got constraints nogoods recorded = record { sent = sent; got = got; constraints = constraints; nogoods = nogoods; recorded = recorded }

-- the rows of all agents
abbrev pub rows : Csp → List ℕ → List Row
rows p choices = map (row p (acts p choices)) (below (count p))

-- the clocks of all checks, of constraints alone, and of messages
abbrev pub clocks : Csp → List ℕ → List ℕ
clocks p choices = clock p all_checks (acts p choices) ∷ clock p constraints_alone (acts p choices) ∷ clock p messages_alone (acts p choices) ∷ []

-- the most that was recorded and in transit
abbrev pub most : Csp → List ℕ → List ℕ
most p choices = most_recorded p choices (start p) ∷ most_in_transit (start_acts p) (later_acts p choices (start p)) ∷ []

-- two variables that are to differ and to agree: the run is refuted
pub record RefutedPairMeasured : Type 0 where
  pub rows : rows clash (zeros 4) ≡ agent (kinds 2 0 0) (kinds 0 2 0) 0 3 2 ∷ agent (kinds 0 2 0) (kinds 2 0 0) 6 0 0 ∷ []
  pub clocks : clocks clash (zeros 4) ≡ 9 ∷ 6 ∷ 4 ∷ []
  pub most : most clash (zeros 4) ≡ 2 ∷ 1 ∷ []
  pub learned : learned (acts clash (zeros 4)) 1 0 ≡ 2

-- a link that is asked for
pub record LinkAskedForMeasured : Type 0 where
  pub rows : rows asked nine ≡ agent (kinds 4 0 0) (kinds 0 1 1) 0 1 1 ∷ agent (kinds 2 1 1) (kinds 2 1 0) 0 1 1 ∷ agent (kinds 0 1 0) (kinds 4 0 0) 10 0 0 ∷ []
  pub clocks : clocks asked nine ≡ 12 ∷ 10 ∷ 5 ∷ []
  pub most : most asked nine ≡ 2 ∷ 2 ∷ []
  pub learned : map (learned (acts asked nine) 2) (below 3) ≡ 2 ∷ 1 ∷ 0 ∷ []
