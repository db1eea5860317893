-- Small runs over the medium: what each event hands up, the pools, the ends.
use Rattle.std.specs.Prelude.{◌≡◌, ℕ, Bool, true, false, List, [], ◌∷◌, length, Option, Some, None, map, pos}
use Rattle.dcsp_defs.specs.Words.{below}
use Rattle.dcsp_defs.specs.Csp.{Csp}
use Rattle.dcsp_defs.specs.declared.Reason.TheVariants.{Rule, Earlier}
use Rattle.abt_defs.specs.Network.{values}
use Rattle.law_runs.specs.Models.{bits, clash, csp, differ, starved, step}
use Rattle.dcsp_defs.specs.Pairs.{pair_of}
use Rattle.law_runs.specs.Packets.{Acknowledgement}
use Rattle.law_runs.specs.Worlds.{World, begin, event, after}
use Rattle.law_runs.specs.Deliveries.{delivered, numbers}
use Rattle.law_runs.specs.LossyEnds.{all_words, calm, calm_words, is_quiet}

-- what each event hands up, and how many packets the pool then has
abbrev pub shown : Csp → List ℕ → World → List (Option ℕ × ℕ)
shown p [] w = []
shown p (word ∷ words) w = let next = event p word w in (delivered p word w, length next.pool) ∷ shown p words next

-- two variables that are to differ
abbrev pub apart : Csp
apart = csp (bits ∷ bits ∷ []) (differ 0 1 ∷ [])

-- after n calm events: whether the run is refuted, whether the world is quiet, how many messages were handed up, and how many packets are on their way
abbrev pub end : Csp → ℕ → Bool × Bool × ℕ × ℕ
end p n = let w = calm p n (begin p) in (w.network.refuted, is_quiet p w, w.network.deliveries, length w.pool)

-- data is sent, delivered and repeated, and delivered again, which hands up nothing; an acknowledgement is lost
pub record FourWords : Type 0 where
  pub events : shown clash (0 ∷ 2 ∷ 1 ∷ 3 ∷ []) (begin clash) ≡ (None, 1) ∷ (Some 0, 2) ∷ (None, 2) ∷ (None, 1) ∷ []
  pub once : (after clash (0 ∷ 2 ∷ 1 ∷ []) (begin clash)).network.deliveries ≡ 1
  pub pool : (after clash (0 ∷ 2 ∷ 1 ∷ []) (begin clash)).pool ≡ Acknowledgement 0 1 1 ∷ Acknowledgement 0 1 1 ∷ []

-- the first acknowledgement is lost; the data is sent again, hands up nothing, and is acknowledged again
pub record LostAcknowledgement : Type 0 where
  pub events : shown clash (0 ∷ 1 ∷ 3 ∷ 0 ∷ 1 ∷ 1 ∷ []) (begin clash) ≡ (None, 1) ∷ (Some 0, 1) ∷ (None, 0) ∷ (None, 1) ∷ (None, 1) ∷ (None, 0) ∷ []
  pub before : (after clash (0 ∷ 1 ∷ 3 ∷ []) (begin clash)).acknowledged 0 1 ≡ 0
  pub acknowledged : (after clash (0 ∷ 1 ∷ 3 ∷ 0 ∷ 1 ∷ 1 ∷ []) (begin clash)).acknowledged 0 1 ≡ 1

-- an acknowledgement that is repeated counts once
pub record RepeatedAcknowledgement : Type 0 where
  pub events : shown clash (0 ∷ 1 ∷ 2 ∷ 1 ∷ []) (begin clash) ≡ (None, 1) ∷ (Some 0, 1) ∷ (None, 1) ∷ (None, 0) ∷ []
  pub acknowledged : (after clash (0 ∷ 1 ∷ 2 ∷ 1 ∷ []) (begin clash)).acknowledged 0 1 ≡ 1

-- both pairs have sent; the data of the second is delivered first
pub record Reordered : Type 0 where
  pub events : shown starved (0 ∷ 4 ∷ 5 ∷ 1 ∷ []) (begin starved) ≡ (None, 1) ∷ (None, 2) ∷ (Some 1, 2) ∷ (Some 0, 2) ∷ []
  pub numbers : numbers starved (0 ∷ 4 ∷ 5 ∷ 1 ∷ []) (begin starved) ≡ 1 ∷ 0 ∷ []

-- refuted with the eleventh event and not before; the data that refutes is not acknowledged
pub record CalmRefuted : Type 0 where
  pub ten : end clash 10 ≡ (false, false, 3, 1)
  pub eleven : end clash 11 ≡ (true, true, 4, 0)
  pub words : calm_words clash 12 (begin clash) ≡ 0 ∷ 1 ∷ 1 ∷ 0 ∷ 1 ∷ 1 ∷ 0 ∷ 1 ∷ 1 ∷ 0 ∷ 1 ∷ []
  pub steps : (calm clash 11 (begin clash)).network.steps ≡ step 1 (pair_of 0 (pos 0) ∷ []) (Rule 0 ∷ Rule 1 ∷ []) ∷ step 1 (pair_of 0 (pos 1) ∷ []) (Rule 1 ∷ Rule 0 ∷ []) ∷ step 0 [] (Earlier 1 ∷ Earlier 2 ∷ []) ∷ []

-- solved with the second event, after which given words are not used
pub record CalmSolved : Type 0 where
  pub end : end apart 2 ≡ (false, true, 1, 1)
  pub values : map (values (calm apart 2 (begin apart)).network) (below 2) ≡ pos 0 ∷ pos 1 ∷ []
  pub words : all_words apart [] 5 ≡ 0 ∷ 1 ∷ []
  pub given : all_words apart (3 ∷ 0 ∷ 3 ∷ []) 5 ≡ 3 ∷ 0 ∷ 3 ∷ 0 ∷ 1 ∷ []
  pub over : all_words apart (0 ∷ 1 ∷ 0 ∷ []) 5 ≡ 0 ∷ 1 ∷ []
