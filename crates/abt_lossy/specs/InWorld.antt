-- Where the agents over the medium stand, as callers see them, and what their calls do.
use Rattle.std.specs.Prelude.{◌≡◌, ℕ, ◌+◌, ◌<◌, ◌≤◌, ◌^◌, Bool, true, false, List, [], ◌∷◌, ◌++◌, length, take, IfSome, if◌then◌else◌, option_to_list}
use Rattle.dcsp_defs.specs.Csp.{Csp}
use Rattle.dcsp_rule.specs.Problems.{Contents, csp_of}
use Rattle.ngd_log.specs.StepText.{IsInRange}
use Rattle.abt_defs.specs.Network.{run, start, IsSolved}
use Rattle.abt_defs.specs.Runs.{whole}
use Rattle.abt_network.specs.declared.Begun.{Begun}
use Rattle.abt_network.specs.declared.Standing.{Standing}
use Rattle.abt_network.specs.declared.Standing.TheVariants.{Open, Quiet, Refuted}
use Rattle.abt_network.specs.Standing as network
use Rattle.abt_network.specs.Standing.{NetworkState, StandsAt, Starts, IsRightStep}
use Rattle.law_runs.specs.Worlds.{World, begin, reliable, event, after}
use Rattle.law_runs.specs.Deliveries.{delivered, numbers, handed_messages}
use Rattle.law_runs.specs.LossyEnds.{is_quiet}
use Rattle.law_runs.specs.LossyRuns.{IsWholeRun}
use Rattle.law_runs.specs.LossyVerdicts.{AreBounded, AreRightSteps}
use Rattle.abt_lossy.specs.declared.carrier.Carrier.{Carrier}
use Rattle.abt_lossy.specs.declared.parts.Happened.{Happened}
use Rattle.abt_lossy.specs.Carries.{Carries}

-- what the agents over the medium have
pub record LossyState : Type 0 where
  pub problem : Contents
  pub network : NetworkState  -- the agents, and between them the messages that were sent and not handed up
  pub carrier : Carrier
  pub events : ℕ  -- how many were made
  pub begun : Bool
  pub spent : Bool  -- they ran out of memory

-- the world that these events of their problem lead to
abbrev pub reached : LossyState → List ℕ → World
reached s words = after (csp_of s.problem) words (begin (csp_of s.problem))

-- the agents' values solve their problem in the world that these events lead to
abbrev pub IsSolvedAfter : LossyState → List ℕ → Type 0
IsSolvedAfter s words = IsSolved (csp_of s.problem) (reached s words).network

-- agents, counts and packets are the world's
pub record IsIn (s : LossyState) (w : World) : Type 0 where
  pub network : StandsAt s.network (reliable w)
  pub carrier : Carries w s.carrier

-- these are the events that were made, and they led here
pub record IsAfter (s : LossyState) (words : List ℕ) : Type 0 where
  pub world : IsIn s (reached s words)
  pub events : s.events ≡ length words

-- ---- the start

-- They stand where the world begins, and the step of the start is told.
pub record Begins (old new : LossyState) (told : Begun) : Type 0 where
  pub world : IsIn new (begin (csp_of old.problem))
  pub starts : Starts old.problem new.network told

-- ---- events

-- They stand where the event of this word leads from there; what it handed up and its step are told, which is right and can stand in a log.
pub record Happens (old new : LossyState) (words : List ℕ) (word : ℕ) (happened : Happened) : Type 0 where
  pub after : IsAfter new (words ++ word ∷ [])
  pub world : reached old (words ++ word ∷ []) ≡ event (csp_of old.problem) word (reached old words)
  pub delivered : happened.delivered ≡ delivered (csp_of old.problem) word (reached old words)
  pub numbers : numbers (csp_of old.problem) (words ++ word ∷ []) (begin (csp_of old.problem)) ≡ numbers (csp_of old.problem) words (begin (csp_of old.problem)) ++ option_to_list happened.delivered
  pub steps : (event (csp_of old.problem) word (reached old words)).network.steps ≡ (reached old words).network.steps ++ option_to_list happened.step
  pub right : IsRightStep (csp_of old.problem) (reached old words).network.steps happened.step
  pub in_range : IfSome happened.step IsInRange

-- Each link is in order, and the world is a run over reliable links.
pub record IsOrderly (p : Csp) (words : List ℕ) (w : World) : Type 0 where
  pub in_order : (a b : ℕ) → handed_messages p words (begin p) a b ≡ take (w.handed_up a b) (w.network.links a b)  -- what was handed up is the first part of what was sent
  pub run : reliable w ≡ run p (numbers p words (begin p)) (start p)  -- each handing up is one delivery
  pub whole : (most : ℕ) → length (numbers p words (begin p)) ≤ most → IsWholeRun p most (numbers p words (begin p)) w (whole p most (numbers p words (begin p)))  -- of which none is left, and the ends are the same
  pub bounded : AreBounded p words w  -- at most the message bound are handed up
  pub steps : AreRightSteps p w  -- the steps are right, and those of a refuted world a refutation
  pub solved : w.network.refuted ≡ false → is_quiet p w ≡ true → IsSolved p w.network  -- a quiet world that is not refuted is solved

-- an event can be made
pub record CanHappen (s : LossyState) : Type 0 where
  pub begun : s.begun ≡ true
  pub open_ : network.standing_in s.network ≡ Open
  pub few : s.events < 2 ^ 48

-- ---- how they stand

-- refuted, or quiet where every message that was sent was handed up
abbrev pub standing_of : Csp → World → Standing
standing_of p w = if w.network.refuted then Refuted else (if is_quiet p w then Quiet else Open)
