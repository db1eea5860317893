-- At which world the agents over the medium stand.
use Rattle.std.specs.Prelude.{◌≡◌, ℕ, ◌+◌, ◌<◌, ◌^◌, ◌&&◌, Bool, true, false, nat_lt, if◌then◌else◌, List, [], ◌∷◌, ◌++◌, length, IfSome, option_to_list}
use Rattle.dcsp_defs.specs.Csp.{Csp, count}
use Rattle.dcsp_rule.specs.Problems.{csp_of}
use Rattle.abt_links.specs.Transit.{link_of}
use Rattle.abt_links.specs.PairTables.{has_pair}
use Rattle.abt_defs.specs.Network.{run, start}
use Rattle.abt_network.specs.declared.Standing.{Standing}
use Rattle.abt_network.specs.declared.Standing.TheVariants.{Open, Quiet, Refuted}
use Rattle.ngd_log.specs.StepText.{IsInRange}
use Rattle.abt_network.specs.Standing.{StandsAt, IsRightStep}
use Rattle.law_runs.specs.Worlds.{World, begin, after, event}
use Rattle.law_runs.specs.Deliveries.{delivered, numbers}
use Rattle.abt_lossy.specs.Carries.{Carries, CountsFit, acknowledged_of, handed_up_of}
use Rattle.abt_lossy.specs.declared.parts.Parts.{Parts}
use Rattle.abt_lossy.specs.declared.parts.Happened.{Happened}

-- by the counts and what waits, whether the pair has a message that is not acknowledged
abbrev pub may_send : Parts → ℕ → ℕ → Bool
may_send l k i = nat_lt (acknowledged_of l.carrier.counts k i) (handed_up_of l.carrier.counts k i + length (link_of l.network.links k i))

-- whether the pair is marked once every pair of the agents is marked by whether it may send
abbrev pub marked_by_all : Parts → ℕ → ℕ → Bool
marked_by_all l k i = if nat_lt k l.agents && nat_lt i l.agents then may_send l k i else has_pair l.senders k i

-- all parts stand where these events of this problem lead
pub record IsAt (p : Csp) (words : List ℕ) (l : Parts) : Type 0 where
  pub problem : csp_of l.network.problem ≡ p
  pub network : StandsAt l.network (run p (numbers p words (begin p)) (start p))
  pub carrier : Carries (after p words (begin p)) l.carrier
  pub agents : l.agents ≡ count p
  pub senders : l.senders.agents ≡ l.agents
  pub marks : (k i : ℕ) → k < count p → i < count p → has_pair l.senders k i ≡ may_send l k i
  pub begun : l.network.begun ≡ true
  pub sound : l.network.spent ≡ false

-- nothing was started, and no packet is on its way
pub record IsBlank (l : Parts) : Type 0 where
  pub carrier : (p : Csp) → Carries (begin p) l.carrier
  pub fit : CountsFit l.carrier
  pub agents : l.agents ≡ length l.network.problem.domains
  pub senders : l.senders.agents ≡ l.agents
  pub begun : l.network.begun ≡ false
  pub sound : l.network.spent ≡ false

-- one event more has happened, which handed up what is told, with the step that is told, which is right and can stand in a log
pub record IsEvent (p : Csp) (words : List ℕ) (word : ℕ) (happened : Happened) (w : World) (new : Parts) : Type 0 where
  pub stands : IsAt p (words ++ word ∷ []) new
  pub delivered : delivered p word w ≡ happened.delivered
  pub steps : (event p word w).network.steps ≡ w.network.steps ++ option_to_list happened.step
  pub right : IsRightStep p w.network.steps happened.step
  pub in_range : IfSome happened.step IsInRange

-- It is so wherever they stood.
abbrev pub Does : ℕ → Happened → Parts → Parts → Type 0
Does word happened old new = (p : Csp) (words : List ℕ) → IsAt p words old → (after p words (begin p)).network.refuted ≡ false → IsEvent p words word happened (after p words (begin p)) new

-- some events of some problem lead here, which refuted nothing and are not many
pub record IsReached (l : Parts) : Type 0 where
  pub p : Csp
  pub words : List ℕ
  pub stands : IsAt p words l
  pub alive : (after p words (begin p)).network.refuted ≡ false
  pub few : length words < 2 ^ 48

-- whether a network that stands so is refuted
abbrev pub is_refuted : Standing → Bool
is_refuted Open = false
is_refuted Quiet = false
is_refuted Refuted = true
