-- Causal chains of the events of a run, and their weights (Lamport, CACM 21(7), 1978; Meisels, Kaplansky, Razgon and Zivan, 2002).
use Rattle.std.specs.Prelude.{◌≡◌, ◌≢◌, ℕ, ◌+◌, ◌<◌, ◌≤◌, ◌==◌, ◌&&◌, List, [], ◌∷◌, ◌++◌, filter, length, map, take, slice_get, Some, if◌then◌else◌}
use Rattle.dcsp_defs.specs.Csp.{Csp}
use Rattle.abt_defs.specs.Events.{acts}
use Rattle.abt_defs.specs.Clocks.{Event, Weights, copies, is_from, event_of, greatest_clock}

-- event number e, counted from 0
abbrev pub IsEvent : List Event → ℕ → Event → Type 0
IsEvent events e x = slice_get events e ≡ Some x

-- the numbers of the events in which messages from a to b are sent, one for each message, in order; the first event has this number
abbrev pub sendings : ℕ → ℕ → ℕ → List Event → List ℕ
sendings a b n [] = []
sendings a b n (x ∷ xs) = (if a == x.agent then copies n b x.receivers else []) ++ sendings a b (n + 1) xs

-- how many messages from a to b are received
abbrev pub receipts : ℕ → ℕ → List Event → ℕ
receipts a b events = length (filter (λ (x : Event). is_from a x.sender && b == x.agent) events)

-- event e is the next one of the agent of event d
pub record ComesNext (events : List Event) (d e : ℕ) (x : Event) : Type 0 where
  pub before : d < e
  pub first : Event
  pub is_first : IsEvent events d first
  pub same : first.agent ≡ x.agent
  pub none_between : (k : ℕ) (y : Event) → d < k → k < e → IsEvent events k y → y.agent ≢ x.agent

-- event e receives a message that event d sent: messages from one agent to another are received in the order in which they are sent
pub record IsSentIn (events : List Event) (d e : ℕ) (x : Event) : Type 0 where
  pub sender : ℕ
  pub came : x.sender ≡ Some sender
  pub sent : slice_get (sendings sender x.agent 0 events) (receipts sender x.agent (take e events)) ≡ Some d

-- a causal chain whose last event is this one, and its weight: the work of its events, and the latency for each message by which it goes on
pub data Chain (events : List Event) (latency : ℕ) : ℕ → ℕ → Type 0 where
  Alone : (e : ℕ) (x : Event) → IsEvent events e x → Chain events latency e x.work
  Goes_on : (d e w : ℕ) (x : Event) → Chain events latency d w → IsEvent events e x → ComesNext events d e x → Chain events latency e (w + x.work)
  Arrives : (d e w : ℕ) (x : Event) → Chain events latency d w → IsEvent events e x → IsSentIn events d e x → Chain events latency e (w + latency + x.work)

-- no chain weighs more, and where there is an event, some chain weighs so much
pub record IsGreatestWeight (events : List Event) (latency clock : ℕ) : Type 0 where
  pub above : (e w : ℕ) → Chain events latency e w → w ≤ clock
  pub attained : 0 < length events → (e : ℕ) × Chain events latency e clock
  pub none : events ≡ [] → clock ≡ 0

-- The clock of a run is the greatest weight of its chains, whatever the weights are.
abbrev pub ClocksAreWeights : Csp → Type 0
ClocksAreWeights p = (choices : List ℕ) (w : Weights) → let events : List Event = map (event_of p w) (acts p choices) in IsGreatestWeight events w.latency (greatest_clock w.latency events)
