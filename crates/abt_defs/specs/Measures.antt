-- The measures of a run: messages, checks, memory, links, and what agents learned of others.
use Rattle.std.specs.Prelude.{ℕ, zero, suc, ◌+◌, ◌-◌, Bool, true, false, not, cond, ◌==◌, ◌&&◌, List, [], ◌∷◌, ◌++◌, map, filter, flat_map, length, sum_by, max, Option, Some, None, ℤ, if◌then◌else◌}
use Rattle.std.specs.List.{list_any}
use Rattle.std.specs.Ordering.{int_eq}
use Rattle.dcsp_defs.specs.declared.nogood.Pair.{Pair}
use Rattle.dcsp_defs.specs.Words.{sum_below}
use Rattle.dcsp_defs.specs.Pairs.{pair_of}
use Rattle.dcsp_defs.specs.Csp.{Csp, count}
use Rattle.abt_defs.specs.Agents.{Message, Tell, Refuse, AddLink, plain}
use Rattle.abt_defs.specs.Network.{Network, deliver}
use Rattle.abt_defs.specs.Events.{Act}
use Rattle.abt_defs.specs.Checks.{Checks, checks_of}

-- ---- messages by kind

abbrev pub is_ok : Message → Bool
is_ok (Tell s) = true
is_ok (Refuse step pairs) = false
is_ok AddLink = false

abbrev pub is_nogood : Message → Bool
is_nogood (Tell s) = false
is_nogood (Refuse step pairs) = true
is_nogood AddLink = false

abbrev pub is_link : Message → Bool
is_link (Tell s) = false
is_link (Refuse step pairs) = false
is_link AddLink = true

-- how many are ok? messages, nogoods and link requests
pub record Kinds : Type 0 where
  pub ok : ℕ
  pub nogood : ℕ
  pub link : ℕ

abbrev pub kinds_of : List Message → Kinds
kinds_of messages = record { ok = length (filter is_ok messages); nogood = length (filter is_nogood messages); link = length (filter is_link messages) }

-- ---- one agent

-- the acts of agent i
abbrev pub acts_by : ℕ → List Act → List Act
acts_by i acts = filter (λ (a : Act). a.agent == i) acts

-- the messages that an act sends
abbrev pub messages_sent : Act → List Message
messages_sent a = map (λ (x : ℕ × Message). x.1) a.sent

-- the message that came, if one did
abbrev pub message_in : Option (ℕ × Message) → List Message
message_in None = []
message_in (Some x) = x.1 ∷ []

-- what it receives
abbrev pub messages_got : Act → List Message
messages_got a = message_in a.came

-- the greatest of these numbers of the items, 0 where there is none
abbrev pub greatest_by : {X : Type 0} → (X → ℕ) → List X → ℕ
greatest_by f [] = 0
greatest_by f (x ∷ xs) = max (f x) (greatest_by f xs)

-- what one agent did: messages sent and received by kind, checks, and the most nogoods that it had recorded
pub record Row : Type 0 where
  pub sent : Kinds
  pub got : Kinds
  pub constraints : ℕ
  pub nogoods : ℕ
  pub recorded : ℕ

-- what these acts of an agent come to
abbrev pub row_of : Csp → List Act → Row
row_of p acts = record {
  sent = kinds_of (flat_map messages_sent acts);
  got = kinds_of (flat_map messages_got acts);
  constraints = sum_by (λ (a : Act). (checks_of p a).constraints) acts;
  nogoods = sum_by (λ (a : Act). (checks_of p a).nogoods) acts;
  recorded = greatest_by (λ (a : Act). length a.after.recorded) acts;
}

-- the row of agent i
abbrev pub row : Csp → List Act → ℕ → Row
row p acts i = row_of p (acts_by i acts)

-- ---- all agents

-- the sum of these numbers of all agents' rows
abbrev pub total : Csp → List Act → (Row → ℕ) → ℕ
total p acts f = sum_below (λ i. f (row p acts i)) (count p)

-- how many messages are in transit: those that were sent and not delivered
abbrev pub in_transit : List Act → ℕ
in_transit acts = sum_by (λ (a : Act). length a.sent) acts - sum_by (λ (a : Act). length (messages_got a)) acts

-- the greatest number in transit after the first acts, or after one of the later acts
abbrev pub most_in_transit : List Act → List Act → ℕ
most_in_transit first [] = in_transit first
most_in_transit first (a ∷ later) = max (in_transit first) (most_in_transit (first ++ a ∷ []) later)

-- how many nogoods all agents have recorded
abbrev pub recorded_in : Csp → Network → ℕ
recorded_in p net = sum_below (λ i. length (net.agents i).recorded) (count p)

-- the greatest such number in a run from a network under the choices
abbrev pub most_recorded : Csp → List ℕ → Network → ℕ
most_recorded p [] net = recorded_in p net
most_recorded p (c ∷ cs) net = if net.refuted then recorded_in p net else max (recorded_in p net) (most_recorded p cs (deliver p c net))

-- ---- what is learned

-- the values that a message from k tells
abbrev pub told_by : ℕ → Message → List Pair
told_by k (Tell s) = pair_of k s.value ∷ []
told_by k (Refuse step pairs) = plain pairs
told_by k AddLink = []

-- the values that what came tells
abbrev pub told_in : Option (ℕ × Message) → List Pair
told_in None = []
told_in (Some x) = told_by x.0 x.1

-- the same of others than the agent that acts
abbrev pub told : Act → List Pair
told a = filter (λ (y : Pair). not (y.var == a.agent)) (told_in a.came)

-- whether it is the same pair
abbrev pub is_pair : Pair → Pair → Bool
is_pair x y = x.var == y.var && int_eq x.value y.value

-- the pairs that came, each at its first place, behind these
abbrev pub once : List Pair → List Pair → List Pair
once known [] = known
once known (x ∷ xs) = once (if list_any (is_pair x) known then known else known ++ x ∷ []) xs

-- the values of others that agent i was told of, each once
abbrev pub learned_pairs : List Act → ℕ → List Pair
learned_pairs acts i = once [] (flat_map told (acts_by i acts))

-- how many of them are values of k
abbrev pub learned : List Act → ℕ → ℕ → ℕ
learned acts i k = length (filter (λ (y : Pair). y.var == k) (learned_pairs acts i))
