-- What an agent does at once: it settles, or it receives a message.
use Rattle.std.specs.Prelude.{ℕ, ◌+◌, Bool, true, false, not, ◌&&◌, ◌||◌, List, [], ◌∷◌, ◌++◌, map, filter, find, Option, Some, None, ℤ, nat_lt, ◌==◌, if◌then◌else◌}
use Rattle.std.specs.List.{list_any, list_all}
use Rattle.std.specs.Ordering.{int_eq}
use Rattle.dcsp_defs.specs.declared.nogood.Pair.{Pair}
use Rattle.dcsp_defs.specs.Pairs.{value_at}
use Rattle.dcsp_defs.specs.declared.Step.{Step}
use Rattle.dcsp_defs.specs.Words.{below, update, is_value}
use Rattle.dcsp_defs.specs.Csp.{Csp, Nogood, domain, count}
use Rattle.abt_defs.specs.Agents.{Stamped, StampedNogood, plain, lowest, Message, Tell, Refuse, AddLink, Record, Agent, known}
use Rattle.abt_defs.specs.Reasons.{ruled_out, derived, step_of}

-- the new state, what is sent, each message with its receiver, and the step that is made
pub record Outcome : Type 0 where
  pub agent : Agent
  pub sent : List (ℕ × Message)
  pub step : Option Step

-- the state is as before, and nothing is sent
abbrev pub stay : Agent → Outcome
stay a = record { agent = a; sent = []; step = None }

-- ---- settling

-- one message to each, in order
abbrev pub to_each : Message → List ℕ → List (ℕ × Message)
to_each m receivers = map (λ k. (k, m)) receivers

-- the agent has the value, with the next stamp, does not wait, and tells it
abbrev pub take_value : Csp → Agent → ℤ → Outcome
take_value p a v = record {
  agent = record a { value = Some v; stamp = a.stamp + 1; waits = false };
  sent = to_each (Tell (record { value = v; stamp = a.stamp + 1 })) (filter a.tells (below (count p)));
  step = None;
}

-- the nogood goes to its lowest agent, and the sender waits; the empty one is sent to nobody
abbrev pub refuse : ℕ → Agent → Step → StampedNogood → Outcome
refuse number a step [] = record { agent = a; sent = []; step = Some step }
refuse number a step (first ∷ rest) = record { agent = record a { waits = true }; sent = (lowest first rest, Refuse number (first ∷ rest)) ∷ []; step = Some step }

-- there is a value, and it is not ruled out
abbrev pub is_free : Csp → ℕ → Agent → Option ℤ → Bool
is_free p i a None = false
is_free p i a (Some v) = not (ruled_out p i (known a) a.recorded v)

-- the value to take: the agent's own where it is not ruled out, else the least that is not
abbrev pub choice : Csp → ℕ → Agent → Option ℤ
choice p i a = if is_free p i a a.value then a.value else find (λ v. not (ruled_out p i (known a) a.recorded v)) (domain p i)

-- agent i takes the value, or derives a nogood where there is none
abbrev pub take_or_refuse : Csp → ℕ → ℕ → Agent → Option ℤ → Outcome
take_or_refuse p i number a (Some v) = take_value p a v
take_or_refuse p i number a None = refuse number a (step_of p i a.view a.recorded) (derived p i a.view a.recorded)

-- agent i settles, where number is that of the next step: it keeps its value, takes one, or derives a nogood
abbrev pub settle : Csp → ℕ → ℕ → Agent → Outcome
settle p i number a = if not a.waits && is_free p i a a.value then stay a else take_or_refuse p i number a (choice p i a)

-- ---- messages that come

-- no stamp is known, or a lower one
abbrev pub is_newer : Option Stamped → ℕ → Bool
is_newer None stamp = true
is_newer (Some s) stamp = nat_lt s.stamp stamp

-- without those that have another value for k
abbrev pub forget : ℕ → ℤ → List Record → List Record
forget k v recorded = filter (λ (x : Record). list_all (λ (y : Pair). not (k == y.var) || int_eq y.value v) x.pairs) recorded

-- what is newer than the view has of k enters it
abbrev pub learn : ℕ → Stamped → Agent → Agent
learn k s a = if is_newer (a.view k) s.stamp then record a { view = update a.view k (Some s); recorded = forget k s.value a.recorded } else a

-- each pair of a higher agent than i, in order
abbrev pub learn_all : ℕ → StampedNogood → Agent → Agent
learn_all i [] a = a
learn_all i (y ∷ ys) a = learn_all i ys (if nat_lt y.0 i then learn y.0 y.1 a else a)

-- some pair of a higher agent is newer than the view
abbrev pub is_news : ℕ → StampedNogood → Agent → Bool
is_news i pairs a = list_any (λ (y : ℕ × Stamped). nat_lt y.0 i && is_newer (a.view y.0) y.1.stamp) pairs

-- the nogood names k
abbrev pub is_named : ℕ → Nogood → Bool
is_named k pairs = list_any (λ (y : Pair). k == y.var) pairs

-- the higher agents that the nogood names and that are neither linked nor asked, rising
abbrev pub unlinked : ℕ → Nogood → Agent → List ℕ
unlinked i pairs a = filter (λ k. is_named k pairs && not (a.linked k)) (below i)

-- they count as asked
abbrev pub ask : ℕ → Nogood → Agent → Agent
ask i pairs a = record a { linked = λ k. a.linked k || (nat_lt k i && is_named k pairs) }

-- each pair of a higher agent is as the view has it
abbrev pub fits : ℕ → Nogood → Agent → Bool
fits i pairs a = list_all (λ (y : Pair). not (nat_lt y.var i) || is_value (known a y.var) y.value) pairs

-- there is no such value, or a recorded nogood has it for i
abbrev pub is_refused : ℕ → List Record → Option ℤ → Bool
is_refused i recorded None = true
is_refused i recorded (Some v) = list_any (λ (x : Record). is_value (value_at x.pairs i) v) recorded

-- the nogood is recorded if it fits and is the first for its value of i
abbrev pub keep : ℕ → Record → Agent → Agent
keep i x a = if fits i x.pairs a && not (is_refused i a.recorded (value_at x.pairs i)) then record a { recorded = a.recorded ++ x ∷ [] } else a

-- agent i takes in a nogood: it counts the links as asked, learns the pairs, and records the nogood or drops it
abbrev pub heed : ℕ → ℕ → StampedNogood → Agent → Agent
heed i step pairs a = keep i (record { step = step; pairs = plain pairs }) (learn_all i pairs (ask i (plain pairs) a))

-- what is sent before the rest
abbrev pub first_sent : List (ℕ × Message) → Outcome → Outcome
first_sent sent o = record { agent = o.agent; sent = sent ++ o.sent; step = o.step }

-- the agent's value, if it has one, for k
abbrev pub own_value : ℕ → Agent → Option ℤ → List (ℕ × Message)
own_value k a None = []
own_value k a (Some v) = (k, Tell (record { value = v; stamp = a.stamp })) ∷ []

-- agent i receives a message from k, where number is that of the next step
abbrev pub receive : Csp → ℕ → ℕ → Agent → ℕ → Message → Outcome
receive p i number a k (Tell s) = if is_newer (a.view k) s.stamp then settle p i number (learn k s a) else stay a
receive p i number a k (Refuse step pairs) =
    let b = heed i step pairs a in
    first_sent (to_each AddLink (unlinked i (plain pairs) a)) (if a.waits && not (is_news i pairs a) then stay b else settle p i number b)
receive p i number a k AddLink = record { agent = record a { tells = update a.tells k true }; sent = own_value k a a.value; step = None }
