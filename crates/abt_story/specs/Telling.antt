-- The lines of each event, by the network before it, the choice that delivers, and the network after it. A run may be one under an order: then its agents
-- are the places of the order, and are told by the variables' own numbers.
use Rattle.std.specs.Prelude.{ℕ, ℤ, Bool, true, false, not, nat_lt, List, [], ◌∷◌, ◌++◌, ◌==◌, map, filter, flat_map, length, slice_index, Option, Some, None, is_some, if◌then◌else◌}
use Rattle.std.specs.List.{list_any}
use Rattle.dcsp_defs.specs.Words.{below}
use Rattle.std.specs.Option.{option_map}
use Rattle.dcsp_defs.specs.declared.Reason.{Reason}
use Rattle.dcsp_defs.specs.declared.Reason.TheVariants.{Rule, Earlier}
use Rattle.dcsp_defs.specs.declared.Step.{Step}
use Rattle.dcsp_defs.specs.Csp.{Csp, domain}
use Rattle.dcsp_order.specs.Orders.{place_of}
use Rattle.abt_defs.specs.Agents.{Agent, Tell, Refuse, AddLink, Message, Record, Stamped, is_among, known}
use Rattle.abt_defs.specs.Reasons.{Item, cause}
use Rattle.abt_defs.specs.Network.{Network, deliver, start}
use Rattle.abt_defs.specs.Events.{Act, choice_acts, start_acts}
use Rattle.abt_defs.specs.Runs as runs
use Rattle.abt_defs.specs.Runs.{Cargo, cargo_of}
use Rattle.law_runs.specs.Stops.{after}
use Rattle.abt_story.specs.Facts.{RuledOut, Fact, Receives, Knows, Forgets, Keeps, Declines, Out, Takes, Makes, Sends, Line}
use Rattle.abt_story.specs.Numbers.{lines_told}

-- ---- what comes

-- these agents, in rising order of their own numbers
abbrev pub by_numbers : Option (List ℕ) → List ℕ → List ℕ
by_numbers None agents = agents
by_numbers (Some order) agents = filter (λ k. is_among k agents) (map (place_of order) (below (length order)))

-- the agents that a message from k names: those of a nogood, whose pairs rise, by their own numbers
abbrev pub named_by : Option (List ℕ) → ℕ → Message → List ℕ
named_by order k (Tell s) = k ∷ []
named_by order k (Refuse step pairs) = by_numbers order (map (λ (y : ℕ × Stamped). y.0) pairs)
named_by order k AddLink = []

-- those that what came names
abbrev pub named_in : Option (List ℕ) → Option (ℕ × Message) → List ℕ
named_in order None = []
named_in order (Some x) = named_by order x.0 x.1

-- what came, as a trace has it
abbrev pub came_with : Option (ℕ × Message) → Option (ℕ × Cargo)
came_with None = None
came_with (Some x) = Some (x.0, cargo_of x.1)

abbrev pub receives : Option (ℕ × Cargo) → List Fact
receives None = []
receives (Some x) = Receives x.0 x.1 ∷ []

-- ---- what it makes of the view

-- the stamp alone
abbrev pub stamp_in : Option Stamped → Option ℕ
stamp_in None = None
stamp_in (Some s) = Some s.stamp

-- no stamp was known, or a lower one
abbrev pub is_later : Option ℕ → ℕ → Bool
is_later None stamp = true
is_later (Some known) stamp = nat_lt known stamp

-- k's value entered the view, in which it had this stamp before
abbrev pub enters : ℕ → Option ℕ → Option Stamped → List Fact
enters k before None = []
enters k before (Some s) = if is_later before s.stamp then Knows k s.value ∷ [] else []

abbrev pub learns : List ℕ → Agent → Agent → List Fact
learns named before after = flat_map (λ k. enters k (stamp_in (before.view k)) (after.view k)) named

-- ---- and of the recorded nogoods

-- the steps of the recorded nogoods, in order of arrival
abbrev pub steps_of : Agent → List ℕ
steps_of a = map (λ (x : Record). x.step) a.recorded

-- those that are no longer among these
abbrev pub drops : List ℕ → List ℕ → List Fact
drops before after = flat_map (λ step. if is_among step after then [] else Forgets step ∷ []) before

-- whether the nogood that came is among these
abbrev pub answers : Option (ℕ × Cargo) → List ℕ → List Fact
answers None after = []
answers (Some (k, runs.Tell value)) after = []
answers (Some (k, runs.Refuse step)) after = (if is_among step after then Keeps step else Declines step) ∷ []
answers (Some (k, runs.AddLink)) after = []

-- ---- and of the values that are ruled out

-- the first reason against a value of agent i
abbrev pub reason : Csp → ℕ → Agent → ℤ → Option Reason
reason p i a v = option_map (λ (x : Item). x.reason) (cause p i (known a) a.recorded v)

-- the one that was told last: none before the start
abbrev pub reason_before : Csp → ℕ → Option (ℕ × Message) → Agent → ℤ → Option Reason
reason_before p i None before v = None
reason_before p i (Some x) before v = reason p i before v

abbrev pub same_reason : Reason → Reason → Bool
same_reason (Rule a) (Rule b) = a == b
same_reason (Rule a) (Earlier b) = false
same_reason (Earlier a) (Rule b) = false
same_reason (Earlier a) (Earlier b) = a == b

abbrev pub same_reasons : Option Reason → Option Reason → Bool
same_reasons None None = true
same_reasons None (Some b) = false
same_reasons (Some a) None = false
same_reasons (Some a) (Some b) = same_reason a b

-- the value is ruled out, where there is a reason
abbrev pub ruled_by : ℤ → Option Reason → List RuledOut
ruled_by v None = []
ruled_by v (Some r) = record { value = v; reason = r } ∷ []

-- the values that these reasons rule out
abbrev pub ruled_out : List ℤ → (ℤ → Option Reason) → List RuledOut
ruled_out values reasons = flat_map (λ v. ruled_by v (reasons v)) values

-- all of them are told where one has changed
abbrev pub rules_out : List ℤ → (ℤ → Option Reason) → (ℤ → Option Reason) → List Fact
rules_out values before after = if list_any (λ v. not (same_reasons (before v) (after v))) values then Out (ruled_out values after) ∷ [] else []

-- ---- what it does then

abbrev pub takes_value : Option ℤ → List Fact
takes_value None = []
takes_value (Some v) = Takes v ∷ []

-- a value that is taken has a stamp of its own
abbrev pub takes : ℕ → ℕ → Option ℤ → List Fact
takes before stamp value = if stamp == before then [] else takes_value value

abbrev pub makes : Option ℕ → List Fact
makes None = []
makes (Some step) = Makes step ∷ []

abbrev pub sends : List (ℕ × Message) → List Fact
sends sent = map (λ (x : ℕ × Message). Sends x.0 (cargo_of x.1)) sent

-- ---- events

-- what an agent does in an event, in which it makes the step with this number, or none
abbrev pub facts : Option (List ℕ) → Csp → Option ℕ → Act → List Fact
facts order p made a =
    receives (came_with a.came) ++ learns (named_in order a.came) a.before a.after ++ drops (steps_of a.before) (steps_of a.after) ++ answers (came_with a.came) (steps_of a.after)
    ++ rules_out (domain p a.agent) (reason_before p a.agent a.came a.before) (reason p a.agent a.after) ++ takes a.before.stamp a.after.stamp a.after.value ++ makes made ++ sends a.sent

-- facts of an agent in an event, all agents being told by their places
abbrev pub lines : ℕ → ℕ → List Fact → List Line
lines event i all = map (λ f. record { event = event; agent = Some i; fact = f }) all

-- the number of the step that was made between two networks, if one was
abbrev pub step_between : Network → Network → Option ℕ
step_between before after = if length after.steps == length before.steps then None else Some (length after.steps)

-- the choice delivers in a network
abbrev pub delivery_facts : Option (List ℕ) → Csp → ℕ → Network → List Line
delivery_facts order p c net = let next = deliver p c net in flat_map (λ (a : Act). lines next.deliveries a.agent (facts order p (step_between net next) a)) (choice_acts p c net)

abbrev pub delivery_lines : Option (List ℕ) → Csp → ℕ → Network → List Line
delivery_lines order p c net = lines_told order (delivery_facts order p c net)

-- In the start an agent takes a value, or makes the step that refutes.
abbrev pub first_step : Agent → Option ℕ
first_step a = if is_some a.value then None else Some 1

-- a step without a variable is no agent's
abbrev pub made_by_none : Option ℕ → List Line
made_by_none None = record { event = 0; agent = None; fact = Makes 1 } ∷ []
made_by_none (Some i) = []

abbrev pub agentless : List Step → List Line
agentless [] = []
agentless (s ∷ steps) = made_by_none s.variable

-- the agents settle in order
abbrev pub start_facts : Option (List ℕ) → Csp → List Line
start_facts order p = agentless (start p).steps ++ flat_map (λ (a : Act). lines 0 a.agent (facts order p (first_step a.after) a)) (start_acts p)

abbrev pub start_lines : Option (List ℕ) → Csp → List Line
start_lines order p = lines_told order (start_facts order p)

-- ---- runs

-- delivery k under the choices, counted from 0
abbrev pub lines_at : Option (List ℕ) → Csp → List ℕ → ℕ → List Line
lines_at order p choices k = delivery_lines order p (slice_index choices k) (after p choices k)

-- the start and so many deliveries, one after the other
abbrev pub events : Option (List ℕ) → Csp → List ℕ → ℕ → List (List Line)
events order p choices deliveries = start_lines order p ∷ map (lines_at order p choices) (below deliveries)
