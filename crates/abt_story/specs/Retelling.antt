-- What the lines so far tell: how the agents and the lists of messages stand, read off the lines alone, one after the other.
use Rattle.std.specs.Prelude.{◌≡◌, ℕ, ◌≤◌, ◌<◌, ℤ, Bool, true, false, not, ◌&&◌, ◌==◌, List, [], ◌∷◌, ◌++◌, drop, filter, flat_map, map, Option, Some, None, if◌then◌else◌}
use Rattle.dcsp_defs.specs.Csp.{Csp, IsCsp, count, domain}
use Rattle.abt_defs.specs.Agents.{known}
use Rattle.abt_defs.specs.Network.{Network, start}
use Rattle.abt_defs.specs.Runs.{Cargo, Delivery, Run, cargo_of, whole}
use Rattle.dcsp_order.specs.Told.{number_told}
use Rattle.law_runs.specs.Starts.{settled_in}
use Rattle.law_runs.specs.Stops.{after}
use Rattle.abt_story.specs.Facts.{RuledOut, Fact, Receives, Knows, Forgets, Keeps, Out, Takes, Makes, Sends, Line}
use Rattle.abt_story.specs.Numbers.{deliveries_told, IsOrderOn}
use Rattle.abt_story.specs.Telling.{events, reason, ruled_out, steps_of}

-- ---- one fact of an agent

-- what it makes of the agent's value
abbrev pub value_after : Fact → Option ℤ → Option ℤ
value_after (Takes value) old = Some value
value_after other old = old

-- of its mark: it waits once it has made a step, until it takes a value
abbrev pub waits_after : Fact → Bool → Bool
waits_after (Takes value) old = false
waits_after (Makes step) old = true
waits_after other old = old

-- of what it knows of agent k
abbrev pub known_after : ℕ → Fact → Option ℤ → Option ℤ
known_after k (Knows j value) old = if j == k then Some value else old
known_after k other old = old

-- of its recorded nogoods, by their steps, in order of arrival
abbrev pub recorded_after : Fact → List ℕ → List ℕ
recorded_after (Forgets step) old = filter (λ n. not (n == step)) old
recorded_after (Keeps step) old = old ++ step ∷ []
recorded_after other old = old

-- of its values that are ruled out, with their reasons
abbrev pub ruled_after : Fact → List RuledOut → List RuledOut
ruled_after (Out values) old = values
ruled_after other old = old

-- ---- all lines

-- what facts make of this, one after the other
abbrev pub fold : {X : Type 0} → (Fact → X → X) → X → List Fact → X
fold change x [] = x
fold change x (f ∷ fs) = fold change (change f x) fs

-- what a line makes of what is kept of agent i: nothing, where it is of another
abbrev pub by_line : {X : Type 0} → (Fact → X → X) → ℕ → Option ℕ → Fact → X → X
by_line change i None f x = x
by_line change i (Some j) f x = if i == j then change f x else x

-- what lines make of it
abbrev pub retold : {X : Type 0} → (Fact → X → X) → ℕ → X → List Line → X
retold change i x [] = x
retold change i x (l ∷ ls) = retold change i (by_line change i l.agent l.fact x) ls

-- what a fact of agent i makes of the list from k to j: what is sent goes last, and what is received was first
abbrev pub list_after : ℕ → ℕ → ℕ → Fact → List Cargo → List Cargo
list_after k j i (Receives from cargo) old = if k == from && j == i then drop 1 old else old
list_after k j i (Sends to cargo) old = if k == i && to == j then old ++ cargo ∷ [] else old
list_after k j i other old = old

abbrev pub list_by : ℕ → ℕ → Option ℕ → Fact → List Cargo → List Cargo
list_by k j None f old = old
list_by k j (Some i) f old = list_after k j i f old

-- what lines make of it
abbrev pub list_told : ℕ → ℕ → List Cargo → List Line → List Cargo
list_told k j old [] = old
list_told k j old (l ∷ ls) = list_told k j (list_by k j l.agent l.fact old) ls

-- ---- the laws

-- agent i has settled in the start
abbrev pub HasSettled : Csp → ℕ → Type 0
HasSettled p i = i < settled_in (count p) (start p).steps

-- The lines tell how the network stands, each agent by its own number; the mark of the agent whose step refutes is told as if it waited.
pub record Shows (order : Option (List ℕ)) (p : Csp) (lines : List Line) (net : Network) : Type 0 where
  pub lists : (k j : ℕ) → list_told (number_told order k) (number_told order j) [] lines ≡ map cargo_of (net.links k j)
  pub values : (i : ℕ) → HasSettled p i → retold value_after (number_told order i) None lines ≡ (net.agents i).value
  pub waits : net.refuted ≡ false → (i : ℕ) → HasSettled p i → retold waits_after (number_told order i) false lines ≡ (net.agents i).waits
  pub known_is : (i k : ℕ) → HasSettled p i → retold (known_after (number_told order k)) (number_told order i) None lines ≡ known (net.agents i) k
  pub recorded : (i : ℕ) → retold recorded_after (number_told order i) [] lines ≡ steps_of (net.agents i)
  pub ruled : (i : ℕ) → HasSettled p i → retold ruled_after (number_told order i) [] lines ≡ ruled_out (domain p i) (reason p i (net.agents i))

-- all lines of the start and of so many deliveries
abbrev pub lines_so_far : Option (List ℕ) → Csp → List ℕ → ℕ → List Line
lines_so_far order p choices k = flat_map (λ l. l) (events order p choices k)

-- nothing is hidden: after each event of a run, the lines so far tell how all agents and all lists stand
abbrev pub NothingIsHidden : Option (List ℕ) → Csp → Type 0
NothingIsHidden order p =
    IsCsp p → IsOrderOn order p → (most : ℕ) (choices : List ℕ) (k : ℕ) → k ≤ (whole p most choices).net.deliveries → Shows order p (lines_so_far order p choices k) (after p choices k)

-- the delivery of a line, if it is one's
abbrev pub delivery_of : Option ℕ → Fact → List Delivery
delivery_of (Some i) (Receives from cargo) = record { sender = from; receiver = i; cargo = cargo } ∷ []
delivery_of who other = []

abbrev pub deliveries_in : List Line → List Delivery
deliveries_in lines = flat_map (λ (l : Line). delivery_of l.agent l.fact) lines

-- all lines of a run
abbrev pub lines_of : Option (List ℕ) → Csp → List ℕ → Run → List Line
lines_of order p choices r = lines_so_far order p choices r.net.deliveries

-- the deliveries of a run can be read off its lines
abbrev pub DeliveriesAreTold : Option (List ℕ) → Csp → Type 0
DeliveriesAreTold order p = (most : ℕ) (choices : List ℕ) → deliveries_in (lines_of order p choices (whole p most choices)) ≡ deliveries_told order (whole p most choices).trace
