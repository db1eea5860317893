-- Lines of a run under an order, in the variables' own numbers. Steps, constraints and values stay as they are.
use Rattle.std.specs.Prelude.{ℕ, List, map, Option, Some, None, IfSome}
use Rattle.std.specs.Option.{option_map}
use Rattle.dcsp_defs.specs.Csp.{Csp, count}
use Rattle.abt_defs.specs.Runs.{Delivery}
use Rattle.dcsp_order.specs.Orders.{IsOrder}
use Rattle.dcsp_order.specs.Told.{number_told}
use Rattle.abt_session.specs.Traces.{delivery_told}
use Rattle.abt_story.specs.Facts.{Fact, Receives, Knows, Forgets, Keeps, Declines, Out, Takes, Makes, Sends, Line}

-- an order, where there is one, is one of the problem's variables
abbrev pub IsOrderOn : Option (List ℕ) → Csp → Type 0
IsOrderOn order p = IfSome order (IsOrder (count p))

-- a fact
abbrev pub fact_told : Option (List ℕ) → Fact → Fact
fact_told order (Receives from cargo) = Receives (number_told order from) cargo
fact_told order (Knows agent value) = Knows (number_told order agent) value
fact_told order (Forgets step) = Forgets step
fact_told order (Keeps step) = Keeps step
fact_told order (Declines step) = Declines step
fact_told order (Out values) = Out values
fact_told order (Takes value) = Takes value
fact_told order (Makes step) = Makes step
fact_told order (Sends to cargo) = Sends (number_told order to) cargo

-- facts
abbrev pub facts_told : Option (List ℕ) → List Fact → List Fact
facts_told None facts = facts
facts_told (Some order) facts = map (fact_told (Some order)) facts

-- a line
abbrev pub line_told : Option (List ℕ) → Line → Line
line_told order l = record { event = l.event; agent = option_map (number_told order) l.agent; fact = fact_told order l.fact }

-- lines
abbrev pub lines_told : Option (List ℕ) → List Line → List Line
lines_told None lines = lines
lines_told (Some order) lines = map (line_told (Some order)) lines

-- deliveries
abbrev pub deliveries_told : Option (List ℕ) → List Delivery → List Delivery
deliveries_told None deliveries = deliveries
deliveries_told (Some order) deliveries = map (delivery_told (Some order)) deliveries
