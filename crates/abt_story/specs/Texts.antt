-- The story of a run as text.
use Rattle.std.specs.Prelude.{ℕ, ◌+◌, List, ◌++◌, codes, decimal, flat_map, Option, Some, None}
use Rattle.std.specs.Fmt.{signed_decimal}
use Rattle.ngd_log.specs.StepText.{reason_text}
use Rattle.abt_session.specs.Traces.{cargo_text}
use Rattle.abt_story.specs.Facts.{RuledOut, Fact, Receives, Knows, Forgets, Keeps, Declines, Out, Takes, Makes, Sends, Line}

-- agents count from 1
abbrev pub agent_text : ℕ → List ℕ
agent_text i = codes "v" ++ decimal (i + 1)

abbrev pub who_text : Option ℕ → List ℕ
who_text None = codes "-"
who_text (Some i) = agent_text i

-- a value with its reason, behind a blank
abbrev pub ruled_text : RuledOut → List ℕ
ruled_text x = codes " " ++ signed_decimal x.value ++ codes ":" ++ reason_text x.reason

-- the line of a fact, which begins so
abbrev pub fact_text : List ℕ → Option ℕ → Fact → List ℕ
fact_text head who (Receives from cargo) = head ++ agent_text from ++ codes ">" ++ who_text who ++ cargo_text cargo ++ codes "\n"
fact_text head who (Knows k value) = head ++ who_text who ++ codes " knows " ++ agent_text k ++ codes "=" ++ signed_decimal value ++ codes "\n"
fact_text head who (Forgets step) = head ++ who_text who ++ codes " forgets n" ++ decimal step ++ codes "\n"
fact_text head who (Keeps step) = head ++ who_text who ++ codes " keeps n" ++ decimal step ++ codes "\n"
fact_text head who (Declines step) = head ++ who_text who ++ codes " refuses n" ++ decimal step ++ codes "\n"
fact_text head who (Out values) = head ++ who_text who ++ codes " out" ++ flat_map ruled_text values ++ codes "\n"
fact_text head who (Takes value) = head ++ who_text who ++ codes " takes " ++ signed_decimal value ++ codes "\n"
fact_text head who (Makes step) = head ++ who_text who ++ codes " makes n" ++ decimal step ++ codes "\n"
fact_text head who (Sends to cargo) = head ++ who_text who ++ codes " sends " ++ agent_text to ++ cargo_text cargo ++ codes "\n"

-- a line begins with the number of its event
abbrev pub line_text : Line → List ℕ
line_text l = fact_text (decimal l.event ++ codes " ") l.agent l.fact

abbrev pub lines_text : List Line → List ℕ
lines_text all = flat_map line_text all

-- facts of an agent in an event
abbrev pub facts_text : ℕ → ℕ → List Fact → List ℕ
facts_text event i all = flat_map (λ f. line_text (record { event = event; agent = Some i; fact = f })) all
