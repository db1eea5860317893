-- What `story MODEL SCHEDULE FILE` promises, with `--order FILE` or without it.
use Rattle.std.specs.Prelude.{ℕ, ◌^◌, List, [], ◌∷◌, ◌++◌, Option, codes, decimal, flat_map, if◌then◌else◌, slice_get}
use Rattle.dcsp_defs.specs.Csp.{Csp}
use Rattle.dcsp_rule.specs.Problems.{Contents, csp_of}
use Rattle.dcsp_order.specs.Told.{ordered}
use Rattle.dcsp_script.specs.Scripts.{Write, Create, Append, Put}
use Rattle.abt_defs.specs.Network.{is_empty}
use Rattle.abt_defs.specs.Runs.{Run, whole}
use Rattle.abt_network.specs.declared.Standing.{Standing}
use Rattle.abt_network.specs.declared.Standing.TheVariants.{Open, Quiet, Refuted}
use Rattle.abt_network.specs.Standing.{standing_of}
use Rattle.abt_session.specs.Answers.{first_answers}
use Rattle.dcsp_script.specs.declared.status.Status.{Status}
use Rattle.dcsp_script.specs.declared.status.Status.TheVariants.{Good, Unfinished}
use Rattle.dcsp_script.specs.Promises.{Promise}
use Rattle.abt_input.specs.Kinds.{a_model, a_schedule}
use Rattle.abt_input.specs.Plans.{Plan, Answer, Read, order_then, promise_by, under_order}
use Rattle.abt_story.specs.Facts.{Line}
use Rattle.abt_story.specs.Telling.{events}
use Rattle.abt_story.specs.Texts.{lines_text}

-- ---- the run

-- the most deliveries of a run
abbrev pub most_told : ℕ
most_told = 2 ^ 40

-- the choices that a run takes from a schedule's
abbrev pub listed : List ℕ → List ℕ
listed choices = first_answers most_told (λ k. slice_get choices k)

-- the run under them
unfoldable pub told_run : Csp → List ℕ → Run
told_run p choices = whole p most_told (listed choices)

-- its events, each with its lines: the start, and the deliveries in order; where it is a run under an order, agents are told by the order's numbers
unfoldable pub told_events : Option (List ℕ) → Csp → List ℕ → List (List Line)
told_events order p choices = events order p (listed choices) (told_run p choices).net.deliveries

-- how the network stands in which it ends
abbrev pub told_end : Csp → List ℕ → Standing
told_end p choices = standing_of p (told_run p choices).net

-- ---- the texts

-- how a run ended, in a word: open where a message is in transit
abbrev pub end_word : Standing → List ℕ
end_word Quiet = codes "solved"
end_word Refuted = codes "refuted"
end_word Open = codes "open"

abbrev pub head : List ℕ
head = codes "story 1\n"

abbrev pub end_line : Standing → List ℕ
end_line end = codes "end " ++ end_word end ++ codes "\n"

-- the story of the run under a schedule's choices
abbrev pub story_text : Option (List ℕ) → Csp → List ℕ → List ℕ
story_text order p choices = head ++ flat_map lines_text (told_events order p choices) ++ end_line (told_end p choices)

-- what is told of the run, as `story solved deliveries 29`
abbrev pub story_line : Standing → ℕ → List ℕ
story_line end deliveries = codes "story " ++ end_word end ++ codes " deliveries " ++ decimal deliveries ++ codes "\n"

-- the status of a run that ended so
abbrev pub status_at : Standing → Status
status_at Quiet = Good
status_at Refuted = Good
status_at Open = Unfinished

-- ---- the writes

-- an append, where there is something
abbrev pub some_write : List ℕ → List ℕ → List Write
some_write file text = if is_empty text then [] else Append file text ∷ []

-- the lines of an event are appended at once
abbrev pub event_write : List ℕ → List Line → List Write
event_write file lines = some_write file (lines_text lines)

-- the last line is appended, and the run's line is put
abbrev pub end_script : List ℕ → Csp → Run → List Write
end_script file p r = Append file (end_line (standing_of p r.net)) ∷ Put (story_line (standing_of p r.net) r.net.deliveries) ∷ []

-- the file is created and begun, each event's lines are appended as it is made, then the last line, and then the run's line is put
abbrev pub story_script : Option (List ℕ) → Contents → List ℕ → List ℕ → List Write
story_script order p choices file =
    Create file ∷ Append file head ∷ (flat_map (event_write file) (told_events order (csp_of p) choices) ++ end_script file (csp_of p) (told_run (csp_of p) choices))

-- the run of this problem under the order is told
abbrev pub told_plan : Option (List ℕ) → Contents → List ℕ → List ℕ → Plan
told_plan order problem choices file =
    let p = ordered order problem in Answer (status_at (told_end (csp_of p) choices)) (story_script order p choices file)

-- the model is read, then the order, where one is named, and then the schedule, and the run under its choices is told
abbrev pub story_plan : Option (List ℕ) → List ℕ → Plan
story_plan order_file file = Read a_model (λ p. under_order order_file p (λ order. Read a_schedule (λ choices. told_plan order p choices file)))

abbrev pub story_promise : List ℕ → Option (List ℕ) → List ℕ → List ℕ → Promise
story_promise model order_file schedule file = promise_by (model ∷ order_then order_file (schedule ∷ [])) (file ∷ []) (story_plan order_file file)
