-- Meeting problems as lines, and that each text of `gen meetings` is accepted and has the problem of its lines.
use Rattle.std.specs.Prelude.{◌≡◌, ℕ, ◌*◌, ◌<◌, ◌≤◌, true, false, List, ◌++◌, map, flat_map, length, codes, decimal, Ok}
use Rattle.std.specs.List.{range_with_len}
use Rattle.dcsp_gen.specs.Lists.{list_of, neighbours, pairs_in}
use Rattle.dcsp_gen.specs.Meetings.{meetings_of, agenda, meetings_text}
use Rattle.dcsp_gen.specs.Selection.{selections, words_after}
use Rattle.fzn_model.specs.Models.{longest_text, Answers}
use Rattle.law_subjects.specs.Named.{NamedLine, Compare, Equal, Different, Choice, named_lines, named_lines_text, named_problem}

-- a meeting with each of its people: the copies of it that they keep
abbrev pub copies_of : List (List ℕ) → ℕ → List (ℕ × ℕ)
copies_of groups meeting = map (λ person. (meeting, person)) (list_of groups meeting)

-- those of all meetings
abbrev pub copies : List (List ℕ) → List (ℕ × ℕ)
copies groups = flat_map (copies_of groups) (range_with_len 1 (length groups))

-- mMEETINGpPERSON
abbrev pub copy_name : ℕ × ℕ → List ℕ
copy_name copy = codes "m" ++ (decimal copy.0 ++ (codes "p" ++ decimal copy.1))

-- a copy is at a free hour of its person
abbrev pub copy_choice : List (List ℕ) → ℕ × ℕ → Choice
copy_choice free copy = (list_of free copy.1, copy_name copy)

-- each copy of a meeting is equal to the next one
abbrev pub tie : ℕ → ℕ × ℕ → NamedLine
tie meeting pair = Compare Equal (copy_name (meeting, pair.0)) (copy_name (meeting, pair.1))

-- those of a meeting
abbrev pub ties : List (List ℕ) → ℕ → List NamedLine
ties groups meeting = map (tie meeting) (neighbours (list_of groups meeting))

-- no two meetings of a person are at one hour
abbrev pub clash : ℕ → ℕ × ℕ → NamedLine
clash person pair = Compare Different (copy_name (pair.0, person)) (copy_name (pair.1, person))

-- those of a person
abbrev pub clashes : List (List ℕ) → ℕ → List NamedLine
clashes groups person = map (clash person) (pairs_in (meetings_of groups person))

-- the variables of people with these free hours, and of meetings of these people
abbrev pub agenda_choices : List (List ℕ) → List (List ℕ) → List Choice
agenda_choices free groups = map (copy_choice free) (copies groups)

-- their constraints
abbrev pub agenda_constraints : List (List ℕ) → List (List ℕ) → List NamedLine
agenda_constraints free groups = flat_map (ties groups) (range_with_len 1 (length groups)) ++ flat_map (clashes groups) (range_with_len 1 (length free))

-- the hours at which each of so many people is free
abbrev pub free_hours : (people hours busy : ℕ) → (ℕ → ℕ) → List (List ℕ)
free_hours people hours busy words = selections false words busy hours people

-- the people of each of so many meetings
abbrev pub meeting_people : (people meetings each hours : ℕ) → (ℕ → ℕ) → List (List ℕ)
meeting_people people meetings each hours words = selections true (words_after (people * hours) words) each people meetings

-- the lines of people with these free hours, and of meetings of these people
abbrev pub agenda_lines : List (List ℕ) → List (List ℕ) → List NamedLine
agenda_lines free groups = named_lines (agenda_choices free groups) (agenda_constraints free groups)

-- the lines of so many people, busy at so many of the hours, and so many meetings of so many people each
abbrev pub meetings_lines : (people meetings each hours busy : ℕ) → (ℕ → ℕ) → List NamedLine
meetings_lines people meetings each hours busy words = agenda_lines (free_hours people hours busy words) (meeting_people people meetings each hours words)

-- the numbers of a meeting problem are within their ranges, and go together
pub record MeetingSizesFit (people meetings each hours busy : ℕ) : Type 0 where
  pub some_people : 1 ≤ people
  pub few_people : people ≤ 64
  pub some_meetings : 1 ≤ meetings
  pub few_meetings : meetings ≤ 64
  pub some_each : 1 ≤ each
  pub enough_people : each ≤ people
  pub few_hours : hours ≤ 100
  pub some_free : busy < hours

-- The text of a meeting problem is that of its lines, whatever the calendars and the meetings.
abbrev pub MeetingTextsAreLines : Type 0
MeetingTextsAreLines = (free groups : List (List ℕ)) → agenda free groups ≡ named_lines_text (agenda_lines free groups)

-- It has the problem of its lines, for every words.
abbrev pub MeetingsHaveProblem : Type 0
MeetingsHaveProblem = (people meetings each hours busy : ℕ) (words : ℕ → ℕ) → MeetingSizesFit people meetings each hours busy
    → Answers (meetings_text people meetings each hours busy words) (Ok (named_problem (meetings_lines people meetings each hours busy words)))

-- It is not too long for a model.
abbrev pub MeetingsAreShort : Type 0
MeetingsAreShort = (people meetings each hours busy : ℕ) (words : ℕ → ℕ) → MeetingSizesFit people meetings each hours busy
    → length (meetings_text people meetings each hours busy words) ≤ longest_text
