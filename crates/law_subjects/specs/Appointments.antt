-- What the solutions of meeting and sensor problems are: hours of meetings, and sensors of targets. People, meetings, hours, targets and sensors are numbers from 1 on.
use Rattle.std.specs.Prelude.{◌≡◌, ◌↔◌, ℕ, ◌<◌, ◌≤◌, true, pos, List, length, get_or}
use Rattle.dcsp_defs.specs.Words.{In}
use Rattle.dcsp_defs.specs.Csp.{Assignment, IsSolution}
use Rattle.dcsp_rule.specs.Problems.{csp_of}
use Rattle.dcsp_gen.specs.Lists.{list_of}
use Rattle.dcsp_gen.specs.Sensors.{hear}
use Rattle.law_subjects.specs.Named.{named_problem}
use Rattle.law_subjects.specs.MeetingLines.{copies, free_hours, meeting_people, meetings_lines, MeetingSizesFit}
use Rattle.law_subjects.specs.SensorLines.{target_slots, seeing, sensors_lines, SensorSizesFit}

-- ---- meetings

-- the person is in the meeting, where these are the people of the meetings
pub record IsInMeeting (groups : List (List ℕ)) (meeting person : ℕ) : Type 0 where
  pub low : 1 ≤ meeting
  pub high : meeting ≤ length groups
  pub member : In person (list_of groups meeting)

-- an hour for each meeting, where people have these free hours: all people of a meeting are free then, and no person has two different meetings at one hour
pub record IsTimetable (free groups : List (List ℕ)) (hour : ℕ → ℕ) : Type 0 where
  pub free_then : (meeting person : ℕ) → IsInMeeting groups meeting person → In (hour meeting) (list_of free person)
  pub apart : (person one two : ℕ) → IsInMeeting groups one person → IsInMeeting groups two person → hour one ≡ hour two → one ≡ two

-- each copy of a meeting, of which there is one for each of its people, has the meeting's hour
abbrev pub CopiesHave : List (List ℕ) → Assignment → (ℕ → ℕ) → Type 0
CopiesHave groups values hour = (place : ℕ) → place < length (copies groups) → values place ≡ pos (hour (get_or (copies groups) place (0, 0)).0)

-- the values are the hours of a timetable, told to each copy
pub record TellsTimetable (free groups : List (List ℕ)) (values : Assignment) : Type 0 where
  pub hour : ℕ → ℕ
  pub told : CopiesHave groups values hour
  pub timetable : IsTimetable free groups hour

-- The solutions of a meeting problem are the timetables of the calendars and meetings that its words make.
abbrev pub MeetingsAreTimetables : Type 0
MeetingsAreTimetables = (people meetings each hours busy : ℕ) (words : ℕ → ℕ) → MeetingSizesFit people meetings each hours busy → (values : Assignment)
    → IsSolution (csp_of (named_problem (meetings_lines people meetings each hours busy words))) values
    ↔ TellsTimetable (free_hours people hours busy words) (meeting_people people meetings each hours words) values

-- ---- sensors

-- the target is one of so many, and the slot one of its three
pub record IsTargetSlot (targets target slot : ℕ) : Type 0 where
  pub low : 1 ≤ target
  pub high : target ≤ targets
  pub first : 1 ≤ slot
  pub last : slot ≤ 3

-- three sensors for each target, in rising order: each sees the target, each two of them hear each other, and no sensor tracks two targets
pub record IsTracking (side : ℕ) (seen : List (List ℕ)) (sensor : ℕ → ℕ → ℕ) : Type 0 where
  pub sees : (target slot : ℕ) → IsTargetSlot (length seen) target slot → In (sensor target slot) (list_of seen target)
  pub rising : (target first second : ℕ) → IsTargetSlot (length seen) target first → IsTargetSlot (length seen) target second → first < second → sensor target first < sensor target second
  pub hearing : (target first second : ℕ) → IsTargetSlot (length seen) target first → IsTargetSlot (length seen) target second → first < second
      → hear side (sensor target first, sensor target second) ≡ true
  pub apart : (one two first second : ℕ) → IsTargetSlot (length seen) one first → IsTargetSlot (length seen) two second → sensor one first ≡ sensor two second → one ≡ two

-- each slot of each target has its sensor
abbrev pub SlotsHave : ℕ → Assignment → (ℕ → ℕ → ℕ) → Type 0
SlotsHave targets values sensor =
    (place : ℕ) → place < length (target_slots targets) → values place ≡ pos (sensor (get_or (target_slots targets) place (0, 0)).0 (get_or (target_slots targets) place (0, 0)).1)

-- the values are the sensors that track the targets
pub record TellsTracking (side : ℕ) (seen : List (List ℕ)) (values : Assignment) : Type 0 where
  pub sensor : ℕ → ℕ → ℕ
  pub told : SlotsHave (length seen) values sensor
  pub tracking : IsTracking side seen sensor

-- The solutions of a sensor problem track the targets, each of which is seen by the sensors that its words choose.
abbrev pub SensorsTrackTargets : Type 0
SensorsTrackTargets = (side targets sees : ℕ) (words : ℕ → ℕ) → SensorSizesFit side targets sees → (values : Assignment)
    → IsSolution (csp_of (named_problem (sensors_lines side targets sees words))) values ↔ TellsTracking side (seeing side targets sees words) values
