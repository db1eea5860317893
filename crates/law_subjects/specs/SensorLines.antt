-- Sensor problems as lines, and that each text of `gen sensors` is accepted and has the problem of its lines.
use Rattle.std.specs.Prelude.{◌≡◌, ℕ, ◌*◌, ◌≤◌, true, List, ◌∷◌, ◌++◌, map, flat_map, length, codes, decimal, Ok}
use Rattle.std.specs.List.{range_with_len}
use Rattle.dcsp_gen.specs.Lists.{list_of}
use Rattle.dcsp_gen.specs.Problems.{pairs}
use Rattle.dcsp_gen.specs.Sensors.{hearing, slots, tracking, sensors_text}
use Rattle.dcsp_gen.specs.Selection.{selections}
use Rattle.fzn_model.specs.Models.{longest_text, Answers}
use Rattle.law_subjects.specs.Named.{NamedLine, Compare, Allow, Less, Different, Choice, named_lines, named_lines_text, named_problem}

-- a target with each of its slots
abbrev pub slots_of : ℕ → List (ℕ × ℕ)
slots_of target = map (λ slot. (target, slot)) slots

-- those of so many targets
abbrev pub target_slots : ℕ → List (ℕ × ℕ)
target_slots targets = flat_map slots_of (range_with_len 1 targets)

-- tTARGETsSLOT
abbrev pub slot_name : ℕ × ℕ → List ℕ
slot_name slot = codes "t" ++ (decimal slot.0 ++ (codes "s" ++ decimal slot.1))

-- a slot is for one of the sensors that see its target
abbrev pub slot_choice : List (List ℕ) → ℕ × ℕ → Choice
slot_choice seen slot = (list_of seen slot.0, slot_name slot)

-- the sensor of one slot is less than that of another
abbrev pub rise : (target first second : ℕ) → NamedLine
rise target first second = Compare Less (slot_name (target, first)) (slot_name (target, second))

-- the sensors of two slots hear each other
abbrev pub hears : ℕ → List (ℕ × ℕ) → ℕ × ℕ → NamedLine
hears target rows pair = Allow (slot_name (target, pair.0)) (slot_name (target, pair.1)) rows

-- what is wanted of the sensors of a target
abbrev pub target_constraints : ℕ → List (List ℕ) → ℕ → List NamedLine
target_constraints side seen target = rise target 1 2 ∷ rise target 2 3 ∷ map (hears target (hearing side (list_of seen target))) (pairs 3)

-- two targets share no sensor
abbrev pub share : ℕ × ℕ → ℕ → ℕ → NamedLine
share targets slot other = Compare Different (slot_name (targets.0, slot)) (slot_name (targets.1, other))

-- no two slots of two targets are equal
abbrev pub shares : ℕ × ℕ → List NamedLine
shares targets = flat_map (λ slot. map (share targets slot) slots) slots

-- the variables of targets that these sensors see
abbrev pub tracking_choices : List (List ℕ) → List Choice
tracking_choices seen = map (slot_choice seen) (target_slots (length seen))

-- their constraints
abbrev pub tracking_constraints : ℕ → List (List ℕ) → List NamedLine
tracking_constraints side seen = flat_map (target_constraints side seen) (range_with_len 1 (length seen)) ++ flat_map shares (pairs (length seen))

-- the lines of targets on a square of so many rows
abbrev pub tracking_lines : ℕ → List (List ℕ) → List NamedLine
tracking_lines side seen = named_lines (tracking_choices seen) (tracking_constraints side seen)

-- the sensors that see each of so many targets
abbrev pub seeing : (side targets sees : ℕ) → (ℕ → ℕ) → List (List ℕ)
seeing side targets sees words = selections true words sees (side * side) targets

-- the lines of so many targets, each seen by so many sensors of the square
abbrev pub sensors_lines : (side targets sees : ℕ) → (ℕ → ℕ) → List NamedLine
sensors_lines side targets sees words = tracking_lines side (seeing side targets sees words)

-- the numbers of a sensor problem are within their ranges, and go together
pub record SensorSizesFit (side targets sees : ℕ) : Type 0 where
  pub some_rows : 2 ≤ side
  pub few_rows : side ≤ 16
  pub some_targets : 1 ≤ targets
  pub few_targets : targets ≤ 32
  pub some_sensors : 3 ≤ sees
  pub enough_sensors : sees ≤ side * side

-- The text of a sensor problem is that of its lines, whatever sees the targets.
abbrev pub SensorTextsAreLines : Type 0
SensorTextsAreLines = (side : ℕ) (seen : List (List ℕ)) → tracking side seen ≡ named_lines_text (tracking_lines side seen)

-- It has the problem of its lines, for every words.
abbrev pub SensorsHaveProblem : Type 0
SensorsHaveProblem = (side targets sees : ℕ) (words : ℕ → ℕ) → SensorSizesFit side targets sees
    → Answers (sensors_text side targets sees words) (Ok (named_problem (sensors_lines side targets sees words)))

-- It is not too long for a model.
abbrev pub SensorsAreShort : Type 0
SensorsAreShort = (side targets sees : ℕ) (words : ℕ → ℕ) → SensorSizesFit side targets sees → length (sensors_text side targets sees words) ≤ longest_text
