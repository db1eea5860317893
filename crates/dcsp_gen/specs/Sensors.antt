-- Tracking by sensors: each target wants three sensors that see it and hear each other, and no sensor tracks two targets.
-- The sensors of a square are numbered from 1 on, row after row.
use Rattle.std.specs.Prelude.{ℕ, ◌+◌, ◌-◌, ◌*◌, ◌/◌, ◌%◌, Bool, true, ◌&&◌, nat_le, List, [], ◌∷◌, ◌++◌, flat_map, filter, codes, decimal, length}
use Rattle.std.specs.List.{concat, range_with_len}
use Rattle.dcsp_gen.specs.Binary.{entries}
use Rattle.dcsp_gen.specs.Lines.{solve_line}
use Rattle.dcsp_gen.specs.Lists.{list_of, pairs_in, domain}
use Rattle.dcsp_gen.specs.Problems.{pairs}
use Rattle.dcsp_gen.specs.Selection.{selections}

-- whether two numbers, of rows or of columns, differ by at most 2
abbrev pub is_near : ℕ → ℕ → Bool
is_near first second = nat_le ((first - second) + (second - first)) 2

-- whether two sensors hear each other: neither their rows nor their columns differ by more than 2
abbrev pub hear : ℕ → ℕ × ℕ → Bool
hear side (first, second) = is_near ((first - 1) / side) ((second - 1) / side) && is_near ((first - 1) % side) ((second - 1) % side)

-- the pairs of these sensors that hear each other
abbrev pub hearing : ℕ → List ℕ → List (ℕ × ℕ)
hearing side sensors = filter (hear side) (pairs_in sensors)

-- a target has three slots
abbrev pub slots : List ℕ
slots = range_with_len 1 3

-- var {SENSORS}: tTARGETsSLOT :: output_var;
abbrev pub slot_line : List ℕ → ℕ → ℕ → List ℕ
slot_line sensors target slot = domain sensors ++ concat (codes ": t" ∷ decimal target ∷ codes "s" ∷ decimal slot ∷ codes " :: output_var;\n" ∷ [])

-- the slots of a target, for the sensors that see it
abbrev pub slot_lines : List (List ℕ) → ℕ → List ℕ
slot_lines seen target = flat_map (slot_line (list_of seen target) target) slots

-- constraint int_lt(tTARGETsFIRST,tTARGETsSECOND);
abbrev pub rise_line : ℕ → ℕ → ℕ → List ℕ
rise_line target first second = concat (
    codes "constraint int_lt(t" ∷ decimal target ∷ codes "s" ∷ decimal first ∷ codes ",t" ∷ decimal target ∷ codes "s" ∷ decimal second ∷ codes ");\n" ∷ [])

-- the sensors of a target are in rising order
abbrev pub rise_lines : ℕ → List ℕ
rise_lines target = rise_line target 1 2 ++ rise_line target 2 3

-- constraint fzn_table_int([tTARGETsFIRST,tTARGETsSECOND],[ENTRIES]);
abbrev pub hearing_line : ℕ → List (ℕ × ℕ) → ℕ × ℕ → List ℕ
hearing_line target rows (first, second) = concat (
    codes "constraint fzn_table_int([t" ∷ decimal target ∷ codes "s" ∷ decimal first ∷ codes ",t" ∷ decimal target ∷ codes "s" ∷ decimal second
    ∷ codes "],[" ∷ entries rows ∷ codes "]);\n" ∷ [])

-- each two of the sensors of a target hear each other
abbrev pub hearing_lines : ℕ → List (List ℕ) → ℕ → List ℕ
hearing_lines side seen target = flat_map (hearing_line target (hearing side (list_of seen target))) (pairs 3)

-- what is wanted of the sensors of a target
abbrev pub target_lines : ℕ → List (List ℕ) → ℕ → List ℕ
target_lines side seen target = rise_lines target ++ hearing_lines side seen target

-- constraint int_ne(tFIRSTsSLOT,tSECONDsOTHER);
abbrev pub share_line : ℕ × ℕ → ℕ → ℕ → List ℕ
share_line (first, second) slot other = concat (
    codes "constraint int_ne(t" ∷ decimal first ∷ codes "s" ∷ decimal slot ∷ codes ",t" ∷ decimal second ∷ codes "s" ∷ decimal other ∷ codes ");\n" ∷ [])

-- two targets share no sensor
abbrev pub share_lines : ℕ × ℕ → List ℕ
share_lines targets = flat_map (λ slot. flat_map (share_line targets slot) slots) slots

-- the problem of these targets, each with the sensors that see it, on a square of so many rows
abbrev pub tracking : ℕ → List (List ℕ) → List ℕ
tracking side seen =
    let targets = range_with_len 1 (length seen) in
    flat_map (slot_lines seen) targets ++ flat_map (target_lines side seen) targets ++ flat_map share_lines (pairs (length seen)) ++ solve_line

-- so many targets, each seen by so many sensors of the square
abbrev pub sensors_text : (side targets sees : ℕ) → (ℕ → ℕ) → List ℕ
sensors_text side targets sees words = tracking side (selections true words sees (side * side) targets)

-- a target is seen by at most all sensors
abbrev pub sensors_fit : (side sees : ℕ) → Bool
sensors_fit side sees = nat_le sees (side * side)
