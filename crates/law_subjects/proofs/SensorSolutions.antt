-- The solutions of sensor problems track the targets.
use Rattle.std.proofs.Common.{◌≡◌, ◌↔◌, ℕ, ◌<◌, ◌≤◌, inl, inr, true, List, map, flat_map, length, sym, ap, ◌∙◌, subst, arith}
use Rattle.std.specs.Prelude.{ℤ, pos, unsigned_abs, ◌<ℤ◌}
use Rattle.std.specs.List.{range_with_len, AllByRecursion}
use Rattle.std.proofs.lemmas.Bool.{cases_lt}
use Rattle.std.proofs.lemmas.Bool.Decides.{eqb_tells}
use Rattle.std.proofs.lemmas.Int.{ints}
use Rattle.dcsp_defs.specs.Words.{In}
use Rattle.dcsp_defs.specs.Csp.{Assignment, IsSolution}
use Rattle.dcsp_rule.specs.Problems.{csp_of}
use Rattle.dcsp_gen.specs.Lists.{list_of, pairs_in}
use Rattle.dcsp_gen.specs.Problems.{pairs}
use Rattle.dcsp_gen.specs.Sensors.{hear, hearing, slots}
use Rattle.law_subjects.specs.Named.{NamedLine, named_problem, names_of, number_of}
use Rattle.law_subjects.specs.SensorLines.{slots_of, target_slots, slot_name, slot_choice, rise, hears, target_constraints, share, shares, tracking_choices, tracking_constraints, tracking_lines, seeing}
use Rattle.law_subjects.specs.Appointments.{IsTargetSlot, TellsTracking, SensorsTrackTargets}
use Rattle.law_subjects.proofs.MeetingSolutions.{all_parts, in_range_of}
use Rattle.law_subjects.proofs.Folded.{listed_all}
use Rattle.law_subjects.proofs.GeneratedSolutions.{range_all, map_all, pairs_each, each_pair}
use Rattle.law_subjects.proofs.Hearing.{Rises}
use Rattle.law_subjects.proofs.Lists.{all_append, all_map, all_flat_map, all_range}
use Rattle.law_subjects.proofs.NamedSolutions.{value_named, HoldsNamed, allowed, IsOneOf, key_at, value_at, stands, named_solutions, in_filter, of_pairs}
use Rattle.law_subjects.proofs.PairNames.{all_in, in_grid_of}
use Rattle.law_subjects.proofs.RandomBinary.{in_get, pos_inside}
use Rattle.law_subjects.proofs.Solutions.{flat_map_all}
use Rattle.law_subjects.proofs.SensorLines.{AreSensors, slots_apart, tracking_within, few_seeing, are_seeing}

-- numbers that are less as integers
less_inside : (x y : ℕ) → pos x <ℤ pos y → x < y
less_inside x y h = omega (arith, ints)

-- and the other way round
less_outside : (x y : ℕ) → x < y → pos x <ℤ pos y
less_outside x y h = omega (arith, ints)

module _ (side : ℕ) (seen : List (List ℕ)) (some : 0 < side) (few : length seen ≤ 32) (sensors : AllByRecursion AreSensors seen) (values : Assignment) where
  -- the value of a slot
  abbrev value_of_slot : ℕ → ℕ → ℤ
  value_of_slot target slot = value_named (names_of (tracking_choices seen)) values (slot_name (target, slot))

  -- what a line says of the values
  abbrev Says : NamedLine → Type 0
  Says = HoldsNamed (names_of (tracking_choices seen)) values

  -- one of the slots
  abbrev IsSlotOf : ℕ → ℕ → Type 0
  IsSlotOf target slot = IsTargetSlot (length seen) target slot

  -- the sensors that see a target rise
  rising : (target : ℕ) → Rises (list_of seen target)
  rising target = (listed_all AreSensors seen target sensors (omega arith, tt, tt)).1

  -- ---- slots and their places

  -- each slot has a variable
  slot_in : (target slot : ℕ) → IsSlotOf target slot → In (target, slot) (target_slots (length seen))
  slot_in target slot h =
      let high = h.high in
      let last = h.last in
      in_grid_of (λ k. slots) 1 (length seen) target slot h.low (omega (arith, high)) (in_range_of 1 3 slot h.first (omega (arith, last)))

  -- and each variable is a slot's
  are_slots : AllByRecursion (λ (slot : ℕ × ℕ). IsSlotOf slot.0 slot.1) (target_slots (length seen))
  are_slots =
      all_flat_map (λ (slot : ℕ × ℕ). IsSlotOf slot.0 slot.1) slots_of (range_with_len 1 (length seen)) (
      all_range (λ target. AllByRecursion (λ (slot : ℕ × ℕ). IsSlotOf slot.0 slot.1) (slots_of target)) 1 (length seen) (λ target low high.
      all_map (λ (slot : ℕ × ℕ). IsSlotOf slot.0 slot.1) (λ slot. (target, slot)) slots
      (all_range (λ slot. IsSlotOf target slot) 1 3 (λ slot l r. record { low = low; high = omega (arith, high); first = l; last = omega (arith, r) }))))

  -- the slot at a place
  at_place : (k : ℕ) → k < length (target_slots (length seen)) → IsSlotOf (key_at (target_slots (length seen)) k).0 (key_at (target_slots (length seen)) k).1
  at_place k l = all_in (λ (slot : ℕ × ℕ). IsSlotOf slot.0 slot.1) (target_slots (length seen)) are_slots (key_at (target_slots (length seen)) k) (in_get (target_slots (length seen)) k l)

  -- another slot of the same target
  other_slot : (target slot other : ℕ) → IsSlotOf target slot → 1 ≤ other → other ≤ 3 → IsSlotOf target other
  other_slot target slot other h l r = record { low = h.low; high = h.high; first = l; last = r }

  -- ---- from values to sensors

  module _ (domains : (k : ℕ) → k < length (target_slots (length seen)) → IsOneOf (list_of seen (key_at (target_slots (length seen)) k).0) (values k)) (constraints : AllByRecursion Says (tracking_constraints side seen)) where
    -- a slot's value is a sensor that sees its target
    slot_value : (target slot : ℕ) → IsSlotOf target slot → IsOneOf (list_of seen target) (value_of_slot target slot)
    slot_value target slot h =
        let at = stands (slot_choice seen) (target_slots (length seen)) (slots_apart side seen some few sensors) values (target, slot) (slot_in target slot h) in
        subst (λ (v : ℤ). IsOneOf (list_of seen target) v) (sym at.value_is) (subst (λ (k : ℕ × ℕ). IsOneOf (list_of seen k.0) (values at.place)) (sym at.key_is) (domains at.place at.below))

    -- the sensor of a slot
    sensor_of : ℕ → ℕ → ℕ
    sensor_of target slot = unsigned_abs (value_of_slot target slot)

    -- a slot has its sensor, which sees the target
    record HasSensor (target slot : ℕ) : Type 0 where
      slot_is : value_of_slot target slot ≡ pos (sensor_of target slot)
      seen_is : In (sensor_of target slot) (list_of seen target)

    -- each slot is so
    has_sensor : (target slot : ℕ) → IsSlotOf target slot → HasSensor target slot
    unfolding sensor_of
    has_sensor target slot h =
        let one = slot_value target slot h in
        let same : unsigned_abs (value_of_slot target slot) ≡ one.number = ap unsigned_abs one.value_is in
        record { slot_is = one.value_is ∙ ap (λ (k : ℕ). pos k) (sym same); seen_is = subst (λ (k : ℕ). In k (list_of seen target)) (sym same) one.among }

    -- what is wanted of each target, and of each two
    both_parts : AllByRecursion Says (flat_map (target_constraints side seen) (range_with_len 1 (length seen))) × AllByRecursion Says (flat_map shares (pairs (length seen)))
    both_parts = all_parts Says (flat_map (target_constraints side seen) (range_with_len 1 (length seen))) (flat_map shares (pairs (length seen))) constraints

    -- of a target
    of_target : (target : ℕ) → 1 ≤ target → target ≤ length seen → AllByRecursion Says (target_constraints side seen target)
    of_target target low high =
        range_all (λ k. AllByRecursion Says (target_constraints side seen k)) 1 (length seen) (flat_map_all Says (target_constraints side seen) (range_with_len 1 (length seen)) both_parts.0) target low (omega (arith, high))

    -- the sensors of two slots, as one is less than the other
    rises_to : (target first second : ℕ) → IsSlotOf target first → IsSlotOf target second → Says (rise target first second) → sensor_of target first < sensor_of target second
    rises_to target first second h k less =
        let a = (has_sensor target first h).slot_is in
        let b = (has_sensor target second k).slot_is in
        less_inside (sensor_of target first) (sensor_of target second) (subst (λ (v : ℤ). pos (sensor_of target first) <ℤ v) b (subst (λ (v : ℤ). v <ℤ value_of_slot target second) a less))

    -- the sensors of two slots that hear each other
    hears_other : (target first second : ℕ) → IsSlotOf target first → IsSlotOf target second → Says (hears target (hearing side (list_of seen target)) (first, second)) → hear side (sensor_of target first, sensor_of target second) ≡ true
    hears_other target first second h k allows =
        let names = names_of (tracking_choices seen) in
        let row = (allowed values (number_of names (slot_name (target, first))) (number_of names (slot_name (target, second))) (sensor_of target first) (sensor_of target second) (hearing side (list_of seen target))
        (has_sensor target first h).slot_is (has_sensor target second k).slot_is).0 allows in
        ((in_filter (hear side) (pairs_in (list_of seen target)) (sensor_of target first, sensor_of target second)).0 row).1

    -- what is wanted of each two slots of a target
    record AreTwo (target first second : ℕ) : Type 0 where
      rises : sensor_of target first < sensor_of target second
      heard : hear side (sensor_of target first, sensor_of target second) ≡ true

    -- each two slots, the lesser first
    each_two : (target slot : ℕ) → IsSlotOf target slot → (first second : ℕ) → 1 ≤ first → first < second → second ≤ 3 → AreTwo target first second
    each_two target slot h =
        let all = of_target target h.low h.high in
        let one = other_slot target slot 1 h (omega arith) (omega arith) in
        let two = other_slot target slot 2 h (omega arith) (omega arith) in
        let three = other_slot target slot 3 h (omega arith) (omega arith) in
        let low = rises_to target 1 2 one two all.0 in
        let high = rises_to target 2 3 two three all.1.0 in
        pairs_each 3 (λ (pair : ℕ × ℕ). AreTwo target pair.0 pair.1) (
          record { rises = low; heard = hears_other target 1 2 one two all.1.1.0 },
          (
            record { rises = omega (arith, low, high); heard = hears_other target 1 3 one three all.1.1.1.0 },
            (record { rises = high; heard = hears_other target 2 3 two three all.1.1.1.1.0 }, tt),
          ),
        )

    -- two targets have no sensor in common
    apart_sensors : (one two first second : ℕ) → one < two → IsSlotOf one first → IsSlotOf two second → sensor_of one first ≡ sensor_of two second → ⊥
    apart_sensors one two first second less h k same =
        let low = h.first in
        let high = h.last in
        let least = k.first in
        let most = k.last in
        let pair : AllByRecursion Says (shares (one, two)) = pairs_each (length seen) (λ targets. AllByRecursion Says (shares targets)) (flat_map_all Says shares (pairs (length seen)) both_parts.1) one two h.low less k.high in
        let row = all_in (λ slot. AllByRecursion Says (map (share (one, two) slot) slots)) slots (flat_map_all Says (λ slot. map (share (one, two) slot) slots) slots pair) first (in_range_of 1 3 first low (omega (arith, high))) in
        all_in (λ other. Says (share (one, two) first other)) slots (map_all Says (share (one, two) first) slots row) second (in_range_of 1 3 second least (omega (arith, most)))
        ((has_sensor one first h).slot_is ∙ ap (λ (n : ℕ). pos n) same ∙ sym (has_sensor two second k).slot_is)

    -- The values track the targets.
    to_tracking : TellsTracking side seen values
    to_tracking = record {
      sensor = sensor_of;
      told = λ place l.
          let key = key_at (target_slots (length seen)) place in
          sym (value_at (slot_choice seen) (target_slots (length seen)) (slots_apart side seen some few sensors) values place l) ∙ (has_sensor key.0 key.1 (at_place place l)).slot_is;
      tracking = record {
        sees = λ target slot h. (has_sensor target slot h).seen_is;
        rising = λ target first second h k less. (each_two target first h first second h.first less k.last).rises;
        hearing = λ target first second h k less. (each_two target first h first second h.first less k.last).heard;
        apart = λ one two first second h k same. elim (eqb_tells one two) [
          | inl is ↦ is.1
          | inr other ↦
              let differ = other.1 in
              elim (cases_lt one two) [
                | inl less ↦ absurd (apart_sensors one two first second less h k same)
                | inr more ↦ absurd (apart_sensors two one second first (omega (arith, differ, more)) k h (sym same))
              ]
        ];
      };
    }

  -- ---- from sensors to values

  module _ (tells : TellsTracking side seen values) where
    -- a slot has its sensor
    told_slot : (target slot : ℕ) → IsSlotOf target slot → value_of_slot target slot ≡ pos (tells.sensor target slot)
    told_slot target slot h =
        let at = stands (slot_choice seen) (target_slots (length seen)) (slots_apart side seen some few sensors) values (target, slot) (slot_in target slot h) in
        at.value_is ∙ tells.told at.place at.below ∙ ap (λ (k : ℕ × ℕ). pos (tells.sensor k.0 k.1)) (sym at.key_is)

    -- which sees its target
    to_domains : (k : ℕ) → k < length (target_slots (length seen)) → IsOneOf (list_of seen (key_at (target_slots (length seen)) k).0) (values k)
    to_domains k l =
        let key = key_at (target_slots (length seen)) k in
        record { number = tells.sensor key.0 key.1; among = tells.tracking.sees key.0 key.1 (at_place k l); value_is = tells.told k l }

    -- the sensors of two slots rise
    to_rise : (target first second : ℕ) → IsSlotOf target first → IsSlotOf target second → first < second → Says (rise target first second)
    to_rise target first second h k less =
        let a = told_slot target first h in
        let b = told_slot target second k in
        let more = less_outside (tells.sensor target first) (tells.sensor target second) (tells.tracking.rising target first second h k less) in
        subst (λ (v : ℤ). v <ℤ value_of_slot target second) (sym a) (subst (λ (v : ℤ). pos (tells.sensor target first) <ℤ v) (sym b) more)

    -- and hear each other
    to_hears : (target first second : ℕ) → IsSlotOf target first → IsSlotOf target second → first < second → Says (hears target (hearing side (list_of seen target)) (first, second))
    to_hears target first second h k less =
        let names = names_of (tracking_choices seen) in
        let x = tells.sensor target first in
        let y = tells.sensor target second in
        let two = of_pairs (list_of seen target) (rising target) x y (tells.tracking.sees target first h) (tells.tracking.sees target second k) (tells.tracking.rising target first second h k less) in
        (allowed values (number_of names (slot_name (target, first))) (number_of names (slot_name (target, second))) x y (hearing side (list_of seen target)) (told_slot target first h) (told_slot target second k)).1
        ((in_filter (hear side) (pairs_in (list_of seen target)) (x, y)).1 (two, tells.tracking.hearing target first second h k less))

    -- for all targets
    to_targets : AllByRecursion Says (flat_map (target_constraints side seen) (range_with_len 1 (length seen)))
    to_targets =
        all_flat_map Says (target_constraints side seen) (range_with_len 1 (length seen)) (
        all_range (λ target. AllByRecursion Says (target_constraints side seen target)) 1 (length seen) (λ target low high.
        let one : IsSlotOf target 1 = record { low = low; high = omega (arith, high); first = omega arith; last = omega arith } in
        let two : IsSlotOf target 2 = record { low = low; high = omega (arith, high); first = omega arith; last = omega arith } in
        let three : IsSlotOf target 3 = record { low = low; high = omega (arith, high); first = omega arith; last = omega arith } in
        (to_rise target 1 2 one two (omega arith), (to_rise target 2 3 two three (omega arith), (to_hears target 1 2 one two (omega arith), (to_hears target 1 3 one three (omega arith), (to_hears target 2 3 two three (omega arith), tt)))))))

    -- slots of two targets differ
    no_share : (one two first second : ℕ) → one < two → IsSlotOf one first → IsSlotOf two second → Says (share (one, two) first second)
    no_share one two first second less h k same =
        let equal = pos_inside (tells.sensor one first) (tells.sensor two second) (sym (told_slot one first h) ∙ same ∙ told_slot two second k) in
        let is = tells.tracking.apart one two first second h k equal in
        absurd (omega (arith, is, less))

    -- for each two targets
    to_shares : AllByRecursion Says (flat_map shares (pairs (length seen)))
    to_shares =
        all_flat_map Says shares (pairs (length seen)) (
        each_pair (length seen) (λ targets. AllByRecursion Says (shares targets)) (λ one two low less high.
        all_flat_map Says (λ slot. map (share (one, two) slot) slots) slots (
        all_range (λ slot. AllByRecursion Says (map (share (one, two) slot) slots)) 1 3 (λ first l r.
        all_map Says (share (one, two) first) slots (
        all_range (λ other. Says (share (one, two) first other)) 1 3 (λ second m s.
        no_share one two first second less
        (record { low = low; high = omega (arith, less, high); first = l; last = omega (arith, r) })
        (record { low = omega (arith, low, less); high = high; first = m; last = omega (arith, s) })))))))

  -- The solutions of a sensor problem track its targets.
  tracking_solutions : IsSolution (csp_of (named_problem (tracking_lines side seen))) values ↔ TellsTracking side seen values
  tracking_solutions =
      let both = named_solutions (slot_choice seen) (target_slots (length seen)) (tracking_constraints side seen) (tracking_within side seen some few sensors) values in (
        λ is. let h = both.0 is in to_tracking h.0 h.1,
        λ tells. both.1 (to_domains tells, all_append Says (flat_map (target_constraints side seen) (range_with_len 1 (length seen))) (flat_map shares (pairs (length seen))) (to_targets tells) (to_shares tells)),
      )

-- So do those of the problems that words make.
pub sensors_track_targets : SensorsTrackTargets
sensors_track_targets side targets sees words sizes values =
    let rows = sizes.some_rows in
    tracking_solutions side (seeing side targets sees words) (omega (arith, rows)) (few_seeing side targets sees words sizes.few_targets) (are_seeing side targets sees words sizes.few_rows) values
