-- Texts of sensor problems have the problems of their lines.
use Rattle.std.proofs.Common.{◌≡◌, ℕ, suc, ◌+◌, ◌*◌, ◌<◌, ◌≤◌, ◌^◌, inl, inr, Bool, true, false, List, [], ◌∷◌, ◌++◌, map, flat_map, filter, length, sum_by, codes, decimal, refl, sym, ap, ◌∙◌, append_assoc, length-append, mul-le-mul, arith}
use Rattle.std.specs.Prelude.{if◌then◌else◌}
use Rattle.std.specs.List.{range_with_len, AllByRecursion}
use Rattle.std.proofs.lemmas.Fmt.{length-decimal-le}
use Rattle.std.proofs.lemmas.List.{length-map}
use Rattle.std.proofs.lemmas.List.Sums.{sum_by-append}
use Rattle.dcsp_defs.specs.Words.{In}
use Rattle.dcsp_rule.specs.Rules.{size_of}
use Rattle.dcsp_gen.specs.Binary.{entries}
use Rattle.dcsp_gen.specs.Lines.{solve_line}
use Rattle.dcsp_gen.specs.Lists.{list_of, pairs_in, domain}
use Rattle.dcsp_gen.specs.Problems.{pairs}
use Rattle.dcsp_gen.specs.Sensors.{hear, hearing, slots, slot_line, slot_lines, rise_line, hearing_line, hearing_lines, target_lines, share_line, share_lines, tracking}
use Rattle.dcsp_gen.proofs.Selecting.{length_range, once_more}
use Rattle.law_subjects.specs.Laws.{HasSmallEntries}
use Rattle.law_subjects.specs.RandomBinary.{AreApart}
use Rattle.law_subjects.specs.Named.{NamedLine, Choose, Compare, Allow, Finish, named_text, named_lines_text, IsName, IsWellNamed, named_rules, Choice, choose, names_of, IsConstraintOn, AreNamedWithin}
use Rattle.law_subjects.specs.SensorLines.{slots_of, target_slots, slot_name, slot_choice, rise, hears, target_constraints, share, shares, tracking_choices, tracking_constraints, tracking_lines, seeing, SensorSizesFit, SensorTextsAreLines, SensorsHaveProblem, SensorsAreShort}
use Rattle.law_subjects.proofs.MeetingLines.{few_sum}
use Rattle.law_subjects.proofs.Folded.{flat_flat, flat_same, flat_mapped, few_flat, total_append, total_few, all_pairs_in, listed_all, selected_few, all_selections, selections_many}
use Rattle.law_subjects.proofs.Hearing.{Rises, rises_range, rises_selected, hearing_few}
use Rattle.law_subjects.proofs.Lengths.{total}
use Rattle.law_subjects.proofs.Lists.{all_weaker, all_append, all_map, all_flat_map, all_range}
use Rattle.law_subjects.proofs.NamedTexts.{all_well_named, named_answered, named_parts, IsShortName, HasShortNames, named_room, named_short}
use Rattle.law_subjects.proofs.PairNames.{ArePairSmall, pair_front, two_fronts, pair_is_name, pair_names_differ, name_in, names_apart, in_all, in_grid_of}
use Rattle.law_subjects.proofs.Pairs.{IsPair, are_pairs, few_pairs}
use Rattle.law_subjects.proofs.RandomBinary.{apart_range, apart_grid}
use Rattle.law_subjects.proofs.Steps.{many_entries}
use Rattle.law_subjects.proofs.Tables.{all_selected}

-- ---- as text

-- a slot's line
slot_text : (seen : List (List ℕ)) (target slot : ℕ) → named_text (choose (slot_choice seen (target, slot))) ≡ slot_line (list_of seen target) target slot
slot_text seen target slot =
    ap (λ (t : List ℕ). domain (list_of seen target) ++ (codes ": " ++ t)) (pair_front 116 115 (target, slot) (codes " :: output_var;\n"))

-- the lines of all slots
slots_text : (seen : List (List ℕ)) → named_lines_text (map choose (tracking_choices seen)) ≡ flat_map (slot_lines seen) (range_with_len 1 (length seen))
slots_text seen =
    let line : ℕ × ℕ → List ℕ = λ slot. named_text (choose (slot_choice seen slot)) in
    let targets = range_with_len 1 (length seen) in
    flat_mapped named_text choose (λ choice. named_text (choose choice)) (tracking_choices seen) (λ choice. refl)
    ∙ flat_mapped (λ choice. named_text (choose choice)) (slot_choice seen) line (target_slots (length seen)) (λ slot. refl)
    ∙ flat_flat line slots_of targets
    ∙ flat_same (λ target. flat_map line (slots_of target)) (slot_lines seen) targets
    (λ target. flat_mapped line (λ slot. (target, slot)) (slot_line (list_of seen target) target) slots (slot_text seen target))

-- the line of two slots that rise
rise_text : (target first second : ℕ) → named_text (rise target first second) ≡ rise_line target first second
rise_text target first second = two_fronts (codes "constraint int_lt(") 116 115 (target, first) (target, second) (codes ");\n")

-- the line of two slots that hear each other
hears_text : (target : ℕ) (rows : List (ℕ × ℕ)) (pair : ℕ × ℕ) → named_text (hears target rows pair) ≡ hearing_line target rows pair
hears_text target rows (first, second) = two_fronts (codes "constraint fzn_table_int([") 116 115 (target, first) (target, second) (codes "],[" ++ (entries rows ++ codes "]);\n"))

-- the lines of a target
target_text : (side : ℕ) (seen : List (List ℕ)) (target : ℕ) → named_lines_text (target_constraints side seen target) ≡ target_lines side seen target
target_text side seen target =
    let rows = hearing side (list_of seen target) in
    let one = rise_line target 1 2 in
    let two = rise_line target 2 3 in
    let told = named_lines_text (map (hears target rows) (pairs 3)) in
    ap (λ (t : List ℕ). t ++ (named_text (rise target 2 3) ++ told)) (rise_text target 1 2)
    ∙ ap (λ (t : List ℕ). one ++ (t ++ told)) (rise_text target 2 3)
    ∙ ap (λ (t : List ℕ). one ++ (two ++ t)) (flat_mapped named_text (hears target rows) (hearing_line target rows) (pairs 3) (hears_text target rows))
    ∙ sym (append_assoc one two (hearing_lines side seen target))

-- the line of two slots of two targets
share_text : (targets : ℕ × ℕ) (slot other : ℕ) → named_text (share targets slot other) ≡ share_line targets slot other
share_text (first, second) slot other = two_fronts (codes "constraint int_ne(") 116 115 (first, slot) (second, other) (codes ");\n")

-- those of two targets
shares_text : (targets : ℕ × ℕ) → named_lines_text (shares targets) ≡ share_lines targets
shares_text targets =
    flat_flat named_text (λ slot. map (share targets slot) slots) slots
    ∙ flat_same (λ slot. named_lines_text (map (share targets slot) slots)) (λ slot. flat_map (share_line targets slot) slots) slots
    (λ slot. flat_mapped named_text (share targets slot) (share_line targets slot) slots (share_text targets slot))

-- lines and more lines
split : (xs ys : List NamedLine) → named_lines_text (xs ++ ys) ≡ named_lines_text xs ++ named_lines_text ys
split [] ys = refl
split (x ∷ xs) ys = ap (λ (t : List ℕ). named_text x ++ t) (split xs ys) ∙ sym (append_assoc (named_text x) (named_lines_text xs) (named_lines_text ys))

-- the lines of all constraints
constraints_text : (side : ℕ) (seen : List (List ℕ))
    → named_lines_text (tracking_constraints side seen) ≡ flat_map (target_lines side seen) (range_with_len 1 (length seen)) ++ flat_map share_lines (pairs (length seen))
constraints_text side seen =
    let targets = range_with_len 1 (length seen) in
    let two = pairs (length seen) in
    let first : named_lines_text (flat_map (target_constraints side seen) targets) ≡ flat_map (target_lines side seen) targets =
    flat_flat named_text (target_constraints side seen) targets ∙ flat_same (λ target. named_lines_text (target_constraints side seen target)) (target_lines side seen) targets (target_text side seen) in
    let second : named_lines_text (flat_map shares two) ≡ flat_map share_lines two =
    flat_flat named_text shares two ∙ flat_same (λ pair. named_lines_text (shares pair)) share_lines two shares_text in
    split (flat_map (target_constraints side seen) targets) (flat_map shares two) ∙ ap (λ (t : List ℕ). t ++ named_lines_text (flat_map shares two)) first
    ∙ ap (λ (t : List ℕ). flat_map (target_lines side seen) targets ++ t) second

-- The text of a sensor problem is that of its lines.
pub tracking_text : SensorTextsAreLines
tracking_text side seen =
    let a = flat_map (slot_lines seen) (range_with_len 1 (length seen)) in
    let b = flat_map (target_lines side seen) (range_with_len 1 (length seen)) in
    let c = flat_map share_lines (pairs (length seen)) in
    let constraints = tracking_constraints side seen in
    append_assoc (a ++ b) c solve_line ∙ append_assoc a b (c ++ solve_line)
    ∙ sym (
    named_parts (tracking_choices seen) constraints
    ∙ ap (λ (t : List ℕ). t ++ (named_lines_text constraints ++ solve_line)) (slots_text seen)
    ∙ ap (λ (t : List ℕ). a ++ (t ++ solve_line)) (constraints_text side seen)
    ∙ ap (λ (t : List ℕ). a ++ t) (append_assoc b c solve_line))

-- ---- few targets, and sensors of a small square

-- some of 256 sensors, in rising order
abbrev pub AreSensors : List ℕ → Type 0
AreSensors list = (length list ≤ 256) × Rises list × AllByRecursion (λ sensor. sensor ≤ 256) list

-- a slot's numbers
abbrev IsSlot : ℕ × ℕ → Type 0
IsSlot slot = (slot.0 ≤ 32) × (slot.1 ≤ 3)

-- its numbers are small
slot_small : (slot : ℕ × ℕ) → IsSlot slot → ArePairSmall slot
slot_small slot h = let a = h.0 in let b = h.1 in (omega (arith, a), omega (arith, b))

-- its name is one
slot_is_name : (slot : ℕ × ℕ) → IsSlot slot → IsName (slot_name slot)
slot_is_name slot h = pair_is_name 116 115 slot refl refl (slot_small slot h)

-- and a short one
slot_short : (slot : ℕ × ℕ) → IsSlot slot → IsShortName (slot_name slot)
slot_short slot h =
    let a = h.0 in
    let b = h.1 in
    let first = length-decimal-le 5 slot.0 (omega arith) (omega (arith, a)) (omega (arith, a)) in
    let second = length-decimal-le 5 slot.1 (omega arith) (omega (arith, b)) (omega (arith, b)) in
    omega (arith, first, second, length-append (decimal slot.0) (115 ∷ decimal slot.1))

-- the numbers of slots
slots_few : AllByRecursion (λ slot. slot ≤ 3) slots
slots_few = (omega arith, (omega arith, (omega arith, tt)))

-- ---- how large constraints are

-- the most terms of a line's rule
abbrev weight : NamedLine → ℕ
weight (Choose values name) = 0
weight (Compare comparison first second) = 2
weight (Allow first second rows) = 2 + 2 * length rows
weight Finish = 0

-- it has at most so many
line_weight : (names : List (List ℕ)) (line : NamedLine) → sum_by size_of (named_rules names line) ≤ weight line
line_weight names (Choose values name) = omega arith
line_weight names (Compare comparison first second) = omega arith
line_weight names (Allow first second rows) = let many = many_entries rows in omega (arith, many)
line_weight names Finish = omega arith

-- so have the rules of lines
lines_weight : (names : List (List ℕ)) (lines : List NamedLine) → sum_by size_of (flat_map (named_rules names) lines) ≤ total weight lines
lines_weight names [] = omega arith
lines_weight names (line ∷ lines) =
    let here = line_weight names line in
    let rest = lines_weight names lines in
    let sum = sum_by-append size_of (named_rules names line) (flat_map (named_rules names) lines) in
    omega (arith, here, rest, sum)

-- lists that count for at most so much each
total_flat : {X : Type 0} (f : NamedLine → ℕ) (most : ℕ) (g : X → List NamedLine) (xs : List X) → ((x : X) → total f (g x) ≤ most) → total f (flat_map g xs) ≤ length xs * most
total_flat f most g [] each = omega arith
total_flat f most g (x ∷ xs) each =
    let here = each x in
    let rest = total_flat f most g xs each in
    let both = total_append f (g x) (flat_map g xs) in
    let more : suc (length xs) * most ≡ most + length xs * most = once_more (length xs) most in
    omega (arith, here, rest, both, more)

module _ (side : ℕ) (seen : List (List ℕ)) (some : 0 < side) (few : length seen ≤ 32) (sensors : AllByRecursion AreSensors seen) where
  -- the sensors that see a target
  sensors_of : (target : ℕ) → AreSensors (list_of seen target)
  sensors_of target = listed_all AreSensors seen target sensors (omega arith, tt, tt)

  -- a sensor hears at most fifteen behind it
  few_rows : (target : ℕ) → length (hearing side (list_of seen target)) ≤ 3840
  few_rows target = let heard = hearing_few side some (list_of seen target) (sensors_of target).1 in let short = (sensors_of target).0 in omega (arith, heard, short)

  -- the sensors of rows are small
  small_rows : (target : ℕ) → AllByRecursion HasSmallEntries (hearing side (list_of seen target))
  small_rows target =
      kept (hear side) (pairs_in (list_of seen target)) (
      all_weaker (λ (pair : ℕ × ℕ). (pair.0 ≤ 256) × (pair.1 ≤ 256)) HasSmallEntries (pairs_in (list_of seen target)) (λ pair h. let a = h.0 in let b = h.1 in (omega (arith, a), omega (arith, b)))
      (all_pairs_in (λ sensor. sensor ≤ 256) (list_of seen target) (sensors_of target).2))
    where
      -- rows that pass a test
      kept : (p : ℕ × ℕ → Bool) (xs : List (ℕ × ℕ)) → AllByRecursion HasSmallEntries xs → AllByRecursion HasSmallEntries (filter p xs)
      kept p [] h = tt
      kept p (x ∷ xs) h = (elim (p x) as (λ b. AllByRecursion HasSmallEntries (if b then x ∷ filter p xs else filter p xs)) [ true ↦ (h.0, kept p xs h.1) | false ↦ kept p xs h.1 ])

  -- ---- variables

  -- all slots have small numbers
  are_slots : AllByRecursion IsSlot (target_slots (length seen))
  are_slots =
      all_flat_map IsSlot slots_of (range_with_len 1 (length seen)) (
      all_range (λ target. AllByRecursion IsSlot (slots_of target)) 1 (length seen) (λ target low high.
      all_map IsSlot (λ slot. (target, slot)) slots (all_weaker (λ slot. slot ≤ 3) (λ slot. IsSlot (target, slot)) slots (λ slot small. (omega (arith, high, few), small)) slots_few)))

  -- there are at most 96
  many_slots : length (tracking_choices seen) ≤ 96
  many_slots =
      let size = length-map {B = Choice} (target_slots (length seen)) (slot_choice seen) in
      let all = few_flat slots_of 3 (range_with_len 1 (length seen)) (λ target. omega arith) in
      let count = length_range 1 (length seen) in
      omega (arith, size, all, count, few)

  -- their names differ
  pub slots_apart : AreApart (names_of (tracking_choices seen))
  slots_apart =
      names_apart IsSlot (slot_choice seen) (λ k l small also same. pair_names_differ 116 115 refl k l (slot_small k small) (slot_small l also) same) (target_slots (length seen)) are_slots
      (apart_grid (λ target. slots) (λ target. apart_range 1 3) 1 (length seen))

  -- the name of a slot is declared
  slot_in : (target slot : ℕ) → 1 ≤ target → target < 1 + length seen → In slot slots → In (slot_name (target, slot)) (names_of (tracking_choices seen))
  slot_in target slot low high i = name_in (slot_choice seen) (target_slots (length seen)) (target, slot) (in_grid_of (λ k. slots) 1 (length seen) target slot low high i)

  -- each slot has at most 256 sensors
  choices_sized : AllByRecursion (λ (choice : Choice). length choice.0 ≤ 256) (tracking_choices seen)
  choices_sized = all_map (λ (choice : Choice). length choice.0 ≤ 256) (slot_choice seen) (target_slots (length seen)) (in_all (λ slot. length (list_of seen slot.0) ≤ 256) (target_slots (length seen)) (λ slot i. (sensors_of slot.0).0))

  -- and a name
  choices_named : AllByRecursion IsWellNamed (map choose (tracking_choices seen))
  choices_named =
      all_map IsWellNamed choose (tracking_choices seen) (all_map (λ choice. IsWellNamed (choose choice)) (slot_choice seen) (target_slots (length seen)) (
      all_weaker IsSlot (λ slot. IsWellNamed (choose (slot_choice seen slot))) (target_slots (length seen)) (λ slot small. (all_weaker (λ sensor. sensor ≤ 256) (λ sensor. sensor ≤ 2 ^ 31) (list_of seen slot.0) (λ sensor low. omega (arith, low)) (sensors_of slot.0).2, slot_is_name slot small)) are_slots))

  -- which is short
  choices_short : AllByRecursion HasShortNames (map choose (tracking_choices seen))
  choices_short =
      all_map HasShortNames choose (tracking_choices seen) (all_map (λ choice. HasShortNames (choose choice)) (slot_choice seen) (target_slots (length seen)) (all_weaker IsSlot (λ slot. HasShortNames (choose (slot_choice seen slot))) (target_slots (length seen)) slot_short are_slots))

  -- so is its line
  choices_room : AllByRecursion (λ line. named_room line ≤ 2896) (map choose (tracking_choices seen))
  choices_room =
      all_map (λ line. named_room line ≤ 2896) choose (tracking_choices seen) (all_weaker (λ (choice : Choice). length choice.0 ≤ 256) (λ choice. named_room (choose choice) ≤ 2896) (tracking_choices seen) (λ choice low. omega (arith, low)) choices_sized)

  -- ---- constraints

  -- the first slot
  first_in : In 1 slots
  first_in = inl refl

  -- the second
  second_in : In 2 slots
  second_in = inr (inl refl)

  -- the third
  third_in : In 3 slots
  third_in = inr (inr (inl refl))

  -- a target and a slot
  abbrev Has : ℕ → ℕ → Type 0
  Has target slot = (1 ≤ target) × (target < 1 + length seen) × In slot slots

  -- what holds of each form of constraint holds of all
  each_constraint : (P : NamedLine → Type 0) → ((target first second : ℕ) → Has target first → Has target second → P (rise target first second))
      → ((target first second : ℕ) → Has target first → Has target second → P (hears target (hearing side (list_of seen target)) (first, second)))
      → ((one two first second : ℕ) → Has one first → Has two second → P (share (one, two) first second)) → AllByRecursion P (tracking_constraints side seen)
  each_constraint P f g h =
      all_append P (flat_map (target_constraints side seen) (range_with_len 1 (length seen))) (flat_map shares (pairs (length seen)))
      (all_flat_map P (target_constraints side seen) (range_with_len 1 (length seen)) (
      all_range (λ target. AllByRecursion P (target_constraints side seen target)) 1 (length seen) (λ target low high.
      let a : Has target 1 = (low, high, first_in) in
      let b : Has target 2 = (low, high, second_in) in
      let c : Has target 3 = (low, high, third_in) in
      (f target 1 2 a b, (f target 2 3 b c, (g target 1 2 a b, (g target 1 3 a c, (g target 2 3 b c, tt))))))))
      (all_flat_map P shares (pairs (length seen)) (
      all_weaker (IsPair (length seen)) (λ pair. AllByRecursion P (shares pair)) (pairs (length seen)) (λ pair two.
      let low = two.0 in
      let rising = two.1 in
      let high = two.2 in
      all_flat_map P (λ slot. map (share pair slot) slots) slots (
      in_all (λ slot. AllByRecursion P (map (share pair slot) slots)) slots (λ slot i.
      all_map P (share pair slot) slots (
      in_all (λ other. P (share pair slot other)) slots (λ other j. h pair.0 pair.1 slot other (low, omega (arith, rising, high), i) (omega (arith, low, rising), omega (arith, high), j))))))
      (are_pairs (length seen))))

  -- constraints are on declared variables
  constrained : AllByRecursion (IsConstraintOn (names_of (tracking_choices seen))) (tracking_constraints side seen)
  constrained = each_constraint (IsConstraintOn (names_of (tracking_choices seen)))
      (λ target first second a b. (slot_in target first a.0 a.1 a.2, slot_in target second b.0 b.1 b.2))
      (λ target first second a b. (slot_in target first a.0 a.1 a.2, slot_in target second b.0 b.1 b.2, let short = few_rows target in omega (arith, short)))
      (λ one two first second a b. (slot_in one first a.0 a.1 a.2, slot_in two second b.0 b.1 b.2))

  -- a slot's numbers are small
  has_small : (target slot : ℕ) → Has target slot → IsSlot (target, slot)
  has_small target slot h = let high = h.1 in (omega (arith, high, few), small slot h.2) where
    -- it is one of three
    small : (k : ℕ) → In k slots → k ≤ 3
    small k (inl e) = omega (arith, e)
    small k (inr (inl e)) = omega (arith, e)
    small k (inr (inr (inl e))) = omega (arith, e)
    small k (inr (inr (inr none))) = absurd none

  -- constraints have names
  constraints_named : AllByRecursion IsWellNamed (tracking_constraints side seen)
  constraints_named = each_constraint IsWellNamed
      (λ target first second a b. (slot_is_name (target, first) (has_small target first a), slot_is_name (target, second) (has_small target second b)))
      (λ target first second a b. (slot_is_name (target, first) (has_small target first a), slot_is_name (target, second) (has_small target second b), small_rows target))
      (λ one two first second a b. (slot_is_name (one, first) (has_small one first a), slot_is_name (two, second) (has_small two second b)))

  -- which are short
  constraints_short : AllByRecursion HasShortNames (tracking_constraints side seen)
  constraints_short = each_constraint HasShortNames
      (λ target first second a b. (slot_short (target, first) (has_small target first a), slot_short (target, second) (has_small target second b)))
      (λ target first second a b. (slot_short (target, first) (has_small target first a), slot_short (target, second) (has_small target second b)))
      (λ one two first second a b. (slot_short (one, first) (has_small one first a), slot_short (two, second) (has_small two second b)))

  -- there are at most 1,024 pairs of targets
  many_pairs : length (pairs (length seen)) ≤ 1024
  many_pairs = let all = few_pairs (length seen) in let square : length seen * length seen ≤ 32 * 32 = mul-le-mul few few in omega (arith, all, square)

  -- there are at most 9,376: five for each target, and nine for each two
  many_constraints : length (tracking_constraints side seen) ≤ 9376
  many_constraints =
      let told = few_flat (target_constraints side seen) 5 (range_with_len 1 (length seen)) (λ target. omega arith) in
      let apart = few_flat shares 9 (pairs (length seen)) (λ pair. omega arith) in
      let count = length_range 1 (length seen) in
      let two = many_pairs in
      let both = length-append (flat_map (target_constraints side seen) (range_with_len 1 (length seen))) (flat_map shares (pairs (length seen))) in
      omega (arith, told, apart, count, two, both, few)

  -- what all constraints count for, where those of a target count for so much, and those of two for so much
  all_total : (f : NamedLine → ℕ) (one two : ℕ) → ((target : ℕ) → total f (target_constraints side seen target) ≤ one) → ((pair : ℕ × ℕ) → total f (shares pair) ≤ two) → total f (tracking_constraints side seen) ≤ length seen * one + length (pairs (length seen)) * two
  all_total f one two each pair =
      let first = total_flat f one (target_constraints side seen) (range_with_len 1 (length seen)) each in
      let second = total_flat f two shares (pairs (length seen)) pair in
      let count : length (range_with_len 1 (length seen)) * one ≡ length seen * one = ap (λ (k : ℕ). k * one) (length_range 1 (length seen)) in
      let both = total_append f (flat_map (target_constraints side seen) (range_with_len 1 (length seen))) (flat_map shares (pairs (length seen))) in
      omega (arith, first, second, count, both)

  -- together they have few terms
  constraints_weight : total weight (tracking_constraints side seen) ≤ 1048576
  constraints_weight =
      let all = all_total weight 23050 18 (λ target. let short = few_rows target in omega (arith, short)) (λ pair. omega arith) in
      let two = many_pairs in
      omega (arith, all, two, few)

  -- and are short
  constraints_room : total named_room (tracking_constraints side seen) ≤ 6000000
  constraints_room =
      let all = all_total named_room 138720 540 (λ target. let short = few_rows target in omega (arith, short)) (λ pair. omega arith) in
      let two = many_pairs in
      omega (arith, all, two, few)

  -- A sensor problem is within the limits.
  pub tracking_within : AreNamedWithin (tracking_choices seen) (tracking_constraints side seen)
  tracking_within =
      let variables = many_slots in
      let many = many_constraints in
      let sum = few_sum 256 (tracking_choices seen) choices_sized in
      let terms = lines_weight (names_of (tracking_choices seen)) (tracking_constraints side seen) in
      let all = constraints_weight in
      record {
        apart = slots_apart;
        constrained = constrained;
        variables = omega (arith, variables);
        values = all_weaker (λ (choice : Choice). length choice.0 ≤ 256) (λ (choice : Choice). length choice.0 ≤ 65536) (tracking_choices seen) (λ choice small. omega (arith, small)) choices_sized;
        all_values = omega (arith, variables, sum);
        rules = omega (arith, many);
        terms = omega (arith, terms, all);
      }

  -- its lines have names
  tracking_named : AllByRecursion IsWellNamed (tracking_lines side seen)
  tracking_named = all_well_named (tracking_choices seen) (tracking_constraints side seen) choices_named constraints_named

  -- and are short
  tracking_room : total named_room (map choose (tracking_choices seen)) + total named_room (tracking_constraints side seen) + 80 ≤ 16777216
  tracking_room =
      let variables = many_slots in
      let size = length-map {B = NamedLine} (tracking_choices seen) choose in
      let first = total_few named_room 2896 (map choose (tracking_choices seen)) choices_room in
      let second = constraints_room in
      omega (arith, variables, size, first, second)

-- ---- those that words make

-- as many lists of sensors as targets
pub few_seeing : (side targets sees : ℕ) (words : ℕ → ℕ) → targets ≤ 32 → length (seeing side targets sees words) ≤ 32
few_seeing side targets sees words low = let count = selections_many true words sees (side * side) targets in omega (arith, count, low)

-- each of which rises
pub are_seeing : (side targets sees : ℕ) (words : ℕ → ℕ) → side ≤ 16 → AllByRecursion AreSensors (seeing side targets sees words)
are_seeing side targets sees words low =
    let square : side * side ≤ 16 * 16 = mul-le-mul low low in
    let all = range_with_len 1 (side * side) in
    all_selections AreSensors true words sees (side * side) targets (λ later. (
      (let short = selected_few true later sees all in let size = length_range 1 (side * side) in omega (arith, short, size, square)),
      rises_selected true later sees all (rises_range 1 (side * side)),
      all_selected (λ sensor. sensor ≤ 256) true later sees all (all_range (λ sensor. sensor ≤ 256) 1 (side * side) (λ sensor one high. omega (arith, high, square))),
    ))

-- sensor problems that words make are within the limits
pub sensors_within : (side targets sees : ℕ) (words : ℕ → ℕ) → SensorSizesFit side targets sees → AreNamedWithin (tracking_choices (seeing side targets sees words)) (tracking_constraints side (seeing side targets sees words))
sensors_within side targets sees words sizes =
    let some = sizes.some_rows in
    tracking_within side (seeing side targets sees words) (omega (arith, some)) (few_seeing side targets sees words sizes.few_targets) (are_seeing side targets sees words sizes.few_rows)

-- Texts of sensor problems have problems.
pub sensors_have_problem : SensorsHaveProblem
sensors_have_problem side targets sees words sizes =
    let seen = seeing side targets sees words in
    let rows = sizes.some_rows in
    let some : 0 < side = omega (arith, rows) in
    let few = few_seeing side targets sees words sizes.few_targets in
    let sensors = are_seeing side targets sees words sizes.few_rows in
    named_answered (tracking side seen) (tracking_choices seen) (tracking_constraints side seen) (tracking_text side seen) (tracking_named side seen some few sensors) (tracking_within side seen some few sensors)

-- They are short.
pub sensors_are_short : SensorsAreShort
sensors_are_short side targets sees words sizes =
    let seen = seeing side targets sees words in
    let rows = sizes.some_rows in
    let some : 0 < side = omega (arith, rows) in
    let few = few_seeing side targets sees words sizes.few_targets in
    let sensors = are_seeing side targets sees words sizes.few_rows in
    named_short (tracking side seen) (tracking_choices seen) (tracking_constraints side seen) (tracking_text side seen) (tracking_named side seen some few sensors)
    (choices_short side seen some few sensors) (constraints_short side seen some few sensors) (tracking_room side seen some few sensors)
