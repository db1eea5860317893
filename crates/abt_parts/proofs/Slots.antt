-- Places by agent, as one slot for each agent above.
use Rattle.std.proofs.Common.{◌≡◌, ℕ, ◌<◌, true, false, cond, ◌==◌, List, [], length, get_or, get_or-set_other, get_or-set_same, set, Option, Some, None, refl, sym, ap, ◌∙◌, arith, inl, inr}
use Rattle.std.specs.Prelude.{if◌then◌else◌, is_some, unwrap_or}
use Rattle.std.proofs.lemmas.Bool.{cases_eq, cases_lt, eq-eqb, ne_eqb}
use Rattle.std.proofs.lemmas.List.{ext_get_or, get_or-replicate, get_or_past, length-replicate, length-set}
use Rattle.std.proofs.lemmas.List.FromFn.{get_or-map-range_with_len, length-map-range_with_len}
use Rattle.std.proofs.Math.Path.{fun_ext}
use Rattle.dcsp_defs.specs.Words.{update}
use Rattle.dcsp_common.specs.declared.entries.Entry.{Entry}
use Rattle.dcsp_common.specs.Entries.{item_for, number_at, AreBelow, AreRising}
use Rattle.dcsp_common.proofs.EntryNumbers.{absent, item_there}
use Rattle.abt_parts.specs.declared.view.StampedValue.{StampedValue}
use Rattle.abt_parts.specs.Views.{blank, has_place, placeless, slots_of, stamped_in, stamped_of, told_at, view_of, Slots}

abbrev Places : Type 0
Places = List (Entry (Option StampedValue))

pub length_slots : (agents : ℕ) (places : Places) → length (slots_of agents places) ≡ agents
length_slots agents places = length-map-range_with_len (item_for places) 0 agents

within_at : (agents : ℕ) (places : Places) (k : ℕ) → k < agents → get_or (slots_of agents places) k None ≡ item_for places k
within_at agents places k within = get_or-map-range_with_len (item_for places) 0 agents k k None within (omega arith)

-- what stands in a slot
pub slot_at : (agents : ℕ) (places : Places) (k : ℕ) → AreBelow agents places → get_or (slots_of agents places) k None ≡ item_for places k
slot_at agents places k below = elim (cases_lt k agents) [
  | inl within ↦ within_at agents places k within
  | inr past ↦
      let size = length_slots agents places in
      get_or_past (slots_of agents places) k None (omega (arith, size, past))
      ∙ sym (absent places k (λ n l same. omega (arith, below n l, same, past)))
]

-- no place at all
pub no_places : (agents : ℕ) → slots_of agents [] ≡ placeless agents
no_places agents =
    let size = length_slots agents [] in
    let all = length-replicate {A = Option (Option StampedValue)} agents None in
    ext_get_or None (slots_of agents []) (placeless agents) (omega (arith, size, all)) (λ k l. within_at agents [] k (omega (arith, l, size)) ∙ sym (get_or-replicate agents k None None (omega (arith, l, size))))

-- one place was written
pub slots_put : (agents : ℕ) (old new : Places) (var : ℕ) (told : Option StampedValue) → var < agents
    → ((other : ℕ) → item_for new other ≡ (if other == var then Some told else item_for old other)) → slots_of agents new ≡ set (slots_of agents old) var (Some told)
slots_put agents old new var told within item =
    let one = length_slots agents new in
    let two = length_slots agents old in
    let three = length-set (slots_of agents old) var (Some told) in
    ext_get_or None (slots_of agents new) (set (slots_of agents old) var (Some told)) (omega (arith, one, two, three)) (λ k l.
    within_at agents new k (omega (arith, l, one)) ∙ item k ∙ elim (cases_eq k var) [
      | inl same ↦
          ap (λ b. cond b (Some told) (item_for old k)) (eq-eqb k var same)
          ∙ sym (ap (λ n. get_or (set (slots_of agents old) var (Some told)) n None) same ∙ get_or-set_same (slots_of agents old) var (Some told) None (omega (arith, within, two)))
      | inr other ↦
          ap (λ b. cond b (Some told) (item_for old k)) (ne_eqb k var other)
          ∙ sym (within_at agents old k (omega (arith, l, one)))
          ∙ sym (get_or-set_other (slots_of agents old) var k (Some told) None other)
    ])

-- no agent has an entry but those below
has_entry : (agents : ℕ) (places : Places) (k : ℕ) (item : Option StampedValue) → AreBelow agents places → item_for places k ≡ Some item → k < agents
has_entry agents places k item below e = elim (cases_lt k agents) [
  | inl within ↦ within
  | inr past ↦ absurd (let none = sym e ∙ absent places k (λ n l same. omega (arith, below n l, same, past)) in cc)
]

pub below_put : (agents : ℕ) (old new : Places) (var : ℕ) (told : Option StampedValue) → var < agents → AreRising new
    → ((other : ℕ) → item_for new other ≡ (if other == var then Some told else item_for old other)) → AreBelow agents old → AreBelow agents new
below_put agents old new var told within up item below place l =
    let n = number_at new place in
    let there = item_there new n place (record { number = 0; item = None }) up l refl in
    elim (cases_eq n var) [
      | inl same ↦ omega (arith, same, within)
      | inr other ↦ has_entry agents old n _ below (sym (ap (λ b. cond b (Some told) (item_for old n)) (ne_eqb n var other)) ∙ sym (item n) ∙ there)
    ]

nothing_in : (slot : Option (Option StampedValue)) → is_some slot ≡ false → unwrap_or slot None ≡ None
nothing_in None none = refl
nothing_in (Some told) none = absurd cc

-- an agent without a place told nothing
pub nothing_told : (slots : Slots) (k : ℕ) → has_place slots k ≡ false → told_at slots k ≡ None
nothing_told slots k none = nothing_in (get_or slots k None) none

-- an agent with a place has a slot
pub place_within : (slots : Slots) (k : ℕ) → has_place slots k ≡ true → k < length slots
place_within slots k has = elim (cases_lt k (length slots)) [
  | inl within ↦ within
  | inr past ↦ absurd (let none = sym has ∙ ap is_some (get_or_past slots k None past) in cc)
]

pub view_placeless : (agents : ℕ) → view_of (placeless agents) ≡ (λ k. None)
view_placeless agents = fun_ext (λ k. ap (λ o. stamped_in (unwrap_or o None)) (elim (cases_lt k agents) [
  | inl within ↦ get_or-replicate {A = Option (Option StampedValue)} agents k None None within
  | inr past ↦ let size = length-replicate {A = Option (Option StampedValue)} agents None in get_or_past (placeless agents) k None (omega (arith, size, past))
]))

-- a place in which there is nothing
slot_is : (slot : Option (Option StampedValue)) → is_some slot ≡ true → stamped_in (unwrap_or slot None) ≡ None → slot ≡ Some None
slot_is None has none = absurd cc
slot_is (Some None) has none = refl
slot_is (Some (Some told)) has none = absurd cc

-- each agent has a place, and told nothing
pub blank_is : (agents : ℕ) (slots : Slots) → length slots ≡ agents → ((k : ℕ) → k < agents → has_place slots k ≡ true) → view_of slots ≡ (λ k. None) → slots ≡ blank agents
blank_is agents slots size has none =
    let all = length-replicate {A = Option (Option StampedValue)} agents (Some None) in
    ext_get_or None slots (blank agents) (omega (arith, size, all)) (λ k l.
    slot_is (get_or slots k None) (has k (omega (arith, l, size))) (ap (λ (v : ℕ → _). v k) none)
    ∙ sym (get_or-replicate agents k (Some None) None (omega (arith, l, size))))

-- one slot was written
module _ (slots : Slots) (var : ℕ) (told : Option StampedValue) (within : var < length slots) where
  abbrev new : Slots
  new = set slots var (Some told)

  here : (k : ℕ) → k ≡ var → get_or new k None ≡ Some told
  here k same = ap (λ n. get_or new n None) same ∙ get_or-set_same slots var (Some told) None within

  pub place_made : has_place new var ≡ true
  place_made = ap is_some (here var refl)

  pub places_stay : (k : ℕ) → has_place slots k ≡ true → has_place new k ≡ true
  places_stay k has = elim (cases_eq k var) [
    | inl same ↦ ap is_some (here k same)
    | inr other ↦ ap is_some (get_or-set_other slots var k (Some told) None other) ∙ has
  ]

  pub places_same : has_place slots var ≡ true → (k : ℕ) → has_place new k ≡ has_place slots k
  places_same has k = elim (cases_eq k var) [
    | inl same ↦ ap is_some (here k same) ∙ sym (ap (has_place slots) same ∙ has)
    | inr other ↦ ap is_some (get_or-set_other slots var k (Some told) None other)
  ]

  -- nothing new was told
  pub view_stays : told ≡ told_at slots var → view_of new ≡ view_of slots
  view_stays same = fun_ext (λ k. ap stamped_in (elim (cases_eq k var) [
    | inl here_is ↦ ap (λ o. unwrap_or o None) (here k here_is) ∙ same ∙ sym (ap (told_at slots) here_is)
    | inr other ↦ ap (λ o. unwrap_or o None) (get_or-set_other slots var k (Some told) None other)
  ]))

-- one agent told something
pub view_put : (slots : Slots) (var : ℕ) (told : StampedValue) → var < length slots → view_of (set slots var (Some (Some told))) ≡ update (view_of slots) var (Some (stamped_of told))
view_put slots var told within = fun_ext (λ k. elim (cases_eq k var) [
  | inl same ↦
      ap (λ o. stamped_in (unwrap_or o None)) (here slots var (Some told) within k same)
      ∙ sym (ap (λ b. cond b (Some (stamped_of told)) (view_of slots k)) (eq-eqb k var same))
  | inr other ↦
      ap (λ o. stamped_in (unwrap_or o None)) (get_or-set_other slots var k (Some (Some told)) None other)
      ∙ sym (ap (λ b. cond b (Some (stamped_of told)) (view_of slots k)) (ne_eqb k var other))
])
