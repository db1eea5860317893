-- The solutions of meeting problems are timetables.
use Rattle.std.proofs.Common.{◌≡◌, ◌↔◌, ℕ, zero, suc, ◌+◌, ◌*◌, ◌<◌, ◌≤◌, inl, inr, true, false, List, [], ◌∷◌, ◌++◌, flat_map, length, refl, sym, ap, ◌∙◌, subst, arith}
use Rattle.std.specs.Prelude.{◌==◌, ℤ, pos, unsigned_abs}
use Rattle.std.specs.List.{range_with_len, AllByRecursion}
use Rattle.std.proofs.lemmas.Bool.{cases_lt}
use Rattle.std.proofs.lemmas.Bool.Decides.{eqb_tells}
use Rattle.dcsp_defs.specs.Words.{In}
use Rattle.dcsp_defs.specs.Csp.{Assignment, IsSolution}
use Rattle.dcsp_defs.proofs.Lists.{list_any-In}
use Rattle.dcsp_rule.specs.Problems.{csp_of}
use Rattle.dcsp_gen.specs.Lists.{list_of, pairs_in, next_to, neighbours}
use Rattle.dcsp_gen.specs.Meetings.{attends, meetings_of}
use Rattle.dcsp_gen.specs.Selection.{words_after}
use Rattle.law_subjects.specs.Named.{NamedLine, named_problem, names_of}
use Rattle.law_subjects.specs.MeetingLines.{copies_of, copies, copy_name, copy_choice, tie, ties, clash, clashes, agenda_choices, agenda_constraints, agenda_lines, free_hours, meeting_people}
use Rattle.law_subjects.specs.Appointments.{IsInMeeting, TellsTimetable, MeetingsAreTimetables}
use Rattle.law_subjects.proofs.MeetingLines.{IsAgenda, agenda_is, agenda_within, copies_apart, attended, each_tie}
use Rattle.law_subjects.proofs.Folded.{listed_all, all_selections, selections_many}
use Rattle.law_subjects.proofs.GeneratedSolutions.{range_all, map_all}
use Rattle.law_subjects.proofs.Hearing.{Rises, rises_range, rises_filter}
use Rattle.law_subjects.proofs.Lists.{all_append, all_map, all_flat_map, all_range}
use Rattle.law_subjects.proofs.NamedSolutions.{value_named, HoldsNamed, IsOneOf, key_at, value_at, stands, named_solutions, in_filter, in_pairs, of_pairs}
use Rattle.law_subjects.proofs.PairNames.{all_in, in_all, in_grid_of}
use Rattle.law_subjects.proofs.RandomBinary.{in_get, pos_inside}
use Rattle.law_subjects.proofs.Solutions.{flat_map_all}
use Rattle.law_subjects.proofs.Tables.{all_selected}

-- ---- lists

-- of the first and of the last part
pub all_parts : {X : Type 0} (P : X → Type 0) (xs ys : List X) → AllByRecursion P (xs ++ ys) → AllByRecursion P xs × AllByRecursion P ys
all_parts P [] ys h = (tt, h)
all_parts P (x ∷ xs) ys h = let rest = all_parts P xs ys h.1 in ((h.0, rest.0), rest.1)

-- a number of a range
pub in_range_of : (low count k : ℕ) → low ≤ k → k < low + count → In k (range_with_len low count)
in_range_of low zero k l r = absurd (omega (arith, l, r))
in_range_of low (suc count) k l r = elim (eqb_tells k low) [
  | inl same ↦ inl same.1
  | inr other ↦ let apart = other.1 in inr (in_range_of (low + 1) count k (omega (arith, l, apart)) (omega (arith, r)))
]

-- equal neighbours are all equal to the first
chained_next : (g : ℕ → ℤ) (first : ℕ) (xs : List ℕ) → AllByRecursion (λ (pair : ℕ × ℕ). g pair.0 ≡ g pair.1) (next_to first xs) → (k : ℕ) → In k xs → g k ≡ g first
chained_next g first [] h k i = absurd i
chained_next g first (x ∷ xs) h k (inl e) = ap g e ∙ sym h.0
chained_next g first (x ∷ xs) h k (inr i) = chained_next g x xs h.1 k i ∙ sym h.0

-- the first of a list
abbrev first_of : List ℕ → ℕ
first_of [] = 0
first_of (x ∷ xs) = x

-- so are neighbours from the first on
chained : (g : ℕ → ℤ) (xs : List ℕ) → AllByRecursion (λ (pair : ℕ × ℕ). g pair.0 ≡ g pair.1) (neighbours xs) → (k : ℕ) → In k xs → g k ≡ g (first_of xs)
chained g [] h k i = absurd i
chained g (x ∷ xs) h k (inl e) = ap g e
chained g (x ∷ xs) h k (inr i) = chained_next g x xs h k i

-- people of so many
abbrev AreOf : ℕ → List ℕ → Type 0
AreOf people list = AllByRecursion (λ person. (1 ≤ person) × (person < 1 + people)) list

module _ (free groups : List (List ℕ)) (so : IsAgenda free groups) (known : AllByRecursion (AreOf (length free)) groups) (values : Assignment) where
  -- the value of a copy
  abbrev value_of_copy : ℕ → ℕ → ℤ
  value_of_copy meeting person = value_named (names_of (agenda_choices free groups)) values (copy_name (meeting, person))

  -- what a line says of the values
  abbrev Says : NamedLine → Type 0
  Says = HoldsNamed (names_of (agenda_choices free groups)) values

  -- ---- who is in which meeting

  -- who is in a meeting has a copy
  copy_of : (meeting person : ℕ) → IsInMeeting groups meeting person → In (meeting, person) (copies groups)
  copy_of meeting person h = let high = h.high in in_grid_of (list_of groups) 1 (length groups) meeting person h.low (omega (arith, high)) h.member

  -- and each copy is of someone in it
  are_in : AllByRecursion (λ (copy : ℕ × ℕ). IsInMeeting groups copy.0 copy.1) (copies groups)
  are_in =
      all_flat_map (λ (copy : ℕ × ℕ). IsInMeeting groups copy.0 copy.1) (copies_of groups) (range_with_len 1 (length groups)) (
      all_range (λ meeting. AllByRecursion (λ (copy : ℕ × ℕ). IsInMeeting groups copy.0 copy.1) (copies_of groups meeting)) 1 (length groups) (λ meeting low high.
      all_map (λ (copy : ℕ × ℕ). IsInMeeting groups copy.0 copy.1) (λ person. (meeting, person)) (list_of groups meeting)
      (in_all (λ person. IsInMeeting groups meeting person) (list_of groups meeting) (λ person i. record { low = low; high = omega (arith, high); member = i }))))

  -- the copy at a place
  in_copy : (k : ℕ) → k < length (copies groups) → IsInMeeting groups (key_at (copies groups) k).0 (key_at (copies groups) k).1
  in_copy k l = all_in (λ (copy : ℕ × ℕ). IsInMeeting groups copy.0 copy.1) (copies groups) are_in (key_at (copies groups) k) (in_get (copies groups) k l)

  -- who is in a meeting is one of the people
  person_known : (meeting person : ℕ) → IsInMeeting groups meeting person → (1 ≤ person) × (person < 1 + length free)
  person_known meeting person h = all_in (λ k. (1 ≤ k) × (k < 1 + length free)) (list_of groups meeting) (listed_all (AreOf (length free)) groups meeting known tt) person h.member

  -- the meetings of a person rise
  rising : (person : ℕ) → Rises (meetings_of groups person)
  rising person = rises_filter (attends groups person) (range_with_len 1 (length groups)) (rises_range 1 (length groups))

  -- a meeting that a person is in is one of its meetings
  meeting_of : (meeting person : ℕ) → IsInMeeting groups meeting person → In meeting (meetings_of groups person)
  meeting_of meeting person h =
      let high = h.high in
      let same : (person == person) ≡ true = elim (eqb_tells person person) [ inl is ↦ is.0 | inr other ↦ absurd (other.1 refl) ] in
      (in_filter (attends groups person) (range_with_len 1 (length groups)) meeting).1
      (in_range_of 1 (length groups) meeting h.low (omega (arith, high)), list_any-In (λ other. other == person) person (list_of groups meeting) h.member same)

  -- and the other way round
  of_meeting : (meeting person : ℕ) → In meeting (meetings_of groups person) → IsInMeeting groups meeting person
  of_meeting meeting person i =
      let both = (in_filter (attends groups person) (range_with_len 1 (length groups)) meeting).0 i in
      let range = all_in (λ k. (1 ≤ k) × (k < 1 + length groups)) (range_with_len 1 (length groups)) (all_range (λ k. (1 ≤ k) × (k < 1 + length groups)) 1 (length groups) (λ k l r. (l, r))) meeting both.0 in
      let high = range.1 in
      record { low = range.0; high = omega (arith, high); member = attended free groups so person meeting both.1 }

  -- ---- from values to a timetable

  module _ (domains : (k : ℕ) → k < length (copies groups) → IsOneOf (list_of free (key_at (copies groups) k).1) (values k)) (constraints : AllByRecursion Says (agenda_constraints free groups)) where
    -- a copy's value is a free hour of its person
    copy_value : (meeting person : ℕ) → IsInMeeting groups meeting person → IsOneOf (list_of free person) (value_of_copy meeting person)
    copy_value meeting person h =
        let at = stands (copy_choice free) (copies groups) (copies_apart free groups so) values (meeting, person) (copy_of meeting person h) in
        subst (λ (v : ℤ). IsOneOf (list_of free person) v) (sym at.value_is) (subst (λ (k : ℕ × ℕ). IsOneOf (list_of free k.1) (values at.place)) (sym at.key_is) (domains at.place at.below))

    -- the ties and the clashes
    both_parts : AllByRecursion Says (flat_map (ties groups) (range_with_len 1 (length groups))) × AllByRecursion Says (flat_map (clashes groups) (range_with_len 1 (length free)))
    both_parts = all_parts Says (flat_map (ties groups) (range_with_len 1 (length groups))) (flat_map (clashes groups) (range_with_len 1 (length free))) constraints

    -- neighbours in a meeting have equal values
    tied : (meeting : ℕ) → 1 ≤ meeting → meeting < 1 + length groups → AllByRecursion (λ (pair : ℕ × ℕ). value_of_copy meeting pair.0 ≡ value_of_copy meeting pair.1) (neighbours (list_of groups meeting))
    tied meeting low high =
        map_all Says (tie meeting) (neighbours (list_of groups meeting))
        (range_all (λ k. AllByRecursion Says (ties groups k)) 1 (length groups) (flat_map_all Says (ties groups) (range_with_len 1 (length groups)) both_parts.0) meeting low high)

    -- the hour of a meeting is that of its first copy
    hour_of : ℕ → ℕ
    hour_of meeting = unsigned_abs (value_of_copy meeting (first_of (list_of groups meeting)))

    -- each copy has it, and it is free
    record HasHour (meeting person : ℕ) : Type 0 where
      copy_is : value_of_copy meeting person ≡ pos (hour_of meeting)
      free_is : In (hour_of meeting) (list_of free person)

    -- each copy of a meeting is so
    has_hour : (meeting person : ℕ) → IsInMeeting groups meeting person → HasHour meeting person
    unfolding hour_of
    has_hour meeting person h =
        let one = copy_value meeting person h in
        let high = h.high in
        let same = chained (value_of_copy meeting) (list_of groups meeting) (tied meeting h.low (omega (arith, high))) person h.member in
        let hour : unsigned_abs (value_of_copy meeting (first_of (list_of groups meeting))) ≡ one.number = ap unsigned_abs (sym same ∙ one.value_is) in
        record { copy_is = one.value_is ∙ ap (λ (k : ℕ). pos k) (sym hour); free_is = subst (λ (k : ℕ). In k (list_of free person)) (sym hour) one.among }

    -- two meetings of a person have two hours
    apart_hours : (person one two : ℕ) → one < two → IsInMeeting groups one person → IsInMeeting groups two person → hour_of one ≡ hour_of two → ⊥
    apart_hours person one two less first second same =
        let a = has_hour one person first in
        let b = has_hour two person second in
        let known_person = person_known one person first in
        let all = map_all Says (clash person) (pairs_in (meetings_of groups person))
        (range_all (λ k. AllByRecursion Says (clashes groups k)) 1 (length free) (flat_map_all Says (clashes groups) (range_with_len 1 (length free)) both_parts.1) person known_person.0 known_person.1) in
        all_in (λ pair. Says (clash person pair)) (pairs_in (meetings_of groups person)) all (one, two)
        (of_pairs (meetings_of groups person) (rising person) one two (meeting_of one person first) (meeting_of two person second) less)
        (a.copy_is ∙ ap (λ (k : ℕ). pos k) same ∙ sym b.copy_is)

    -- The values tell a timetable.
    to_timetable : TellsTimetable free groups values
    to_timetable = record {
      hour = hour_of;
      told = λ place l.
          let key = key_at (copies groups) place in
          sym (value_at (copy_choice free) (copies groups) (copies_apart free groups so) values place l) ∙ (has_hour key.0 key.1 (in_copy place l)).copy_is;
      timetable = record {
        free_then = λ meeting person h. (has_hour meeting person h).free_is;
        apart = λ person one two first second same. elim (eqb_tells one two) [
          | inl is ↦ is.1
          | inr other ↦
              let differ = other.1 in
              elim (cases_lt one two) [
                | inl less ↦ absurd (apart_hours person one two less first second same)
                | inr more ↦ absurd (apart_hours person two one (omega (arith, differ, more)) second first (sym same))
              ]
        ];
      };
    }

  -- ---- from a timetable to values

  module _ (tells : TellsTimetable free groups values) where
    -- a copy has its meeting's hour
    told_copy : (meeting person : ℕ) → IsInMeeting groups meeting person → value_of_copy meeting person ≡ pos (tells.hour meeting)
    told_copy meeting person h =
        let at = stands (copy_choice free) (copies groups) (copies_apart free groups so) values (meeting, person) (copy_of meeting person h) in
        at.value_is ∙ tells.told at.place at.below ∙ ap (λ (k : ℕ × ℕ). pos (tells.hour k.0)) (sym at.key_is)

    -- which is free
    to_domains : (k : ℕ) → k < length (copies groups) → IsOneOf (list_of free (key_at (copies groups) k).1) (values k)
    to_domains k l =
        let key = key_at (copies groups) k in
        record { number = tells.hour key.0; among = tells.timetable.free_then key.0 key.1 (in_copy k l); value_is = tells.told k l }

    -- copies of a meeting are equal
    to_ties : AllByRecursion Says (flat_map (ties groups) (range_with_len 1 (length groups)))
    to_ties = each_tie free groups so Says (λ meeting first second low high i j.
        told_copy meeting first (record { low = low; high = omega (arith, high); member = i }) ∙ sym (told_copy meeting second (record { low = low; high = omega (arith, high); member = j })))

    -- those of two meetings of a person differ
    no_clash : (person : ℕ) (pair : ℕ × ℕ) → In pair (pairs_in (meetings_of groups person)) → Says (clash person pair)
    no_clash person pair i same =
        let both = in_pairs (meetings_of groups person) (rising person) pair i in
        let first = of_meeting pair.0 person both.0 in
        let second = of_meeting pair.1 person both.1 in
        let hours = pos_inside (tells.hour pair.0) (tells.hour pair.1) (sym (told_copy pair.0 person first) ∙ same ∙ told_copy pair.1 person second) in
        let one = tells.timetable.apart person pair.0 pair.1 first second hours in
        let less = both.2 in
        absurd (omega (arith, one, less))

    -- for all people
    to_clashes : AllByRecursion Says (flat_map (clashes groups) (range_with_len 1 (length free)))
    to_clashes =
        all_flat_map Says (clashes groups) (range_with_len 1 (length free)) (
        all_range (λ person. AllByRecursion Says (clashes groups person)) 1 (length free) (λ person low high.
        all_map Says (clash person) (pairs_in (meetings_of groups person)) (in_all (λ pair. Says (clash person pair)) (pairs_in (meetings_of groups person)) (no_clash person))))

  -- The solutions of a meeting problem are its timetables.
  agenda_solutions : IsSolution (csp_of (named_problem (agenda_lines free groups))) values ↔ TellsTimetable free groups values
  agenda_solutions =
      let both = named_solutions (copy_choice free) (copies groups) (agenda_constraints free groups) (agenda_within free groups so) values in (
        λ is. let h = both.0 is in to_timetable h.0 h.1,
        λ tells. both.1 (to_domains tells, all_append Says (flat_map (ties groups) (range_with_len 1 (length groups))) (flat_map (clashes groups) (range_with_len 1 (length free))) (to_ties tells) (to_clashes tells)),
      )

-- So are those of the problems that words make.
pub meetings_are_timetables : MeetingsAreTimetables
meetings_are_timetables people meetings each hours busy words sizes values =
    let free = free_hours people hours busy words in
    let groups = meeting_people people meetings each hours words in
    let many = selections_many false words busy hours people in
    let known : AllByRecursion (AreOf (length free)) groups =
    all_selections (AreOf (length free)) true (words_after (people * hours) words) each people meetings (λ later.
    all_selected (λ person. (1 ≤ person) × (person < 1 + length free)) true later each (range_with_len 1 people)
    (all_range (λ person. (1 ≤ person) × (person < 1 + length free)) 1 people (λ person low high. (low, omega (arith, high, many))))) in
    agenda_solutions free groups (agenda_is people meetings each hours busy words sizes) known values
