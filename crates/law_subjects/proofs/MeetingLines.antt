-- Texts of meeting problems have the problems of their lines.
use Rattle.std.proofs.Common.{◌≡◌, ℕ, suc, ◌+◌, ◌*◌, ◌<◌, ◌≤◌, ◌^◌, inl, inr, true, false, List, [], ◌∷◌, ◌++◌, map, flat_map, length, sum_by, codes, decimal, refl, sym, ap, ◌∙◌, subst, append_assoc, length-append, mul-le-mul, arith}
use Rattle.std.specs.Prelude.{◌==◌}
use Rattle.std.specs.List.{range_with_len, AllByRecursion}
use Rattle.std.proofs.lemmas.Bool.Decides.{eqb_tells}
use Rattle.std.proofs.lemmas.List.Sums.{sum_by-append}
use Rattle.std.proofs.lemmas.List.{length-map}
use Rattle.std.proofs.lemmas.Fmt.{length-decimal-le}
use Rattle.dcsp_defs.specs.Words.{In}
use Rattle.dcsp_defs.proofs.Lists.{In-list_any}
use Rattle.dcsp_rule.specs.Rules.{size_of}
use Rattle.dcsp_gen.specs.Lines.{solve_line}
use Rattle.dcsp_gen.specs.Lists.{list_of, pairs_in, neighbours, domain}
use Rattle.dcsp_gen.specs.Meetings.{copy_line, copy_lines, tie_line, tie_lines, attends, meetings_of, clash_line, clash_lines, agenda}
use Rattle.dcsp_gen.specs.Selection.{words_after}
use Rattle.dcsp_gen.proofs.Selecting.{length_range, once_more}
use Rattle.law_subjects.specs.RandomBinary.{AreApart}
use Rattle.law_subjects.specs.Named.{NamedLine, named_text, named_lines_text, IsName, IsWellNamed, named_rules, Choice, choose, names_of, IsConstraintOn, AreNamedWithin}
use Rattle.law_subjects.specs.MeetingLines.{copies_of, copies, copy_name, copy_choice, tie, ties, clash, clashes, agenda_choices, agenda_constraints, agenda_lines, free_hours, meeting_people, MeetingSizesFit, MeetingTextsAreLines, MeetingsHaveProblem, MeetingsAreShort}
use Rattle.law_subjects.proofs.Folded.{flat_flat, flat_same, flat_mapped, few_flat, pairs_few, neighbours_few, filtered_few, total_few, all_pairs_in, all_neighbours, all_filtered, listed_all, selected_few, all_selections, selections_many}
use Rattle.law_subjects.proofs.Lengths.{total}
use Rattle.law_subjects.proofs.Lists.{all_weaker, all_append, all_map, all_flat_map, all_range}
use Rattle.law_subjects.proofs.NamedTexts.{all_well_named, named_answered, named_parts, IsShortName, HasShortNames, named_room, named_short}
use Rattle.law_subjects.proofs.PairNames.{ArePairSmall, pair_front, two_fronts, pair_is_name, pair_names_differ, name_in, names_apart, all_in, in_all, in_grid_of}
use Rattle.law_subjects.proofs.RandomBinary.{apart_selected, apart_range, apart_grid}
use Rattle.law_subjects.proofs.Tables.{all_selected}

-- ---- as text

-- a copy's line
copy_text : (free : List (List ℕ)) (meeting person : ℕ) → named_text (choose (copy_choice free (meeting, person))) ≡ copy_line free meeting person
copy_text free meeting person =
    ap (λ (t : List ℕ). domain (list_of free person) ++ (codes ": " ++ t)) (pair_front 109 112 (meeting, person) (codes " :: output_var;\n"))

-- the lines of all copies
copies_text : (free groups : List (List ℕ)) → named_lines_text (map choose (agenda_choices free groups)) ≡ flat_map (copy_lines free groups) (range_with_len 1 (length groups))
copies_text free groups =
    let line : ℕ × ℕ → List ℕ = λ copy. named_text (choose (copy_choice free copy)) in
    let meetings = range_with_len 1 (length groups) in
    flat_mapped named_text choose (λ choice. named_text (choose choice)) (agenda_choices free groups) (λ choice. refl)
    ∙ flat_mapped (λ choice. named_text (choose choice)) (copy_choice free) line (copies groups) (λ copy. refl)
    ∙ flat_flat line (copies_of groups) meetings
    ∙ flat_same (λ meeting. flat_map line (copies_of groups meeting)) (copy_lines free groups) meetings
    (λ meeting. flat_mapped line (λ person. (meeting, person)) (copy_line free meeting) (list_of groups meeting) (copy_text free meeting))

-- a tie's line
tie_text : (meeting : ℕ) (pair : ℕ × ℕ) → named_text (tie meeting pair) ≡ tie_line meeting pair
tie_text meeting (first, second) = two_fronts (codes "constraint int_eq(") 109 112 (meeting, first) (meeting, second) (codes ");\n")

-- those of a meeting
ties_text : (groups : List (List ℕ)) (meeting : ℕ) → named_lines_text (ties groups meeting) ≡ tie_lines groups meeting
ties_text groups meeting = flat_mapped named_text (tie meeting) (tie_line meeting) (neighbours (list_of groups meeting)) (tie_text meeting)

-- the line of two meetings of a person
clash_text : (person : ℕ) (pair : ℕ × ℕ) → named_text (clash person pair) ≡ clash_line person pair
clash_text person (first, second) = two_fronts (codes "constraint int_ne(") 109 112 (first, person) (second, person) (codes ");\n")

-- those of a person
clashes_text : (groups : List (List ℕ)) (person : ℕ) → named_lines_text (clashes groups person) ≡ clash_lines groups person
clashes_text groups person = flat_mapped named_text (clash person) (clash_line person) (pairs_in (meetings_of groups person)) (clash_text person)

-- the lines of all constraints
constraints_text : (free groups : List (List ℕ))
    → named_lines_text (agenda_constraints free groups) ≡ flat_map (tie_lines groups) (range_with_len 1 (length groups)) ++ flat_map (clash_lines groups) (range_with_len 1 (length free))
constraints_text free groups =
    let meetings = range_with_len 1 (length groups) in
    let people = range_with_len 1 (length free) in
    let first : named_lines_text (flat_map (ties groups) meetings) ≡ flat_map (tie_lines groups) meetings =
    flat_flat named_text (ties groups) meetings ∙ flat_same (λ meeting. named_lines_text (ties groups meeting)) (tie_lines groups) meetings (ties_text groups) in
    let second : named_lines_text (flat_map (clashes groups) people) ≡ flat_map (clash_lines groups) people =
    flat_flat named_text (clashes groups) people ∙ flat_same (λ person. named_lines_text (clashes groups person)) (clash_lines groups) people (clashes_text groups) in
    split (flat_map (ties groups) meetings) (flat_map (clashes groups) people) ∙ ap (λ (t : List ℕ). t ++ named_lines_text (flat_map (clashes groups) people)) first
    ∙ ap (λ (t : List ℕ). flat_map (tie_lines groups) meetings ++ t) second
  where
    -- lines and more lines
    split : (xs ys : List NamedLine) → named_lines_text (xs ++ ys) ≡ named_lines_text xs ++ named_lines_text ys
    split [] ys = refl
    split (x ∷ xs) ys = ap (λ (t : List ℕ). named_text x ++ t) (split xs ys) ∙ sym (append_assoc (named_text x) (named_lines_text xs) (named_lines_text ys))

-- The text of a meeting problem is that of its lines.
pub agenda_text : MeetingTextsAreLines
agenda_text free groups =
    let a = flat_map (copy_lines free groups) (range_with_len 1 (length groups)) in
    let b = flat_map (tie_lines groups) (range_with_len 1 (length groups)) in
    let c = flat_map (clash_lines groups) (range_with_len 1 (length free)) in
    let constraints = agenda_constraints free groups in
    append_assoc (a ++ b) c solve_line ∙ append_assoc a b (c ++ solve_line)
    ∙ sym (
    named_parts (agenda_choices free groups) constraints
    ∙ ap (λ (t : List ℕ). t ++ (named_lines_text constraints ++ solve_line)) (copies_text free groups)
    ∙ ap (λ (t : List ℕ). a ++ (t ++ solve_line)) (constraints_text free groups)
    ∙ ap (λ (t : List ℕ). a ++ t) (append_assoc b c solve_line))

-- ---- agendas of few people, meetings and hours

-- some hours of at most 100
abbrev pub AreHours : List ℕ → Type 0
AreHours list = (length list ≤ 100) × AllByRecursion (λ hour. hour ≤ 100) list

-- some different people of at most 64
abbrev pub AreMembers : List ℕ → Type 0
AreMembers list = (length list ≤ 64) × AreApart list × AllByRecursion (λ person. person ≤ 64) list

-- the free hours of few people, and the people of few meetings
pub record IsAgenda (free groups : List (List ℕ)) : Type 0 where
  pub few_people : length free ≤ 64
  pub few_meetings : length groups ≤ 64
  pub hours : AllByRecursion AreHours free
  pub members : AllByRecursion AreMembers groups

-- a copy's numbers
abbrev IsCopy : ℕ × ℕ → Type 0
IsCopy copy = (copy.0 ≤ 64) × (copy.1 ≤ 64)

-- its numbers are small
copy_small : (copy : ℕ × ℕ) → IsCopy copy → ArePairSmall copy
copy_small copy h = let a = h.0 in let b = h.1 in (omega (arith, a), omega (arith, b))

-- its name is one
copy_is_name : (copy : ℕ × ℕ) → IsCopy copy → IsName (copy_name copy)
copy_is_name copy h = pair_is_name 109 112 copy refl refl (copy_small copy h)

-- and a short one
copy_short : (copy : ℕ × ℕ) → IsCopy copy → IsShortName (copy_name copy)
copy_short copy h =
    let a = h.0 in
    let b = h.1 in
    let first = length-decimal-le 5 copy.0 (omega arith) (omega (arith, a)) (omega (arith, a)) in
    let second = length-decimal-le 5 copy.1 (omega arith) (omega (arith, b)) (omega (arith, b)) in
    omega (arith, first, second, length-append (decimal copy.0) (112 ∷ decimal copy.1))

module _ (free groups : List (List ℕ)) (so : IsAgenda free groups) where
  -- the people of a meeting
  members_of : (meeting : ℕ) → AreMembers (list_of groups meeting)
  members_of meeting = listed_all AreMembers groups meeting so.members (omega arith, tt, tt)

  -- the free hours of a person
  hours_of : (person : ℕ) → AreHours (list_of free person)
  hours_of person = listed_all AreHours free person so.hours (omega arith, tt)

  -- all copies have small numbers
  are_copies : AllByRecursion IsCopy (copies groups)
  are_copies =
      let few = so.few_meetings in
      all_flat_map IsCopy (copies_of groups) (range_with_len 1 (length groups)) (
      all_range (λ meeting. AllByRecursion IsCopy (copies_of groups meeting)) 1 (length groups) (λ meeting low high.
      all_map IsCopy (λ person. (meeting, person)) (list_of groups meeting)
      (all_weaker (λ person. person ≤ 64) (λ person. IsCopy (meeting, person)) (list_of groups meeting) (λ person small. (omega (arith, high, few), small)) (members_of meeting).2)))

  -- there are at most 4,096
  many_copies : length (copies groups) ≤ 4096
  many_copies =
      let few = so.few_meetings in
      let all = few_flat (copies_of groups) 64 (range_with_len 1 (length groups)) (λ meeting.
      let size = length-map {B = ℕ × ℕ} (list_of groups meeting) (λ person. (meeting, person)) in let short = (members_of meeting).0 in omega (arith, size, short)) in
      let count = length_range 1 (length groups) in
      omega (arith, all, count, few)

  -- their names differ
  pub copies_apart : AreApart (names_of (agenda_choices free groups))
  copies_apart =
      names_apart IsCopy (copy_choice free) (λ k l small also same. pair_names_differ 109 112 refl k l (copy_small k small) (copy_small l also) same) (copies groups) are_copies
      (apart_grid (list_of groups) (λ meeting. (members_of meeting).1) 1 (length groups))

  -- the name of a copy is declared
  copy_in : (meeting person : ℕ) → 1 ≤ meeting → meeting < 1 + length groups → In person (list_of groups meeting) → In (copy_name (meeting, person)) (names_of (agenda_choices free groups))
  copy_in meeting person low high i = name_in (copy_choice free) (copies groups) (meeting, person) (in_grid_of (list_of groups) 1 (length groups) meeting person low high i)

  -- ---- constraints

  -- what holds of two declared names holds of each constraint
  pub each_tie : (P : NamedLine → Type 0) → ((meeting first second : ℕ) → 1 ≤ meeting → meeting < 1 + length groups → In first (list_of groups meeting) → In second (list_of groups meeting) → P (tie meeting (first, second)))
      → AllByRecursion P (flat_map (ties groups) (range_with_len 1 (length groups)))
  each_tie P f =
      all_flat_map P (ties groups) (range_with_len 1 (length groups)) (
      all_range (λ meeting. AllByRecursion P (ties groups meeting)) 1 (length groups) (λ meeting low high.
      let people = list_of groups meeting in
      all_map P (tie meeting) (neighbours people) (
      all_weaker (λ (pair : ℕ × ℕ). In pair.0 people × In pair.1 people) (λ pair. P (tie meeting pair)) (neighbours people) (λ pair h. f meeting pair.0 pair.1 low high h.0 h.1)
      (all_neighbours (λ person. In person people) people (in_all (λ person. In person people) people (λ person i. i))))))

  -- a meeting that someone attends
  pub attended : (person meeting : ℕ) → attends groups person meeting ≡ true → In person (list_of groups meeting)
  attended person meeting e =
      let found = In-list_any (λ other. other == person) (list_of groups meeting) e in
      let passed = found.2 in
      elim (eqb_tells found.0 person) [
        | inl same ↦ subst (λ (k : ℕ). In k (list_of groups meeting)) same.1 found.1
        | inr other ↦ absurd (let no = other.0 in cc)
      ]

  -- a meeting that a person is in
  abbrev Attended : ℕ → ℕ → Type 0
  Attended person meeting = (1 ≤ meeting) × (meeting < 1 + length groups) × In person (list_of groups meeting)

  -- of each two meetings of a person
  each_clash : (P : NamedLine → Type 0) → ((person first second : ℕ) → Attended person first → Attended person second → P (clash person (first, second)))
      → AllByRecursion P (flat_map (clashes groups) (range_with_len 1 (length free)))
  each_clash P f =
      all_flat_map P (clashes groups) (range_with_len 1 (length free)) (
      all_range (λ person. AllByRecursion P (clashes groups person)) 1 (length free) (λ person low high.
      let meetings = meetings_of groups person in
      let all = all_weaker (λ meeting. ((1 ≤ meeting) × (meeting < 1 + length groups)) × (attends groups person meeting ≡ true)) (Attended person) meetings (λ meeting h. (h.0.0, h.0.1, attended person meeting h.1))
      (all_filtered (λ meeting. (1 ≤ meeting) × (meeting < 1 + length groups)) (attends groups person) (range_with_len 1 (length groups)) (all_range (λ meeting. (1 ≤ meeting) × (meeting < 1 + length groups)) 1 (length groups) (λ meeting l r. (l, r)))) in
      all_map P (clash person) (pairs_in meetings) (
      all_weaker (λ (pair : ℕ × ℕ). Attended person pair.0 × Attended person pair.1) (λ pair. P (clash person pair)) (pairs_in meetings) (λ pair h. f person pair.0 pair.1 h.0 h.1)
      (all_pairs_in (Attended person) meetings all))))

  -- what holds of each comparison of two copies
  each_constraint : (P : NamedLine → Type 0) → ((meeting first second : ℕ) → 1 ≤ meeting → meeting < 1 + length groups → In first (list_of groups meeting) → In second (list_of groups meeting) → P (tie meeting (first, second)))
      → ((person first second : ℕ) → Attended person first → Attended person second → P (clash person (first, second))) → AllByRecursion P (agenda_constraints free groups)
  each_constraint P f g = all_append P (flat_map (ties groups) (range_with_len 1 (length groups))) (flat_map (clashes groups) (range_with_len 1 (length free))) (each_tie P f) (each_clash P g)

  -- constraints are on declared variables
  constrained : AllByRecursion (IsConstraintOn (names_of (agenda_choices free groups))) (agenda_constraints free groups)
  constrained = each_constraint (IsConstraintOn (names_of (agenda_choices free groups)))
      (λ meeting first second low high i j. (copy_in meeting first low high i, copy_in meeting second low high j))
      (λ person first second a b. (copy_in first person a.0 a.1 a.2, copy_in second person b.0 b.1 b.2))

  -- a copy in a meeting is small
  member_small : (meeting person : ℕ) → meeting < 1 + length groups → In person (list_of groups meeting) → IsCopy (meeting, person)
  member_small meeting person high i =
      let few = so.few_meetings in
      (omega (arith, high, few), all_in (λ k. k ≤ 64) (list_of groups meeting) (members_of meeting).2 person i)

  -- by their names
  constraints_named : AllByRecursion IsWellNamed (agenda_constraints free groups)
  constraints_named = each_constraint IsWellNamed
      (λ meeting first second low high i j. (copy_is_name (meeting, first) (member_small meeting first high i), copy_is_name (meeting, second) (member_small meeting second high j)))
      (λ person first second a b. (copy_is_name (first, person) (member_small first person a.1 a.2), copy_is_name (second, person) (member_small second person b.1 b.2)))

  -- which are short
  constraints_short : AllByRecursion HasShortNames (agenda_constraints free groups)
  constraints_short = each_constraint HasShortNames
      (λ meeting first second low high i j. (copy_short (meeting, first) (member_small meeting first high i), copy_short (meeting, second) (member_small meeting second high j)))
      (λ person first second a b. (copy_short (first, person) (member_small first person a.1 a.2), copy_short (second, person) (member_small second person b.1 b.2)))

  -- so are their lines
  constraints_room : AllByRecursion (λ line. named_room line ≤ 60) (agenda_constraints free groups)
  constraints_room = each_constraint (λ line. named_room line ≤ 60) (λ meeting first second low high i j. omega arith) (λ person first second a b. omega arith)

  -- each has two terms
  constraints_narrow : AllByRecursion (λ line. sum_by size_of (named_rules (names_of (agenda_choices free groups)) line) ≤ 2) (agenda_constraints free groups)
  constraints_narrow = each_constraint (λ line. sum_by size_of (named_rules (names_of (agenda_choices free groups)) line) ≤ 2) (λ meeting first second low high i j. omega arith) (λ person first second a b. omega arith)

  -- there are at most 135,168: 64 for each meeting, and 2,048 for each person
  many_constraints : length (agenda_constraints free groups) ≤ 135168
  many_constraints =
      let few = so.few_meetings in
      let few_people = so.few_people in
      let tied = few_flat (ties groups) 64 (range_with_len 1 (length groups)) (λ meeting.
      let people = list_of groups meeting in
      let size = length-map {B = NamedLine} (neighbours people) (tie meeting) in
      let short = (members_of meeting).0 in
      let near = neighbours_few people in
      omega (arith, size, short, near)) in
      let clashed = few_flat (clashes groups) 2048 (range_with_len 1 (length free)) (λ person.
      let meetings = meetings_of groups person in
      let size = length-map {B = NamedLine} (pairs_in meetings) (clash person) in
      let half = pairs_few meetings in
      let count : length meetings ≤ length groups = filtered_few (attends groups person) 1 (length groups) in
      let most : length meetings ≤ 64 = omega (arith, count, few) in
      let square : length meetings * length meetings ≤ 64 * 64 = mul-le-mul most most in
      omega (arith, size, half, square)) in
      let one = length_range 1 (length groups) in
      let two = length_range 1 (length free) in
      let both = length-append (flat_map (ties groups) (range_with_len 1 (length groups))) (flat_map (clashes groups) (range_with_len 1 (length free))) in
      omega (arith, tied, clashed, one, two, both, few, few_people)

  -- ---- variables

  -- each copy has at most 100 hours
  choices_sized : AllByRecursion (λ (choice : Choice). length choice.0 ≤ 100) (agenda_choices free groups)
  choices_sized = all_map (λ (choice : Choice). length choice.0 ≤ 100) (copy_choice free) (copies groups) (in_all (λ copy. length (list_of free copy.1) ≤ 100) (copies groups) (λ copy i. (hours_of copy.1).0))

  -- and a name
  choices_named : AllByRecursion IsWellNamed (map choose (agenda_choices free groups))
  choices_named =
      all_map IsWellNamed choose (agenda_choices free groups) (all_map (λ choice. IsWellNamed (choose choice)) (copy_choice free) (copies groups) (
      all_weaker IsCopy (λ copy. IsWellNamed (choose (copy_choice free copy))) (copies groups) (λ copy small. (all_weaker (λ hour. hour ≤ 100) (λ hour. hour ≤ 2 ^ 31) (list_of free copy.1) (λ hour few. omega (arith, few)) (hours_of copy.1).1, copy_is_name copy small)) are_copies))

  -- which is short
  choices_short : AllByRecursion HasShortNames (map choose (agenda_choices free groups))
  choices_short =
      all_map HasShortNames choose (agenda_choices free groups) (all_map (λ choice. HasShortNames (choose choice)) (copy_choice free) (copies groups) (all_weaker IsCopy (λ copy. HasShortNames (choose (copy_choice free copy))) (copies groups) copy_short are_copies))

  -- so is its line
  choices_room : AllByRecursion (λ line. named_room line ≤ 1180) (map choose (agenda_choices free groups))
  choices_room =
      all_map (λ line. named_room line ≤ 1180) choose (agenda_choices free groups) (all_weaker (λ (choice : Choice). length choice.0 ≤ 100) (λ choice. named_room (choose choice) ≤ 1180) (agenda_choices free groups) (λ choice few. omega (arith, few)) choices_sized)

  -- there is one for each copy
  many_choices : length (agenda_choices free groups) ≤ 4096
  many_choices = let size = length-map {B = Choice} (copies groups) (copy_choice free) in let few = many_copies in omega (arith, size, few)

-- sums over lists of items that count for few
pub few_sum : (most : ℕ) (choices : List Choice) → AllByRecursion (λ (choice : Choice). length choice.0 ≤ most) choices → sum_by (λ (choice : Choice). length choice.0) choices ≤ length choices * most
few_sum most [] h = omega arith
few_sum most (choice ∷ choices) h =
    let here = h.0 in
    let rest = few_sum most choices h.1 in
    let sum : sum_by (λ (c : Choice). length c.0) (choice ∷ choices) ≡ 0 + length choice.0 + sum_by (λ (c : Choice). length c.0) choices = sum_by-append (λ (c : Choice). length c.0) (choice ∷ []) choices in
    let more : suc (length choices) * most ≡ most + length choices * most = once_more (length choices) most in
    omega (arith, here, rest, sum, more)

-- constraints of two terms each
pub narrow_sum : (names : List (List ℕ)) (lines : List NamedLine) → AllByRecursion (λ line. sum_by size_of (named_rules names line) ≤ 2) lines → sum_by size_of (flat_map (named_rules names) lines) ≤ 2 * length lines
narrow_sum names [] h = omega arith
narrow_sum names (line ∷ lines) h =
    let here = h.0 in
    let rest = narrow_sum names lines h.1 in
    let sum = sum_by-append size_of (named_rules names line) (flat_map (named_rules names) lines) in
    omega (arith, here, rest, sum)

module _ (free groups : List (List ℕ)) (so : IsAgenda free groups) where
  -- A meeting problem is within the limits.
  pub agenda_within : AreNamedWithin (agenda_choices free groups) (agenda_constraints free groups)
  agenda_within =
      let few = many_choices free groups so in
      let many = many_constraints free groups so in
      let sum = few_sum 100 (agenda_choices free groups) (choices_sized free groups so) in
      let terms = narrow_sum (names_of (agenda_choices free groups)) (agenda_constraints free groups) (constraints_narrow free groups so) in
      record {
        apart = copies_apart free groups so;
        constrained = constrained free groups so;
        variables = few;
        values = all_weaker (λ (choice : Choice). length choice.0 ≤ 100) (λ (choice : Choice). length choice.0 ≤ 65536) (agenda_choices free groups) (λ choice small. omega (arith, small)) (choices_sized free groups so);
        all_values = omega (arith, few, sum);
        rules = omega (arith, many);
        terms = omega (arith, many, terms);
      }

  -- its lines have names
  agenda_named : AllByRecursion IsWellNamed (agenda_lines free groups)
  agenda_named = all_well_named (agenda_choices free groups) (agenda_constraints free groups) (choices_named free groups so) (constraints_named free groups so)

  -- and are short
  agenda_room : total named_room (map choose (agenda_choices free groups)) + total named_room (agenda_constraints free groups) + 80 ≤ 16777216
  agenda_room =
      let few = many_choices free groups so in
      let many = many_constraints free groups so in
      let size = length-map {B = NamedLine} (agenda_choices free groups) choose in
      let first = total_few named_room 1180 (map choose (agenda_choices free groups)) (choices_room free groups so) in
      let second = total_few named_room 60 (agenda_constraints free groups) (constraints_room free groups so) in
      omega (arith, few, many, size, first, second)

-- ---- those that words make

-- calendars and groups that words make
pub agenda_is : (people meetings each hours busy : ℕ) (words : ℕ → ℕ) → MeetingSizesFit people meetings each hours busy → IsAgenda (free_hours people hours busy words) (meeting_people people meetings each hours words)
agenda_is people meetings each hours busy words sizes =
    let few = sizes.few_people in
    let days = sizes.few_hours in
    let also = sizes.few_meetings in
    let count = selections_many false words busy hours people in
    let groups = selections_many true (words_after (people * hours) words) each people meetings in
    record {
      few_people = omega (arith, count, few);
      few_meetings = omega (arith, groups, also);
      hours = all_selections AreHours false words busy hours people (λ later. (
        (let short = selected_few false later busy (range_with_len 1 hours) in let size = length_range 1 hours in omega (arith, short, size, days)),
        all_selected (λ hour. hour ≤ 100) false later busy (range_with_len 1 hours) (all_range (λ hour. hour ≤ 100) 1 hours (λ hour low high. omega (arith, high, days))),
      ));
      members = all_selections AreMembers true (words_after (people * hours) words) each people meetings (λ later. (
        (let short = selected_few true later each (range_with_len 1 people) in let size = length_range 1 people in omega (arith, short, size, few)),
        apart_selected true later each (range_with_len 1 people) (apart_range 1 people),
        all_selected (λ person. person ≤ 64) true later each (range_with_len 1 people) (all_range (λ person. person ≤ 64) 1 people (λ person low high. omega (arith, high, few))),
      ));
    }

-- Texts of meeting problems have problems.
pub meetings_have_problem : MeetingsHaveProblem
meetings_have_problem people meetings each hours busy words sizes =
    let free = free_hours people hours busy words in
    let groups = meeting_people people meetings each hours words in
    let so = agenda_is people meetings each hours busy words sizes in
    named_answered (agenda free groups) (agenda_choices free groups) (agenda_constraints free groups) (agenda_text free groups) (agenda_named free groups so) (agenda_within free groups so)

-- They are short.
pub meetings_are_short : MeetingsAreShort
meetings_are_short people meetings each hours busy words sizes =
    let free = free_hours people hours busy words in
    let groups = meeting_people people meetings each hours words in
    let so = agenda_is people meetings each hours busy words sizes in
    named_short (agenda free groups) (agenda_choices free groups) (agenda_constraints free groups) (agenda_text free groups) (agenda_named free groups so) (choices_short free groups so) (constraints_short free groups so) (agenda_room free groups so)
