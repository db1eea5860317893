-- The rules of a random binary problem: about which variables each is, and where it is false.
use Rattle.std.proofs.Common.{◌≡◌, ◌↔◌, ℕ, zero, suc, ◌+◌, ◌-◌, ◌*◌, ◌/◌, ◌<◌, ◌≤◌, ◌⊎◌, inl, inr, Bool, true, false, not, ◌&&◌, ◌||◌, List, [], ◌∷◌, ◌++◌, map, flat_map, filter_map, length, get_or, codes, refl, sym, ap, ◌∙◌, subst, arith, ⊎_elim, cond}
use Rattle.std.specs.Prelude.{ℤ, pos, count_by, if◌then◌else◌}
use Rattle.std.specs.Ordering.{int_eq}
use Rattle.std.specs.List.{range_with_len, AllByRecursion}
use Rattle.std.proofs.lemmas.Bool.{false≢true}
use Rattle.std.proofs.lemmas.Bool.Decides.{Decides-int_eq, eqb_tells}
use Rattle.std.proofs.lemmas.List.Sums.{sum_by-append}
use Rattle.dcsp_gen.specs.Problems.{pairs}
use Rattle.dcsp_gen.specs.Selection.{chooses, selected, wanted_after, words_after}
use Rattle.dcsp_gen.specs.Binary.{value_pairs}
use Rattle.dcsp_gen.proofs.Choosing.{exact}
use Rattle.dcsp_meaning.specs.Words.{argument}
use Rattle.dcsp_meaning.specs.Rows.{stands_at, is_among_rows, has_row}
use Rattle.dcsp_defs.specs.Words.{In}
use Rattle.dcsp_defs.specs.Csp.{Assignment}
use Rattle.dcsp_defs.proofs.Lists.{and_left, and_right, and_both}
use Rattle.dcsp_rule.specs.declared.rule.Term.TheVariants.{Const}
use Rattle.dcsp_rule.specs.Rules.{rule_truth, value_under, variable_of, variables_of}
use Rattle.dcsp_rule.specs.Problems.{Contents}
use Rattle.law_subjects.specs.Lines.{ModelLine, Print, tables, binary, binary_tables}
use Rattle.law_subjects.specs.Says.{entries_of}
use Rattle.law_subjects.specs.Problems.{rules_of, table_rule, problem_of}
use Rattle.law_subjects.specs.RandomBinary.{AreApart, set_to, IsTight, AreTight, IsEdge, BinaryIsRandom}
use Rattle.law_subjects.proofs.Tables.{edges_many, edges_are_pairs, fit}
use Rattle.law_subjects.proofs.Generators.{binary_within, with_values}
use Rattle.law_subjects.proofs.Whole.{lines_say_problem}

-- ---- what is selected of things of which none stands twice

pub in_selected : {X : Type 0} (kept : Bool) (words : ℕ → ℕ) (wanted : ℕ) (xs : List X) (y : X) → In y (selected kept words wanted xs) → In y xs
in_selected kept words wanted [] y i = i
in_selected {X = X} kept words wanted (x ∷ xs) y i =
    let chosen = chooses (words 0) wanted (suc (length xs)) in
    by (selected kept (λ k. words (suc k)) (wanted_after chosen wanted) xs) (in_selected kept (λ k. words (suc k)) (wanted_after chosen wanted) xs y) (if kept then chosen else not chosen) i
  where
    by : (rest : List X) → (In y rest → In y xs) → (b : Bool) → In y (if b then x ∷ rest else rest) → In y (x ∷ xs)
    by rest f true (inl e) = inl e
    by rest f true (inr j) = inr (f j)
    by rest f false j = inr (f j)

pub apart_selected : {X : Type 0} (kept : Bool) (words : ℕ → ℕ) (wanted : ℕ) (xs : List X) → AreApart xs → AreApart (selected kept words wanted xs)
apart_selected kept words wanted [] h = tt
apart_selected {X = X} kept words wanted (x ∷ xs) h =
    let chosen = chooses (words 0) wanted (suc (length xs)) in
    by (selected kept (λ k. words (suc k)) (wanted_after chosen wanted) xs) (in_selected kept (λ k. words (suc k)) (wanted_after chosen wanted) xs x) (apart_selected kept (λ k. words (suc k)) (wanted_after chosen wanted) xs h.1) (if kept then chosen else not chosen)
  where
    by : (rest : List X) → (In x rest → In x xs) → AreApart rest → (b : Bool) → AreApart (if b then x ∷ rest else rest)
    by rest f r true = ((λ i. h.0 (f i)), r)
    by rest f r false = r

-- what is chosen is not left
chosen_or_left : {X : Type 0} (words : ℕ → ℕ) (wanted : ℕ) (xs : List X) (y : X) → AreApart xs → In y (selected true words wanted xs) → In y (selected false words wanted xs) → ⊥
chosen_or_left words wanted [] y h i j = i
chosen_or_left {X = X} words wanted (x ∷ xs) y h i j =
    let chosen = chooses (words 0) wanted (suc (length xs)) in
    let later = λ (k : ℕ). words (suc k) in
    let still = wanted_after chosen wanted in
    by (selected true later still xs) (selected false later still xs) (in_selected true later still xs y) (in_selected false later still xs y) (chosen_or_left later still xs y h.1) chosen i j
  where
    by : (first second : List X) → (In y first → In y xs) → (In y second → In y xs) → (In y first → In y second → ⊥) → (b : Bool) → In y (if b then x ∷ first else first) → In y (if not b then x ∷ second else second) → ⊥
    by first second f g apart true (inl e) k = h.0 (subst (λ (z : X). In z xs) e (g k))
    by first second f g apart true (inr k) l = apart k l
    by first second f g apart false k (inl e) = h.0 (subst (λ (z : X). In z xs) e (f k))
    by first second f g apart false k (inr l) = apart k l

-- a test that passes on those that are chosen, and on no other, passes as often as they are many
count_selected : {X : Type 0} (p : X → Bool) (words : ℕ → ℕ) (wanted : ℕ) (xs : List X) → ((x : X) → In x (selected true words wanted xs) → p x ≡ true) → ((x : X) → In x (selected false words wanted xs) → p x ≡ false)
    → count_by p xs ≡ length (selected true words wanted xs)
count_selected p words wanted [] h k = refl
count_selected {X = X} p words wanted (x ∷ xs) h k =
    let chosen = chooses (words 0) wanted (suc (length xs)) in
    let later = λ (k : ℕ). words (suc k) in
    let still = wanted_after chosen wanted in
    by (selected true later still xs) (selected false later still xs) (count_selected p later still xs) chosen h k
  where
    by : (first second : List X) → (((y : X) → In y first → p y ≡ true) → ((y : X) → In y second → p y ≡ false) → count_by p xs ≡ length first) → (b : Bool)
        → ((y : X) → In y (if b then x ∷ first else first) → p y ≡ true) → ((y : X) → In y (if not b then x ∷ second else second) → p y ≡ false) → count_by p (x ∷ xs) ≡ length (if b then x ∷ first else first)
    by first second f true h k =
        let one : ◌≡◌ {A = ℕ} (cond (p x) 1 0) 1 = ap (λ (b : Bool). cond {A = ℕ} b 1 0) (h x (inl refl)) in
        let rest = f (λ y i. h y (inr i)) k in
        let sum : count_by p (x ∷ xs) ≡ 0 + cond (p x) 1 0 + count_by p xs = sum_by-append (λ z. cond (p z) 1 0) (x ∷ []) xs in
        omega (arith, one, rest, sum)
    by first second f false h k =
        let none : ◌≡◌ {A = ℕ} (cond (p x) 1 0) 0 = ap (λ (b : Bool). cond {A = ℕ} b 1 0) (k x (inl refl)) in
        let rest = f h (λ y i. k y (inr i)) in
        let sum : count_by p (x ∷ xs) ≡ 0 + cond (p x) 1 0 + count_by p xs = sum_by-append (λ z. cond (p z) 1 0) (x ∷ []) xs in
        omega (arith, none, rest, sum)

-- ---- pairs

pub in_range : (low count k : ℕ) → In k (range_with_len low count) → low ≤ k
in_range low zero k i = absurd i
in_range low (suc count) k (inl e) = omega (arith, e)
in_range low (suc count) k (inr i) = let rest = in_range (low + 1) count k i in omega (arith, rest)

pub apart_range : (low count : ℕ) → AreApart (range_with_len low count)
apart_range low zero = tt
apart_range low (suc count) = ((λ i. let h = in_range (low + 1) count low i in omega (arith, h)), apart_range (low + 1) count)

-- a number beside each of some
abbrev pub beside : ℕ → List ℕ → List (ℕ × ℕ)
beside first seconds = map (λ second. (first, second)) seconds

pub in_beside : (first : ℕ) (seconds : List ℕ) (pair : ℕ × ℕ) → In pair (beside first seconds) → (pair.0 ≡ first) × In pair.1 seconds
in_beside first [] pair i = absurd i
in_beside first (second ∷ seconds) pair (inl e) = (ap (λ (q : ℕ × ℕ). q.0) e, inl (ap (λ (q : ℕ × ℕ). q.1) e))
in_beside first (second ∷ seconds) pair (inr i) = let rest = in_beside first seconds pair i in (rest.0, inr rest.1)

apart_beside : (first : ℕ) (seconds : List ℕ) → AreApart seconds → AreApart (beside first seconds)
apart_beside first [] h = tt
apart_beside first (second ∷ seconds) h = ((λ i. h.0 (in_beside first seconds (first, second) i).1), apart_beside first seconds h.1)

pub in_append : {X : Type 0} (x : X) (xs ys : List X) → In x (xs ++ ys) → In x xs ⊎ In x ys
in_append x [] ys i = inr i
in_append x (z ∷ xs) ys (inl e) = inl (inl e)
in_append x (z ∷ xs) ys (inr i) = ⊎_elim (λ j. inl (inr j)) (λ j. inr j) (in_append x xs ys i)

apart_append : {X : Type 0} (xs ys : List X) → AreApart xs → AreApart ys → ((x : X) → In x xs → In x ys → ⊥) → AreApart (xs ++ ys)
apart_append [] ys h k f = k
apart_append (x ∷ xs) ys h k f = ((λ i. ⊎_elim h.0 (f x (inl refl)) (in_append x xs ys i)), apart_append xs ys h.1 k (λ z i. f z (inr i)))

-- numbers from low on, each beside some
in_grid : (seconds : ℕ → List ℕ) (low count : ℕ) (pair : ℕ × ℕ) → In pair (flat_map (λ first. beside first (seconds first)) (range_with_len low count)) → low ≤ pair.0
in_grid seconds low zero pair i = absurd i
in_grid seconds low (suc count) pair i =
    ⊎_elim (λ j. let e = (in_beside low (seconds low) pair j).0 in omega (arith, e)) (λ j. let rest = in_grid seconds (low + 1) count pair j in omega (arith, rest))
    (in_append pair (beside low (seconds low)) (flat_map (λ first. beside first (seconds first)) (range_with_len (low + 1) count)) i)

pub apart_grid : (seconds : ℕ → List ℕ) → ((first : ℕ) → AreApart (seconds first)) → (low count : ℕ) → AreApart (flat_map (λ first. beside first (seconds first)) (range_with_len low count))
apart_grid seconds h low zero = tt
apart_grid seconds h low (suc count) =
    apart_append (beside low (seconds low)) (flat_map (λ first. beside first (seconds first)) (range_with_len (low + 1) count)) (apart_beside low (seconds low) (h low)) (apart_grid seconds h (low + 1) count)
    (λ pair i j. let e = (in_beside low (seconds low) pair i).0 in let l = in_grid seconds (low + 1) count pair j in omega (arith, e, l))

pub pairs_apart : (n : ℕ) → AreApart (pairs n)
pairs_apart n = apart_grid (λ first. range_with_len (first + 1) (n - first)) (λ first. apart_range (first + 1) (n - first)) 1 n

pub values_apart : (d : ℕ) → AreApart (value_pairs d)
values_apart d = apart_grid (λ first. range_with_len 0 d) (λ first. apart_range 0 d) 0 d

-- ---- rows as one list

-- the entries of rows, as values
abbrev pub flat : List (ℕ × ℕ) → List ℤ
flat rows = map (λ entry. pos entry) (entries_of rows)

-- where the entries of a row stand
entry_at : (rows : List (ℕ × ℕ)) (k : ℕ) → (argument (flat rows) (k * 2) ≡ pos (get_or rows k (0, 0)).0) × (argument (flat rows) (k * 2 + 1) ≡ pos (get_or rows k (0, 0)).1)
entry_at [] k = (refl, refl)
entry_at (row ∷ rows) zero = (refl, refl)
entry_at (row ∷ rows) (suc k) =
    let shape : suc k * 2 ≡ suc (suc (k * 2)) = omega arith in
    let next : suc k * 2 + 1 ≡ suc (suc (k * 2 + 1)) = omega arith in
    let rest = entry_at rows k in
    (ap (argument (flat (row ∷ rows))) shape ∙ rest.0, ap (argument (flat (row ∷ rows))) next ∙ rest.1)

same_value : (x y : ℤ) → (int_eq x y ≡ true) ↔ (x ≡ y)
same_value x y = ((Decides-int_eq x y).0, (Decides-int_eq x y).1)

pub pos_inside : (m n : ℕ) → pos m ≡ pos n → m ≡ n
pos_inside m n e = cc

both_parts : (pair row : ℕ × ℕ) → pair.0 ≡ row.0 → pair.1 ≡ row.1 → pair ≡ row
both_parts (a, b) (c, d) e f = rw (e, f) refl

and_true : (b : Bool) → b ≡ true → (b && true) ≡ true
and_true true e = refl
and_true false e = e

true_and : (b : Bool) → (b && true) ≡ true → b ≡ true
true_and true e = refl
true_and false e = e

or_left : (a b : Bool) → a ≡ true → (a || b) ≡ true
or_left true b e = refl
or_left false b e = absurd (false≢true e)

or_right : (a b : Bool) → b ≡ true → (a || b) ≡ true
or_right true b e = refl
or_right false b e = e

or_either : (a b : Bool) → (a || b) ≡ true → (a ≡ true) ⊎ (b ≡ true)
or_either true b e = inl refl
or_either false b e = inr e

-- a pair stands at a row's place exactly where it is the row
stands_is : (rows : List (ℕ × ℕ)) (pair : ℕ × ℕ) (k : ℕ) → (stands_at int_eq (pos pair.0 ∷ pos pair.1 ∷ []) (flat rows) (k * 2) ≡ true) ↔ (pair ≡ get_or rows k (0, 0))
stands_is rows pair k =
    let at = entry_at rows k in
    let row : ℕ × ℕ = get_or rows k (0, 0) in
    let first = int_eq (pos pair.0) (argument (flat rows) (k * 2)) in
    let second = int_eq (pos pair.1) (argument (flat rows) (k * 2 + 1)) in (
      λ h. both_parts pair row
          (pos_inside pair.0 row.0 ((same_value (pos pair.0) (argument (flat rows) (k * 2))).0 (and_left first (second && true) h) ∙ at.0))
          (pos_inside pair.1 row.1 ((same_value (pos pair.1) (argument (flat rows) (k * 2 + 1))).0 (true_and second (and_right first (second && true) h)) ∙ at.1)),
      λ e. and_both first (second && true)
          ((same_value (pos pair.0) (argument (flat rows) (k * 2))).1 (ap (λ (q : ℕ × ℕ). pos q.0) e ∙ sym at.0))
          (and_true second ((same_value (pos pair.1) (argument (flat rows) (k * 2 + 1))).1 (ap (λ (q : ℕ × ℕ). pos q.1) e ∙ sym at.1))),
    )

pub in_get : (rows : List (ℕ × ℕ)) (k : ℕ) → k < length rows → In (get_or rows k (0, 0)) rows
in_get [] k l = absurd (omega (arith, l))
in_get (row ∷ rows) zero l = inl refl
in_get (row ∷ rows) (suc k) l = inr (in_get rows k (omega (arith, l)))

pub place_of : (rows : List (ℕ × ℕ)) (pair : ℕ × ℕ) → In pair rows → (k : ℕ) × (k < length rows) × (pair ≡ get_or rows k (0, 0))
place_of [] pair i = absurd i
place_of (row ∷ rows) pair (inl e) = (0, omega arith, e)
place_of (row ∷ rows) pair (inr i) = let rest = place_of rows pair i in let l = rest.1 in (suc rest.0, omega (arith, l), rest.2)

-- a pair is among the first rows where it stands at one of them
among_in : (rows : List (ℕ × ℕ)) (pair : ℕ × ℕ) (count : ℕ) → count ≤ length rows → is_among_rows int_eq (pos pair.0 ∷ pos pair.1 ∷ []) (flat rows) count ≡ true → In pair rows
among_in rows pair zero l h = absurd (false≢true h)
among_in rows pair (suc count) l h = ⊎_elim
    (λ before. among_in rows pair count (omega (arith, l)) before)
    (λ here. subst (λ (q : ℕ × ℕ). In q rows) (sym ((stands_is rows pair count).0 here)) (in_get rows count (omega (arith, l))))
    (or_either (is_among_rows int_eq (pos pair.0 ∷ pos pair.1 ∷ []) (flat rows) count) (stands_at int_eq (pos pair.0 ∷ pos pair.1 ∷ []) (flat rows) (count * 2)) h)

in_among : (rows : List (ℕ × ℕ)) (pair : ℕ × ℕ) (k count : ℕ) → k < count → pair ≡ get_or rows k (0, 0) → is_among_rows int_eq (pos pair.0 ∷ pos pair.1 ∷ []) (flat rows) count ≡ true
in_among rows pair k zero l e = absurd (omega (arith, l))
in_among rows pair k (suc count) l e =
    let before = is_among_rows int_eq (pos pair.0 ∷ pos pair.1 ∷ []) (flat rows) count in
    let here = stands_at int_eq (pos pair.0 ∷ pos pair.1 ∷ []) (flat rows) (count * 2) in
    elim (eqb_tells k count) [
      | inl t ↦ or_right before here ((stands_is rows pair count).1 (subst (λ (j : ℕ). pair ≡ get_or rows j (0, 0)) t.1 e))
      | inr t ↦ let apart = t.1 in or_left before here (in_among rows pair k count (omega (arith, l, apart)) e)
    ]

half : (n : ℕ) → (2 * n) / 2 ≡ n
half n = omega arith

flat_long : (rows : List (ℕ × ℕ)) → length (flat rows) ≡ 2 * length rows
flat_long [] = omega arith
flat_long (row ∷ rows) = let rest = flat_long rows in omega (arith, rest)

-- a table has exactly its rows
pub has_is : (rows : List (ℕ × ℕ)) (pair : ℕ × ℕ) → (has_row int_eq (pos pair.0 ∷ pos pair.1 ∷ []) (flat rows) ≡ true) ↔ In pair rows
has_is rows pair =
    let row = pos pair.0 ∷ pos pair.1 ∷ [] in
    let many : length (flat rows) / 2 ≡ length rows = ap (λ n. n / 2) (flat_long rows) ∙ half (length rows) in
    let same : has_row int_eq row (flat rows) ≡ is_among_rows int_eq row (flat rows) (length rows) = ap (is_among_rows int_eq row (flat rows)) many in (
      λ h. among_in rows pair (length rows) (omega arith) (sym same ∙ h),
      λ i. let at = place_of rows pair i in same ∙ in_among rows pair at.0 (length rows) at.1 at.2,
    )

-- ---- the rule of a table

pub constants : (values : Assignment) (entries : List ℕ) → map (value_under values) (map (λ entry. Const (pos entry)) entries) ≡ map (λ entry. pos entry) entries
constants values [] = refl
constants values (entry ∷ entries) = ap (λ (vs : List ℤ). pos entry ∷ vs) (constants values entries)

no_variables : (entries : List ℕ) → filter_map variable_of (map (λ entry. Const (pos entry)) entries) ≡ []
no_variables [] = refl
no_variables (entry ∷ entries) = no_variables entries

about_edge : (first second : ℕ) (rows : List (ℕ × ℕ)) → variables_of (table_rule first second rows) ≡ (first - 1) ∷ (second - 1) ∷ []
about_edge first second rows = ap (λ (vs : List ℕ). (first - 1) ∷ (second - 1) ∷ vs) (no_variables (entries_of rows))

at_first : (edge pair : ℕ × ℕ) → set_to edge pair (edge.0 - 1) ≡ pos pair.0
at_first edge pair = elim (eqb_tells (edge.0 - 1) (edge.0 - 1)) [
  | inl t ↦ rw t.0 refl
  | inr t ↦ absurd (t.1 refl)
]

at_second : (edge pair : ℕ × ℕ) → 1 ≤ edge.0 → edge.0 < edge.1 → set_to edge pair (edge.1 - 1) ≡ pos pair.1
at_second edge pair low rising = elim (eqb_tells (edge.1 - 1) (edge.0 - 1)) [
  | inl t ↦ let same = t.1 in absurd (omega (arith, low, rising, same))
  | inr t ↦ rw t.0 refl
]

-- the rule is true exactly at its rows
true_at : (edge pair : ℕ × ℕ) (rows : List (ℕ × ℕ)) → 1 ≤ edge.0 → edge.0 < edge.1 → (rule_truth (table_rule edge.0 edge.1 rows) (set_to edge pair) ≡ true) ↔ In pair rows
true_at edge pair rows low rising =
    let values = set_to edge pair in
    let is : rule_truth (table_rule edge.0 edge.1 rows) values ≡ has_row int_eq (pos pair.0 ∷ pos pair.1 ∷ []) (flat rows) =
    ap (λ (vs : List ℤ). has_row int_eq (values (edge.0 - 1) ∷ values (edge.1 - 1) ∷ []) vs) (constants values (entries_of rows))
    ∙ ap (λ (v : ℤ). has_row int_eq (v ∷ values (edge.1 - 1) ∷ []) (flat rows)) (at_first edge pair)
    ∙ ap (λ (v : ℤ). has_row int_eq (pos pair.0 ∷ v ∷ []) (flat rows)) (at_second edge pair low rising) in
    let has = has_is rows pair in
    ((λ h. has.0 (sym is ∙ h)), (λ i. is ∙ has.1 i))

not_false : (b : Bool) → b ≡ true → not b ≡ false
not_false true e = refl
not_false false e = absurd (false≢true e)

not_true_is : (b : Bool) → (b ≡ true → ⊥) → not b ≡ true
not_true_is true f = absurd (f refl)
not_true_is false f = refl

-- it is false at exactly the pairs that were chosen
tight : (d forbidden : ℕ) (edge : ℕ × ℕ) (words : ℕ → ℕ) → 1 ≤ edge.0 → edge.0 < edge.1 → forbidden ≤ length (value_pairs d) → IsTight d forbidden edge (table_rule edge.0 edge.1 (selected false words forbidden (value_pairs d)))
tight d forbidden edge words low rising enough =
    let values = value_pairs d in
    let rows = selected false words forbidden values in
    let rule = table_rule edge.0 edge.1 rows in
    record {
      about = about_edge edge.0 edge.1 rows;
      false_at =
          count_selected (λ pair. not (rule_truth rule (set_to edge pair))) words forbidden values
          (λ pair i. not_true_is (rule_truth rule (set_to edge pair)) (λ h. chosen_or_left words forbidden values pair (values_apart d) i ((true_at edge pair rows low rising).0 h)))
          (λ pair i. not_false (rule_truth rule (set_to edge pair)) ((true_at edge pair rows low rising).1 i))
          ∙ (exact words forbidden values enough).many;
    }

all_tight : (n d forbidden : ℕ) (words : ℕ → ℕ) (edges : List (ℕ × ℕ)) → forbidden ≤ length (value_pairs d) → AllByRecursion (IsEdge n) edges → AreTight d forbidden edges (flat_map rules_of (tables forbidden (value_pairs d) words edges))
all_tight n d forbidden words [] enough h = refl
all_tight n d forbidden words (edge ∷ edges) enough h =
    (tight d forbidden edge words h.0.0 h.0.1 enough, all_tight n d forbidden (words_after (length (value_pairs d)) words) edges enough h.1)

pub binary_is_random : BinaryIsRandom
binary_is_random n d edges forbidden words sizes =
    let f = fit n d edges forbidden sizes.fit in
    let constraints = binary_tables n d edges forbidden words in
    let graph = selected true words edges (pairs n) in
    let is = lines_say_problem (codes "x") 0 (d - 1) n (Print n ∷ []) constraints (binary_within n d edges forbidden words sizes) in
    let lines = with_values (d - 1) n constraints in
    let rules : (problem_of (codes "x") (binary n d edges forbidden words)).rules ≡ flat_map rules_of constraints =
    ap (λ (ls : List ModelLine). (problem_of (codes "x") ls).rules) lines ∙ ap (λ (p : Contents). p.rules) is in
    record {
      graph = graph;
      many = edges_many n d edges forbidden words f;
      variables = edges_are_pairs n edges words;
      apart = apart_selected true words edges (pairs n) (pairs_apart n);
      tight = subst (AreTight d forbidden graph) (sym rules) (all_tight n d forbidden (words_after (length (pairs n)) words) graph f.values (edges_are_pairs n edges words));
    }
