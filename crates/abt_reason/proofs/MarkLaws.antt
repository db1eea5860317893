-- Rows of marks, and rows that are new for the values below one.
use Rattle.std.proofs.Common.{◌≡◌, ◌≢◌, ℕ, ◌+◌, ◌<◌, ◌≤◌, Bool, true, false, cond, List, [], ◌∷◌, ◌++◌, length, get_or, set, nat_lt, refl, sym, ap, ◌∙◌, arith, inl, inr, ◌⊎◌, ext_get_or, subst}
use Rattle.std.proofs.lemmas.Bool.{cases_eq, cases_lt}
use Rattle.std.proofs.lemmas.Bool.Decides.{nat_tests}
use Rattle.std.proofs.lemmas.List.{length-set, length-map, get_or-map, get_or-set_same, get_or-set_other, set-get_or, map-set, get_or_push, get_or_append_left, get_or_default, length_push}
use Rattle.std.proofs.lemmas.List.FromFn.{get_or-map-range_with_len, length-map-range_with_len}
use Rattle.std.proofs.Math.ListN.{get_or-eq_default}
use Rattle.dcsp_row.specs.declared.marks.Marks.{Marks}
use Rattle.dcsp_row.specs.Marks.{is_marked, is_row, FitsSize}
use Rattle.dcsp_row.specs.Rows.{is_ruled_out, own_at}
use Rattle.dcsp_defs.specs.Csp.{PartialAssignment, domain}
use Rattle.dcsp_rule.specs.Problems.{Contents, csp_of}
use Rattle.dcsp_problem.specs.Index.{owned_rules}
use Rattle.abt_reason.specs.Cached.{IsRightAt, size_of}
use Rattle.abt_reason.specs.Grids.{is_marked_at, marks, marks_at, mixed_row, mixed_rows, no_marks, row_at, row_of, rows_of, AreSized}

below_is : (k n : ℕ) → k < n → nat_lt k n ≡ true
below_is k n l = grind (arith, nat_tests)

past_is : (k n : ℕ) → n ≤ k → nat_lt k n ≡ false
past_is k n l = grind (arith, nat_tests)

pub size_of_row : (values : ℕ) (m : Marks) → length (row_of values m) ≡ values
size_of_row values m = length-map-range_with_len (is_marked m) 0 values

pub in_row : (values : ℕ) (m : Marks) (k : ℕ) → k < values → get_or (row_of values m) k false ≡ is_marked m k
in_row values m k within = get_or-map-range_with_len (is_marked m) 0 values k k false within (omega arith)

pub row_here : (values : ℕ) (rows : List Marks) (place : ℕ) → place < length rows → row_at (rows_of values rows) place ≡ row_of values (marks_at rows place)
row_here values rows place here = get_or-map (row_of values) rows place no_marks [] here

pub count_rows : (values : ℕ) (rows : List Marks) → length (rows_of values rows) ≡ length rows
count_rows values rows = length-map rows (row_of values)

-- what a row of marks says
pub marks_are : (values : ℕ) (rows : List Marks) (place value : ℕ) → place < length rows → value < values → marks (rows_of values rows) value place ≡ is_marked_at rows place value
marks_are values rows place value here within = ap (λ (r : List Bool). get_or r value false) (row_here values rows place here) ∙ in_row values (marks_at rows place) value within

-- marks that are the same for all values
pub same_row : (values : ℕ) (m n : Marks) → ((k : ℕ) → k < values → is_marked m k ≡ is_marked n k) → row_of values m ≡ row_of values n
same_row values m n same = ext_get_or false (row_of values m) (row_of values n) (size_of_row values m ∙ sym (size_of_row values n))
    (λ k l. let within : k < values = omega (arith, l, size_of_row values m) in in_row values m k within ∙ same k within ∙ sym (in_row values n k within))

module _ (values : ℕ) (new old : Marks) where
  abbrev at : ℕ → ℕ → Bool
  at until k = cond (nat_lt k until) (is_marked new k) (is_marked old k)

  pub size_of_mixed : (until : ℕ) → length (mixed_row values until new old) ≡ values
  size_of_mixed until = length-map-range_with_len (at until) 0 values

  in_mixed : (until k : ℕ) → k < values → get_or (mixed_row values until new old) k false ≡ at until k
  in_mixed until k within = get_or-map-range_with_len (at until) 0 values k k false within (omega arith)

  at_new : (until k : ℕ) → k < until → at until k ≡ is_marked new k
  at_new until k l = ap (λ b. cond b (is_marked new k) (is_marked old k)) (below_is k until l)

  at_old : (until k : ℕ) → until ≤ k → at until k ≡ is_marked old k
  at_old until k l = ap (λ b. cond b (is_marked new k) (is_marked old k)) (past_is k until l)

  by_each : (until : ℕ) (row : List Bool) → length row ≡ values → ((k : ℕ) → k < values → at until k ≡ get_or row k false) → mixed_row values until new old ≡ row
  by_each until row size same = ext_get_or false (mixed_row values until new old) row (size_of_mixed until ∙ sym size)
      (λ k l. let within : k < values = omega (arith, l, size_of_mixed until) in in_mixed until k within ∙ same k within)

  pub old_still : (until k : ℕ) → k < values → until ≤ k → get_or (mixed_row values until new old) k false ≡ is_marked old k
  old_still until k within l = in_mixed until k within ∙ at_old until k l

  pub mixed_start : mixed_row values 0 new old ≡ row_of values old
  mixed_start = by_each 0 (row_of values old) (size_of_row values old) (λ k l. at_old 0 k (omega arith) ∙ sym (in_row values old k l))

  pub mixed_end : mixed_row values values new old ≡ row_of values new
  mixed_end = by_each values (row_of values new) (size_of_row values new) (λ k l. at_new values k l ∙ sym (in_row values new k l))

  -- values at which both are the same are passed over
  pub mixed_skip : (from until : ℕ) → from ≤ until → ((k : ℕ) → from ≤ k → k < until → is_marked new k ≡ is_marked old k) → mixed_row values from new old ≡ mixed_row values until new old
  mixed_skip from until order same = by_each from (mixed_row values until new old) (size_of_mixed until) (λ k l. by_place k (cases_lt k from) (cases_lt k until) ∙ sym (in_mixed until k l)) where
    by_place : (k : ℕ) → (k < from) ⊎ (from ≤ k) → (k < until) ⊎ (until ≤ k) → at from k ≡ at until k
    by_place k (inl l) m = let below : k < until = omega (arith, l, order) in at_new from k l ∙ sym (at_new until k below)
    by_place k (inr l) (inl m) = at_old from k l ∙ sym (same k l m) ∙ sym (at_new until k m)
    by_place k (inr l) (inr m) = at_old from k l ∙ sym (at_old until k m)

  -- one value more
  pub mixed_next : (value : ℕ) → value < values → mixed_row values (value + 1) new old ≡ set (mixed_row values value new old) value (is_marked new value)
  mixed_next value within =
      let row = mixed_row values value new old in
      let inside : value < length row = omega (arith, within, size_of_mixed value) in
      by_each (value + 1) (set row value (is_marked new value)) (length-set row value (is_marked new value) ∙ size_of_mixed value)
      (λ k l. elim (cases_eq k value) [
        | inl same ↦ at_new (value + 1) k (omega (arith, same)) ∙ ap (is_marked new) same ∙ sym (ap (λ n. get_or (set row value (is_marked new value)) n false) same ∙ get_or-set_same row value (is_marked new value) false inside)
        | inr apart ↦ by_side k apart (cases_lt k value) ∙ sym (get_or-set_other row value k (is_marked new value) false apart ∙ in_mixed value k l)
      ]) where
        by_side : (k : ℕ) → k ≢ value → (k < value) ⊎ (value ≤ k) → at (value + 1) k ≡ at value k
        by_side k apart (inl l) = at_new (value + 1) k (omega (arith, l)) ∙ sym (at_new value k l)
        by_side k apart (inr l) = at_old (value + 1) k (omega (arith, l, apart)) ∙ sym (at_old value k l)

module _ (values : ℕ) (rows : List Marks) (place : ℕ) (new : Marks) (here : place < length rows) where
  abbrev old : Marks
  old = marks_at rows place

  pub in_rows : place < length (rows_of values rows)
  in_rows = omega (arith, here, count_rows values rows)

  pub rows_start : mixed_rows values rows place new 0 ≡ rows_of values rows
  rows_start = ap (set (rows_of values rows) place) (mixed_start values new old ∙ sym (row_here values rows place here)) ∙ set-get_or (rows_of values rows) place []

  pub rows_skip : (from until : ℕ) → from ≤ until → ((k : ℕ) → from ≤ k → k < until → is_marked new k ≡ is_marked old k) → mixed_rows values rows place new from ≡ mixed_rows values rows place new until
  rows_skip from until order same = ap (set (rows_of values rows) place) (mixed_skip values new old from until order same)

  pub rows_end : mixed_rows values rows place new values ≡ set (rows_of values rows) place (row_of values new)
  rows_end = ap (set (rows_of values rows) place) (mixed_end values new old)

-- marks are put at a place
pub rows_put : (values : ℕ) (rows : List Marks) (place : ℕ) (new now : Marks) → ((k : ℕ) → k < values → is_marked now k ≡ is_marked new k) → set (rows_of values rows) place (row_of values new) ≡ rows_of values (set rows place now)
rows_put values rows place new now same = ap (set (rows_of values rows) place) (sym (same_row values now new same)) ∙ sym (map-set (row_of values) rows place now)

-- what holds at each place holds with one more at the end
pub all_pushed : (P : ℕ → Marks → Type 0) (rows : List Marks) (m : Marks) → ((place : ℕ) → place < length rows → P place (marks_at rows place)) → P (length rows) m
    → (place : ℕ) → place < length (rows ++ m ∷ []) → P place (marks_at (rows ++ m ∷ []) place)
all_pushed P rows m all last place l = elim (cases_eq place (length rows)) [
  | inl same ↦ subst (λ n. P n (marks_at (rows ++ m ∷ []) n)) (sym same) (subst (P (length rows)) (sym (get_or_push rows m no_marks (length rows) refl)) last)
  | inr apart ↦
      let below : place < length rows = omega (arith, l, apart, length_push rows m) in
      subst (P place) (sym (get_or_append_left rows (m ∷ []) no_marks place below)) (all place below)
]

-- where nothing is marked, no row marks a value
pub marked_nowhere : (values : ℕ) (rows : List Marks) → ((place value : ℕ) → place < length rows → is_marked_at rows place value ≡ false) → (value place : ℕ) → marks (rows_of values rows) value place ≡ false
marked_nowhere values rows none value place = elim (cases_lt place (length rows)) [
  | inl here ↦ elim (cases_lt value values) [
    | inl within ↦ marks_are values rows place value here within ∙ none place value here
    | inr past ↦ ap (λ (r : List Bool). get_or r value false) (row_here values rows place here) ∙ get_or-eq_default (row_of values (marks_at rows place)) false (omega (arith, past, size_of_row values (marks_at rows place)))
  ]
  | inr beyond ↦ ap (λ (r : List Bool). get_or r value false) (get_or-eq_default (rows_of values rows) [] (omega (arith, beyond, count_rows values rows)))
]

-- the marks of a rule are right where they are those of the values that it rules out
pub right_at : (p : Contents) (agent : ℕ) (known : PartialAssignment) (rows : List Marks) (place rule : ℕ) → place < length rows → rule ≡ get_or (owned_rules p agent) place 0
    → ((k : ℕ) → k < size_of p agent → is_marked_at rows place k ≡ is_ruled_out p rule agent known (own_at (domain (csp_of p) agent) k)) → IsRightAt p agent known (rows_of (size_of p agent) rows) place
right_at p agent known rows place rule here is right k within =
    marks_are (size_of p agent) rows place k here within ∙ right k within ∙ ap (λ n. is_ruled_out p n agent known (own_at (domain (csp_of p) agent) k)) is

-- the marks of the others are as before
pub others_at : (values : ℕ) (rows new : List Marks) (place : ℕ) → length new ≡ length rows → ((other : ℕ) → other ≢ place → marks_at new other ≡ marks_at rows other)
    → (other value : ℕ) → other ≢ place → marks (rows_of values new) value other ≡ marks (rows_of values rows) value other
others_at values rows new place size same other value apart = ap (λ (r : List Bool). get_or r value false) (elim (cases_lt other (length rows)) [
  | inl here ↦ row_here values new other (omega (arith, here, size)) ∙ ap (row_of values) (same other apart) ∙ sym (row_here values rows other here)
  | inr beyond ↦ get_or-eq_default (rows_of values new) [] (omega (arith, beyond, size, count_rows values new)) ∙ sym (get_or-eq_default (rows_of values rows) [] (omega (arith, beyond, count_rows values rows)))
])

-- marks of the same form are put at a place
pub form_put : (was rows : List Marks) (place : ℕ) (got now : Marks) → rows ≡ was → place < length rows → got ≡ get_or rows place got → is_row now ≡ is_row got → is_row (marks_at (set rows place now) place) ≡ is_row (marks_at was place)
form_put was rows place got now same here read form =
    ap is_row (get_or-set_same rows place now no_marks here) ∙ form ∙ ap is_row (read ∙ get_or_default rows place got no_marks here) ∙ ap (λ (rs : List Marks). is_row (marks_at rs place)) same

pub sized_put : (values : ℕ) (rows : List Marks) (place : ℕ) (now : Marks) → place < length rows → AreSized values rows → FitsSize values now → AreSized values (set rows place now)
sized_put values rows place now here sized fits = λ j l. elim (cases_eq j place) [
  | inl same ↦ subst (λ n. FitsSize values (marks_at (set rows place now) n)) (sym same) (subst (FitsSize values) (sym (get_or-set_same rows place now no_marks here)) fits)
  | inr apart ↦ subst (FitsSize values) (sym (get_or-set_other rows place j now no_marks apart)) (sized j (omega (arith, l, length-set rows place now)))
]

-- what is marked at a place, whatever stands past the last
pub at_default : (rows : List Marks) (place : ℕ) (d : Marks) (value : ℕ) → place < length rows → is_marked_at rows place value ≡ is_marked (get_or rows place d) value
at_default rows place d value here = ap (λ m. is_marked m value) (get_or_default rows place no_marks d here)
