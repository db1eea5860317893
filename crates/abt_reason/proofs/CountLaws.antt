-- The count and the first of a value, where its mark for one rule is new.
use Rattle.std.proofs.Common.{◌≡◌, ◌≢◌, ℕ, zero, suc, ◌+◌, ◌<◌, ◌≤◌, Bool, true, false, cond, List, [], ◌∷◌, length, get_or, set, Option, refl, sym, ap, subst, ◌∙◌, arith, set-set}
use Rattle.std.specs.Prelude.{count_by, not}
use mathlib.Core.Bool.{beq}
use Rattle.std.proofs.lemmas.List.{length-set, get_or-set_same, get_or-set_other}
use Rattle.abt_parts.proofs.Counts.{count_by-cons}
use Rattle.dcsp_row.specs.declared.marks.Marks.{Marks}
use Rattle.abt_reason.specs.Firsts.{IsFirst}
use Rattle.abt_reason.specs.Grids.{at_value, count_of, is_marked_at, marks, no_marks, row_at, rows_of, with_row, IsGrid}
use Rattle.abt_reason.proofs.GridLaws.{counted_inside}
use Rattle.abt_reason.proofs.GridSteps as steps
use Rattle.abt_reason.proofs.MarkLaws.{count_rows, in_rows, marks_are}

-- marks that differ
pub opposite : (mark new old : Bool) → mark ≡ new → new ≢ old → old ≡ not mark
opposite true true true e ne = absurd (ne refl)
opposite true true false e ne = refl
opposite false false true e ne = refl
opposite false false false e ne = absurd (ne refl)
opposite true false old e ne = absurd (let clash : true ≡ false = e in cc)
opposite false true old e ne = absurd (let clash : false ≡ true = e in cc)

-- where none is counted, none passes
pub none_counted : (p : List Bool → Bool) (rows : List (List Bool)) → count_by p rows ≡ 0 → (j : ℕ) → j < length rows → p (row_at rows j) ≡ false
none_counted p [] e j l = absurd (omega (arith, l))
none_counted p (row ∷ rows) e zero l = by_test (p row) refl where
  by_test : (b : Bool) → p row ≡ b → p row ≡ false
  by_test false t = t
  by_test true t = absurd (let one : cond (p row) 1 0 ≡ 1 = ap (λ b. cond {A = ℕ} b 1 0) t in omega (arith, e, one, count_by-cons p row rows))
none_counted p (row ∷ rows) e (suc j) l = none_counted p rows (omega (arith, e, count_by-cons p row rows)) j (omega (arith, l))

module _ (values : ℕ) (rows : List Marks) (place value : ℕ) (here : place < length rows) (counts : List ℕ) (inside : value < length counts) (firsts : List (Option ℕ)) (row : List Bool)
    (grid : IsGrid (with_row values rows place row) values counts firsts) (mark had : Bool) (had_is : at_value value row ≡ had) where
  abbrev pub before : List (List Bool)
  before = with_row values rows place row

  abbrev pub put : List Bool
  put = set row value mark

  abbrev pub after : List (List Bool)
  after = set before place put

  pub count_before : length before ≡ length rows
  count_before = length-set (rows_of values rows) place row ∙ count_rows values rows

  in_before : place < length before
  in_before = omega (arith, here, count_before)

  row_is : row ≡ get_or before place row
  row_is = sym (get_or-set_same (rows_of values rows) place row row (in_rows values rows place no_marks here))

  pub adds : beq mark had ≡ false → mark ≡ true → (count : ℕ) → count ≡ get_or counts value count → count + 1 ≡ count_of after value
  adds ne on count c = steps.adds before values counts firsts grid place value mark in_before inside put row row_is refl row had count row_is (sym had_is) ne on c

  pub takes : beq mark had ≡ false → mark ≡ false → (count : ℕ) → count ≡ get_or counts value count → count_of after value + 1 ≡ count
  takes ne off count c = steps.takes before values counts firsts grid place value mark in_before inside put row row_is refl row had count row_is (sym had_is) ne off c

  pub small : count_of after value ≤ length before
  small = steps.small before values counts firsts grid place value mark in_before inside put row row_is refl

  pub is_mark : marks after value place ≡ mark
  is_mark = steps.is_marked before values counts firsts grid place value mark in_before inside put row row_is refl

  pub is_other : (j : ℕ) → j ≢ place → marks before value j ≡ marks after value j
  is_other = steps.is_other before values counts firsts grid place value mark in_before inside put row row_is refl

  pub is_kept : (j : ℕ) → j ≢ place → j < length rows → marks after value j ≡ is_marked_at rows j value
  is_kept j apart l = sym (is_other j apart) ∙ ap (λ (r : List Bool). get_or r value false) (get_or-set_other (rows_of values rows) place j row [] apart) ∙ marks_are values rows j value l (counted_inside values (length counts) value grid.counted inside)

  pub first_was : (first : Option ℕ) → first ≡ get_or firsts value first → IsFirst (marks before value) (length rows) first
  first_was first e = subst (λ n. IsFirst (marks before value) n first) count_before (steps.first_was before values counts firsts grid place value mark in_before inside put row row_is refl first e)

  pub none_left : (count : ℕ) → count ≡ count_of after value → count ≡ 0 → (j : ℕ) → j < length rows → marks after value j ≡ false
  none_left count c e j l = none_counted (at_value value) after (sym c ∙ e) j (omega (arith, l, count_before, steps.as_many before place put))

  pub kept : (count : ℕ) (first : Option ℕ) → count ≡ count_of after value → IsFirst (marks after value) (length rows) first
      → IsGrid (with_row values rows place (set row value mark)) values (set counts value count) (set firsts value first)
  kept count first c f = subst (λ (r : List (List Bool)). IsGrid r values (set counts value count) (set firsts value first)) (set-set (rows_of values rows) place row put)
      (steps.kept before values counts firsts grid place value mark in_before inside put row row_is refl count first c (subst (λ n. IsFirst (marks after value) n first) (sym count_before) f))

  pub read_back : (n read : ℕ) → read ≡ get_or (set counts value n) value read → read ≡ n
  read_back = steps.read_back before values counts firsts grid place value mark in_before inside put row row_is refl
