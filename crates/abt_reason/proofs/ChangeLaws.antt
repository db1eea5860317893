-- Rows that mark one value at most.
use Rattle.std.proofs.Common.{◌≡◌, ℕ, ◌<◌, Bool, true, false, List, [], length, get_or, set, refl, sym, subst, ap, ◌∙◌, arith, inl, inr, ext_get_or}
use Rattle.std.proofs.lemmas.Bool.{cases_eq, eq-eqb, ne_eqb}
use Rattle.std.proofs.lemmas.List.{length-set, get_or-set_same, get_or-set_other, set-get_or, map-set}
use Rattle.std.proofs.lemmas.List.FromFn.{get_or-map-range_with_len, length-map-range_with_len}
use Rattle.dcsp_row.specs.declared.marks.Marks.{Marks}
use Rattle.dcsp_row.specs.Marks.{is_marked}
use Rattle.abt_reason.specs.declared.grid.Few.{Few}
use Rattle.abt_reason.specs.declared.grid.Few.TheVariants.{Nothing, Only}
use Rattle.abt_reason.specs.Grids.{at_value, few_row, is_only, marks_at, row_of, rows_of, with_row, IsBelow}
use Rattle.abt_reason.proofs.MarkLaws.{in_row, row_here, size_of_row}

pub size_of_few : (values : ℕ) (few : Few) → length (few_row values few) ≡ values
size_of_few values few = length-map-range_with_len (is_only few) 0 values

pub in_few : (values : ℕ) (few : Few) (k : ℕ) → k < values → get_or (few_row values few) k false ≡ is_only few k
in_few values few k within = get_or-map-range_with_len (is_only few) 0 values k k false within (omega arith)

pub at_only : (values value : ℕ) → value < values → get_or (few_row values (Only value)) value false ≡ true
at_only values value within = in_few values (Only value) value within ∙ eq-eqb value value refl

pub by_each : (values : ℕ) (few : Few) (row : List Bool) → length row ≡ values → ((k : ℕ) → k < values → get_or row k false ≡ is_only few k) → row ≡ few_row values few
by_each values few row size same = ext_get_or false row (few_row values few) (size ∙ sym (size_of_few values few))
    (λ k l. let within : k < values = omega (arith, l, size) in same k within ∙ sym (in_few values few k within))

pub put_only : (values value : ℕ) → value < values → set (few_row values Nothing) value true ≡ few_row values (Only value)
put_only values value within =
    let none = few_row values Nothing in
    let inside : value < length none = omega (arith, within, size_of_few values Nothing) in
    by_each values (Only value) (set none value true) (length-set none value true ∙ size_of_few values Nothing) (λ k l. elim (cases_eq k value) [
      | inl same ↦ ap (λ n. get_or (set none value true) n false) same ∙ get_or-set_same none value true false inside ∙ sym (eq-eqb k value same)
      | inr apart ↦ get_or-set_other none value k true false apart ∙ in_few values Nothing k l ∙ sym (ne_eqb k value apart)
    ])

pub take_only : (values value : ℕ) → value < values → set (few_row values (Only value)) value false ≡ few_row values Nothing
take_only values value within =
    let one = few_row values (Only value) in
    let inside : value < length one = omega (arith, within, size_of_few values (Only value)) in
    by_each values Nothing (set one value false) (length-set one value false ∙ size_of_few values (Only value)) (λ k l. elim (cases_eq k value) [
      | inl same ↦ ap (λ n. get_or (set one value false) n false) same ∙ get_or-set_same one value false false inside
      | inr apart ↦ get_or-set_other one value k false false apart ∙ in_few values (Only value) k l ∙ ne_eqb k value apart
    ])

few_below : (values : ℕ) (few : Few) (value : ℕ) → few ≡ Only value → IsBelow values few → value < values
few_below values few value is below = subst (IsBelow values) is below

pub few_has : (values : ℕ) (few : Few) (value : ℕ) → few ≡ Only value → IsBelow values few → at_value value (few_row values few) ≡ true
few_has values few value is below = in_few values few value (few_below values few value is below) ∙ ap (λ f. is_only f value) is ∙ eq-eqb value value refl

pub few_lacks : (values : ℕ) (before after : Few) (value : ℕ) → before ≡ Nothing → after ≡ Only value → IsBelow values after → at_value value (few_row values before) ≡ false
few_lacks values before after value none is below = in_few values before value (few_below values after value is below) ∙ ap (λ f. is_only f value) none

pub few_taken : (values : ℕ) (before after : Few) (value : ℕ) → before ≡ Only value → after ≡ Nothing → IsBelow values before → set (few_row values before) value false ≡ few_row values after
few_taken values before after value is none below = ap (λ f. set (few_row values f) value false) is ∙ take_only values value (few_below values before value is below) ∙ sym (ap (few_row values) none)

pub few_put : (values : ℕ) (before after : Few) (value : ℕ) → before ≡ Nothing → after ≡ Only value → IsBelow values after → set (few_row values before) value true ≡ few_row values after
few_put values before after value none is below = ap (λ f. set (few_row values f) value true) none ∙ put_only values value (few_below values after value is below) ∙ sym (ap (few_row values) is)

-- marks of these values alone
pub row_is_few : (values : ℕ) (m : Marks) (few : Few) → ((k : ℕ) → k < values → is_marked m k ≡ is_only few k) → row_of values m ≡ few_row values few
row_is_few values m few same = by_each values few (row_of values m) (size_of_row values m) (λ k l. in_row values m k l ∙ same k l)

pub few_start : (values : ℕ) (rows : List Marks) (place : ℕ) (few : Few) → place < length rows → ((k : ℕ) → k < values → is_marked (marks_at rows place) k ≡ is_only few k) → with_row values rows place (few_row values few) ≡ rows_of values rows
few_start values rows place few here same =
    ap (set (rows_of values rows) place) (sym (row_is_few values (marks_at rows place) few same) ∙ sym (row_here values rows place here)) ∙ set-get_or (rows_of values rows) place []

pub few_end : (values : ℕ) (rows : List Marks) (place : ℕ) (few : Few) (now : Marks) → ((k : ℕ) → k < values → is_marked now k ≡ is_only few k) → with_row values rows place (few_row values few) ≡ rows_of values (set rows place now)
few_end values rows place few now same = ap (set (rows_of values rows) place) (sym (row_is_few values now few same)) ∙ sym (map-set (row_of values) rows place now)
