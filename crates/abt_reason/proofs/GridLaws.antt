-- Rows of marks, with their counts and first rows, after one mark has changed.
use Rattle.std.proofs.Common.{◌≡◌, ◌≢◌, ℕ, suc, ◌^◌, ◌+◌, ◌<◌, ◌≤◌, Bool, true, false, cond, List, [], ◌∷◌, length, get_or, set, Option, None, refl, sym, ap, subst, ◌∙◌, arith, inl, inr}
use Rattle.std.specs.Prelude.{count_by}
use Rattle.std.proofs.lemmas.Bool.{cases_eq}
use Rattle.std.proofs.lemmas.List.{length-set, get_or-set_same, get_or-set_other}
use Rattle.std.proofs.lemmas.List.Sums.{sum_by-set, count_by-le-length}
use Rattle.abt_parts.proofs.Counts.{count_by-cons}
use Rattle.abt_reason.specs.Firsts.{IsFirst}
use Rattle.abt_reason.specs.Grids.{at_value, row_at, marks, count_of, AreCounted, IsGrid}
use Rattle.abt_reason.proofs.FirstLaws.{first_alike}

-- a value that is counted is one of so many
pub counted_inside : (values counted value : ℕ) → AreCounted values counted → value < counted → value < values
counted_inside values counted value (inl all) l = omega (arith, all, l)
counted_inside values counted value (inr none) l = absurd (omega (arith, none, l))

-- all are, or none
pub none_are : (values counted : ℕ) → AreCounted values counted → counted ≢ values → counted ≡ 0
none_are values counted (inl all) some = absurd (some all)
none_are values counted (inr none) some = none

module _ (rows : List (List Bool)) (place value : ℕ) (mark : Bool) (here : place < length rows) (within : value < length (row_at rows place)) where
  abbrev pub now : List (List Bool)
  now = set rows place (set (row_at rows place) value mark)

  row_here : row_at now place ≡ set (row_at rows place) value mark
  row_here = get_or-set_same rows place (set (row_at rows place) value mark) [] here

  pub row_other : (other : ℕ) → other ≢ place → row_at now other ≡ row_at rows other
  row_other other apart = get_or-set_other rows place other (set (row_at rows place) value mark) [] apart

  pub marked_here : marks now value place ≡ mark
  marked_here = ap (at_value value) row_here ∙ get_or-set_same (row_at rows place) value mark false within

  pub marked_beside : (k : ℕ) → k ≢ value → marks now k place ≡ marks rows k place
  marked_beside k apart = ap (at_value k) row_here ∙ get_or-set_other (row_at rows place) value k mark false apart

  pub marked_other : (other k : ℕ) → other ≢ place → marks now k other ≡ marks rows k other
  marked_other other k apart = ap (at_value k) (row_other other apart)

  pub same_beside : (k : ℕ) → k ≢ value → (j : ℕ) → marks now k j ≡ marks rows k j
  same_beside k apart j = elim (cases_eq j place) [ inl e ↦ ap (marks now k) e ∙ marked_beside k apart ∙ sym (ap (marks rows k) e) | inr other ↦ marked_other j k other ]

  -- how the counts change
  pub counted : (k : ℕ) → count_of now k + cond (marks rows k place) 1 0 ≡ count_of rows k + cond (marks now k place) 1 0
  counted k =
      sum_by-set (λ (row : List Bool). cond (at_value k row) 1 0) rows place (set (row_at rows place) value mark) [] here
      ∙ ap (λ (row : List Bool). count_of rows k + cond (at_value k row) 1 0) (sym row_here)

  pub count_beside : (k : ℕ) → k ≢ value → count_of now k ≡ count_of rows k
  count_beside k apart =
      let e = counted k in
      let same : cond (marks now k place) 1 0 ≡ cond (marks rows k place) 1 0 = ap (λ b. cond {A = ℕ} b 1 0) (marked_beside k apart) in
      omega (arith, e, same)

  -- a mark is put, or taken off
  pub one_more : marks rows value place ≡ false → mark ≡ true → count_of now value ≡ count_of rows value + 1
  one_more was is =
      let e = counted value in
      let before : cond (marks rows value place) 1 0 ≡ 0 = ap (λ b. cond {A = ℕ} b 1 0) was in
      let after : cond (marks now value place) 1 0 ≡ 1 = ap (λ b. cond {A = ℕ} b 1 0) (marked_here ∙ is) in
      omega (arith, e, before, after)

  pub one_less : marks rows value place ≡ true → mark ≡ false → count_of now value + 1 ≡ count_of rows value
  one_less was is =
      let e = counted value in
      let before : cond (marks rows value place) 1 0 ≡ 1 = ap (λ b. cond {A = ℕ} b 1 0) was in
      let after : cond (marks now value place) 1 0 ≡ 0 = ap (λ b. cond {A = ℕ} b 1 0) (marked_here ∙ is) in
      omega (arith, e, before, after)

  pub within_rows : count_of now value ≤ length rows
  within_rows = let size = length-set rows place (set (row_at rows place) value mark) in let most = count_by-le-length (at_value value) now in omega (arith, most, size)

  -- the grid after the change
  pub grid_set : (values : ℕ) (counts : List ℕ) (firsts : List (Option ℕ)) (count : ℕ) (first : Option ℕ) → IsGrid rows values counts firsts → value < length counts → count ≡ count_of now value → IsFirst (marks now value) (length rows) first
      → IsGrid now values (set counts value count) (set firsts value first)
  grid_set values counts firsts count first grid for_counts right found =
      let size = length-set rows place (set (row_at rows place) value mark) in
      let few = grid.few in
      let width = grid.each_row place here in
      let counted = length-set counts value count in
      let for_firsts : value < length firsts = omega (arith, for_counts, grid.first_each) in
      record {
        few = omega arith;
        each_row = λ j l. elim (cases_eq j place) [
          | inl e ↦ ap (λ n. length (row_at now n)) e ∙ ap length row_here ∙ length-set (row_at rows place) value mark ∙ width
          | inr apart ↦ ap length (row_other j apart) ∙ grid.each_row j (omega arith)
        ];
        counted = subst (AreCounted values) (sym counted) grid.counted;
        first_each = length-set firsts value first ∙ grid.first_each ∙ sym counted;
        right_count = λ k l. elim (cases_eq k value) [
          | inl e ↦ ap (λ n. get_or (set counts value count) n 0) e ∙ get_or-set_same counts value count 0 for_counts ∙ right ∙ sym (ap (count_of now) e)
          | inr apart ↦ get_or-set_other counts value k count 0 apart ∙ grid.right_count k (omega (arith, l, counted)) ∙ sym (count_beside k apart)
        ];
        right_first = λ k l. subst (λ n. IsFirst (marks now k) n (get_or (set firsts value first) k None)) (sym size) (elim (cases_eq k value) [
          | inl e ↦ subst (λ n. IsFirst (marks now n) (length rows) (get_or (set firsts value first) n None)) (sym e)
              (subst (IsFirst (marks now value) (length rows)) (sym (get_or-set_same firsts value first None for_firsts)) found)
          | inr apart ↦ subst (IsFirst (marks now k) (length rows)) (sym (get_or-set_other firsts value k first None apart))
              (first_alike (marks rows k) (marks now k) (length rows) (get_or firsts k None) (λ j m. sym (same_beside k apart j)) (grid.right_first k (omega (arith, l, counted))))
        ]);
      }

none_marked : (p : List Bool → Bool) (rows : List (List Bool)) → ((place : ℕ) → p (row_at rows place) ≡ false) → count_by p rows ≡ 0
none_marked p [] none = refl
none_marked p (row ∷ rows) none =
    let here : cond (p row) 1 0 ≡ 0 = ap (λ b. cond {A = ℕ} b 1 0) (none 0) in
    let rest = none_marked p rows (λ place. none (suc place)) in
    omega (arith, here, rest, count_by-cons p row rows)

-- where nothing is marked
pub grid_empty : (rows : List (List Bool)) (rules values counted : ℕ) (counts : List ℕ) (firsts : List (Option ℕ)) → length rows ≡ rules → rules < 2 ^ 32 → ((place : ℕ) → place < rules → length (row_at rows place) ≡ values)
    → ((place value : ℕ) → marks rows value place ≡ false) → AreCounted values counted → length counts ≡ counted → ((k : ℕ) → get_or counts k 0 ≡ 0) → length firsts ≡ counted → ((k : ℕ) → get_or firsts k None ≡ None)
    → IsGrid rows values counts firsts
grid_empty rows rules values counted counts firsts size few each none all some zeros more nothing = record {
  few = omega arith;
  each_row = λ place l. each place (omega arith);
  counted = subst (AreCounted values) (sym some) all;
  first_each = more ∙ sym some;
  right_count = λ value l. zeros value ∙ sym (none_marked (at_value value) rows (λ place. none place value));
  right_first = λ value l. subst (IsFirst (marks rows value) (length rows)) (sym (nothing value)) (λ j m. none j value);
}

-- where nothing is counted, any row of so many values may stand at a place
pub grid_uncounted : (rows : List (List Bool)) (values place : ℕ) (row : List Bool) (counts : List ℕ) (firsts : List (Option ℕ)) → IsGrid rows values counts firsts → length counts ≢ values → place < length rows → length row ≡ values
    → IsGrid (set rows place row) values counts firsts
grid_uncounted rows values place row counts firsts grid some here width =
    let size = length-set rows place row in
    let few = grid.few in
    let none = none_are values (length counts) grid.counted some in
    record {
      few = omega (arith, few, size);
      each_row = λ j l. elim (cases_eq j place) [
        | inl e ↦ ap (λ n. length (row_at (set rows place row) n)) e ∙ ap length (get_or-set_same rows place row [] here) ∙ width
        | inr apart ↦ ap length (get_or-set_other rows place j row [] apart) ∙ grid.each_row j (omega (arith, l, size))
      ];
      counted = grid.counted;
      first_each = grid.first_each;
      right_count = λ value l. absurd (omega (arith, none, l));
      right_first = λ value l. absurd (omega (arith, none, l));
    }
