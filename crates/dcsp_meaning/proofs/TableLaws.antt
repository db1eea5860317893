-- Rows of tables: one that is found, and that rows are the pieces into which a table is cut.
use Rattle.std.proofs.Common.{◌≡◌, ℕ, zero, suc, ◌+◌, ◌*◌, ◌/◌, ◌<◌, ◌≤◌, ℤ, pos, Bool, true, List, [], ◌∷◌, length, take, drop, refl, sym, ap, ◌∙◌, arith, inl, inr, subst}
use Rattle.std.specs.Ordering.{int_eq}
use Rattle.std.proofs.Math.Nat.{le-div_iff_mul-le}
use Rattle.std.proofs.lemmas.Bool.{or_cases, or_left, or_right, and_parts, and_from, cases_lt}
use Rattle.std.proofs.lemmas.Bool.Decides.{Decides-int_eq}
use Rattle.std.proofs.lemmas.List.{drop_more}
use Rattle.dcsp_meaning.specs.Words.{argument}
use Rattle.dcsp_meaning.specs.Rows.{stands_at, is_among_rows, RowsAreThePieces}

-- a row that stands where a row of the table begins is among the rows behind which it is not yet the end
pub found_among : (equal : ℤ → ℤ → Bool) (row table : List ℤ) (number count : ℕ) → number < count → stands_at equal row table (number * length row) ≡ true → is_among_rows equal row table count ≡ true
found_among equal row table number zero below h = absurd (omega (arith, below))
found_among equal row table number (suc count) below h = elim (cases_lt number count) [
  | inl less ↦ or_left (is_among_rows equal row table count) (stands_at equal row table (count * length row)) (found_among equal row table number count less h)
  | inr more ↦
      let same : number ≡ count = omega (arith, below, more) in
      or_right (is_among_rows equal row table count) (stands_at equal row table (count * length row)) (subst (λ n. stands_at equal row table (n * length row) ≡ true) same h)
]

-- what is among the rows stands where one of them begins
pub among_found : (equal : ℤ → ℤ → Bool) (row table : List ℤ) (count : ℕ) → is_among_rows equal row table count ≡ true → (number : ℕ) × (number < count) × (stands_at equal row table (number * length row) ≡ true)
among_found equal row table zero h = absurd cc
among_found equal row table (suc count) h = elim (or_cases (is_among_rows equal row table count) (stands_at equal row table (count * length row)) h) [
  | inl before ↦ let f = among_found equal row table count before in (f.0, omega (arith, f.1), f.2)
  | inr here ↦ (count, omega arith, here)
]

-- rows within the table
pub row_within : (width entries number : ℕ) → 0 < width → number < entries / width → number * width + width ≤ entries
row_within width entries number some below =
    let all : suc number * width ≤ entries = (le-div_iff_mul-le {k = width} {x = suc number} {y = entries} some).0 below in
    omega (arith, all)

pub within_row : (width entries number : ℕ) → 0 < width → number * width + width ≤ entries → number < entries / width
within_row width entries number some within =
    let all : suc number * width ≤ entries = omega (arith, within) in
    (le-div_iff_mul-le {k = width} {x = suc number} {y = entries} some).1 all

-- a row that stands there is what is cut out there, and the other way round
stands_cut : (row table : List ℤ) (entry : ℕ) → entry + length row ≤ length table → stands_at int_eq row table entry ≡ true → take (length row) (drop entry table) ≡ row
stands_cut [] table entry within h = refl
stands_cut (x ∷ row) table entry within h =
    let p = and_parts (int_eq x (argument table entry)) (stands_at int_eq row table (entry + 1)) h in
    let below : entry < length table = omega (arith, within) in
    let rest = stands_cut row table (entry + 1) (omega (arith, within)) p.1 in
    let same : x ≡ argument table entry = (Decides-int_eq x (argument table entry)).0 p.0 in
    ap (λ (l : List ℤ). take (suc (length row)) l) (drop_more table entry (pos 0) below) ∙ ap (λ (l : List ℤ). argument table entry ∷ l) rest ∙ ap (λ y. y ∷ row) (sym same)

cut_stands : (row table : List ℤ) (entry : ℕ) → entry + length row ≤ length table → take (length row) (drop entry table) ≡ row → stands_at int_eq row table entry ≡ true
cut_stands [] table entry within h = refl
cut_stands (x ∷ row) table entry within h =
    let below : entry < length table = omega (arith, within) in
    let whole : argument table entry ∷ take (length row) (drop (entry + 1) table) ≡ x ∷ row = sym (ap (λ (l : List ℤ). take (suc (length row)) l) (drop_more table entry (pos 0) below)) ∙ h in
    let same : argument table entry ≡ x = cc in
    let rest : take (length row) (drop (entry + 1) table) ≡ row = cc in
    and_from (int_eq x (argument table entry)) (stands_at int_eq row table (entry + 1)) ((Decides-int_eq x (argument table entry)).1 (sym same)) (cut_stands row table (entry + 1) (omega (arith, within)) rest)

pub pieces : RowsAreThePieces
pieces row table some = (
  λ h. let f = among_found int_eq row table (length table / length row) h in
      let within = row_within (length row) (length table) f.0 some f.1 in
      (f.0, record { whole = within; equal = stands_cut row table (f.0 * length row) within f.2 }),
  λ h. found_among int_eq row table h.0 (length table / length row) (within_row (length row) (length table) h.0 some h.1.whole) (cut_stands row table (h.0 * length row) h.1.whole h.1.equal),
)
