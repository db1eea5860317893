-- The words of the table.
use Rattle.std.specs.Prelude.{ℕ, zero, suc, ◌%◌, ◌==◌, ℤ, pos, negsuc, Bool, true, false, not, ◌&&◌, List, [], ◌∷◌, slice_get, slice_index_or, Option, None, Some, count_by}
use Rattle.std.specs.List.{list_any}
use Rattle.std.specs.Ordering.{int_eq}

-- the argument at a place
abbrev pub argument : List ℤ → ℕ → ℤ
argument xs place = slice_index_or xs place (pos 0)

-- a number is read as true exactly where it is 1
abbrev pub is_one : ℤ → Bool
is_one x = int_eq x (pos 1)

-- whether two truths are equal
abbrev pub same : Bool → Bool → Bool
same true q = q
same false q = not q

-- whether exactly one of two truths holds
abbrev pub differ : Bool → Bool → Bool
differ p q = not (same p q)

-- whether two numbers are the same truth
abbrev pub have_same_truth : ℤ → ℤ → Bool
have_same_truth x y = same (is_one x) (is_one y)

-- when two numbers are equal: as Booleans, or as integers
abbrev pub equal_as : Bool → ℤ → ℤ → Bool
equal_as true = have_same_truth
equal_as false = int_eq

-- whether an odd number of the elements is 1
abbrev pub has_odd_ones : List ℤ → Bool
has_odd_ones xs = count_by is_one xs % 2 == 1

-- the element at an index that counts from 1; none out of range
abbrev pub element_at : List ℤ → ℤ → Option ℤ
element_at xs (pos zero) = None
element_at xs (pos (suc place)) = slice_get xs place
element_at xs (negsuc n) = None

-- whether there is an element, and it passes
abbrev pub is_found : (ℤ → Bool) → Option ℤ → Bool
is_found passes None = false
is_found passes (Some x) = passes x

-- whether the elements are pairwise different
abbrev pub are_different : List ℤ → Bool
are_different [] = true
are_different (x ∷ xs) = not (list_any (int_eq x) xs) && are_different xs
