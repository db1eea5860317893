-- Sets of numbers as strictly rising lists.
use Rattle.std.specs.Prelude.{◌≡◌, ◌≤◌, ℕ, ℤ, ◌<ℤ◌, Bool, List, [], ◌∷◌, length, slice_range, AllPairs, if◌then◌else◌}
use Rattle.std.specs.List.{list_any}
use Rattle.std.specs.Ordering.{int_eq, int_cmp, is_lt}
use Rattle.dcsp_domain.specs.declared.TheConstants.{MOST_VALUES}

-- each number is below all later ones
abbrev pub IsRising : List ℤ → Type 0
IsRising xs = AllPairs (λ x y. x <ℤ y) xs

-- whether the value is among them
abbrev pub has : List ℤ → ℤ → Bool
has xs value = list_any (int_eq value) xs

-- the list rises, and has exactly these values
pub record IsSetOf (values list : List ℤ) : Type 0 where
  pub rising : IsRising list
  pub members : (value : ℤ) → has list value ≡ has values value

-- what every domain is
pub record IsDomain (list : List ℤ) : Type 0 where
  pub rising : IsRising list
  pub small : length list ≤ MOST_VALUES

-- those of the numbers from one place on that stand before another are a domain's
pub record IsPart (numbers : List ℤ) (from to : ℕ) : Type 0 where
  pub order : from ≤ to
  pub within : to ≤ length numbers
  pub domain : IsDomain (slice_range numbers from to)

-- a rising list with one more value, unless it has it
abbrev pub put : ℤ → List ℤ → List ℤ
put x [] = x ∷ []
put x (y ∷ ys) = if is_lt (int_cmp x y) then x ∷ y ∷ ys else (if int_eq x y then y ∷ ys else y ∷ put x ys)

-- the distinct values, in rising order
abbrev pub set_of : List ℤ → List ℤ
set_of [] = []
set_of (x ∷ xs) = put x (set_of xs)
