-- Numbered lists of numbers, and pairs of what is in one.
use Rattle.std.specs.Prelude.{ℕ, ◌-◌, List, [], ◌∷◌, ◌++◌, map, flat_map, codes, decimal, get_or}
use Rattle.std.proofs.Common.{Vec, Global}

-- the lists of the code
abbrev pub lists_in : List (Vec ℕ Global) → List (List ℕ)
lists_in lists = map (λ list. list.items) lists

-- the list of a number, from 1 on
abbrev pub list_of : List (List ℕ) → ℕ → List ℕ
list_of lists number = get_or lists (number - 1) []

-- the pairs of what is in a list, in its order
abbrev pub pairs_in : List ℕ → List (ℕ × ℕ)
pairs_in [] = []
pairs_in (first ∷ later) = map (λ second. (first, second)) later ++ pairs_in later

-- each number with the next one, from this number on
abbrev pub next_to : ℕ → List ℕ → List (ℕ × ℕ)
next_to first [] = []
next_to first (second ∷ later) = (first, second) ∷ next_to second later

-- each number of a list but the last with the next one
abbrev pub neighbours : List ℕ → List (ℕ × ℕ)
neighbours [] = []
neighbours (first ∷ later) = next_to first later

-- a number behind a comma
abbrev pub later_number : ℕ → List ℕ
later_number number = codes "," ++ decimal number

-- numbers with a comma between two
abbrev pub listed : List ℕ → List ℕ
listed [] = []
listed (number ∷ numbers) = decimal number ++ flat_map later_number numbers

-- var {NUMBER,..,NUMBER}, as a declaration begins
abbrev pub domain : List ℕ → List ℕ
domain numbers = codes "var {" ++ listed numbers ++ codes "}"
