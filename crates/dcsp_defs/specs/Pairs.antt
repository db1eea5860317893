-- Nogoods as lists of pairs, strictly rising by variable.
use Rattle.std.specs.Prelude.{◌≡◌, ◌≢◌, ℕ, ◌+◌, ◌-◌, ◌<◌, ◌≤◌, ℤ, pos, List, [], ◌∷◌, length, Option, Some, None, ◌==◌, if◌then◌else◌, slice_index_or}
use Rattle.dcsp_defs.specs.declared.nogood.Pair.{Pair}

-- the pair of a variable and a value
abbrev pub pair_of : ℕ → ℤ → Pair
pair_of var value = record { var = var; value = value }

-- what stands past a list's end
abbrev pub no_pair : Pair
no_pair = pair_of 0 (pos 0)

-- the variable of the pair at a place
abbrev pub var_at : List Pair → ℕ → ℕ
var_at pairs k = (slice_index_or pairs k no_pair).var

-- each pair's variable is above the one before it
abbrev pub IsRising : List Pair → Type 0
IsRising pairs = (k : ℕ) → k + 1 < length pairs → var_at pairs k < var_at pairs (k + 1)

-- this is the first place whose variable is not above the one before it
pub record IsFirstFall (pairs : List Pair) (place : ℕ) : Type 0 where
  pub not_first : 0 < place
  pub within : place < length pairs
  pub falls : var_at pairs place ≤ var_at pairs (place - 1)
  pub rises_before : (k : ℕ) → k + 1 < place → var_at pairs k < var_at pairs (k + 1)

-- the value that the pairs give a variable
abbrev pub value_at : List Pair → ℕ → Option ℤ
value_at [] var = None
value_at (pair ∷ pairs) var = if var == pair.var then Some pair.value else value_at pairs var

-- the first value that is there
abbrev pub or_else : Option ℤ → Option ℤ → Option ℤ
or_else None other = other
or_else (Some value) other = Some value

-- what `mine`, together with the pairs of `theirs` whose variable is not `except`, gives a variable
abbrev pub union_at : List Pair → List Pair → ℕ → ℕ → Option ℤ
union_at mine theirs except var = or_else (value_at mine var) (if var == except then None else value_at theirs var)

-- these pairs are `mine` together with those of `theirs` whose variable is not `except`
pub record IsUnion (mine theirs : List Pair) (except : ℕ) (all : List Pair) : Type 0 where
  pub rising : IsRising all
  pub values : (var : ℕ) → value_at all var ≡ union_at mine theirs except var

-- other than at `except`, both give this variable one value, or one of them gives it none
abbrev pub AgreeAt : List Pair → List Pair → ℕ → ℕ → Type 0
AgreeAt mine theirs except var =
    var ≢ except → (a b : ℤ) → value_at mine var ≡ Some a → value_at theirs var ≡ Some b → a ≡ b

-- the least variable other than `except` to which both give a value, and not the same
pub record IsLeastClash (mine theirs : List Pair) (except var : ℕ) (a b : ℤ) : Type 0 where
  pub other : var ≢ except
  pub in_mine : value_at mine var ≡ Some a
  pub in_theirs : value_at theirs var ≡ Some b
  pub differ : a ≢ b
  pub least : (w : ℕ) → w < var → AgreeAt mine theirs except w

-- A rising list of pairs is determined by the values that it gives.
abbrev pub ValuesDetermine : Type 0
ValuesDetermine = (one other : List Pair) → IsRising one → IsRising other
    → ((var : ℕ) → value_at one var ≡ value_at other var) → one ≡ other
