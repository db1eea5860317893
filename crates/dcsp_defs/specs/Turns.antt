-- What comes next in a merge of two rising lists of pairs.
use Rattle.std.specs.Prelude.{◌≡◌, ◌≢◌, ℕ, ◌<◌, List, length, slice_index_or}
use Rattle.dcsp_defs.specs.declared.nogood.Pair.{Pair}
use Rattle.dcsp_defs.specs.declared.nogood.Turn.{Turn}
use Rattle.dcsp_defs.specs.declared.nogood.Turn.TheVariants.{Mine, Theirs, Both, LeftOut, Clash}
use Rattle.dcsp_defs.specs.Pairs.{var_at, no_pair}

-- both lists have a next pair, for one variable that is not left out
pub record IsCommon (xs : List Pair) (i : ℕ) (ys : List Pair) (j except : ℕ) : Type 0 where
  pub here : i < length xs
  pub there : j < length ys
  pub same : var_at xs i ≡ var_at ys j
  pub kept : var_at xs i ≢ except

abbrev pub IsTurn : List Pair → ℕ → List Pair → ℕ → ℕ → Turn → Type 0
IsTurn xs i ys j except Mine = (i < length xs) × (j < length ys → var_at xs i < var_at ys j)
IsTurn xs i ys j except Theirs = (j < length ys) × (i < length xs → var_at ys j < var_at xs i) × (var_at ys j ≢ except)
IsTurn xs i ys j except Both =
    IsCommon xs i ys j except × ((slice_index_or xs i no_pair).value ≡ (slice_index_or ys j no_pair).value)
IsTurn xs i ys j except LeftOut = (j < length ys) × (var_at ys j ≡ except)
IsTurn xs i ys j except Clash =
    IsCommon xs i ys j except × ((slice_index_or xs i no_pair).value ≢ (slice_index_or ys j no_pair).value)
