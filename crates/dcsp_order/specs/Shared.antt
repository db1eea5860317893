-- A flag for each two variables, row after row: whether some constraint has both in its scope.
use Rattle.std.specs.Prelude.{◌≡◌, ℕ, ◌+◌, ◌*◌, ◌<◌, Bool, ◌||◌, ◌==◌, List, length}
use Rattle.std.specs.List.{list_any}
use Rattle.dcsp_defs.specs.Csp.{Csp, count}
use Rattle.dcsp_order.specs.ByRule.{share_scope}
use Rattle.dcsp_order.specs.Taken.{flag_at}

-- each flag stays, or is set where its place passes the test
pub record Sets (test : ℕ → Bool) (old new : List Bool) : Type 0 where
  pub as_many : length new ≡ length old
  pub each : (place : ℕ) → place < length old → flag_at new place ≡ (flag_at old place || test place)

-- the place is that of one of these columns, in the row that begins there
abbrev pub is_in_row : ℕ → List ℕ → ℕ → Bool
is_in_row from columns place = list_any (λ k. place == from + k) columns

-- the same in one of these rows of so many
abbrev pub is_in_rows : ℕ → List ℕ → List ℕ → ℕ → Bool
is_in_rows width columns rows place = list_any (λ i. is_in_row (i * width) columns place) rows

-- the flags of a problem
pub record AreShared (p : Csp) (flags : List Bool) : Type 0 where
  pub as_many : length flags ≡ count p * count p
  pub each : (i k : ℕ) → i < count p → k < count p → flag_at flags (i * count p + k) ≡ share_scope p i k
