-- The numbers that a record holds.
use Rattle.std.specs.Prelude.{ℕ, ◌^◌, ◌<◌, ◌≤◌, List}
use Rattle.std.specs.List.{AllByRecursion}
use Rattle.dcsp_common.specs.Limits.{most}
use Rattle.dcsp_common.specs.declared.limits.Which.TheVariants.{Variables}
use Rattle.dcsp_defs.specs.Csp.{Csp, count}
use Rattle.abt_defs.specs.Runs.{whole}

-- Of a problem within the limit of variables the numbers of a run have at most 24 bits, so they are choices of a schedule.
abbrev pub NumbersAreSmall : Csp → Type 0
NumbersAreSmall p = count p ≤ most Variables → (most : ℕ) (choices : List ℕ) → AllByRecursion (λ number. number < 2 ^ 24) (whole p most choices).numbers
