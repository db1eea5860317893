-- The bound, agent by agent.
use Rattle.std.specs.Prelude.{ℕ, ◌+◌, ◌-◌, ◌*◌, length}
use Rattle.dcsp_defs.specs.Words.{sum_below}
use Rattle.dcsp_defs.specs.Csp.{Csp, domain, count}
use Rattle.abt_defs.specs.Bound.{product_below, unlinked_pairs}

-- what one agent counts
abbrev pub counted : Csp → ℕ → ℕ
counted p i = (count p - 1 - i) * length (domain p i) * product_below p i + (product_below p i - 1)

-- the bound as far as the agents below i count
abbrev pub bound_below : Csp → ℕ → ℕ
bound_below p i = unlinked_pairs p + sum_below (counted p) i
