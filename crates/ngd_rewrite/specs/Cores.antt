-- A problem limited to some of its rules.
use Rattle.std.specs.Prelude.{ℕ, List, slice_get, filter_map}
use Rattle.dcsp_defs.specs.Csp.{Csp}

-- the same variables and domains, and the constraints with these numbers alone
abbrev pub limited : Csp → List ℕ → Csp
limited p rules = record { domains = p.domains; constraints = filter_map (slice_get p.constraints) rules }
