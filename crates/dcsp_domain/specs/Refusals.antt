-- When a domain is refused.
use Rattle.std.specs.Prelude.{◌≡◌, ◌<◌, ℕ}
use Rattle.dcsp_domain.specs.declared.DomainError.{DomainError}
use Rattle.dcsp_domain.specs.declared.DomainError.TheVariants.{Large, Memory}
use Rattle.dcsp_domain.specs.declared.TheConstants.{MOST_VALUES}

-- a refusal is right where there would be so many values: they are too many and it tells their number, or memory ran out
abbrev pub IsRefusalAt : ℕ → DomainError → Type 0
IsRefusalAt values (Large size) = (size ≡ values) × (MOST_VALUES < values)
IsRefusalAt values Memory = Unit {0}
