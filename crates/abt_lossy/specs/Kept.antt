-- What the inside of the agents over the medium keeps.
use Rattle.std.specs.Prelude.{◌≡◌, ℕ, Bool, true, false, List, length}
use Rattle.dcsp_rule.specs.Problems.{Contents, csp_of}
use Rattle.abt_lossy.specs.declared.parts.Parts.{Parts}
use Rattle.abt_lossy.specs.AtWorld.{IsAt, IsBlank}
use Rattle.abt_lossy.specs.InWorld.{LossyState}

-- what callers see
abbrev pub shown : Contents → Parts → ℕ → Bool → LossyState
shown p l events spent = record { problem = p; network = l.network; carrier = l.carrier; events = events; begun = l.network.begun; spent = spent }

-- so many events of this problem lead here
pub record IsMade (p : Contents) (l : Parts) (events : ℕ) : Type 0 where
  pub words : List ℕ
  pub stands : IsAt (csp_of p) words l
  pub many : length words ≡ events

-- what holds between two events
pub record IsKept (p : Contents) (l : Parts) (events : ℕ) : Type 0 where
  pub sound : l.network.spent ≡ false
  pub blank : l.network.begun ≡ false → IsBlank l
  pub unused : l.network.begun ≡ false → events ≡ 0
  pub made : l.network.begun ≡ true → IsMade p l events

-- what always holds: while they have memory the rest is kept
pub record IsSound (p : Contents) (l : Parts) (events : ℕ) (spent : Bool) : Type 0 where
  pub problem : l.network.problem ≡ p
  pub kept : spent ≡ false → IsKept p l events
