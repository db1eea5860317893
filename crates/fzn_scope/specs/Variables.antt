-- Names of 8 to 24 bytes, and the variables that they stand for.
use Rattle.std.specs.Prelude.{◌≡◌, ◌<◌, ◌≤◌, ◌-◌, ℕ, List, length, take, drop, slice_index, nat_lt, if◌then◌else◌, Some}
use Rattle.std.specs.Int.{from_le_bytes, w64}
use Rattle.dcsp_rule.specs.declared.rule.Term.TheVariants as term
use Rattle.fzn_scope.specs.declared.names.Declared.TheVariants as declared
use Rattle.fzn_scope.specs.declared.variables.Key.{Key}
use Rattle.fzn_scope.specs.declared.variables.Known.{Known}
use Rattle.fzn_scope.specs.Names.{Scope, declared_as}

-- each is a byte
abbrev pub AreBytes : List ℕ → Type 0
AreBytes xs = (i : ℕ) → slice_index xs i < 256

-- the eight bytes from a place on, as a number
abbrev pub number_at : List ℕ → ℕ → ℕ
number_at name at = from_le_bytes w64 (take 8 (drop at name))

-- the name is neither too short nor too long for a key
abbrev pub HasKey : List ℕ → Type 0
HasKey name = (8 ≤ length name) × (length name ≤ 24)

-- its first, its second and its last eight bytes, which may overlap; of a name of at most 16 the first stand for the second
abbrev pub key_of : List ℕ → Key
key_of name = record { first = number_at name 0; middle = number_at name (if nat_lt 16 (length name) then 8 else 0); last = number_at name (length name - 8) }

-- the variable is known by this name
abbrev pub IsNamed : Known → List ℕ → Type 0
IsNamed known name = HasKey name × (known.len ≡ length name) × (known.key ≡ key_of name)

-- a name by which the variable is known stands for it
abbrev pub StandsFor : Scope → Known → Type 0
StandsFor scope known = (name : List ℕ) → AreBytes name → IsNamed known name → declared_as scope name ≡ Some (declared.One known.boolean (term.Var known.variable))
