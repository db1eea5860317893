-- The answers on a proof.
use Rattle.std.specs.Prelude.{ℕ, ◌<◌, ◌-◌, List, Option, Some, None, length}
use Rattle.rup_check.specs.Propagation.{IsGood, IsAccepted, EndsEmpty}
use Rattle.rup_check.specs.declared.check.Rup.{Rup}
use Rattle.rup_check.specs.declared.check.Rup.TheVariants as rup

-- clause n, from 0, is the first without the property
pub record IsFirstBad {L : Type 0} (negate : L → L) (formula proof : List (List L)) (n : ℕ) : Type 0 where
  pub in_range : n < length proof
  pub bad : IsGood negate formula proof n → ⊥
  pub before : (k : ℕ) → k < n → IsGood negate formula proof k

-- the first clause without the property, if one lacks it
abbrev pub FirstBad : {L : Type 0} → (L → L) → List (List L) → List (List L) → Option ℕ → Type 0
FirstBad negate formula proof None = (k : ℕ) → k < length proof → IsGood negate formula proof k
FirstBad negate formula proof (Some n) = IsFirstBad negate formula proof n

-- what each answer on a proof says
abbrev pub IsVerdict : {L : Type 0} → (L → L) → List (List L) → List (List L) → Rup → Type 0
IsVerdict negate formula proof rup.Verified = IsAccepted negate formula proof
IsVerdict negate formula proof (rup.BadClause number) = (0 < number) × IsFirstBad negate formula proof (number - 1)
IsVerdict negate formula proof rup.NotEmpty = ((k : ℕ) → k < length proof → IsGood negate formula proof k) × (EndsEmpty proof → ⊥)
