-- Domains of ranges.
use Rattle.std.proofs.Common.{◌≡◌, ℕ, ℤ, List, Ok, Err, Bool, true, false, Result, nat_lt, if◌then◌else◌}
use Rattle.dcsp_common.specs.declared.limits.Which.TheVariants as which
use Rattle.dcsp_common.specs.Limits.{most}
use Rattle.dcsp_domain.specs.Ranges.{count_between, numbers_between}
use Rattle.fzn_item.specs.declared.item.Base.TheVariants as base
use Rattle.fzn_token.specs.declared.refusal.Refusal.{Refusal}
use Rattle.fzn_token.specs.declared.refusal.Refusal.TheVariants as refusal
use Rattle.fzn_scope.specs.Checks.{◌>>=◌, refused_if}
use Rattle.fzn_model.specs.Declarations.{domain_of}

-- what is not refused does not tell where it would be
passed : (b : Bool) (r s : Refusal) (values domain : List ℤ) → (refused_if b r >>= (λ _. Ok values)) ≡ Ok domain → (refused_if b s >>= (λ _. Ok values)) ≡ Ok domain
passed true r s values domain is = absurd cc
passed false r s values domain is = is

-- the domain of a range is the same wherever it is declared
pub domain_anywhere : (at other : ℕ) (low high : ℤ) (domain : List ℤ) → domain_of at (base.Range low high) ≡ Ok domain → domain_of other (base.Range low high) ≡ Ok domain
domain_anywhere at other low high domain = passed (nat_lt (most which.DomainSize) (count_between low high)) (refusal.Limit which.DomainSize (count_between low high) at) (refusal.Limit which.DomainSize (count_between low high) other) (numbers_between low high) domain
