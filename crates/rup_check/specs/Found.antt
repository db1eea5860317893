-- What is found of a clause of a proof.
use Rattle.std.specs.Prelude.{◌≡◌, ℕ, ◌<◌, ◌≤◌, List, [], length, Bool, true, false}
use Rattle.std.specs.List.{All, slice_index_or}
use Rattle.rup_check.specs.Propagation.{HasProperty, IsFalsified}
use Rattle.rup_check.specs.Assignments.{flipped, Has}
use Rattle.rup_check.specs.Watches.{IsCoveredBySome}
use Rattle.rup_check.specs.declared.propagation.Found.{Found}
use Rattle.rup_check.specs.declared.propagation.Found.TheVariants as found
use Rattle.rup_check.specs.Stored.{IsPlace}

-- whether the clause has the property
abbrev pub is_good : Found → Bool
is_good found.Lacks = false
is_good found.Has = true
is_good found.Covered = true

-- a clause is false
pub record HasFalseAt (formula : List (List ℕ)) (marks : List Bool) : Type 0 where
  pub number : ℕ
  pub in_range : number < length formula
  pub small : All IsPlace (slice_index_or formula number [])
  pub is_false : IsFalsified flipped (Has marks) (slice_index_or formula number [])

-- what is found where propagation came to a conflict or not, and only the start is marked again
abbrev pub IsFoundAt : List (List ℕ) → List Bool → Bool → Found → Type 0
IsFoundAt formula marks conflict found.Lacks = conflict ≡ false
IsFoundAt formula marks conflict found.Has = conflict ≡ true
IsFoundAt formula marks conflict found.Covered = (conflict ≡ true) × HasFalseAt formula marks

-- what is found of the clause, where these literals are true by the clauses alone
abbrev pub IsFound : List (List ℕ) → List ℕ → List ℕ → Found → Type 0
IsFound formula units clause found.Lacks = HasProperty flipped formula clause → ⊥
IsFound formula units clause found.Has = HasProperty flipped formula clause
IsFound formula units clause found.Covered = HasProperty flipped formula clause × IsCoveredBySome formula units clause
