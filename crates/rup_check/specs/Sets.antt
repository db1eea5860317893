-- What propagation keeps and finds.
use Rattle.std.specs.Prelude.{◌≡◌, ℕ, List, ◌⊎◌, Bool, true, false, map}
use Rattle.std.specs.List.{Contains}
use Rattle.rup_check.specs.Propagation.{HasProperty, IsFalsified}
use Rattle.rup_check.specs.Assignments.{flipped, Has, IsSound}
use Rattle.rup_check.specs.Looks.{IsQuiet}

-- marks that are sound from some start stay so
abbrev pub KeepsSound : List (List ℕ) → List Bool → List Bool → Type 0
KeepsSound formula before after = (start : List ℕ) → IsSound formula start before → IsSound formula start after

-- what was marked stays marked
abbrev pub Grows : List Bool → List Bool → Type 0
Grows before after = (x : ℕ) → Has before x → Has after x

-- a clause is false
abbrev pub HasFalse : List (List ℕ) → List Bool → Type 0
HasFalse formula marks = (clause : List ℕ) × Contains formula clause × IsFalsified flipped (Has marks) clause

-- each clause has a true literal, or two that are not false
abbrev pub IsFinished : List (List ℕ) → List Bool → Type 0
IsFinished formula marks = (clause : List ℕ) → Contains formula clause → IsQuiet marks clause

-- whether a clause became false; if not, each clause is quiet
abbrev pub IsEnd : List (List ℕ) → List Bool → Bool → Type 0
IsEnd formula marks true = HasFalse formula marks
IsEnd formula marks false = IsFinished formula marks

-- the negations of the clause's literals were marked beside what was, and no more
pub record IsBegun (before : List Bool) (clause : List ℕ) (marks : List Bool) : Type 0 where
  pub all : (x : ℕ) → Contains (map flipped clause) x → Has marks x
  pub only : (x : ℕ) → Has marks x → Contains (map flipped clause) x ⊎ Has before x
  pub consistent : (x : ℕ) → Has marks x → Has marks (flipped x) → ⊥
  pub grows : Grows before marks

-- whether a literal of the clause was true, or the negation of another; if not, the negations were marked
abbrev pub IsBeginning : List Bool → List ℕ → List Bool → Bool → Type 0
IsBeginning before clause marks true = (x : ℕ) × Contains clause x × (Contains (map flipped clause) x ⊎ Has before x)
IsBeginning before clause marks false = IsBegun before clause marks

-- whether the clause has the property
abbrev pub IsAnswer : List (List ℕ) → List ℕ → Bool → Type 0
IsAnswer formula clause true = HasProperty flipped formula clause
IsAnswer formula clause false = HasProperty flipped formula clause → ⊥

-- the literal was put in
pub record IsPut (before after : List Bool) (x : ℕ) : Type 0 where
  pub here : Has after x
  pub grows : Grows before after
  pub only : (y : ℕ) → Has after y → (y ≡ x) ⊎ Has before y
