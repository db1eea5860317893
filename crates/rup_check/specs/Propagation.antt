-- Unit propagation, the property of a clause, and proofs. L is the type of literals.
use Rattle.std.specs.Prelude.{◌≡◌, ◌≢◌, ℕ, ◌<◌, ◌-◌, List, [], ◌++◌, ◌⊎◌, Bool, true, length, map, take}
use Rattle.std.specs.List.{Contains, slice_index_or}

-- the least set that holds the start and, for each clause all of whose literals but one have their negation in the set, that one
pub data Forced {L : Type 0} (negate : L → L) (formula : List (List L)) (start : List L) : L → Type 0 where
  given : {x : L} → Contains start x → Forced negate formula start x
  unit : {x : L} (clause : List L) → Contains formula clause → Contains clause x → ((y : L) → Contains clause y → y ≢ x → Forced negate formula start (negate y)) → Forced negate formula start x

-- a set of literals is closed under propagation
abbrev pub IsClosed : {L : Type 0} → (L → L) → List (List L) → (L → Type 0) → Type 0
IsClosed {L} negate formula In = (clause : List L) (x : L) → Contains formula clause → Contains clause x → ((y : L) → Contains clause y → y ≢ x → In (negate y)) → In x

-- each literal of the clause has its negation in the set
abbrev pub IsFalsified : {L : Type 0} → (L → L) → (L → Type 0) → List L → Type 0
IsFalsified {L} negate In clause = (y : L) → Contains clause y → In (negate y)

-- the set has a conflict
abbrev pub IsConflict : {L : Type 0} → (L → L) → List (List L) → (L → Type 0) → Type 0
IsConflict {L} negate formula In = ((clause : List L) × Contains formula clause × IsFalsified negate In clause) ⊎ ((x : L) × In x × In (negate x))

-- propagation from the start has a conflict
abbrev pub Conflicts : {L : Type 0} → (L → L) → List (List L) → List L → Type 0
Conflicts negate formula start = IsConflict negate formula (Forced negate formula start)

-- the clause has the reverse unit propagation property
abbrev pub HasProperty : {L : Type 0} → (L → L) → List (List L) → List L → Type 0
HasProperty negate formula clause = Conflicts negate formula (map negate clause)

-- the formula and the first n clauses of the proof
abbrev pub known_before : {L : Type 0} → List (List L) → List (List L) → ℕ → List (List L)
known_before formula proof n = formula ++ take n proof

-- clause number n of the proof, from 0, has the property under the formula and the earlier clauses
abbrev pub IsGood : {L : Type 0} → (L → L) → List (List L) → List (List L) → ℕ → Type 0
IsGood negate formula proof n = HasProperty negate (known_before formula proof n) (slice_index_or proof n [])

-- the last clause of the proof is empty
abbrev pub EndsEmpty : {L : Type 0} → List (List L) → Type 0
EndsEmpty {L} proof = (0 < length proof) × (slice_index_or proof (length proof - 1) [] ≡ [])

-- the proof is accepted for the formula
abbrev pub IsAccepted : {L : Type 0} → (L → L) → List (List L) → List (List L) → Type 0
IsAccepted negate formula proof = ((n : ℕ) → n < length proof → IsGood negate formula proof n) × EndsEmpty proof

-- a literal of the clause is true
abbrev pub Satisfies : {L : Type 0} → (L → Bool) → List L → Type 0
Satisfies {L} holds clause = (x : L) × Contains clause x × (holds x ≡ true)

-- each clause has a true literal
abbrev pub SatisfiesAll : {L : Type 0} → (L → Bool) → List (List L) → Type 0
SatisfiesAll {L} holds clauses = (clause : List L) → Contains clauses clause → Satisfies holds clause

-- no literal is true beside its negation
abbrev pub IsConsistent : {L : Type 0} → (L → L) → (L → Bool) → Type 0
IsConsistent {L} negate holds = (x : L) → holds x ≡ true → holds (negate x) ≡ true → ⊥

-- each literal of these clauses is true, or its negation is
abbrev pub IsTotalOn : {L : Type 0} → (L → L) → (L → Bool) → List (List L) → Type 0
IsTotalOn {L} negate holds clauses = (clause : List L) (x : L) → Contains clauses clause → Contains clause x → (holds x ≡ true) ⊎ (holds (negate x) ≡ true)
