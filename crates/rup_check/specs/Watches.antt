-- Two watched literals of each clause.
use Rattle.std.specs.Prelude.{◌≡◌, ◌≢◌, ℕ, ◌<◌, ◌≤◌, List, [], ◌∷◌, ◌++◌, ◌⊎◌, Bool, true, false, length, take, slice_set}
use Rattle.std.specs.List.{Contains, slice_index_or}
use Rattle.rup_check.specs.Propagation.{IsFalsified, Conflicts}
use Rattle.rup_check.specs.Assignments.{flipped, Has, IsAssignment, IsSound}
use Rattle.rup_check.specs.Sets.{HasFalse}
use Rattle.rup_check.specs.Looks.{IsOpen, IsUnit}
use Rattle.rup_check.specs.declared.watches.WatchedPair.{WatchedPair}
use Rattle.rup_check.specs.declared.watches.ClauseState.{ClauseState}
use Rattle.rup_check.specs.declared.watches.ClauseState.TheVariants as kind
use Rattle.rup_check.specs.declared.turns.Turn.{Turn}
use Rattle.rup_check.specs.declared.turns.Turn.TheVariants as turn
use Rattle.rup_check.specs.declared.turns.Look.{Look}
use Rattle.rup_check.specs.declared.turns.Look.TheVariants as look
use Rattle.rup_check.specs.Stored.{IsPlace, places}

-- the pair are two literals of the clause
pub record IsPairOf (clause : List ℕ) (pair : WatchedPair) : Type 0 where
  pub first : Contains clause pair.first
  pub second : Contains clause pair.second
  pub apart : pair.first ≢ pair.second
  pub first_small : IsPlace pair.first
  pub second_small : IsPlace pair.second

-- the clause is in the list of the literal, or in the list of q, which was taken out
abbrev pub IsListed : List (List ℕ) → List ℕ → ℕ → ℕ → ℕ → Type 0
IsListed lists held q literal number = Contains (slice_index_or lists literal []) number ⊎ ((literal ≡ q) × Contains held number)

-- where one of the pair was made false among what is done, the other is true
pub record IsSettled (marks : List Bool) (done : List ℕ) (pair : WatchedPair) : Type 0 where
  pub first : Contains done (flipped pair.first) → Has marks pair.second
  pub second : Contains done (flipped pair.second) → Has marks pair.first

-- where one of the pair is q, the other is true
pub record IsSettledAt (marks : List Bool) (q : ℕ) (pair : WatchedPair) : Type 0 where
  pub first : pair.first ≡ q → Has marks pair.second
  pub second : pair.second ≡ q → Has marks pair.first

-- a literal of the clause is among these, so it needs no watch
abbrev pub HasOneOf : List ℕ → List ℕ → Type 0
HasOneOf units clause = (x : ℕ) × Contains units x × Contains clause x

-- each literal of the first clause is one of the other, or its negation is among these
abbrev pub Covers : List ℕ → List ℕ → List ℕ → Type 0
Covers units clause other = (x : ℕ) → Contains clause x → Contains other x ⊎ Contains units (flipped x)

-- a clause before number k covers this one, so it needs no watch
pub record IsCovered (formula : List (List ℕ)) (units clause : List ℕ) (k : ℕ) : Type 0 where
  pub by : ℕ
  pub earlier : by < k
  pub covers : Covers units (slice_index_or formula by []) clause

-- clause number k is true by the units, or covered: it needs no watch
abbrev pub NeedsNoWatch : List (List ℕ) → List ℕ → List ℕ → ℕ → Type 0
NeedsNoWatch formula units clause k = HasOneOf units clause ⊎ IsCovered formula units clause k

-- one of the clauses covers this one
abbrev pub IsCoveredBySome : List (List ℕ) → List ℕ → List ℕ → Type 0
IsCoveredBySome formula units clause = IsCovered formula units clause (length formula)

-- where one of the pair is false by these literals, the other is among them
pub record IsRooted (base : List ℕ) (pair : WatchedPair) : Type 0 where
  pub first : Contains base (flipped pair.first) → Contains base pair.second
  pub second : Contains base (flipped pair.second) → Contains base pair.first

-- a clause while the list of q is looked at: the first of what is held of it are still to be looked at
pub record IsTended (lists : List (List ℕ)) (held pending : List ℕ) (q : ℕ) (base : List ℕ) (marks : List Bool) (done : List ℕ) (clause : List ℕ) (pair : WatchedPair) (number : ℕ) : Type 0 where
  pub pair_of : IsPairOf clause pair
  pub first : IsListed lists held q pair.first number
  pub second : IsListed lists held q pair.second number
  pub settled : IsSettled marks done pair
  pub rooted : IsRooted base pair
  pub here : Contains pending number ⊎ IsSettledAt marks q pair

-- the other of the pair
abbrev pub IsOther : WatchedPair → ℕ → ℕ → Type 0
IsOther pair q other = ((pair.first ≡ q) × (other ≡ pair.second)) ⊎ ((pair.second ≡ q) × (other ≡ pair.first))

-- what is to be done with a clause of the list of q
abbrev pub IsTurn : List Bool → List ℕ → WatchedPair → ℕ → Turn → Type 0
IsTurn marks clause pair q turn.Drop = (pair.first ≢ q) × (pair.second ≢ q)
IsTurn marks clause pair q turn.Stay = (other : ℕ) × IsOther pair q other × Has marks other
IsTurn marks clause pair q (turn.Move other to at) = IsOther pair q other × IsOpen marks clause to × (to ≢ other) × IsPlace to
IsTurn marks clause pair q (turn.Force other) = IsOther pair q other × IsUnit marks clause other
IsTurn marks clause pair q turn.Conflict = IsFalsified flipped (Has marks) clause

-- a pair past the end
abbrev pub no_pair : WatchedPair
no_pair = record { first = 0; second = 0; at = 0 }

-- the number is of a clause with a pair
pub record IsEntry (formula : List (List ℕ)) (pairs : List WatchedPair) (number : ℕ) : Type 0 where
  pub in_range : number < length formula
  pub pair_of : IsPairOf (slice_index_or formula number []) (slice_index_or pairs number no_pair)

-- every clause is tended or needs no watch, while the list of q is looked at
pub record IsWatch (formula : List (List ℕ)) (pairs : List WatchedPair) (lists : List (List ℕ)) (units base : List ℕ) (held pending : List ℕ) (q : ℕ) (marks : List Bool) (done : List ℕ) : Type 0 where
  pub counted : length pairs ≡ length formula
  pub sized : length lists ≡ places
  pub entries : (x k : ℕ) → Contains (slice_index_or lists x []) k → IsEntry formula pairs k
  pub left : (k : ℕ) → Contains held k → IsEntry formula pairs k
  pub done_marked : (y : ℕ) → Contains done y → Has marks y
  pub base_marked : (y : ℕ) → Contains base y → Has marks y
  pub clauses : (k : ℕ) → k < length formula → IsTended lists held pending q base marks done (slice_index_or formula k []) (slice_index_or pairs k no_pair) k ⊎ NeedsNoWatch formula units (slice_index_or formula k []) k

-- no literal is marked beside its negation
abbrev pub IsClean : List Bool → Type 0
IsClean marks = (x : ℕ) → Has marks x → Has marks (flipped x) → ⊥

-- the list without the number, once
pub record IsWithout (before after : List ℕ) (number : ℕ) : Type 0 where
  pub others : (k : ℕ) → k ≢ number → Contains before k → Contains after k
  pub only : (k : ℕ) → Contains after k → Contains before k

-- one clause of the list of q was looked at: it stays in the list or leaves it, or it is false and nothing changed
abbrev pub IsTaken : List (List ℕ) → ℕ → ℕ → List WatchedPair → List (List ℕ) → List Bool → List WatchedPair → List (List ℕ) → List Bool → Look → Type 0
IsTaken formula number q pairs lists marks pairs' lists' marks' look.Stays =
    (units base held rest done : List ℕ) → IsWatch formula pairs lists units base held (rest ++ number ∷ []) q marks done → IsWatch formula pairs' lists' units base held rest q marks' done
IsTaken formula number q pairs lists marks pairs' lists' marks' look.Leaves =
    (units base held held' rest done : List ℕ) → IsWithout held held' number → IsWatch formula pairs lists units base held (rest ++ number ∷ []) q marks done → IsWatch formula pairs' lists' units base held' rest q marks' done
IsTaken formula number q pairs lists marks pairs' lists' marks' look.IsFalse =
    (pairs' ≡ pairs) × (lists' ≡ lists) × HasFalse formula marks'

-- a clause between two lists
pub record IsKept (lists : List (List ℕ)) (base : List ℕ) (marks : List Bool) (done : List ℕ) (clause : List ℕ) (pair : WatchedPair) (number : ℕ) : Type 0 where
  pub pair_of : IsPairOf clause pair
  pub first : Contains (slice_index_or lists pair.first []) number
  pub second : Contains (slice_index_or lists pair.second []) number
  pub settled : IsSettled marks done pair
  pub rooted : IsRooted base pair

-- every clause is kept or needs no watch, where the lists of the negations of what is done were looked at
pub record IsState (formula : List (List ℕ)) (pairs : List WatchedPair) (lists : List (List ℕ)) (units base : List ℕ) (marks : List Bool) (done : List ℕ) : Type 0 where
  pub counted : length pairs ≡ length formula
  pub sized : length lists ≡ places
  pub entries : (x k : ℕ) → Contains (slice_index_or lists x []) k → IsEntry formula pairs k
  pub done_marked : (y : ℕ) → Contains done y → Has marks y
  pub base_marked : (y : ℕ) → Contains base y → Has marks y
  pub clauses : (k : ℕ) → k < length formula → IsKept lists base marks done (slice_index_or formula k []) (slice_index_or pairs k no_pair) k ⊎ NeedsNoWatch formula units (slice_index_or formula k []) k

-- the state from which something was looked at is kept: false says that this is done now, true that a clause is false
abbrev pub IsEnded : List (List ℕ) → List ℕ → List ℕ → List WatchedPair → List (List ℕ) → List Bool → List ℕ → Bool → Type 0
IsEnded formula units base pairs lists marks done false = IsState formula pairs lists units base marks done
IsEnded formula units base pairs lists marks done true = IsState formula pairs lists units base marks [] × HasFalse formula marks

-- the list of q was looked at, so that its negation is done
abbrev pub IsVisited : List (List ℕ) → ℕ → List WatchedPair → List (List ℕ) → List Bool → List WatchedPair → List (List ℕ) → List Bool → Bool → Type 0
IsVisited formula q pairs lists marks pairs' lists' marks' found =
    (units base done : List ℕ) → IsState formula pairs lists units base marks done → IsEnded formula units base pairs' lists' marks' (done ++ flipped q ∷ []) found

-- the list goes on from there
abbrev pub Extends : List ℕ → List ℕ → Type 0
Extends before after = (more : List ℕ) × (after ≡ before ++ more)

-- the queue was run from a place, so that all on the trail is done
abbrev pub IsRun : List (List ℕ) → ℕ → List WatchedPair → List (List ℕ) → List Bool → List ℕ → List WatchedPair → List (List ℕ) → List Bool → List ℕ → Bool → Type 0
IsRun formula head pairs lists marks trail pairs' lists' marks' trail' found =
    (units base : List ℕ) → IsState formula pairs lists units base marks (take head trail) → IsEnded formula units base pairs' lists' marks' trail' found

-- between two clauses of a proof: what is marked is forced by the formula alone, and all of it is done
pub record IsRest (formula : List (List ℕ)) (pairs : List WatchedPair) (lists : List (List ℕ)) (marks : List Bool) (trail : List ℕ) : Type 0 where
  pub assigned : IsAssignment marks trail
  pub sound : IsSound formula [] marks
  pub state : IsState formula pairs lists trail trail marks trail

-- what is known of a formula: true says that propagation from nothing has a conflict
abbrev pub IsRoot : List (List ℕ) → List WatchedPair → List (List ℕ) → List Bool → List ℕ → Bool → Type 0
IsRoot formula pairs lists marks trail true = Conflicts flipped formula []
IsRoot formula pairs lists marks trail false = IsRest formula pairs lists marks trail

-- the clause is in the lists of both of the pair
abbrev pub AreListed : List (List ℕ) → List (List ℕ) → WatchedPair → ℕ → Type 0
AreListed before after pair number =
    (middle : List (List ℕ)) × (middle ≡ slice_set before pair.first (slice_index_or before pair.first [] ++ number ∷ [])) × (after ≡ slice_set middle pair.second (slice_index_or middle pair.second [] ++ number ∷ []))

-- what the marks make of a clause
abbrev pub IsKind : List Bool → List ℕ → ClauseState → Type 0
IsKind marks clause kind.IsTrue = (x : ℕ) × Contains clause x × Has marks x
IsKind marks clause kind.IsFalse = IsFalsified flipped (Has marks) clause
IsKind marks clause (kind.Unit x) = IsUnit marks clause x
IsKind marks clause (kind.Long pair) = IsPairOf clause pair × IsOpen marks clause pair.first × IsOpen marks clause pair.second
