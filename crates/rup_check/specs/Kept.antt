-- The definitions of watches, said of what the code keeps.
use Rattle.std.specs.Prelude.{◌+◌, ℕ, List, ◌++◌, Bool, take}
use Rattle.rup_check.specs.Watches.{IsState, IsTaken, IsVisited, IsRun, IsRest, IsRoot}
use Rattle.rup_check.specs.declared.places.Known.{Known}
use Rattle.rup_check.specs.declared.watches.Watches.{Watches}
use Rattle.rup_check.specs.declared.assignment.Assignment.{Assignment}
use Rattle.rup_check.specs.declared.turns.Look.{Look}

-- the formula, and then the proof
abbrev pub all_of : Known → List (List ℕ)
all_of known = known.formula.now ++ known.proof.now

-- the clauses that are known
abbrev pub clauses_of : Known → List (List ℕ)
clauses_of known = take known.count (all_of known)

-- the clauses that are known, and the next one
abbrev pub more_of : Known → List (List ℕ)
more_of known = take (known.count + 1) (all_of known)

-- the watches are those of these clauses, where the lists of the negations of what is done were looked at
abbrev pub AreWatched : List (List ℕ) → Watches → List Bool → List ℕ → Type 0
AreWatched clauses w marks done = (units : List ℕ) × (base : List ℕ) × IsState clauses w.pairs.items w.lists.items units base marks done

-- the watches are those of these clauses, with what they force by themselves
abbrev pub Rests : List (List ℕ) → Watches → Assignment → Type 0
Rests clauses w a = IsRest clauses w.pairs.items w.lists.items a.marks.items a.trail.items

-- the same, or the clauses have a conflict by themselves
abbrev pub IsReady : List (List ℕ) → Watches → Assignment → Type 0
IsReady clauses w a = IsRoot clauses w.pairs.items w.lists.items a.marks.items a.trail.items w.refuted

-- a clause of the list of a literal was looked at
abbrev pub LooksAt : List (List ℕ) → ℕ → ℕ → Watches → List Bool → Watches → List Bool → Look → Type 0
LooksAt clauses number literal old before new after =
    IsTaken clauses number literal old.pairs.items old.lists.items before new.pairs.items new.lists.items after

-- the list of a literal was looked at
abbrev pub Visits : List (List ℕ) → ℕ → Watches → List Bool → Watches → List Bool → Bool → Type 0
Visits clauses literal old before new after =
    IsVisited clauses literal old.pairs.items old.lists.items before new.pairs.items new.lists.items after

-- the lists of the negations of all on the trail from a place were looked at
abbrev pub Runs : List (List ℕ) → ℕ → Watches → Assignment → Watches → Assignment → Bool → Type 0
Runs clauses head old before new after =
    IsRun clauses head old.pairs.items old.lists.items before.marks.items before.trail.items new.pairs.items new.lists.items after.marks.items after.trail.items
