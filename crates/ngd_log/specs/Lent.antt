-- What a reader lends of the line that it read last.
use Rattle.std.specs.Prelude.{Bool, true, false, List, [], ◌∷◌, Option, Some, None}
use Rattle.dcsp_defs.specs.Pairs.{IsRising}
use Rattle.dcsp_defs.specs.declared.Step.{Step}
use Rattle.ngd_log.specs.declared.reader.Gathered.{Gathered}
use Rattle.ngd_log.specs.declared.standing.EntryKind.{EntryKind}
use Rattle.ngd_log.specs.declared.standing.EntryKind.TheVariants as kinds
use Rattle.dcsp_defs.specs.declared.lent.Lent.{Lent}
use Rattle.dcsp_defs.specs.declared.lent.Lent.TheVariants as lents
use Rattle.dcsp_defs.specs.declared.entry.Entry.{Entry}
use Rattle.dcsp_defs.specs.declared.entry.Entry.TheVariants.{Step as A_step, Delete}

-- whether this is a step
abbrev pub is_step : EntryKind → Bool
is_step kinds.Step = true
is_step kinds.Delete = false

-- the step of these parts
abbrev pub step_in : Gathered → Step
step_in gathered = record { variable = gathered.variable; nogood = gathered.pairs.items; reasons = gathered.reasons.items }

-- the entry of these parts
abbrev pub entry_in : EntryKind → Gathered → Entry
entry_in kinds.Step gathered = A_step (step_in gathered)
entry_in kinds.Delete gathered = Delete gathered.numbers.items

-- the same where there is one
abbrev pub lent_in : Option EntryKind → Gathered → List Entry
lent_in None gathered = []
lent_in (Some kind) gathered = entry_in kind gathered ∷ []

-- the pairs of a step rise
abbrev pub RisesIn : Entry → Type 0
RisesIn (A_step step) = IsRising step.nogood
RisesIn (Delete numbers) = Unit {0}

-- the entry that is lent, if there is one
abbrev pub lent_entries : Option Lent → List Entry
lent_entries None = []
lent_entries (Some (lents.Step step)) = A_step step ∷ []
lent_entries (Some (lents.Delete numbers)) = Delete numbers.now ∷ []
