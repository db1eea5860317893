-- How a run ends, as the definitions of runs have it.
use Rattle.abt_defs.specs.Runs as runs
use Rattle.abt_defs.specs.declared.end.End.{End}
use Rattle.abt_defs.specs.declared.end.End.TheVariants.{Solved, Refuted, Spent, Capped}

-- an end of which no more is told
abbrev pub BareEnd : Type 0
BareEnd = End (Unit {0})

-- the end, whatever is told of a solution
abbrev pub end_of : {V : Type 0} → End V → runs.End
end_of (Solved value) = runs.Solved
end_of Refuted = runs.Refuted
end_of Spent = runs.Spent
end_of Capped = runs.Capped
