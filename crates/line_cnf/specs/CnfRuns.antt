-- The run that `cnf` makes of a formula's problem, and what it writes of it.
use Rattle.std.specs.Prelude.{ℕ, ◌+◌, ℤ, pos, negsuc, List, [], ◌∷◌, ◌++◌, map, length, slice_index_or, codes, decimal, Option, Some, None, if◌then◌else◌}
use Rattle.dcsp_meaning.specs.Words.{is_one}
use Rattle.dcsp_defs.specs.Words.{below}
use Rattle.dcsp_defs.specs.declared.Step.{Step}
use Rattle.dcsp_rule.specs.Problems.{Contents}
use Rattle.dcsp_script.specs.Scripts.{Write, Create, Append, Put}
use Rattle.rup_check.specs.ProofText.{clause_line}
use Rattle.abt_defs.specs.Runs.{Run, End, Refuted, Solved, Capped, Spent}
use Rattle.line_replay.specs.Asked.{Asked, asked_run, seed_alone, solve}
use Rattle.line_replay.specs.Endings.{final_values}
use Rattle.line_cnf.specs.Satisfying.{step_clause}

-- the run under the choices of the seed, without a record or a trace, and of which no log is written
abbrev pub cnf_asked : Contents → ℕ → Asked
cnf_asked p seed = solve None p [] (seed_alone seed)

abbrev pub cnf_run : Contents → ℕ → Run
cnf_run p seed = asked_run (cnf_asked p seed)

-- ---- the proof

-- the line of a step's clause goes last under the name
abbrev pub clause_write : List ℕ → Step → Write
clause_write name step = Append name (clause_line (step_clause step))

-- a refutation is written as a proof: the name is created, and each step's line is appended by itself
abbrev pub proof_script : List ℕ → Option (List Step) → List Write
proof_script name None = []
proof_script name (Some steps) = Create name ∷ map (clause_write name) steps

-- the steps of a run that ended so, where they are a refutation
abbrev pub refutation_at : End → List Step → Option (List Step)
refutation_at Refuted steps = Some steps
refutation_at Solved steps = None
refutation_at Capped steps = None
refutation_at Spent steps = None

-- ---- the answer

-- the literal that is true of a variable's value
abbrev pub value_literal : List ℤ → ℕ → ℤ
value_literal values x = if is_one (slice_index_or values x (pos 0)) then pos (x + 1) else negsuc x

-- the literals of all variables, in order
abbrev pub value_literals : List ℤ → List ℤ
value_literals values = map (value_literal values) (below (length values))

-- the lines of an end with these values
abbrev pub verdict_text : List ℤ → End → List ℕ
verdict_text values Solved = codes "s SATISFIABLE\nv " ++ clause_line (value_literals values)
verdict_text values Refuted = codes "s UNSATISFIABLE\n"
verdict_text values Capped = codes "s UNKNOWN\n"
verdict_text values Spent = codes "s UNKNOWN\n"

-- the line that tells how many deliveries were made
abbrev pub deliveries_text : ℕ → List ℕ
deliveries_text deliveries = codes "c deliveries " ++ decimal deliveries ++ codes "\n"

-- all that is put when the run has ended
abbrev pub cnf_text : Contents → Run → List ℕ
cnf_text p run = verdict_text (final_values None p run) run.end ++ deliveries_text run.net.deliveries

-- a refutation is written first, and the answer is put last
abbrev pub cnf_script : Contents → List ℕ → Run → List Write
cnf_script p proof run = proof_script proof (refutation_at run.end run.net.steps) ++ Put (cnf_text p run) ∷ []
