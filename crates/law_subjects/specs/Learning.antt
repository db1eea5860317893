-- How much an agent learns of another one.
use Rattle.std.specs.Prelude.{ℕ, ◌≤◌, List, length}
use Rattle.dcsp_defs.specs.Csp.{Csp, IsCsp, domain}
use Rattle.abt_defs.specs.Events.{acts}
use Rattle.abt_defs.specs.Measures.{learned}

-- The values of an agent that another one was told of in a run are no more than its domain has.
abbrev pub LearnedFew : Csp → Type 0
LearnedFew p = IsCsp p → (choices : List ℕ) (i k : ℕ) → learned (acts p choices) i k ≤ length (domain p k)
