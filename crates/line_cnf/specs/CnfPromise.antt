-- What `cnf CNF PROOF [--seed N]` promises.
use Rattle.std.specs.Prelude.{ℕ, List, [], ◌∷◌}
use Rattle.dcsp_script.specs.Promises.{Promise}
use Rattle.abt_input.specs.Kinds.{a_formula}
use Rattle.abt_input.specs.Plans.{Plan, Answer, Read, promise_by}
use Rattle.line_replay.specs.Endings.{end_status}
use Rattle.line_cnf.specs.CnfRuns.{cnf_run, cnf_script}

-- the formula is read, and the run of its problem under the seed's choices is made
abbrev pub cnf_plan : List ℕ → ℕ → Plan
cnf_plan proof seed = Read a_formula (λ problem. Answer (end_status (cnf_run problem seed).end) (cnf_script problem proof (cnf_run problem seed)))

-- the line's promise
abbrev pub cnf_promise : List ℕ → List ℕ → ℕ → Promise
cnf_promise cnf proof seed = promise_by (cnf ∷ []) (proof ∷ []) (cnf_plan proof seed)
