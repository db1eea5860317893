-- A formula's run on its way, and the clauses that it keeps.
use Rattle.std.specs.Prelude.{◌≡◌, ℕ, true, false, Option}
use Rattle.dcsp_rule.specs.Problems.{Contents, csp_of}
use Rattle.abt_defs.specs.Network.{Network}
use Rattle.abt_defs.specs.Runs.{Run, whole}
use Rattle.abt_network.specs.Standing.{StandsAt}
use Rattle.abt_session.specs.Answers.{first_answers}
use Rattle.abt_session.specs.Ends.{BareEnd, end_of}
use Rattle.line_cnf.specs.ClauseRows.{steps_row}
use Rattle.line_cnf.specs.declared.clause_run.ClauseRun.{ClauseRun}

-- the run of the problem's agents by these answers, with at most so many deliveries
abbrev pub answered_run : Contents → ℕ → (ℕ → Option ℕ) → Run
answered_run p most answers = whole (csp_of p) most (first_answers most answers)

-- the run of the problem's agents has come to this network, and the clauses of its steps were kept
pub record IsRunAt (p : Contents) (net : Network) (run : ClauseRun) : Type 0 where
  pub problem : run.network.problem ≡ p
  pub stands : StandsAt run.network net
  pub sound : run.network.spent ≡ false
  pub begun : run.network.begun ≡ true
  pub clauses : run.clauses ≡ steps_row net.steps

-- it has come to the end of this whole run, which is told
pub record StopsAs (p : Contents) (whole_run : Run) (run : ClauseRun) (told : BareEnd) : Type 0 where
  pub end : whole_run.end ≡ end_of told
  pub at_end : IsRunAt p whole_run.net run
