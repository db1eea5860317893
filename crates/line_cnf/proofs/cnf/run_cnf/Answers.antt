use Rattle.abt_input.proofs.Files.{read_held}
use Rattle.abt_input.proofs.Keeping.{kept, came_unread, came_read, came_answer_with, came_stopped}
use Rattle.line_cnf.specs.CnfPromise.{cnf_plan}
use Rattle.line_cnf.proofs.CnfFiles.{holds_proof}
use Rattle.line_cnf.proofs.CnfHeadlines.{holds_cnf_run}
use Rattle.line_cnf.proofs.CnfLawful.{cnf_sound}
use Rattle.line_cnf.proofs.cnf.run_cnf.Goals as goal

pub returns-in_err-problem-clause-came : goal.returns-in_err-problem-clause-came
returns-in_err-problem-clause-came g c =
    let l = c.args.line in
    kept (cnf_plan l.proof.now l.seed) (cnf_sound l.cnf.now l.proof.now l.seed) (came_unread _ c.from_residual.ensures c.in_err-problem.ensures.read)

pub run_formula-requires : goal.run_formula-requires
run_formula-requires g c = let read = c.in_ok-problem.ensures.read.read in (read.0, read.2)

pub returns-in_err-status-clause-came : goal.returns-in_err-status-clause-came
returns-in_err-status-clause-came g c =
    let l = c.args.line in
    kept (cnf_plan l.proof.now l.seed) (cnf_sound l.cnf.now l.proof.now l.seed)
    (came_read c.in_ok-problem.ensures.read (came_stopped _ c.from_residual-in_err-status.ensures c.in_err-status.ensures.wrote))

pub returns-clause-came : goal.returns-clause-came
returns-clause-came g c =
    let l = c.args.line in
    kept (cnf_plan l.proof.now l.seed) (cnf_sound l.cnf.now l.proof.now l.seed)
    (came_read c.in_ok-problem.ensures.read (came_answer_with _ c.in_ok-status.ensures.status c.in_ok-status.ensures.wrote))

pub returns-clause-means : goal.returns-clause-means
returns-clause-means g c = holds_cnf_run _ _ _ _ _ (read_held c.in_ok-problem.ensures.read) c.denotes_csp.ensures.csp c.denotes_csp.ensures.problem c.in_ok-status.ensures.status

pub returns-clause-writes : goal.returns-clause-writes
returns-clause-writes g c = let e = c.in_ok-problem.ensures.read in holds_proof _ _ _ _ _ c.in_ok-status.ensures.status _ _ _ _ e.held (read_held e) c.in_ok-status.ensures.wrote
