use Rattle.std.proofs.Common.{◌∙◌, None}
use Rattle.line_replay.proofs.Outcomes.{status_is}
use Rattle.line_cnf.specs.CnfRuns.{cnf_run}
use Rattle.abt_session.proofs.Pieces.{memory_told}
use Rattle.line_cnf.proofs.CnfOutcomes.{proof_stopped, answer_stopped, answer_put}
use Rattle.line_cnf.proofs.cnf.run_formula.Goals as goal

pub returns-in_err-made-clause-wrote : goal.returns-in_err-made-clause-wrote
returns-in_err-made-clause-wrote g c = memory_told _ _ _ c.from_residual.ensures

pub returns-in_err-write_proof-clause-wrote : goal.returns-in_err-write_proof-clause-wrote
returns-in_err-write_proof-clause-wrote g c = proof_stopped c.args.problem.now c.args.line.proof.now (cnf_run c.args.problem.now c.args.line.seed) c.in_ok-made.made c.in_ok-made.ensures _ c.from_residual-in_err-write_proof.ensures (c.in_err-write_proof.ensures _ _ c.in_ok-made.ensures.refutation)

pub returns-in_err-tell-clause-wrote : goal.returns-in_err-tell-clause-wrote
returns-in_err-tell-clause-wrote g c = answer_stopped c.args.problem.now c.args.line.proof.now (cnf_run c.args.problem.now c.args.line.seed) c.in_ok-made.made c.in_ok-made.ensures _ c.from_residual-in_err-tell.ensures (c.in_ok-write_proof.ensures _ _ c.in_ok-made.ensures.refutation) (c.in_err-tell.ensures _)

pub returns-clause-wrote : goal.returns-clause-wrote
returns-clause-wrote g c = answer_put c.args.problem.now c.args.line.proof.now (cnf_run c.args.problem.now c.args.line.seed) c.in_ok-made.made c.in_ok-made.ensures _ (c.in_ok-write_proof.ensures _ _ c.in_ok-made.ensures.refutation) (c.in_ok-tell.ensures _)

pub returns-clause-status : goal.returns-clause-status
returns-clause-status g c = c.status_of.ensures ∙ status_is None c.args.problem.now (cnf_run c.args.problem.now c.args.line.seed) c.in_ok-made.made.outcome.end c.in_ok-made.ensures.outcome.end
