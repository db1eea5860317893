use Rattle.std.proofs.Common.{arith}
use Rattle.std.specs.Prelude.{All}
use Rattle.line_cnf.specs.CnfOutcomes.{IsBinaryStep}
use Rattle.abt_network.specs.Standing.{steps_of}
use Rattle.line_cnf.proofs.clause_run.clauses_of.Goals as goal

pub push_clause-requires : goal.push_clause-requires
push_clause-requires c = let all : All IsBinaryStep (steps_of c.args.begun) = c.requires in (rw c.in-Refuted.is at all) 0 c.in-Refuted.step (omega arith)
