use Rattle.rup_check.proofs.ProofLaws.{accepted, refused}
use Rattle.rup_check.proofs.reader.read_proof.Goals as goal

pub returns-clause-accepts : goal.returns-clause-accepts
returns-clause-accepts c = accepted c.args.text.now c.proof_of.result c.proof_of.ensures.proof c.proof_of.ensures.cause

pub returns-clause-refuses : goal.returns-clause-refuses
returns-clause-refuses c = refused c.args.text.now c.proof_of.result c.proof_of.ensures.proof c.proof_of.ensures.cause
