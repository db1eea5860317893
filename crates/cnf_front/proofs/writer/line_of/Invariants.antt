use Rattle.std.proofs.Common.{◌≡◌, take}
use Rattle.std.specs.Prelude.{flat_map}
use Rattle.rup_check.specs.ProofText.{literal_text}
use Rattle.cnf_front.specs.Clauses.{clause_of}
use Rattle.cnf_front.proofs.writer.line_of.Given as goal

abbrev pub invariant-loop-pair : goal.invariant-loop-pair
invariant-loop-pair l = l.line.items ≡ flat_map literal_text (clause_of (take l.pair-index l.pairs))
