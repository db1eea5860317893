use Rattle.std.proofs.Common.{◌≡◌, ◌++◌, ◌<◌, ◌^◌, length}
use Rattle.std.specs.List.{AllByRecursion}
use Rattle.rup_check.specs.ProofText.{IsClause, proof_text}
use Rattle.rup_check.proofs.reader.proof_of.Given as goal

-- the lines of the clauses so far stand before the rest
abbrev pub invariant-loop-rest : goal.invariant-loop-rest
invariant-loop-rest l = record {
  clauses : AllByRecursion IsClause l.proof;
  count : length l.proof < 2 ^ 32;
  parts : l.text ≡ proof_text l.proof ++ l.rest;
}

abbrev pub decreases-loop-rest : goal.decreases-loop-rest
decreases-loop-rest l = length l.rest
