use Rattle.std.proofs.Common.{◌≡◌, ◌++◌, length}
use Rattle.std.specs.Prelude.{flat_map}
use Rattle.rup_check.specs.ProofText.{IsClause, literal_text}
use Rattle.rup_check.proofs.reader.read_clause.Given as goal

-- the text of the literals so far stands before the rest
abbrev pub invariant-loop-others : goal.invariant-loop-others
invariant-loop-others l = record {
  literals : IsClause l.clause.items;
  parts : l.text ≡ flat_map literal_text l.clause.items ++ l.rest;
}

abbrev pub decreases-loop-others : goal.decreases-loop-others
decreases-loop-others l = length l.rest
