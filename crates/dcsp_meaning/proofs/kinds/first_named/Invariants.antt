use Rattle.std.proofs.Common.{◌≡◌, drop}
use Rattle.dcsp_meaning.specs.Names.{kind_among}
use Rattle.dcsp_meaning.specs.declared.kinds.TheConstants.{KINDS}
use Rattle.dcsp_meaning.proofs.kinds.first_named.Given as goal

abbrev pub invariant-loop-kind : goal.invariant-loop-kind
invariant-loop-kind l = kind_among l.name (drop l.kind-index KINDS) ≡ kind_among l.name KINDS
