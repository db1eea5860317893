use Rattle.std.proofs.Common.{take}
use Rattle.std.specs.Prelude.{All}
use Rattle.dcsp_defs.specs.Derivation.{IsKnownPair}
use Rattle.dcsp_rule.specs.Problems.{csp_of}
use Rattle.ngd_check.specs.Places.{ArePlaced}
use Rattle.ngd_check.proofs.places.place_each.Given as goal

-- the pairs so far are known, and have these places
abbrev pub invariant-loop-pair : goal.invariant-loop-pair
invariant-loop-pair l = record {
  known : All (IsKnownPair (csp_of l.problem)) (take l.pair-index l.pairs);
  placed : ArePlaced (csp_of l.problem) (take l.pair-index l.pairs) l.placed.items;
}
