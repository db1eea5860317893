use Rattle.std.proofs.Common.{List, take, ◌+◌, arith, subst, sym}
use Rattle.std.proofs.lemmas.List.Elements.{All-more}
use Rattle.dcsp_defs.specs.Pairs.{no_pair}
use Rattle.dcsp_defs.specs.Derivation.{IsKnownPair}
use Rattle.dcsp_rule.specs.Problems.{csp_of}
use Rattle.ngd_store.specs.declared.arena.Placed.{Placed}
use Rattle.ngd_check.specs.Places.{ArePlaced}
use Rattle.ngd_check.proofs.Placing.{placed_known, placed_more}
use Rattle.ngd_check.proofs.places.place_each.Goals as goal

pub loop-pair-preserved : goal.loop-pair-preserved
loop-pair-preserved c =
    let p = csp_of c.args.problem.now in
    let i = c.loop-pair.pair-index in
    record {
      known = All-more (IsKnownPair p) c.args.pairs.now i no_pair (omega arith) c.loop-pair.invariant.known (placed_known p _ c.in-Some.found c.in-Some.ensures.found);
      placed = subst (λ (ps : List Placed). ArePlaced p (take (i + 1) c.args.pairs.now) ps) (sym c.in_ok-add.ensures) (placed_more p c.args.pairs.now i c.loop-pair.placed.items c.in-Some.found (omega arith) c.loop-pair.invariant.placed c.in-Some.ensures.found);
    }
