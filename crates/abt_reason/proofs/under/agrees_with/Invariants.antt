use Rattle.std.proofs.Common.{◌≡◌, drop}
use Rattle.dcsp_defs.specs.Csp.{agrees}
use Rattle.abt_reason.proofs.under.agrees_with.Given as goal

abbrev pub invariant-loop-pair : goal.invariant-loop-pair
invariant-loop-pair g l = agrees (g.L.Lookup.values l.known) (drop l.pair-index l.pairs) ≡ agrees (g.L.Lookup.values l.known) l.pairs
