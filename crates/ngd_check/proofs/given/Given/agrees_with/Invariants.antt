use Rattle.std.proofs.Common.{◌≡◌, drop}
use Rattle.dcsp_defs.specs.Csp.{with_value, agrees}
use Rattle.ngd_check.proofs.given.Given.agrees_with.Given as goal

-- whether the pairs agree is whether those that are left do
abbrev pub invariant-loop-pair : goal.invariant-loop-pair
invariant-loop-pair g l = agrees (with_value l.self.var l.self.value (g.L.Lookup.values l.self.known.now)) (drop l.pair-index l.pairs) ≡ agrees (with_value l.self.var l.self.value (g.L.Lookup.values l.self.known.now)) l.pairs
