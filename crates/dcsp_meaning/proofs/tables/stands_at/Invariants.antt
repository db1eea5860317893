use Rattle.std.proofs.Common.{◌≡◌, ◌+◌, drop}
use Rattle.dcsp_meaning.specs.Words.{equal_as}
use Rattle.dcsp_meaning.specs.Rows.{stands_at}
use Rattle.dcsp_meaning.proofs.tables.stands_at.Given as goal

abbrev pub invariant-loop-place : goal.invariant-loop-place
invariant-loop-place g l = let row = g.G.Ground.first_values l.ground in let table = g.G.Ground.second_values l.ground in
    stands_at (equal_as l.boolean) (drop l.place row) table (l.entry + l.place) ≡ stands_at (equal_as l.boolean) row table l.entry
