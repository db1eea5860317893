use Rattle.std.proofs.Common.{◌≡◌, false}
use Rattle.dcsp_meaning.specs.Words.{equal_as}
use Rattle.dcsp_meaning.specs.Rows.{is_among_rows}
use Rattle.dcsp_meaning.proofs.tables.has_row.Given as goal

abbrev pub invariant-loop-row : goal.invariant-loop-row
invariant-loop-row g l = is_among_rows (equal_as l.boolean) (g.G.Ground.first_values l.ground) (g.G.Ground.second_values l.ground) l.row ≡ false
