use Rattle.std.proofs.Common.{sym, ◌/◌, length, rules}
use Rattle.dcsp_meaning.specs.Words.{equal_as}
use Rattle.dcsp_meaning.proofs.TableLaws.{found_among}
use Rattle.dcsp_meaning.proofs.tables.has_row.Goals as goal

pub returns-then-stands_at : goal.returns-then-stands_at
returns-then-stands_at g c =
    let row = g.G.Ground.first_values c.args.ground.now in
    let table = g.G.Ground.second_values c.args.ground.now in
    sym (found_among (equal_as c.args.boolean) row table c.loop-row.row (length table / length row) (search rules) (search rules))
