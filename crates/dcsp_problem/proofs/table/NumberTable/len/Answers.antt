use Rattle.std.proofs.Common.{◌+◌, ◌-◌, ℕ, arith, ap, length, get_or}
use Rattle.dcsp_problem.specs.Pieces.{piece}
use Rattle.dcsp_problem.proofs.OwnerLists.{length-map_below}
use Rattle.dcsp_problem.proofs.table.NumberTable.len.Goals as goal

pub returns : goal.returns
returns c =
    let places = c.self.inside.places.items in
    let size = length-map_below (λ (j : ℕ). piece c.self.inside.numbers.items (get_or places j 0) (get_or places (j + 1) 0)) (length places - 1) in
    let same = ap length c.self.view_is in
    omega arith
