use Rattle.std.proofs.Common.{◌≡◌, subst, Some, length, rules}
use Rattle.abt_reason.specs.Firsts.{IsFirst}
use Rattle.abt_reason.proofs.FirstLaws.{none_until}
use Rattle.abt_reason.proofs.grid.first_without.Goals as goal

pub returns-then-eq : goal.returns-then-eq
returns-then-eq c = λ p q loses after zero first.
    let place = c.args.cell.place in
    let count = length c.args.rows.now in
    let at : c.args.first ≡ Some place = search rules in
    let was = subst (IsFirst p count) at first in
    c.next_marking.ensures q (none_until p q count place was loses.0 loses.1) after zero
