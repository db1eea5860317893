use Rattle.std.proofs.Common.{◌≡◌, ◌<◌, ℕ, List, length, get_or, sym, subst, arith}
use Rattle.dcsp_order.proofs.Places.{item_in}
use Rattle.dcsp_order.proofs.order.Order.domains_under.Goals as goal

pub domain-requires : goal.domain-requires
domain-requires c =
    let numbers : List ℕ = c.numbers-numbers.result.now in
    let same : numbers ≡ c.args.self.now = c.numbers-numbers.ensures.numbers in
    let good = c.numbers-numbers.ensures.order in
    let place = c.loop-place.place in
    let within : place < length numbers = c.loop-place-test.true in
    let low = good.inside (get_or c.args.self.now place 0) (item_in c.args.self.now place 0 (subst (λ (z : List ℕ). place < length z) same within)) in
    subst (λ (z : List ℕ). get_or z place 0 < length c.args.problem.now.domains) (sym same) (omega (arith, low, c.requires))
