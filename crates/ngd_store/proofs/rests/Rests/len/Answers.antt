use Rattle.std.proofs.Common.{ap, length, arith}
use Rattle.ngd_store.specs.Rests.{rest_at}
use Rattle.ngd_store.proofs.Below.{below_length}
use Rattle.ngd_store.proofs.rests.Rests.len.Goals as goal

pub returns-clause-len : goal.returns-clause-len
returns-clause-len c =
    let steps = below_length (rest_at c.self.inside.words.items c.self.inside.ends.items) (length c.self.inside.ends.items) in
    let shown = ap length c.self.view_is in
    omega (arith, c.len.ensures, steps, shown)
