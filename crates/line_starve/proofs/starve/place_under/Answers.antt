use Rattle.std.proofs.Common.{◌≤◌, ◌∙◌, length, ap, arith}
use Rattle.line_starve.proofs.Agents.{place_behind}
use Rattle.line_starve.proofs.starve.place_under.Goals as goal

pub returns-else-number-variables : goal.returns-else-number-variables
returns-else-number-variables c =
    let same = ap length c.numbers.ensures.numbers in
    let past : length c.args.order.now ≤ c.args.number = omega (arith, same, c.if-number-variables.false) in
    same ∙ place_behind c.args.order.now c.args.number c.numbers.ensures.order past
