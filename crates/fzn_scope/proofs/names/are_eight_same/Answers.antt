use Rattle.std.proofs.Common.{arith, rules}
use Rattle.std.proofs.lemmas.Int.{ints}
use Rattle.fzn_scope.proofs.SameNames.{numbers_same}
use Rattle.fzn_scope.proofs.names.are_eight_same.Goals as goal

pub returns : goal.returns
returns c same = numbers_same c.args.known.now c.args.name.now c.args.at (λ i. let fits = c.type_inv.known i in omega (arith, ints, fits)) (λ i. let fits = c.type_inv.name i in omega (arith, ints, fits)) c.requires.known c.requires.name (search rules)
