use Rattle.std.proofs.Common.{refl, arith, rules}
use Rattle.fzn_token.proofs.LongestNames.{constraint_longest}
use Rattle.fzn_token.proofs.name.constraint_token.Goals as goal

pub returns-in-Some-Constraint-clause-reads : goal.returns-in-Some-Constraint-clause-reads
returns-in-Some-Constraint-clause-reads c = (omega arith, (refl, record { longest = constraint_longest c.args.text.now c.args.at (omega arith) (search rules) (search rules); in_range = tt }))
