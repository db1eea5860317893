use Rattle.std.proofs.Common.{arith}
use Rattle.dcsp_row.proofs.WalkLaws.{lowest_marked, lowest_within, none_passed, on_behind}
use Rattle.dcsp_row.proofs.row.Row.pass.Goals as goal

pub overflow_add-walk : goal.overflow_add-walk
overflow_add-walk c = omega (arith, (lowest_within c.args.self.now c.args.walk.now c.requires.on c.requires.some (omega arith)).1)

pub returns-clause-within : goal.returns-clause-within
returns-clause-within c = lowest_within c.args.self.now c.args.walk.now c.requires.on c.requires.some (omega arith)

pub returns-clause-before : goal.returns-clause-before
returns-clause-before c = none_passed c.args.self.now c.args.walk.now c.requires.on c.requires.some (omega arith)

pub returns-clause-marked : goal.returns-clause-marked
returns-clause-marked c = lowest_marked c.args.self.now c.args.walk.now c.requires.on c.requires.some (omega arith)

pub returns-clause-on : goal.returns-clause-on
returns-clause-on c = on_behind c.args.self.now c.args.walk.now c.requires.on c.requires.some (omega arith)
