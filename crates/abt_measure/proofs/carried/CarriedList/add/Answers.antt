use Rattle.std.proofs.Common.{◌∙◌, ap, rules}
use Rattle.abt_measure.specs.Carrying.{clocks_from}
use Rattle.abt_measure.proofs.CarryLaws.{clocks_added}
use Rattle.abt_measure.proofs.carried.CarriedList.add.Goals as goal

pub returns-clause-ok : goal.returns-clause-ok
returns-clause-ok c = λ a. ap (clocks_from a) (search rules) ∙ clocks_added a c.args.from c.args.clock c.args.self.now
