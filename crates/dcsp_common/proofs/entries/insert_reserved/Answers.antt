use Rattle.std.proofs.Common.{rules}
use Rattle.dcsp_common.proofs.EntryNumbers.{inserted}
use Rattle.dcsp_common.proofs.entries.insert_reserved.Goals as goal

pub returns-clause-items : goal.returns-clause-items
returns-clause-items g c =
    inserted c.args.entries.now.items c.copy_within.new.self.items c.args.place c.args.entry c.requires.place (search rules) (search rules) (search rules)
