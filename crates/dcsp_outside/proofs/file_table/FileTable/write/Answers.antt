use Rattle.std.proofs.Common.{refl}
use Rattle.dcsp_outside.proofs.Tables.{files_of-changes}
use Rattle.dcsp_outside.proofs.file_table.FileTable.write.Goals as goal

pub returns-clause-ok : goal.returns-clause-ok
returns-clause-ok c =
    rw (← c.self.view_is, ← c.in_ok-key.ensures.ok, ← c.in_ok-copy.ensures.items)
    (files_of-changes _ c.self.inside.files c.insert.new.self c.in_ok-copy.copy _ c.in_ok-insert.ensures.updates refl)
