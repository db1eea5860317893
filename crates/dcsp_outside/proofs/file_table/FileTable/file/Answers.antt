use Rattle.std.proofs.Common.{rules}
use Rattle.dcsp_outside.proofs.Tables.{get-files_of}
use Rattle.dcsp_outside.proofs.file_table.FileTable.file.Goals as goal

pub returns-in-Some : goal.returns-in-Some
returns-in-Some c = rw (← c.self.view_is) (rw (get-files_of, ← c.in-Some.ensures.value, c.as_slice.ensures.value) (search rules))

pub returns-in-None : goal.returns-in-None
returns-in-None c = rw (← c.self.view_is) (rw (get-files_of, ← c.in-None.ensures.value) (search rules))
