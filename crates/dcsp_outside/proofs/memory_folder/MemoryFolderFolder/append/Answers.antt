use Rattle.dcsp_outside.proofs.Changes.{changes_part}
use Rattle.dcsp_outside.proofs.memory_folder.MemoryFolderFolder.append.Goals as goal

-- what a failing append keeps is a part of its piece
pub returns-clause-part : goal.returns-clause-part
returns-clause-part c _ =
    let went = rw (← c.self-2.view_is, c.first_of.ensures) at c.in_ok-add_part.ensures.ok in
    rw (← c.self.view_is) (changes_part _ c.in-Some.kept c.args.bytes.now _ _ went)
