use Rattle.std.proofs.Common.{◌≡◌, None, rules}
use Rattle.std.specs.FinMap.{get}
use Rattle.std.proofs.lemmas.Result.{on_ok_weaker, err_from_is_err_and}
use Rattle.dcsp_outside.specs.Memory.{files_of}
use Rattle.dcsp_outside.proofs.Tables.{files_of-appends, files_of-same, held-files_of, appends_new}
use Rattle.dcsp_outside.proofs.file_table.FileTable.append.Goals as goal

-- the name is not held, so what is written there goes last
pub returns-in_default-clause-ok : goal.returns-in_default-clause-ok
returns-in_default-clause-ok c =
    let none : get (files_of c.self.inside.files) c.args.name.now ≡ None = held-files_of _ c.self.inside.files _ c.in_default.ensures.value in
    let written = rw c.get_mut.follows.holds-at-none at c.write.ensures.ok in
    rw (← c.self.view_is) (on_ok_weaker c.write.result (appends_new _ _ (files_of c.self.inside.files) _ none) written)

pub returns-clause-ok : goal.returns-clause-ok
returns-clause-ok c =
    rw (← c.self.view_is)
    (files_of-appends _ _ c.self.inside.files (c.get_mut.follows.lender c.extend_from_slice.new.self) c.in-Some.file.now c.extend_from_slice.new.self c.in-Some.ensures.value ((c.get_mut.follows.holds c.extend_from_slice.new.self).3 (search rules)) c.in_ok-extend_from_slice.ensures.items)

-- what `get_mut` lent comes back with the same bytes
pub returns-in_err-extend_from_slice-clause-err : goal.returns-in_err-extend_from_slice-clause-err
returns-in_err-extend_from_slice-clause-err c =
    let p = err_from_is_err_and c.from_residual.result c.from_residual.ensures.1 in
    rw (← c.self.view_is, p.1)
    (files_of-same _ c.self.inside.files (c.get_mut.follows.lender c.extend_from_slice.new.self) c.in-Some.file.now c.extend_from_slice.new.self c.in-Some.ensures.value ((c.get_mut.follows.holds c.extend_from_slice.new.self).3 (search rules)) c.in_err-extend_from_slice.ensures.items)
