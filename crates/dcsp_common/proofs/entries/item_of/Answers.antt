use Rattle.std.proofs.Common.{sym}
use Rattle.dcsp_common.proofs.EntryNumbers.{item_there, not_there}
use Rattle.dcsp_common.proofs.entries.item_of.Goals as goal

pub returns-in-Ok : goal.returns-in-Ok
returns-in-Ok g c =
    let found = c.in-Ok.ensures.found in
    sym (item_there c.args.entries.now c.args.number c.in-Ok.place c.index-entries-place.result c.requires found.0 found.1)

pub returns-in-Err : goal.returns-in-Err
returns-in-Err g c = sym (not_there c.args.entries.now c.args.number c.in-Err.field-0 c.in-Err.ensures.absent)
