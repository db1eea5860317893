use Rattle.dcsp_common.specs.declared.entries.Entry.{Entry}
use Rattle.dcsp_common.proofs.EntryNumbers.{item_changed, item_inserted, rising_changed, rising_more}
use Rattle.dcsp_common.proofs.entries.put.Goals as goal

pub returns-in-Ok-clause-item : goal.returns-in-Ok-clause-item
returns-in-Ok-clause-item g c =
    let found = rw c.deref.ensures.value at c.in-Ok.ensures.found in
    item_changed c.args.entries.now.items c.args.number c.in-Ok.place c.index_mut.result.now c.args.item c.requires found c.index_mut.ensures.value

pub returns-in-Ok-clause-rising : goal.returns-in-Ok-clause-rising
returns-in-Ok-clause-rising g c =
    let found = rw c.deref.ensures.value at c.in-Ok.ensures.found in
    rising_changed c.args.entries.now.items c.args.number c.in-Ok.place c.index_mut.result.now c.args.item c.requires found c.index_mut.ensures.value

pub returns-in_ok-insert-in-Err-clause-item : goal.returns-in_ok-insert-in-Err-clause-item
returns-in_ok-insert-in-Err-clause-item g c =
    let e : Entry g.row.T.Denot = record { number = c.args.number; item = c.args.item } in
    let fits = rw c.deref.ensures.value at c.in-Err.ensures.absent in
    rw c.in_ok-insert-in-Err.ensures.items (item_inserted c.args.entries.now.items c.in-Err.place e fits)

pub returns-in_ok-insert-in-Err-clause-rising : goal.returns-in_ok-insert-in-Err-clause-rising
returns-in_ok-insert-in-Err-clause-rising g c =
    let e : Entry g.row.T.Denot = record { number = c.args.number; item = c.args.item } in
    let fits = rw c.deref.ensures.value at c.in-Err.ensures.absent in
    rw c.in_ok-insert-in-Err.ensures.items (rising_more c.args.entries.now.items c.in-Err.place e fits c.requires)
