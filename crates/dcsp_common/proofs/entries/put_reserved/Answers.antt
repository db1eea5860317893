use Rattle.std.proofs.Common.{vec_capacity}
use Rattle.dcsp_common.specs.declared.entries.Entry.{Entry}
use Rattle.dcsp_common.proofs.EntryNumbers.{below_changed, below_more, item_changed, item_inserted, more_room, rising_changed, rising_more}
use Rattle.dcsp_common.proofs.entries.put_reserved.Goals as goal

pub insert_reserved-requires-clause-room : goal.insert_reserved-requires-clause-room
insert_reserved-requires-clause-room g c =
    let e : Entry g.row.T.Denot = record { number = c.args.number; item = c.args.item } in
    let fits = rw c.deref.ensures.value at c.in-Err.ensures.absent in
    more_room c.args.entries.now.items c.in-Err.place e fits (vec_capacity c.args.entries.now) c.requires.rising c.requires.room

pub returns-in-Ok-clause-item : goal.returns-in-Ok-clause-item
returns-in-Ok-clause-item g c =
    let found = rw c.deref.ensures.value at c.in-Ok.ensures.found in
    item_changed c.args.entries.now.items c.args.number c.in-Ok.place c.index_mut.result.now c.args.item c.requires.rising found c.index_mut.ensures.value

pub returns-in-Ok-clause-rising : goal.returns-in-Ok-clause-rising
returns-in-Ok-clause-rising g c =
    let found = rw c.deref.ensures.value at c.in-Ok.ensures.found in
    rising_changed c.args.entries.now.items c.args.number c.in-Ok.place c.index_mut.result.now c.args.item c.requires.rising found c.index_mut.ensures.value

pub returns-in-Ok-clause-below : goal.returns-in-Ok-clause-below
returns-in-Ok-clause-below g c bound less below =
    let found = rw c.deref.ensures.value at c.in-Ok.ensures.found in
    below_changed c.args.entries.now.items c.args.number c.in-Ok.place c.index_mut.result.now c.args.item c.requires.rising found c.index_mut.ensures.value bound below

pub returns-in-Err-clause-item : goal.returns-in-Err-clause-item
returns-in-Err-clause-item g c =
    let e : Entry g.row.T.Denot = record { number = c.args.number; item = c.args.item } in
    let fits = rw c.deref.ensures.value at c.in-Err.ensures.absent in
    rw c.insert_reserved.ensures.items (item_inserted c.args.entries.now.items c.in-Err.place e fits)

pub returns-in-Err-clause-rising : goal.returns-in-Err-clause-rising
returns-in-Err-clause-rising g c =
    let e : Entry g.row.T.Denot = record { number = c.args.number; item = c.args.item } in
    let fits = rw c.deref.ensures.value at c.in-Err.ensures.absent in
    rw c.insert_reserved.ensures.items (rising_more c.args.entries.now.items c.in-Err.place e fits c.requires.rising)

pub returns-in-Err-clause-below : goal.returns-in-Err-clause-below
returns-in-Err-clause-below g c bound less below =
    let e : Entry g.row.T.Denot = record { number = c.args.number; item = c.args.item } in
    let fits = rw c.deref.ensures.value at c.in-Err.ensures.absent in
    rw c.insert_reserved.ensures.items (below_more c.args.entries.now.items c.in-Err.place e fits bound less below)
