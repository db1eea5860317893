use Rattle.std.proofs.Common.{rules}
use Rattle.std.proofs.lemmas.List.Sorted.{answers_always}
use Rattle.dcsp_common.specs.declared.entries.Entry.{Entry}
use Rattle.dcsp_common.proofs.EntryNumbers.{found, belongs}
use Rattle.dcsp_common.proofs.entries.place_of.Goals as goal

pub returns-clause-found : goal.returns-clause-found
returns-clause-found g c =
    let facts = c.binary_search_by_key.ensures in
    found c.args.entries.now c.args.number _ c.requires facts.bound (facts.position (λ (x : Entry g.row.T.Denot). x.number) (answers_always _ _ _ (λ f a r g called. search rules)))

pub returns-clause-absent : goal.returns-clause-absent
returns-clause-absent g c =
    let facts = c.binary_search_by_key.ensures in
    belongs c.args.entries.now c.args.number _ c.requires facts.bound (facts.position (λ (x : Entry g.row.T.Denot). x.number) (answers_always _ _ _ (λ f a r g called. search rules)))
