use Rattle.std.proofs.Common.{rules}
use Rattle.std.proofs.lemmas.List.Sorted.{answers_always}
use Rattle.dcsp_defs.specs.declared.nogood.Pair.{Pair}
use Rattle.dcsp_defs.proofs.Searched.{searched}
use Rattle.dcsp_defs.proofs.nogood.place_of.Goals as goal

pub returns : goal.returns
returns c =
    let facts = c.binary_search_by_key.ensures in
    let by_key = facts.position (λ (pair : Pair). pair.var) (answers_always _ _ _ (λ f a r g called. search rules)) in
    let said = searched _ c.requires c.args.var _ facts.bound by_key in
    rw c.ok.ensures.value (record { found = said.found; absent = said.absent })
