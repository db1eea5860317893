use Rattle.std.proofs.Common.{to_z-of_z, w64, SFits, sym, ◌∙◌}
use Rattle.dcsp_domain.proofs.Searches.{search_finds, found_there}
use Rattle.dcsp_domain.proofs.place_in.Goals as goal

pub returns-then-is_some-clause-has : goal.returns-then-is_some-clause-has
returns-then-is_some-clause-has c =
    let fits : SFits w64 c.args.value = c.ranges.value in
    let found = simp to_z-of_z at c.place_without_gaps-place.ensures in
    found_there c.args.values.now c.args.value c.place_without_gaps-place.result (sym c.is_some.ensures ∙ c.if-is_some.true) found

pub returns-clause-has : goal.returns-clause-has
returns-clause-has c =
    let fits : SFits w64 c.args.value = c.ranges.value in
    let found = simp to_z-of_z at c.binary_search.ensures.position in
    rw c.ok.ensures.value (search_finds c.args.values.now c.args.value c.binary_search.result c.requires c.binary_search.ensures.bound found)
