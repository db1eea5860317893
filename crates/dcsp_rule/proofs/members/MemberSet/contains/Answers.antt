use Rattle.std.proofs.Common.{to_z-of_z, w64, SFits}
use Rattle.dcsp_domain.proofs.Searches.{search_finds}
use Rattle.dcsp_rule.proofs.MemberLaws.{ok_is_some}
use Rattle.dcsp_rule.proofs.members.MemberSet.contains.Goals as goal

pub returns : goal.returns
returns c =
    let fits : SFits w64 c.args.value = c.ranges.value in
    let found = simp to_z-of_z at c.binary_search.ensures.position in
    rw (c.is_ok.ensures.value, ok_is_some c.binary_search.result, ← c.self.view_is, ← c.deref.ensures.value)
    (search_finds c.deref.result.now c.args.value c.binary_search.result (rw c.deref.ensures.value c.self.invariant) c.binary_search.ensures.bound found)
