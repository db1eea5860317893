use Rattle.std.proofs.Common.{◌≡◌, w64, SFits, sym, ◌∙◌, get_or, rules}
use Rattle.std.proofs.lemmas.Int.{to_z-of_z}
use Rattle.std.proofs.lemmas.List.{get_or_default}
use Rattle.dcsp_defs.specs.Pairs.{no_pair}
use Rattle.dcsp_defs.specs.Places.{IsPlaceOf}
use Rattle.dcsp_defs.proofs.Searched.{value_at-place}
use Rattle.dcsp_defs.proofs.nogood.Nogood.value_of.Goals as goal

pub returns : goal.returns
returns c =
    let pairs = c.self.inside.pairs.items in
    let place = c.in_ok-place.place in
    let at : IsPlaceOf pairs c.args.var place = rw (← c.deref.ensures.value) c.in_ok-place.ensures.found in
    let item : c.index.result.now ≡ get_or pairs place no_pair = c.index.ensures ∙ get_or_default pairs place c.index.result.now no_pair at.within in
    let fits : SFits w64 c.index.result.now.value = search rules in
    let found = value_at-place pairs c.args.var place c.self.invariant at in
    rw to_z-of_z (rw (← c.self.view_is) (rw item (sym found)))
