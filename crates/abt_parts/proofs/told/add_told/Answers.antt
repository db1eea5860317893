use Rattle.std.proofs.Common.{◌≡◌, rules, w64, SFits, to_z, of_z}
use Rattle.std.proofs.lemmas.Int.{to_z-of_z}
use Rattle.abt_parts.proofs.Lists.{with_stamps-push}
use Rattle.abt_parts.proofs.told.add_told.Goals as goal

pub returns-in_ok-push-in-Some-2-clause-told : goal.returns-in_ok-push-in-Some-2-clause-told
returns-in_ok-push-in-Some-2-clause-told c =
    let fits : SFits w64 c.in-Some.told.value = search rules in
    let same : to_z w64 (of_z w64 c.in-Some.told.value) ≡ c.in-Some.told.value = simp to_z-of_z in
    rw (c.in_ok-push-in-Some.ensures, c.in_ok-push-in-Some-2.ensures, c.in-Some.is, same) (with_stamps-push _ _ _ _ c.requires.size)
