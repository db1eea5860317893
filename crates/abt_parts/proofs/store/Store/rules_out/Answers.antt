use Rattle.std.proofs.Common.{◌∙◌, ap, rules, w64, SFits}
use Rattle.std.specs.Prelude.{is_some}
use Rattle.std.proofs.lemmas.Int.{to_z-of_z}
use Rattle.abt_parts.specs.Stores.{is_against}
use Rattle.abt_parts.proofs.PlacedLaws.{some_place}
use Rattle.abt_parts.proofs.store.Store.rules_out.Goals as goal

pub returns : goal.returns
returns c =
    let in_range : SFits w64 c.args.value = search rules in
    c.is_some.ensures ∙ ap is_some (simp to_z-of_z at c.against.ensures) ∙ some_place (is_against c.args.value) 0 c.args.self.now
