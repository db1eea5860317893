use Rattle.std.proofs.Common.{◌∙◌, ◌++◌, ap, rules, w64, SFits}
use Rattle.std.specs.Fmt.{signed_decimal}
use Rattle.std.proofs.lemmas.Int.{to_z-of_z}
use Rattle.abt_story.proofs.Growing.{bytes_last, one_fact, piece_more}
use Rattle.abt_story.proofs.texts.push_knows.Goals as goal

pub returns : goal.returns
returns c =
    let old = c.args.into.now.items in
    let fits : SFits w64 c.args.value = search rules in
    let word = piece_more old _ _ _ _ c.in_ok-push_who.ensures c.in_ok-extend_from_slice.ensures.items in
    let agent = piece_more old _ _ _ _ word c.in_ok-push_agent.ensures in
    let sign = piece_more old _ _ _ _ agent c.in_ok-extend_from_slice-2.ensures.items in
    let value = piece_more old _ _ _ _ sign (c.in_ok-push_signed.ensures ∙ ap (λ v. c.extend_from_slice-2.new.self.items ++ signed_decimal v) (to_z-of_z w64 c.args.value fits)) in
    one_fact c.extend_from_slice-3.result old _ _ (bytes_last c.extend_from_slice-3.result old _ _ _ _ value c.extend_from_slice-3.ensures.items)
