use Rattle.std.proofs.Common.{[], ◌∷◌, ℤ, get_or, rules, sym, subst, w64, SFits}
use Rattle.std.proofs.lemmas.Int.{to_z-of_z}
use Rattle.abt_defs.specs.Agents.{Tell}
use Rattle.abt_defs.specs.Steps as steps
use Rattle.abt_parts.specs.Views.{stamped_of}
use Rattle.abt_parts.specs.Outgoing.{Posts}
use Rattle.abt_parts.proofs.Lists.{each_next}
use Rattle.abt_parts.proofs.Posting.{posts_then}
use Rattle.std.specs.Prelude.{take}
use Rattle.abt_parts.proofs.sending.tell_all.Goals as goal

pub loop-to-preserved : goal.loop-to-preserved
loop-to-preserved c =
    let ts = c.args.tells.now in
    let k = c.loop-to.to-index in
    let told = Tell (stamped_of c.args.told) in
    let fits : SFits w64 c.args.told.value = search rules in
    let sent = subst (λ (z : ℤ). Posts c.loop-to.out c.post.new.out ((get_or ts k 0, Tell (record { value = z; stamp = c.args.told.stamp })) ∷ [])) (to_z-of_z w64 c.args.told.value fits) c.in_ok-post.ensures in
    subst (Posts c.args.out.now c.post.new.out) (sym (each_next told ts k 0 c.loop-to-test.true))
    (posts_then c.args.out.now c.loop-to.out c.post.new.out (steps.to_each told (take k ts)) ((get_or ts k 0, told) ∷ []) c.loop-to.invariant sent)
