use Rattle.std.proofs.Common.{◌≡◌, ◌+◌, ◌<◌, ◌++◌, ◌∷◌, [], length, refl, sym, ap, ◌∙◌, arith}
use Rattle.dcsp_defs.specs.declared.Step.{Step}
use Rattle.dcsp_defs.specs.declared.entry.Entry.TheVariants.{Step as A_step}
use Rattle.ngd_rewrite.specs.Upgrade.{ending, upgraded, deleted_count}
use Rattle.ngd_rewrite.proofs.Tables.{item_of_front, entries_more, deleted_more, few_more, few_most}
use Rattle.ngd_rewrite.proofs.append.append_all.Goals as goal

pub overflow_add-deleted : goal.overflow_add-deleted
overflow_add-deleted c =
    let l = c.loop-place in
    let steps = c.args.steps.now in
    let within : l.place < length steps = omega (arith, c.in-Some.ensures.cases.1, c.loop-place-test.true) in
    let few = few_more steps (l.place + 1) l.deleted (ending steps (l.place + 1)) l.invariant.few refl in
    let most = few_most steps (l.place + 1 + 1) in
    let told : c.in_ok-deleted.field-0 ≡ length (ending steps (l.place + 1)) = c.in_ok-deleted.ensures.deleted (ending steps (l.place + 1)) (c.requires.each l.place within) in
    omega (arith, few, most, told)

pub loop-place-preserved : goal.loop-place-preserved
loop-place-preserved c =
    let l = c.loop-place in
    let steps = c.args.steps.now in
    let step = c.index-front-place.result in
    let group = ending steps (l.place + 1) in
    let next : l.place + 1 < length steps = omega (arith, c.in-Some.ensures.cases.1, c.loop-place-test.true) in
    let within : l.place < length steps = omega (arith, next) in
    let is = c.index-front-place.is ∙ sym (item_of_front steps c.in-Some.front.now c.in-Some.last.now l.place step c.in-Some.ensures.cases.0 c.loop-place-test.true) in
    let chain = c.requires.each l.place within in
    let told : c.in_ok-deleted.field-0 ≡ length group = c.in_ok-deleted.ensures.deleted group chain in
    let one : c.push.new.into ≡ l.into ++ A_step step ∷ [] = c.in_ok-push.ensures ∙ ap (λ (s : Step). l.into ++ A_step s ∷ []) c.in_ok-copy_of.ensures in
    record {
      entries = entries_more steps l.place step l.into c.push.new.into c.push_endings.new.into (c.args.into.now ++ upgraded steps) group next is l.invariant.entries one (c.in_ok-deleted.ensures.entries group chain) refl;
      deleted = rw told (deleted_more steps l.place step l.deleted (deleted_count (upgraded steps)) group next is l.invariant.deleted refl);
      few = rw told (few_more steps (l.place + 1) l.deleted group l.invariant.few refl);
    }
