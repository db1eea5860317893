use Rattle.std.proofs.Common.{◌≡◌, ◌+◌, ◌<◌, ◌∷◌, ◌++◌, [], ℕ, List, length, refl, sym, ap, subst, ◌∙◌, arith}
use Rattle.std.specs.Prelude.{Contains}
use Rattle.std.specs.List.{AllByRecursion}
use Rattle.dcsp_script.proofs.Left.{left_all, left_more, left_stopped, left_ends}
use Rattle.ngd_log.specs.declared.standing.Version.TheVariants.{Two}
use Rattle.ngd_log.specs.Lines.{lines}
use Rattle.ngd_log.specs.Logs.{step_lines}
use Rattle.ngd_log.specs.EntryTexts.{IsWritableEntry}
use Rattle.ngd_log.proofs.LogLines.{head, tail, lines_of_whole}
use Rattle.ngd_rewrite.specs.Upgrade.{ending, as_deletion, upgraded, deleted_count}
use Rattle.ngd_rewrite.proofs.Tables.{deleted_more, few_more, few_most}
use Rattle.ngd_rewrite.proofs.Texts.{ending_writable}
use Rattle.line_rewrite.specs.OldLogs.{steps_of}
use Rattle.line_rewrite.proofs.Writing.{left_memory}
use Rattle.line_rewrite.proofs.Deleting.{entry_left, deletion_as, step_of, text_left, last_left, last_deletes}
use Rattle.line_rewrite.proofs.entries.append_upgraded.Goals as goal

pub loop-place-init : goal.loop-place-init
loop-place-init g c =
    let steps = steps_of c.args.log.now in
    let all = c.requires.log.endings.count in
    let first = ap lines c.deref.ensures.value ∙ lines_of_whole steps c.args.log.now.text.items c.requires.log.text in
    record {
      left = λ out. left_all _ _;
      rest = c.first_line.ensures.rest head (step_lines 1 steps ++ tail ∷ []) first;
      created = c.requires.created;
      same = refl;
      deleted = omega arith;
      few = omega arith;
    }

pub returns-in_err-rest-clause-wrote : goal.returns-in_err-rest-clause-wrote
returns-in_err-rest-clause-wrote g c =
    let l = c.loop-place in
    let steps = steps_of c.args.log.now in
    let all = c.requires.log.endings.count in
    let next : l.place + 1 < length steps = omega (arith, all) in
    let s = step_of steps l.place (omega (arith, next)) in
    let split = entry_left c.args.name.now steps l.place s.0 next s.1 in
    let text = text_left steps l.place s.0 l.rest.now (omega (arith, next)) s.1 l.invariant.rest in
    λ out. left_stopped _ _ _ split c.from_residual.ensures (l.invariant.left out) (c.in_err-rest.ensures.wrote _ _ text out)

pub returns-in_err-ended-clause-wrote : goal.returns-in_err-ended-clause-wrote
returns-in_err-ended-clause-wrote g c =
    let l = c.loop-place in
    let steps = steps_of c.args.log.now in
    let all = c.requires.log.endings.count in
    let next : l.place + 1 < length steps = omega (arith, all) in
    let s = step_of steps l.place (omega (arith, next)) in
    let split = entry_left c.args.name.now steps l.place s.0 next s.1 in
    let text = text_left steps l.place s.0 l.rest.now (omega (arith, next)) s.1 l.invariant.rest in
    λ out. left_memory _ c.from_residual-in_err-ended.ensures (left_more _ split (l.invariant.left out) (c.in_ok-rest.ensures.wrote _ _ text out))

pub append_deletion-requires-clause-deletion : goal.append_deletion-requires-clause-deletion
append_deletion-requires-clause-deletion g c =
    let l = c.loop-place in
    let steps = steps_of c.args.log.now in
    let all = c.requires.log.endings.count in
    let next : l.place + 1 < length steps = omega (arith, all) in
    let numbers = c.deref-in-loop-place.ensures.value ∙ c.in_ok-ended.ensures.numbers (ending steps (l.place + 1)) (c.requires.log.endings.each l.place (omega (arith, next))) in
    subst (λ (ns : List ℕ). AllByRecursion (IsWritableEntry Two) (as_deletion ns)) (sym numbers) (ending_writable steps (l.place + 1) c.requires.log.text.writable)

pub returns-in_err-append_deletion-clause-wrote : goal.returns-in_err-append_deletion-clause-wrote
returns-in_err-append_deletion-clause-wrote g c =
    let l = c.loop-place in
    let steps = steps_of c.args.log.now in
    let all = c.requires.log.endings.count in
    let next : l.place + 1 < length steps = omega (arith, all) in
    let s = step_of steps l.place (omega (arith, next)) in
    let split = entry_left c.args.name.now steps l.place s.0 next s.1 in
    let text = text_left steps l.place s.0 l.rest.now (omega (arith, next)) s.1 l.invariant.rest in
    let numbers = c.deref-in-loop-place.ensures.value ∙ c.in_ok-ended.ensures.numbers (ending steps (l.place + 1)) (c.requires.log.endings.each l.place (omega (arith, next))) in
    λ out. left_stopped _ _ _ (deletion_as c.args.name.now _ _ _ (sym numbers)) c.from_residual-in_err-append_deletion.ensures
    (left_more _ split (l.invariant.left out) (c.in_ok-rest.ensures.wrote _ _ text out)) (c.in_err-append_deletion.ensures.wrote out)

pub overflow_add-deleted : goal.overflow_add-deleted
overflow_add-deleted g c =
    let l = c.loop-place in
    let steps = steps_of c.args.log.now in
    let all = c.requires.log.endings.count in
    let next : l.place + 1 < length steps = omega (arith, all) in
    let few = few_more steps (l.place + 1) l.deleted (ending steps (l.place + 1)) l.invariant.few refl in
    let most = few_most steps (l.place + 1 + 1) in
    let told = c.in_ok-ended.ensures.count (ending steps (l.place + 1)) (c.requires.log.endings.each l.place (omega (arith, next))) in
    omega (arith, few, most, told)

pub loop-place-preserved : goal.loop-place-preserved
loop-place-preserved g c =
    let l = c.loop-place in
    let steps = steps_of c.args.log.now in
    let all = c.requires.log.endings.count in
    let next : l.place + 1 < length steps = omega (arith, all) in
    let s = step_of steps l.place (omega (arith, next)) in
    let split = entry_left c.args.name.now steps l.place s.0 next s.1 in
    let text = text_left steps l.place s.0 l.rest.now (omega (arith, next)) s.1 l.invariant.rest in
    let chain = c.requires.log.endings.each l.place (omega (arith, next)) in
    let numbers = c.deref-in-loop-place.ensures.value ∙ c.in_ok-ended.ensures.numbers (ending steps (l.place + 1)) chain in
    let told : c.in_ok-ended.ended ≡ length (ending steps (l.place + 1)) = c.in_ok-ended.ensures.count (ending steps (l.place + 1)) chain in
    record {
      left = λ out. left_more _ (deletion_as c.args.name.now _ _ _ (sym numbers))
          (left_more _ split (l.invariant.left out) (c.in_ok-rest.ensures.wrote _ _ text out)) (c.in_ok-append_deletion.ensures.wrote out);
      rest = c.in_ok-rest.ensures.rest _ _ text;
      created = subst (λ names. Contains names c.args.name.now) (sym (c.in_ok-append_deletion.ensures.created ∙ c.in_ok-rest.ensures.created)) l.invariant.created;
      same = c.in_ok-append_deletion.ensures.created ∙ c.in_ok-rest.ensures.created ∙ l.invariant.same;
      deleted = rw told (deleted_more steps l.place s.0 l.deleted (deleted_count (upgraded steps)) (ending steps (l.place + 1)) next s.1 l.invariant.deleted refl);
      few = rw told (few_more steps (l.place + 1) l.deleted (ending steps (l.place + 1)) l.invariant.few refl);
    }

pub returns-in_err-append_line-clause-wrote : goal.returns-in_err-append_line-clause-wrote
returns-in_err-append_line-clause-wrote g c =
    let l = c.loop-place in
    let steps = steps_of c.args.log.now in
    let all = c.requires.log.endings.count in
    let at : l.place + 1 ≡ length steps = omega (arith, all) in
    let s = step_of steps l.place (omega (arith, at)) in
    let text = text_left steps l.place s.0 l.rest.now (omega (arith, at)) s.1 l.invariant.rest in
    λ out. left_stopped [] _ _ (last_left c.args.name.now steps l.place s.0 at s.1) c.from_residual-in_err-append_line.ensures (l.invariant.left out) (c.in_err-append_line.ensures.wrote _ _ text out)

pub returns-clause-wrote : goal.returns-clause-wrote
returns-clause-wrote g c =
    let l = c.loop-place in
    let steps = steps_of c.args.log.now in
    let all = c.requires.log.endings.count in
    let at : l.place + 1 ≡ length steps = omega (arith, all) in
    let s = step_of steps l.place (omega (arith, at)) in
    let text = text_left steps l.place s.0 l.rest.now (omega (arith, at)) s.1 l.invariant.rest in
    λ out. left_ends _ (last_left c.args.name.now steps l.place s.0 at s.1) (l.invariant.left out) (let w = c.in_ok-append_line.ensures.wrote _ _ text out in record { ended = w.ended; handed = w.handed })

pub returns-clause-deleted : goal.returns-clause-deleted
returns-clause-deleted g c =
    let l = c.loop-place in
    let steps = steps_of c.args.log.now in
    let all = c.requires.log.endings.count in
    let at : l.place + 1 ≡ length steps = omega (arith, all) in
    let s = step_of steps l.place (omega (arith, at)) in
    let none = last_deletes steps l.place s.0 at s.1 in
    let deleted = l.invariant.deleted in
    omega (arith, none, deleted)
