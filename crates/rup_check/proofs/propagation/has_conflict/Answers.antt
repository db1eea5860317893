use Rattle.std.proofs.Common.{rules, [], ◌∙◌, ◌≡◌, ◌≤◌, length, map, take, arith, ap, subst, sym}
use Rattle.rup_check.specs.Assignments.{flipped}
use Rattle.rup_check.specs.Found.{IsFound}
use Rattle.rup_check.proofs.FoundLaws.{found_answer}
use Rattle.rup_check.specs.Kept.{clauses_of}
use Rattle.rup_check.specs.Sets.{IsBeginning}
use Rattle.rup_check.specs.Watches.{IsState}
use Rattle.rup_check.proofs.StateLaws.{marked_more}
use Rattle.rup_check.proofs.RunLaws.{take_front, extends_length}
use Rattle.rup_check.proofs.EndLaws.{answer_clash, answer_of, begun_sound}
use Rattle.rup_check.proofs.ForceLaws.{end_of_run, rest_again, ended_state}
use Rattle.rup_check.proofs.propagation.has_conflict.Goals as goal

pub begin-requires-clause-clean : goal.begin-requires-clause-clean
begin-requires-clause-clean c = c.requires.rests.sound.consistent

pub undo-requires-clause-within : goal.undo-requires-clause-within
undo-requires-clause-within c =
    let l : length c.args.assignment.now.trail.items ≤ length c.begin.new.assignment.trail.items = extends_length c.args.assignment.now.trail.items c.begin.new.assignment.trail.items c.in_ok-begin.ensures.trail in
    omega arith

pub returns-then-branch-clause-found : goal.returns-then-branch-clause-found
returns-then-branch-clause-found c =
    answer_clash (clauses_of c.args.known.now) c.args.assignment.now.marks.items c.args.clause.now c.begin.new.assignment.marks.items c.requires.rests.sound (subst (λ b. IsBeginning c.args.assignment.now.marks.items c.args.clause.now c.begin.new.assignment.marks.items b) c.if-branch.true c.in_ok-begin.ensures.begun)

pub returns-then-branch-clause-rests : goal.returns-then-branch-clause-rests
returns-then-branch-clause-rests c =
    let from : c.len-from.result ≡ length c.args.assignment.now.trail.items = search rules in
    rest_again (clauses_of c.args.known.now) c.args.watches.now.pairs.items c.args.watches.now.pairs.items c.args.watches.now.lists.items c.args.watches.now.lists.items c.args.assignment.now.marks.items c.args.assignment.now.marks.items c.undo.new.assignment.marks.items c.args.assignment.now.trail.items c.args.assignment.now.trail.items c.undo.new.assignment.trail.items c.requires.rests c.undo.ensures.assigned (c.undo.ensures.trail ∙ (take_front c.args.assignment.now.trail.items c.begin.new.assignment.trail.items c.len-from.result from c.in_ok-begin.ensures.trail)) c.requires.rests.state

pub run-requires-clause-from : goal.run-requires-clause-from
run-requires-clause-from c =
    let l : length c.args.assignment.now.trail.items ≤ length c.begin.new.assignment.trail.items = extends_length c.args.assignment.now.trail.items c.begin.new.assignment.trail.items c.in_ok-begin.ensures.trail in
    omega arith

pub run-requires-clause-state : goal.run-requires-clause-state
run-requires-clause-state c =
    let from : c.len-from.result ≡ length c.args.assignment.now.trail.items = search rules in
    (c.args.assignment.now.trail.items, c.args.assignment.now.trail.items, (subst (λ z. IsState (clauses_of c.args.known.now) c.args.watches.now.pairs.items c.args.watches.now.lists.items c.args.assignment.now.trail.items c.args.assignment.now.trail.items c.begin.new.assignment.marks.items z) (sym (take_front c.args.assignment.now.trail.items c.begin.new.assignment.trail.items c.len-from.result from c.in_ok-begin.ensures.trail)) (marked_more (clauses_of c.args.known.now) c.args.watches.now.pairs.items c.args.watches.now.lists.items c.args.assignment.now.trail.items c.args.assignment.now.trail.items c.args.assignment.now.marks.items c.begin.new.assignment.marks.items c.args.assignment.now.trail.items c.requires.rests.state (subst (λ b. IsBeginning c.args.assignment.now.marks.items c.args.clause.now c.begin.new.assignment.marks.items b) c.if-branch.false c.in_ok-begin.ensures.begun).grows)))

pub run-requires-clause-clean : goal.run-requires-clause-clean
run-requires-clause-clean c = (subst (λ b. IsBeginning c.args.assignment.now.marks.items c.args.clause.now c.begin.new.assignment.marks.items b) c.if-branch.false c.in_ok-begin.ensures.begun).consistent

pub found_of-found-requires-clause-counted : goal.found_of-found-requires-clause-counted
found_of-found-requires-clause-counted c =
    let from : c.len-from.result ≡ length c.args.assignment.now.trail.items = search rules in
    let begun = (subst (λ b. IsBeginning c.args.assignment.now.marks.items c.args.clause.now c.begin.new.assignment.marks.items b) c.if-branch.false c.in_ok-begin.ensures.begun) in
    let ended = c.in_ok-conflict.ensures.ran c.args.assignment.now.trail.items c.args.assignment.now.trail.items (subst (λ z. IsState (clauses_of c.args.known.now) c.args.watches.now.pairs.items c.args.watches.now.lists.items c.args.assignment.now.trail.items c.args.assignment.now.trail.items c.begin.new.assignment.marks.items z) (sym (take_front c.args.assignment.now.trail.items c.begin.new.assignment.trail.items c.len-from.result from c.in_ok-begin.ensures.trail)) (marked_more (clauses_of c.args.known.now) c.args.watches.now.pairs.items c.args.watches.now.lists.items c.args.assignment.now.trail.items c.args.assignment.now.trail.items c.args.assignment.now.marks.items c.begin.new.assignment.marks.items c.args.assignment.now.trail.items c.requires.rests.state begun.grows)) in
    (ended_state (clauses_of c.args.known.now) c.args.assignment.now.trail.items c.args.assignment.now.trail.items c.run.new.watches.pairs.items c.run.new.watches.lists.items c.run.new.assignment.marks.items c.run.new.assignment.trail.items c.in_ok-conflict.conflict ended).counted

pub returns-clause-found : goal.returns-clause-found
returns-clause-found c =
    let from : c.len-from.result ≡ length c.args.assignment.now.trail.items = search rules in
    let begun = (subst (λ b. IsBeginning c.args.assignment.now.marks.items c.args.clause.now c.begin.new.assignment.marks.items b) c.if-branch.false c.in_ok-begin.ensures.begun) in
    let ended = c.in_ok-conflict.ensures.ran c.args.assignment.now.trail.items c.args.assignment.now.trail.items (subst (λ z. IsState (clauses_of c.args.known.now) c.args.watches.now.pairs.items c.args.watches.now.lists.items c.args.assignment.now.trail.items c.args.assignment.now.trail.items c.begin.new.assignment.marks.items z) (sym (take_front c.args.assignment.now.trail.items c.begin.new.assignment.trail.items c.len-from.result from c.in_ok-begin.ensures.trail)) (marked_more (clauses_of c.args.known.now) c.args.watches.now.pairs.items c.args.watches.now.lists.items c.args.assignment.now.trail.items c.args.assignment.now.trail.items c.args.assignment.now.marks.items c.begin.new.assignment.marks.items c.args.assignment.now.trail.items c.requires.rests.state begun.grows)) in
    let all : c.len-begun.result ≡ length c.begin.new.assignment.trail.items = search rules in
    let again : c.found_of-found.new.assignment.trail.items ≡ c.begin.new.assignment.trail.items = c.found_of-found.ensures.trail ∙ take_front c.begin.new.assignment.trail.items c.run.new.assignment.trail.items c.len-begun.result all c.in_ok-conflict.ensures.trail in
    let undone : c.undo-2.new.assignment.trail.items ≡ c.args.assignment.now.trail.items = c.undo-2.ensures.trail ∙ ap (take c.len-from.result) again ∙ take_front c.args.assignment.now.trail.items c.begin.new.assignment.trail.items c.len-from.result from c.in_ok-begin.ensures.trail in
    let clean = (c.in_ok-conflict.ensures.sound (map flipped c.args.clause.now) (begun_sound (clauses_of c.args.known.now) c.args.assignment.now.marks.items c.args.clause.now c.begin.new.assignment.marks.items c.requires.rests.sound begun)).consistent in
    let end = end_of_run (clauses_of c.args.known.now) c.args.assignment.now.trail.items c.args.assignment.now.trail.items c.run.new.watches.pairs.items c.run.new.watches.lists.items c.run.new.assignment.marks.items c.run.new.assignment.trail.items c.in_ok-conflict.conflict c.in_ok-conflict.ensures.assigned (λ x h. c.in_ok-conflict.ensures.grows x (begun.grows x (c.requires.rests.assigned.marked x h))) clean ended in
    let answer = answer_of (clauses_of c.args.known.now) c.args.assignment.now.marks.items c.args.clause.now c.begin.new.assignment.marks.items c.run.new.assignment.marks.items c.in_ok-conflict.conflict c.requires.rests.sound begun c.in_ok-conflict.ensures.grows c.in_ok-conflict.ensures.sound end in
    subst (λ z. IsFound (clauses_of c.args.known.now) z c.args.clause.now c.found_of-found.result) (sym undone)
    (found_answer (clauses_of c.args.known.now) c.args.assignment.now.marks.items c.begin.new.assignment.marks.items c.found_of-found.new.assignment.marks.items c.args.assignment.now.trail.items c.begin.new.assignment.trail.items c.found_of-found.new.assignment.trail.items c.args.clause.now c.in_ok-conflict.conflict c.found_of-found.result c.requires.small c.requires.rests.assigned c.in_ok-begin.ensures.assigned c.found_of-found.ensures.assigned again begun answer c.found_of-found.ensures.found)

pub returns-clause-rests : goal.returns-clause-rests
returns-clause-rests c =
    let from : c.len-from.result ≡ length c.args.assignment.now.trail.items = search rules in
    let begun = (subst (λ b. IsBeginning c.args.assignment.now.marks.items c.args.clause.now c.begin.new.assignment.marks.items b) c.if-branch.false c.in_ok-begin.ensures.begun) in
    let ended = c.in_ok-conflict.ensures.ran c.args.assignment.now.trail.items c.args.assignment.now.trail.items (subst (λ z. IsState (clauses_of c.args.known.now) c.args.watches.now.pairs.items c.args.watches.now.lists.items c.args.assignment.now.trail.items c.args.assignment.now.trail.items c.begin.new.assignment.marks.items z) (sym (take_front c.args.assignment.now.trail.items c.begin.new.assignment.trail.items c.len-from.result from c.in_ok-begin.ensures.trail)) (marked_more (clauses_of c.args.known.now) c.args.watches.now.pairs.items c.args.watches.now.lists.items c.args.assignment.now.trail.items c.args.assignment.now.trail.items c.args.assignment.now.marks.items c.begin.new.assignment.marks.items c.args.assignment.now.trail.items c.requires.rests.state begun.grows)) in
    let all : c.len-begun.result ≡ length c.begin.new.assignment.trail.items = search rules in
    let again : c.found_of-found.new.assignment.trail.items ≡ c.begin.new.assignment.trail.items = c.found_of-found.ensures.trail ∙ take_front c.begin.new.assignment.trail.items c.run.new.assignment.trail.items c.len-begun.result all c.in_ok-conflict.ensures.trail in
    let undone : c.undo-2.new.assignment.trail.items ≡ c.args.assignment.now.trail.items = c.undo-2.ensures.trail ∙ ap (take c.len-from.result) again ∙ take_front c.args.assignment.now.trail.items c.begin.new.assignment.trail.items c.len-from.result from c.in_ok-begin.ensures.trail in
    rest_again (clauses_of c.args.known.now) c.args.watches.now.pairs.items c.run.new.watches.pairs.items c.args.watches.now.lists.items c.run.new.watches.lists.items c.args.assignment.now.marks.items c.run.new.assignment.marks.items c.undo-2.new.assignment.marks.items c.args.assignment.now.trail.items [] c.undo-2.new.assignment.trail.items c.requires.rests c.undo-2.ensures.assigned undone
    (ended_state (clauses_of c.args.known.now) c.args.assignment.now.trail.items c.args.assignment.now.trail.items c.run.new.watches.pairs.items c.run.new.watches.lists.items c.run.new.assignment.marks.items c.run.new.assignment.trail.items c.in_ok-conflict.conflict ended)
