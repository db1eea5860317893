use Rattle.std.proofs.Common.{ℕ, List, [], ◌∷◌, Vec, Global}
use Rattle.dcsp_script.specs.Scripts.{Write, Append, Put}
use Rattle.dcsp_script.proofs.Left.{left_more, left_stopped, left_ends, turns_left, turns_done}
use Rattle.outside_trials.proofs.scripts.write_notes.Goals as goal

-- what a turn writes
abbrev turn : List ℕ → Vec ℕ Global → List Write
turn log note = Append log note.items ∷ Put note.items ∷ []

pub returns-in_err-write_note : goal.returns-in_err-write_note
returns-in_err-write_note g c =
    left_stopped _ _ _ (turns_left (turn c.args.log.now) _ _ _ _ c.loop-note-test.true c.note-item.is) c.from_residual.ensures c.loop-note.invariant (rw c.deref.ensures.value at c.in_err-write_note.ensures)

pub loop-note-preserved : goal.loop-note-preserved
loop-note-preserved g c =
    left_more _ (turns_left (turn c.args.log.now) _ _ _ _ c.loop-note-test.true c.note-item.is) c.loop-note.invariant (rw c.deref.ensures.value at c.in_ok-write_note.ensures)

pub returns : goal.returns
returns g c = left_ends _ (turns_done (turn c.args.log.now) c.args.notes.now _ _ c.loop-note-test.false) c.loop-note.invariant (c.append.ensures.wrote _)
