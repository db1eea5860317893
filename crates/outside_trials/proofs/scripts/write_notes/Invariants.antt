use Rattle.std.proofs.Common.{[], ◌∷◌, ◌++◌, drop, codes}
use Rattle.std.specs.Prelude.{flat_map}
use Rattle.dcsp_script.specs.Outsides.{world}
use Rattle.dcsp_script.specs.Scripts.{Append, Put}
use Rattle.dcsp_script.specs.Left.{HasLeft}
use Rattle.outside_trials.proofs.scripts.write_notes.Given as goal

-- the notes from here on are left
abbrev pub invariant-loop-note : goal.invariant-loop-note
invariant-loop-note g l =
    HasLeft (flat_map (λ note. Append l.log note.items ∷ Put note.items ∷ []) l.notes ++ Append l.log (codes "end\n") ∷ [])
    (flat_map (λ note. Append l.log note.items ∷ Put note.items ∷ []) (drop l.note-index l.notes) ++ Append l.log (codes "end\n") ∷ [])
    (world g.F.Folder.place g.S.Sink.stream l.initial.outside)
    (world g.F.Folder.place g.S.Sink.stream l.outside)
