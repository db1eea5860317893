use Rattle.std.proofs.Common.{◌≡◌, ℕ, ◌+◌}
use Rattle.abt_schedule.specs.Answers.{word_at}
use Rattle.line_lossy.proofs.SeedLoop.{SeedLoop}
use Rattle.line_lossy.proofs.runner.LossyRunner.make_seeded.Given as goal

abbrev pub invariant-loop-made : goal.invariant-loop-made
invariant-loop-made g l =
    SeedLoop (word_at l.initial.words) l.events l._made l.initial.self l.self (g.F.Folder.place l.initial.folder) (g.F.Folder.place l.folder)
    × ((k : ℕ) → word_at l.words k ≡ word_at l.initial.words (l._made + k))
