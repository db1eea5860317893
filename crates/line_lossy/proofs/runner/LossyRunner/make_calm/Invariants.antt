use Rattle.std.proofs.Common.{List, ℕ}
use Rattle.line_lossy.specs.Runners.{HasMade}
use Rattle.line_lossy.proofs.CalmLoop.{CalmLoop}
use Rattle.line_lossy.proofs.runner.LossyRunner.make_calm.Given as goal

abbrev pub invariant-loop-made : goal.invariant-loop-made
invariant-loop-made g l = (first : List ℕ) → HasMade first l.initial.self → CalmLoop first l.most l._made l.initial.self l.self (g.F.Folder.place l.initial.folder) (g.F.Folder.place l.folder)
