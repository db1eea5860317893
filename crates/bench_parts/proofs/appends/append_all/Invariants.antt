use Rattle.std.specs.Prelude.{Contains}
use Rattle.bench_parts.proofs.appends.append_all.Given as goal

abbrev pub invariant-loop-made : goal.invariant-loop-made
invariant-loop-made g l = Contains (g.F.Folder.place l.folder).created l.name
