use Rattle.std.proofs.Common.{◌≡◌, drop}
use Rattle.std.specs.Prelude.{Contains, flat_map}
use Rattle.dcsp_outside.specs.Outside.{Stream}
use Rattle.dcsp_defs.specs.Words.{below}
use Rattle.dcsp_defs.specs.Csp.{count}
use Rattle.dcsp_rule.specs.Problems.{csp_of}
use Rattle.dcsp_script.specs.Scripts.{outside}
use Rattle.dcsp_script.specs.Left.{HasLeft}
use Rattle.line_rewrite.specs.UpgradePromise.{appends}
use Rattle.line_export.specs.Texts.{variable_lines}
use Rattle.line_export.proofs.write.append_atoms.Given as goal

abbrev pub invariant-loop-var : goal.invariant-loop-var
invariant-loop-var g l = record {
  left : (out : Stream) → HasLeft (appends l.name (flat_map (variable_lines (csp_of l.atoms.problem.now)) (below (count (csp_of l.atoms.problem.now))))) (appends l.name (flat_map (variable_lines (csp_of l.atoms.problem.now)) (drop l.var (below (count (csp_of l.atoms.problem.now)))))) (outside (g.F.Folder.place l.initial.folder) out) (outside (g.F.Folder.place l.folder) out);
  created : Contains (g.F.Folder.place l.folder).created l.name;
  same : (g.F.Folder.place l.folder).created ≡ (g.F.Folder.place l.initial.folder).created;
}
