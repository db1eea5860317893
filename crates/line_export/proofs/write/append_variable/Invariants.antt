use Rattle.std.proofs.Common.{◌≡◌, map, drop}
use Rattle.std.specs.Prelude.{Contains}
use Rattle.dcsp_outside.specs.Outside.{Stream}
use Rattle.dcsp_rule.specs.Problems.{csp_of}
use Rattle.dcsp_script.specs.Scripts.{outside}
use Rattle.dcsp_script.specs.Left.{HasLeft}
use Rattle.line_rewrite.specs.UpgradePromise.{appends}
use Rattle.line_export.specs.Texts.{atom_line}
use Rattle.line_export.proofs.write.append_variable.Given as goal

abbrev pub invariant-loop-place : goal.invariant-loop-place
invariant-loop-place g l = record {
  left : (out : Stream) → HasLeft (appends l.name (map (atom_line (csp_of l.atoms.problem.now) l.var) l.domain)) (appends l.name (map (atom_line (csp_of l.atoms.problem.now) l.var) (drop l.place l.domain))) (outside (g.F.Folder.place l.initial.folder) out) (outside (g.F.Folder.place l.folder) out);
  created : Contains (g.F.Folder.place l.folder).created l.name;
  same : (g.F.Folder.place l.folder).created ≡ (g.F.Folder.place l.initial.folder).created;
}
