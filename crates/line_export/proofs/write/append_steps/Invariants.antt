use Rattle.std.proofs.Common.{◌≡◌, map, drop}
use Rattle.std.specs.Prelude.{Contains}
use Rattle.dcsp_outside.specs.Outside.{Stream}
use Rattle.dcsp_script.specs.Scripts.{outside}
use Rattle.dcsp_script.specs.Left.{HasLeft}
use Rattle.rup_check.specs.ProofText.{clause_line}
use Rattle.line_rewrite.specs.UpgradePromise.{appends}
use Rattle.line_export.specs.Clauses.{proof}
use Rattle.line_export.proofs.write.append_steps.Given as goal

abbrev pub invariant-loop-step : goal.invariant-loop-step
invariant-loop-step g l = record {
  left : (out : Stream) → HasLeft (appends l.name (map clause_line (proof l.atoms.problem.now l.steps))) (appends l.name (map clause_line (proof l.atoms.problem.now (drop l.step-index l.steps)))) (outside (g.F.Folder.place l.initial.folder) out) (outside (g.F.Folder.place l.folder) out);
  created : Contains (g.F.Folder.place l.folder).created l.name;
  same : (g.F.Folder.place l.folder).created ≡ (g.F.Folder.place l.initial.folder).created;
}
