use Rattle.std.proofs.Common.{◌≡◌, ◌+◌, drop}
use Rattle.std.specs.Prelude.{Contains}
use Rattle.dcsp_outside.specs.Outside.{Stream}
use Rattle.dcsp_script.specs.Scripts.{outside}
use Rattle.dcsp_script.specs.Left.{HasLeft}
use Rattle.ngd_log.specs.Logs.{step_lines}
use Rattle.line_rewrite.specs.UpgradePromise.{appends}
use Rattle.line_rewrite.proofs.steps.append_steps.Given as goal

-- the lines of the steps from here on are left
abbrev pub invariant-loop-place : goal.invariant-loop-place
invariant-loop-place g l = record {
  left : (out : Stream) → HasLeft (appends l.name (step_lines 1 l.steps)) (appends l.name (step_lines (l.place + 1) (drop l.place l.steps))) (outside (g.F.Folder.place l.initial.folder) out) (outside (g.F.Folder.place l.folder) out);
  created : Contains (g.F.Folder.place l.folder).created l.name;
  same : (g.F.Folder.place l.folder).created ≡ (g.F.Folder.place l.initial.folder).created;
}
