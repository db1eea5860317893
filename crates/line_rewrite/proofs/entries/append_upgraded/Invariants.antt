use Rattle.std.proofs.Common.{◌≡◌, ◌+◌, ◌≤◌, ◌∷◌, ◌++◌, [], ltb, drop, length}
use Rattle.std.specs.Prelude.{Contains, codes}
use Rattle.std.specs.List.{filter}
use Rattle.dcsp_outside.specs.Outside.{Stream}
use Rattle.dcsp_script.specs.Scripts.{outside}
use Rattle.dcsp_script.specs.Left.{HasLeft}
use Rattle.ngd_log.specs.Lines.{lines}
use Rattle.ngd_log.specs.Logs.{step_lines}
use Rattle.ngd_log.specs.EntryTexts.{entry_lines}
use Rattle.ngd_rewrite.specs.Upgrade.{end_of, numbers, upgraded_from, upgraded, deleted_count}
use Rattle.line_rewrite.specs.OldLogs.{steps_of}
use Rattle.line_rewrite.specs.UpgradePromise.{appends}
use Rattle.line_rewrite.proofs.entries.append_upgraded.Given as goal

-- the lines of the steps from here on, with their deletions, are left, and those of the old log
abbrev pub invariant-loop-place : goal.invariant-loop-place
invariant-loop-place g l = record {
  left : (out : Stream) → HasLeft (appends l.name (entry_lines 1 (upgraded (steps_of l.log)))) (appends l.name (entry_lines (l.place + 1) (upgraded_from (steps_of l.log) (l.place + 1) (drop l.place (steps_of l.log))))) (outside (g.F.Folder.place l.initial.folder) out) (outside (g.F.Folder.place l.folder) out);
  rest : lines l.rest ≡ step_lines (l.place + 1) (drop l.place (steps_of l.log)) ++ codes "end\n" ∷ [];
  created : Contains (g.F.Folder.place l.folder).created l.name;
  same : (g.F.Folder.place l.folder).created ≡ (g.F.Folder.place l.initial.folder).created;
  deleted : l.deleted + deleted_count (upgraded_from (steps_of l.log) (l.place + 1) (drop l.place (steps_of l.log))) ≡ deleted_count (upgraded (steps_of l.log));
  few : l.deleted ≤ length (filter (λ number. ltb (end_of (steps_of l.log) number) (l.place + 1)) (numbers (length (steps_of l.log))));
}
