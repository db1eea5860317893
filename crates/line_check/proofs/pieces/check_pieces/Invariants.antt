use Rattle.std.proofs.Common.{◌*◌}
use Rattle.line_check.specs.LogChecks.{HasSameTask, HasOnlyRead, StandsAt}
use Rattle.line_check.proofs.pieces.check_pieces.Given as goal

-- all pieces before this place have come
abbrev pub invariant-loop-place : goal.invariant-loop-place
invariant-loop-place g l = record {
  stands : StandsAt (g.F.Folder.place l.initial.folder).held (g.F.Folder.place l.initial.folder).handed (g.F.Folder.place l.folder).handed l.name (l.place * 65536) l.check;
  task : HasSameTask l.initial.check l.check;
  read : HasOnlyRead (g.F.Folder.place l.initial.folder) (g.F.Folder.place l.folder);
}
