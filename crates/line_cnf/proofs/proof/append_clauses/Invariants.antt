use Rattle.line_cnf.proofs.RowLines.{ReadsTo}
use Rattle.line_cnf.proofs.proof.append_clauses.Given as goal

abbrev pub invariant-loop-literal : goal.invariant-loop-literal
invariant-loop-literal g l = ReadsTo l.name l.row l.literal-index l.line.items (g.F.Folder.place l.initial.folder) (g.F.Folder.place l.folder)
