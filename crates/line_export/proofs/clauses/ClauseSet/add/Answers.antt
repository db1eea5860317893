use Rattle.std.proofs.Common.{ℤ, List, map, ap, ◌∙◌}
use Rattle.std.specs.declared.vec.Vec.{Vec}
use Rattle.std.specs.declared.alloc.Global.{Global}
use Rattle.line_export.specs.Clauses.{Clause, with_clause}
use Rattle.line_export.proofs.Once.{put_in}
use Rattle.line_export.proofs.clauses.ClauseSet.add.Goals as goal

pub returns : goal.returns
returns c =
    ap (λ (keys : List (Vec ℤ Global)). map (λ (k : Vec ℤ Global). k.items) keys) c.in-Ok.ensures.keys
    ∙ put_in c.self.inside.clauses.keys c.args.clause ∙ ap (λ (clauses : List Clause). with_clause clauses c.args.clause.items) c.self.view_is
