use Rattle.std.proofs.Common.{◌≡◌, ap, arith}
use Rattle.dcsp_row.specs.Marks.{is_marked}
use Rattle.dcsp_row.proofs.marks.Marks.end_of_run.Goals as goal

pub returns-in-Row-clause-same : goal.returns-in-Row-clause-same
returns-in-Row-clause-same c = λ k l m. let here : k ≡ c.args.place = omega (arith, l, m) in ap (is_marked c.args.self.now) here
