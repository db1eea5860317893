use Rattle.std.proofs.Common.{arith}
use Rattle.dcsp_row.proofs.SpanLaws.{steady}
use Rattle.dcsp_row.proofs.span.Span.end_of_run.Goals as goal

pub returns-clause-same : goal.returns-clause-same
returns-clause-same c = λ k l m.
    steady c.args.self c.args.place k c.cut-2.result l m
    (λ before. let h = c.cut.ensures.cut before in omega (arith, h, c.cut-2.ensures.most))
    c.cut-2.ensures.cut
