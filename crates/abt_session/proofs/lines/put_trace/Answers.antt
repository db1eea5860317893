use Rattle.abt_network.specs.Rooms.{delivery_in}
use Rattle.abt_network.specs.Standing.{delivery_of}
use Rattle.abt_session.specs.Traces.{trace_line}
use Rattle.dcsp_script.proofs.StepLines.{memory_told}
use Rattle.abt_session.proofs.Pieces.{is_asked, line_put, put_where}
use Rattle.abt_session.proofs.lines.put_trace.Goals as goal

pub returns-in_err-push_line : goal.returns-in_err-push_line
returns-in_err-push_line g c = λ folder. memory_told _ _ _ c.from_residual.ensures

pub returns : goal.returns
returns g c = λ folder.
    put_where c.args.telling.trace (trace_line c.args.number (delivery_of (delivery_in c.args.delivery.now))) (is_asked c.args.telling.trace c.if-not-telling.false)
    (line_put _ _ c.deref.ensures.value c.in_ok-push_line.ensures c.clear.ensures.items (c.put.ensures folder))
