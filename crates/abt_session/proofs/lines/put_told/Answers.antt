use Rattle.std.proofs.Common.{map}
use Rattle.dcsp_script.specs.Scripts.{Put}
use Rattle.dcsp_script.proofs.Lines.{then_rest, then_stopped}
use Rattle.abt_network.specs.Rooms.{delivery_in}
use Rattle.abt_network.specs.Standing.{delivery_of}
use Rattle.abt_session.specs.Traces.{progress_texts}
use Rattle.abt_session.proofs.Pieces.{both_put, wrote_as}
use Rattle.abt_session.proofs.lines.put_told.Goals as goal

pub returns-in_err-put_trace : goal.returns-in_err-put_trace
returns-in_err-put_trace g c = λ folder.
    wrote_as (both_put c.args.telling c.args.made.number c.args.made.steps (delivery_of (delivery_in c.args.made.delivery.now)))
    (then_stopped (map Put (progress_texts c.args.telling c.args.made.number c.args.made.steps)) c.from_residual.ensures (c.in_err-put_trace.ensures folder))

pub returns : goal.returns
returns g c = λ folder.
    wrote_as (both_put c.args.telling c.args.made.number c.args.made.steps (delivery_of (delivery_in c.args.made.delivery.now))) (then_rest (c.in_ok-put_trace.ensures folder) (c.put_progress.ensures folder))
