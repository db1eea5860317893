use Rattle.std.proofs.Common.{[], Err, refl, rules}
use Rattle.abt_session.specs.Running.{session_for}
use Rattle.dcsp_script.proofs.StepLines.{stopped_so}
use Rattle.abt_session.proofs.Pieces.{made_then_memory}
use Rattle.abt_session.proofs.Whole.{begin_stopped, deliveries_stopped, tail_stopped, whole_run, leaves_as, leaves_at}
use Rattle.abt_session.proofs.session.run_ordered.Goals as goal

pub returns-in_err-begin-clause-wrote : goal.returns-in_err-begin-clause-wrote
returns-in_err-begin-clause-wrote g c =
    let answers = g.C.Choices.answers c.args.choices.now in
    let s = session_for c.in-Ok.network.problem answers c.args.task in
    let left = begin_stopped s c.args.task.keep [] c.begin.new.self.taken answers c.begin.new.self.network _ _ (Err _) (refl, refl) (c.in_err-begin.ensures.wrote (g.S.Sink.stream c.args.outside.now.out)) in
    stopped_so _ c.from_residual.ensures (leaves_at answers c.args.task c.in-Ok.ensures.problem left).wrote

pub returns-in_err-end-clause-wrote : goal.returns-in_err-end-clause-wrote
returns-in_err-end-clause-wrote g c =
    let answers = g.C.Choices.answers c.args.choices.now in
    let begun = c.in_ok-begin.ensures in
    let s = session_for c.in-Ok.network.problem answers c.args.task in
    let left = leaves_as answers begun.same begun.taken c.in_err-end.ensures.leaves in
    let whole = deliveries_stopped s (Err _) (refl, refl) (begun.wrote (g.S.Sink.stream c.args.outside.now.out)) left in
    stopped_so _ c.from_residual-in_err-end.ensures (leaves_at answers c.args.task c.in-Ok.ensures.problem whole).wrote

pub returns-in_err-append-clause-wrote : goal.returns-in_err-append-clause-wrote
returns-in_err-append-clause-wrote g c =
    let answers = g.C.Choices.answers c.args.choices.now in
    let begun = c.in_ok-begin.ensures in
    let s = session_for c.in-Ok.network.problem answers c.args.task in
    let left = leaves_as answers begun.same begun.taken c.in_ok-end.ensures.leaves in
    let whole = tail_stopped s (Err _) (refl, refl) (begun.wrote (g.S.Sink.stream c.args.outside.now.out)) left refl (c.in_err-append.ensures.wrote (g.S.Sink.stream c.deliver_all.new.outside.out)) in
    stopped_so _ c.from_residual-in_err-append.ensures (leaves_at answers c.args.task c.in-Ok.ensures.problem whole).wrote

pub returns : goal.returns
returns g c =
    let answers = g.C.Choices.answers c.args.choices.now in
    let begun = c.in_ok-begin.ensures in
    let s = session_for c.in-Ok.network.problem answers c.args.task in
    let left = leaves_as answers begun.same begun.taken c.in_ok-end.ensures.leaves in
    let made = leaves_at answers c.args.task c.in-Ok.ensures.problem (whole_run s (begun.wrote (g.S.Sink.stream c.args.outside.now.out)) left refl (c.in_ok-append.ensures.wrote (g.S.Sink.stream c.deliver_all.new.outside.out))) in
    record {
      wrote = made_then_memory c.outcome_of.result c.outcome_of.ensures.only_memory made.wrote;
      gives = search rules;
      numbers = search rules;
      answers = search rules;
    }
