use Rattle.std.proofs.Common.{[], sym, subst}
use Rattle.std.specs.Prelude.{Bool}
use Rattle.dcsp_defs.specs.Csp.{IsCsp}
use Rattle.dcsp_rule.specs.Problems.{Contents, csp_of}
use Rattle.abt_session.specs.Answers.{first_answers}
use Rattle.abt_measure.specs.Whole.{IsAfter, IsMeasuredRun}
use Rattle.abt_measure.proofs.run.measure_run.Goals as goal

pub deliver_all-requires-clause-csp : goal.deliver_all-requires-clause-csp
deliver_all-requires-clause-csp g c = subst (λ (q : Contents). IsCsp (csp_of q)) (sym c.in_ok-run.ensures.after.problem) c.denotes_csp.ensures.csp

pub deliver_all-requires-clause-starts : goal.deliver_all-requires-clause-starts
deliver_all-requires-clause-starts g c = subst (λ (q : Contents). IsAfter q [] c.in_ok-run.run') (sym c.in_ok-run.ensures.after.problem) c.in_ok-run.ensures.after

pub returns : goal.returns
returns g c =
    let taken = first_answers c.args.most (g.C.Choices.answers c.args.choices.now) in
    subst (λ (q : Contents). IsMeasuredRun q c.args.most taken c.args.listens c.deliver_all.new.self) c.in_ok-run.ensures.after.problem
    (subst (λ (b : Bool). IsMeasuredRun c.in_ok-run.run'.network.problem c.args.most taken b c.deliver_all.new.self) c.in_ok-run.ensures.listens c.in_ok-deliver_all.ensures)
