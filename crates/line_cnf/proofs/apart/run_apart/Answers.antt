use Rattle.std.proofs.Common.{Some, ◌∙◌, sym, subst}
use Rattle.dcsp_rule.specs.Problems.{Contents, csp_of}
use Rattle.abt_defs.specs.Network.{start}
use Rattle.line_replay.specs.Asked.{most_deliveries}
use Rattle.abt_schedule.specs.Answers.{generator_of, word_at}
use Rattle.line_cnf.specs.CnfRuns.{cnf_run}
use Rattle.line_cnf.specs.CnfOutcomes.{IsFormula}
use Rattle.line_cnf.specs.ClauseRuns.{answered_run, IsRunAt, StopsAs}
use Rattle.line_cnf.proofs.CnfOutcomes.{made_is}
use Rattle.line_cnf.proofs.apart.run_apart.Goals as goal

pub deliver_all-requires-clause-formula : goal.deliver_all-requires-clause-formula
deliver_all-requires-clause-formula c = subst IsFormula (sym c.in_ok-run.ensures.problem) c.requires

pub deliver_all-requires-clause-starts : goal.deliver_all-requires-clause-starts
deliver_all-requires-clause-starts c = subst (λ (q : Contents). IsRunAt q (start (csp_of q)) c.in_ok-run.run') (sym c.in_ok-run.ensures.problem) c.in_ok-run.ensures

pub outcome_of-requires : goal.outcome_of-requires
outcome_of-requires c = c.in_ok-end.ensures.at_end.problem ∙ c.in_ok-run.ensures.problem

pub returns : goal.returns
returns c =
    let p = c.args.problem.now in
    let run = cnf_run p c.args.seed in
    let stops : StopsAs p run c.deliver_all.new.self c.in_ok-end.end =
    subst (λ (q : Contents). StopsAs q (answered_run q most_deliveries (λ k. Some (word_at (generator_of c.args.seed) k))) c.deliver_all.new.self c.in_ok-end.end) c.in_ok-run.ensures.problem (rw c.new-choices.ensures at c.in_ok-end.ensures) in
    made_is p run c.deliver_all.new.self c.in_ok-end.end c.in_ok-outcome.outcome c.refutation_at-refutation.result stops (c.in_ok-outcome.ensures run.net stops.at_end.stands) c.refutation_at-refutation.ensures
