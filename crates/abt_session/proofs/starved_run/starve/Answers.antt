use Rattle.std.proofs.Common.{◌∙◌}
use Rattle.dcsp_rule.specs.Problems.{csp_of}
use Rattle.abt_defs.specs.Network.{start}
use Rattle.abt_session.specs.Starving.{starving_choices}
use Rattle.abt_session.proofs.Links.{own_numbers}
use Rattle.abt_session.proofs.Delays.{told_of, are_near}
use Rattle.abt_session.proofs.starved_run.starve.Goals as goal

pub returns-in_err-network-clause-numbers : goal.returns-in_err-network-clause-numbers
returns-in_err-network-clause-numbers c = own_numbers (csp_of c.args.run.problem.now) c.args.run.from c.args.run.to c.args.run.most (start (csp_of c.args.run.problem.now))

pub returns-in_err-network-clause-near : goal.returns-in_err-network-clause-near
returns-in_err-network-clause-near c = are_near (csp_of c.args.run.problem.now) c.args.run.from c.args.run.to c.args.run.most

pub returns-in_err-network-clause-verdicts : goal.returns-in_err-network-clause-verdicts
returns-in_err-network-clause-verdicts c =
    let p = csp_of c.args.run.problem.now in
    c.verdicts.ensures p c.denotes_csp.ensures.csp c.args.run.most (starving_choices p c.args.run.from c.args.run.to c.args.run.most)

pub returns-in_err-_begun-clause-numbers : goal.returns-in_err-_begun-clause-numbers
returns-in_err-_begun-clause-numbers c = own_numbers (csp_of c.args.run.problem.now) c.args.run.from c.args.run.to c.args.run.most (start (csp_of c.args.run.problem.now))

pub returns-in_err-_begun-clause-near : goal.returns-in_err-_begun-clause-near
returns-in_err-_begun-clause-near c = are_near (csp_of c.args.run.problem.now) c.args.run.from c.args.run.to c.args.run.most

pub returns-in_err-_begun-clause-verdicts : goal.returns-in_err-_begun-clause-verdicts
returns-in_err-_begun-clause-verdicts c =
    let p = csp_of c.args.run.problem.now in
    c.verdicts.ensures p c.denotes_csp.ensures.csp c.args.run.most (starving_choices p c.args.run.from c.args.run.to c.args.run.most)

pub returns-in_err-deliver_others-clause-numbers : goal.returns-in_err-deliver_others-clause-numbers
returns-in_err-deliver_others-clause-numbers c = own_numbers (csp_of c.args.run.problem.now) c.args.run.from c.args.run.to c.args.run.most (start (csp_of c.args.run.problem.now))

pub returns-in_err-deliver_others-clause-near : goal.returns-in_err-deliver_others-clause-near
returns-in_err-deliver_others-clause-near c = are_near (csp_of c.args.run.problem.now) c.args.run.from c.args.run.to c.args.run.most

pub returns-in_err-deliver_others-clause-verdicts : goal.returns-in_err-deliver_others-clause-verdicts
returns-in_err-deliver_others-clause-verdicts c =
    let p = csp_of c.args.run.problem.now in
    c.verdicts.ensures p c.denotes_csp.ensures.csp c.args.run.most (starving_choices p c.args.run.from c.args.run.to c.args.run.most)

pub returns-clause-starved : goal.returns-clause-starved
returns-clause-starved c =
    let p = csp_of c.args.run.problem.now in
    told_of c.args.run.problem.now c.start.new.self.problem c.args.run.from c.args.run.to c.args.run.most c.deliver_others.new.network (c.in_ok-_begun.ensures.problem ∙ c.in_ok-network.ensures.problem) c.in_ok-deliver_others.ensures.problem
    c.in_ok-deliver_others.ensures.stands c.end_of.result c.end_of.ensures c.deliveries.result c.deliveries.ensures
    (c.verdicts.ensures p c.denotes_csp.ensures.csp c.args.run.most (starving_choices p c.args.run.from c.args.run.to c.args.run.most))

pub returns-clause-numbers : goal.returns-clause-numbers
returns-clause-numbers c = own_numbers (csp_of c.args.run.problem.now) c.args.run.from c.args.run.to c.args.run.most (start (csp_of c.args.run.problem.now))

pub returns-clause-near : goal.returns-clause-near
returns-clause-near c = are_near (csp_of c.args.run.problem.now) c.args.run.from c.args.run.to c.args.run.most

pub returns-clause-verdicts : goal.returns-clause-verdicts
returns-clause-verdicts c =
    let p = csp_of c.args.run.problem.now in
    c.verdicts.ensures p c.denotes_csp.ensures.csp c.args.run.most (starving_choices p c.args.run.from c.args.run.to c.args.run.most)
