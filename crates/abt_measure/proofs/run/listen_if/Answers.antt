use Rattle.std.proofs.Common.{◌≡◌, ◌∷◌, ◌++◌, [], true}
use Rattle.dcsp_rule.specs.Problems.{csp_of}
use Rattle.abt_defs.specs.Events.{acts}
use Rattle.abt_measure.specs.Learning.{AreLearned}
use Rattle.abt_measure.proofs.ClockLaws.{on_ok}
use Rattle.abt_measure.proofs.run.listen_if.Goals as goal

pub returns-then-not-listens-clause-learned : goal.returns-then-not-listens-clause-learned
returns-then-not-listens-clause-learned c = λ choices st h e. absurd (let f = c.if-not-listens.true in cc)

pub returns-clause-learned : goal.returns-clause-learned
returns-clause-learned c = λ choices st h.
    let p = csp_of c.args.network.now.problem in
    let is : c.args.listens ≡ true = cc in
    on_ok c.listen.result (c.listen.ensures.learned choices st (h is)) (λ (k : AreLearned (acts p (choices ++ c.args.choice ∷ [])) c.listen.new.learned). λ (e : c.args.listens ≡ true). k)
