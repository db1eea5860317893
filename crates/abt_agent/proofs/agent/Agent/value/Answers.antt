use Rattle.std.proofs.Common.{◌≡◌, ◌∙◌, ap, subst, false}
use Rattle.dcsp_defs.specs.Words.{In}
use Rattle.dcsp_defs.specs.Csp.{domain}
use Rattle.law_agent.specs.Stores.{IsBoundedStore}
use Rattle.law_agent.specs.Merges.{IsUnionOfReasons}
use Rattle.dcsp_rule.specs.Problems.{csp_of}
use Rattle.abt_agent.specs.States.{State, stands_for}
use Rattle.abt_agent.specs.Bodies.{agent_of}
use Rattle.abt_agent.proofs.agent.Agent.value.Goals as goal

pub returns-clause-bounded : goal.returns-clause-bounded
returns-clause-bounded c =
    subst (λ (s : State). s.spent ≡ false → IsBoundedStore (csp_of s.problem) s.me (stands_for s)) c.self.view_is
    (λ good. c.sound_stores.ensures (csp_of c.self.inside.body.known.problem.now) c.self.inside.body.known.me (agent_of c.self.inside.body) (c.self.invariant good).sound)

pub returns-clause-merges : goal.returns-clause-merges
returns-clause-merges c =
    subst (λ (s : State). s.spent ≡ false → IsUnionOfReasons (csp_of s.problem) s.me (stands_for s)) c.self.view_is
    (λ good. c.sound_merges.ensures (csp_of c.self.inside.body.known.problem.now) c.denotes_csp.ensures.csp c.self.inside.body.known.me (agent_of c.self.inside.body) (c.self.invariant good).sound)

pub returns-clause-in_domain : goal.returns-clause-in_domain
returns-clause-in_domain c good v e =
    let kept = c.self.invariant (ap (λ (s : State). s.spent) c.self.view_is ∙ good) in
    subst (λ (s : State). In v (domain (csp_of s.problem) s.me)) c.self.view_is (kept.sound.in_domain v e)
