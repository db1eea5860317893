use Rattle.std.proofs.Common.{ap, ◌∙◌, length, refl, None, false}
use Rattle.abt_defs.specs.Agents.{shares}
use Rattle.dcsp_rule.specs.Problems.{csp_of}
use Rattle.abt_agent.proofs.Fresh.{fresh_is, fresh_good, length-marks}
use Rattle.abt_agent.proofs.body.AgentBody.new.Goals as goal

pub returns-clause-agent : goal.returns-clause-agent
returns-clause-agent c =
    fresh_is c.args.problem.now (c.agents_start_sound.ensures (csp_of c.args.problem.now) c.denotes_csp.ensures.csp) c.args.me (record { known = c.in_ok-known.known; value = None; stamp = 0; waits = false; tells = c.in_ok-tells.tells; linked = c.in_ok-linked.linked; room = c.in_ok-room.room })
    refl refl refl c.in_ok-known.ensures.view c.in_ok-known.ensures.store c.in_ok-tells.ensures c.in_ok-linked.ensures

pub returns-clause-good : goal.returns-clause-good
returns-clause-good c =
    fresh_good c.args.problem.now (c.agents_start_sound.ensures (csp_of c.args.problem.now) c.denotes_csp.ensures.csp) c.args.me (record { known = c.in_ok-known.known; value = None; stamp = 0; waits = false; tells = c.in_ok-tells.tells; linked = c.in_ok-linked.linked; room = c.in_ok-room.room })
    c.in_ok-known.ensures.owner c.in_ok-known.ensures.in_step
    c.in_ok-tells.ensures
    (ap length c.in_ok-linked.ensures ∙ length-marks (shares (csp_of c.args.problem.now) c.args.me) c.args.me)
    (returns-clause-agent c)
