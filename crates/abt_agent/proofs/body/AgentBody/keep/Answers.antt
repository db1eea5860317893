use Rattle.std.proofs.lemmas.Result.{on_ok_weaker}
use Rattle.dcsp_defs.specs.Pairs.{value_at}
use Rattle.dcsp_rule.specs.Problems.{csp_of}
use Rattle.abt_defs.specs.Steps as steps
use Rattle.abt_parts.specs.Stores.{records_of}
use Rattle.abt_agent.specs.Bodies.{agent_of}
use Rattle.abt_agent.proofs.Fitting.{fitting, wanted_fits}
use Rattle.abt_agent.proofs.Learns.{sized_still}
use Rattle.abt_agent.proofs.body.AgentBody.keep.Goals as goal

pub returns-clause-sized : goal.returns-clause-sized
returns-clause-sized c = on_ok_weaker c.keep.result (λ in_step. sized_still c.args.self.now c.keep.new.self c.requires.sized c.keep.ensures.owner in_step) c.keep.ensures.in_step

pub keep-requires-clause-fits : goal.keep-requires-clause-fits
keep-requires-clause-fits c =
    let known = c.args.self.now.known in
    let nogood = c.args.recorded.nogood in
    fitting (csp_of known.problem.now) known.me (agent_of c.args.self.now) c.args.recorded c.requires.nogood
    (wanted_fits c.is_wanted.result (steps.fits known.me nogood (agent_of c.args.self.now)) (steps.is_refused known.me (records_of known.store) (value_at nogood known.me)) c.if-not-is_wanted.false c.is_wanted.ensures.wanted)
