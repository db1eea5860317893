use Rattle.std.proofs.Common.{length, sym, ap, subst, ◌∙◌}
use Rattle.dcsp_defs.specs.Words.{In}
use Rattle.abt_defs.specs.Steps.{Outcome, settle}
use Rattle.abt_defs.specs.Network.{next_number}
use Rattle.dcsp_rule.specs.Problems.{csp_of}
use Rattle.abt_agent.specs.Turns.{IsTurn}
use Rattle.abt_agent.specs.States.{stands_for}
use Rattle.abt_network.specs.Standing.{state_at}
use Rattle.abt_network.proofs.Sending.{went_is, went_stamped, receivers_exist, seated_after, own_fresh}
use Rattle.abt_network.proofs.Beginning.{settle_exists, same_settle, has_settled}
use Rattle.abt_network.proofs.body.NetworkBody.settle_one.Goals as goal

pub start_agent-requires-clause-fresh : goal.start_agent-requires-clause-fresh
start_agent-requires-clause-fresh c = own_fresh c.args.self.now.problem.now c.args.agent (state_at c.args.self.now.agents.items c.args.agent) c.requires.fresh

pub post-requires-clause-receivers : goal.post-requires-clause-receivers
post-requires-clause-receivers c =
    let p = c.args.self.now.problem.now in
    let i = c.args.agent in
    let old = state_at c.args.self.now.agents.items i in
    receivers_exist c.args.self.now.out c.start_agent.new.out (settle (csp_of old.problem) old.me 0 (stands_for old)).sent (length p.domains) c.args.self.now.links.agents (c.in_ok-turn.ensures.does 0).sent c.requires.tidy.none_out
    (λ x u. settle_exists (csp_of p) c.denotes_csp.ensures.csp i 0 (stands_for old) c.requires.exists c.requires.fresh.agent x (subst (λ (o : Outcome). In x o.sent) (same_settle p i 0 old c.requires.fresh) u))
    (sym c.requires.tidy.sized.linked)

pub post-requires-clause-stamps : goal.post-requires-clause-stamps
post-requires-clause-stamps c =
    let old = state_at c.args.self.now.agents.items c.args.agent in
    went_stamped c.args.self.now.out c.start_agent.new.out (settle (csp_of old.problem) old.me 0 (stands_for old)).sent (c.in_ok-turn.ensures.does 0).sent c.requires.tidy.none_out

pub returns-clause-settles : goal.returns-clause-settles
returns-clause-settles c net st =
    let p = c.args.self.now.problem.now in
    let i = c.args.agent in
    let n = next_number net in
    let old = state_at c.args.self.now.agents.items i in
    let does = c.in_ok-turn.ensures.does n in
    let same = same_settle p i n old c.requires.fresh in
    has_settled p c.args.self.now.agents.items c.start_agent.new.agents.items c.args.self.now.links c.post.new.links net i c.start_agent.new.out c.in_ok-turn.turn c.step_of.result st c.requires.exists
    (does.agent ∙ ap (λ (o : Outcome). o.agent) same)
    (went_is c.args.self.now.out c.start_agent.new.out (settle (csp_of old.problem) old.me n (stands_for old)).sent does.sent c.requires.tidy.none_out ∙ ap (λ (o : Outcome). o.sent) same)
    (subst (λ (o : Outcome). IsTurn (stands_for old) o c.in_ok-turn.turn) same does.turn_is) c.in_ok-turn.ensures.first c.step_of.ensures c.in_ok-turn.ensures.others c.in_ok-post.ensures.lists

pub returns-clause-tidy : goal.returns-clause-tidy
returns-clause-tidy c =
    let does = c.in_ok-turn.ensures.does 0 in
    record {
      sized = record { long = c.in_ok-turn.ensures.long ∙ c.requires.tidy.sized.long; linked = c.in_ok-post.ensures.agents ∙ c.requires.tidy.sized.linked };
      seated = seated_after c.args.self.now.problem.now c.args.self.now.agents.items c.start_agent.new.agents.items c.args.agent c.requires.tidy.seated c.requires.exists does.problem does.me does.good c.in_ok-turn.ensures.others;
      none_out = c.in_ok-post.ensures.out;
      stamped = c.in_ok-post.ensures.stamped;
    }
