use Rattle.std.proofs.Common.{◌≡◌, subst}
use Rattle.abt_defs.specs.Agents.{known}
use Rattle.abt_reason.specs.Causes.{reason_for, value_at}
use Rattle.abt_agent.specs.States.{State, stands_for}
use Rattle.abt_agent.proofs.agent.Agent.reason.Goals as goal

pub returns : goal.returns
returns c = subst (λ (s : State). c.reason_at.result ≡ reason_for s.problem s.me (known (stands_for s)) s.store (value_at s.problem s.me c.args.place)) c.self.view_is c.reason_at.ensures
