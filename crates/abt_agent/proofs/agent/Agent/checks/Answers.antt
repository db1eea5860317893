use Rattle.std.proofs.Common.{◌≡◌, subst}
use Rattle.std.specs.Prelude.{IfOk}
use Rattle.dcsp_rule.specs.Problems.{csp_of}
use Rattle.abt_defs.specs.Agents.{known}
use Rattle.abt_defs.specs.Checks.{checks}
use Rattle.abt_agent.specs.States.{State, stands_for}
use Rattle.abt_parts.specs.Checked.{as_checks}
use Rattle.abt_parts.specs.declared.checks.Checks.{Checks}
use Rattle.abt_agent.proofs.agent.Agent.checks.Goals as goal

pub returns : goal.returns
returns c = subst (λ (s : State). IfOk c.checks.result (λ (sum : Checks). as_checks sum ≡ checks (csp_of s.problem) s.me (known (stands_for s)) (stands_for s).recorded c.args.own)) c.self.view_is c.checks.ensures
