use Rattle.std.proofs.Common.{◌≡◌, drop}
use Rattle.dcsp_defs.specs.Csp.{domain}
use Rattle.dcsp_rule.specs.Problems.{csp_of}
use Rattle.abt_defs.specs.Agents.{values_in}
use Rattle.abt_parts.specs.Views.{view_of}
use Rattle.abt_parts.specs.Stores.{records_of}
use Rattle.abt_parts.specs.Checked.{as_checks, sum_of}
use Rattle.abt_agent.specs.Examined.{checks_but}
use Rattle.abt_agent.proofs.knowledge.Knowledge.other_checks.Given as goal

abbrev pub invariant-loop-place : goal.invariant-loop-place
invariant-loop-place l =
    sum_of (as_checks l.sum) (checks_but l.self.problem.now l.self.me (values_in (view_of l.self.view)) (records_of l.self.store) l.own (drop l.place (domain (csp_of l.self.problem.now) l.self.me)))
    ≡ sum_of (as_checks l.fn.so_far) (checks_but l.self.problem.now l.self.me (values_in (view_of l.self.view)) (records_of l.self.store) l.own (domain (csp_of l.self.problem.now) l.self.me))
