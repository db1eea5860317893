use Rattle.std.proofs.Common.{◌∙◌, List, length, ap, sym}
use Rattle.dcsp_rule.specs.Problems.{csp_of}
use Rattle.abt_defs.specs.Agents.{Record}
use Rattle.abt_agent.specs.States.{stands_for}
use Rattle.abt_measure.specs.Counting.{told_came}
use Rattle.abt_measure.proofs.StartLaws.{first_checks}
use Rattle.abt_measure.proofs.starting.count_settling.Goals as goal

pub returns-clause-counts : goal.returns-clause-counts
returns-clause-counts c = λ acts a net st h f.
    let s = c.agent.result.now in
    let seat = c.agent.ensures.seat c.requires.sound in
    c.count.ensures.counted (csp_of c.args.network.now.problem) acts a h (record {
      agent_is = sym f.agent;
      came_is = sym (ap told_came f.came);
      checks_are = c.in_ok-checks.ensures ∙ first_checks c.args.network.now.problem a c.args.agent c.args.sent.now net f s.problem s.me (stands_for s) seat.problem seat.me (c.agent.ensures.machine net st);
      recorded_is = sym (ap (λ (l : List Record). length l) f.recorded);
      sent_is = f.sent_is;
    })
