use Rattle.dcsp_rule.specs.Problems.{csp_of}
use Rattle.abt_defs.specs.Network.{deliver}
use Rattle.abt_network.specs.Rooms.{made_in}
use Rattle.abt_network.specs.Standing.{reached}
use Rattle.line_cnf.proofs.Steps.{step_binary}
use Rattle.line_cnf.proofs.ClauseLoop.{on_ok, after_delivery}
use Rattle.line_cnf.proofs.clause_run.ClauseRun.deliver.Goals as goal

pub keep_made-requires : goal.keep_made-requires
keep_made-requires c =
    let s = c.args.self.now.network in
    step_binary s.problem c.requires.formula (reached s c.requires.on_run.0).steps (made_in c.deliver_into.new.room) (c.in_ok-deliver_into.ensures.leads c.requires.on_run.0 c.requires.on_run.1).right

pub returns : goal.returns
returns c = λ net h.
    let p = c.args.self.now.network.problem in
    let d = c.in_ok-deliver_into.ensures in
    let made = d.delivers net h.stands in
    on_ok c.keep_made.result c.keep_made.ensures.clauses (λ kept.
    after_delivery p net (deliver (csp_of p) c.args.choice net) c.args.self.now c.keep_made.new.self c.deliver_into.new.self h c.keep_made.ensures.network d.problem made.stands d.sound d.begun (made_in c.deliver_into.new.room) made.steps kept)
