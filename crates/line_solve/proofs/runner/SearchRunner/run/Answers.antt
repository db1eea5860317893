use Rattle.std.proofs.Common.{◌∙◌, sym, arith}
use Rattle.dcsp_script.specs.Outsides.{world}
use Rattle.abt_session.specs.Ordering.{order_in}
use Rattle.line_replay.specs.Settings.{settings_of}
use Rattle.line_solve.specs.Searching.{best_search}
use Rattle.line_solve.proofs.Turns.{first_turn, room_is, within_is, next_turn, turn_stopped, last_turn}
use Rattle.line_solve.proofs.runner.SearchRunner.run.Goals as goal

pub loop-self-init : goal.loop-self-init
loop-self-init g c =
    let line = c.args.line in
    first_turn (best_search (order_in c.args.model) c.args.model.problem.now line.log.now (settings_of line.options)) c.args.self.now (world g.F.Folder.place g.S.Sink.stream c.args.outside.now) c.requires.fresh

pub make_round-requires-clause-made : goal.make_round-requires-clause-made
make_round-requires-clause-made g c = c.loop-self.invariant.made

pub make_round-requires-clause-few : goal.make_round-requires-clause-few
make_round-requires-clause-few g c =
    let line = c.args.line in
    let asked = best_search (order_in c.args.model) c.args.model.problem.now line.log.now (settings_of line.options) in
    (room_is asked (record { problem = c.requires.model.problem; order = c.requires.model.order }) _ _ _ _ c.loop-self.invariant (c.done.ensures.room c.loop-self-test.true)).few

pub loop-self-smaller : goal.loop-self-smaller
loop-self-smaller g c =
    let line = c.args.line in
    let asked = best_search (order_in c.args.model) c.args.model.problem.now line.log.now (settings_of line.options) in
    let room = (room_is asked (record { problem = c.requires.model.problem; order = c.requires.model.order }) _ _ _ _ c.loop-self.invariant (c.done.ensures.room c.loop-self-test.true)).room in
    let more = c.in_ok-make_round.ensures.made.rounds in
    omega (arith, room, more)

pub loop-self-preserved : goal.loop-self-preserved
loop-self-preserved g c =
    let line = c.args.line in
    let asked = best_search (order_in c.args.model) c.args.model.problem.now line.log.now (settings_of line.options) in
    next_turn asked c.loop-self.self.rounds c.loop-self.self c.make_round.new.self _ _ _ c.loop-self.invariant c.in_ok-make_round.ensures.made c.in_ok-make_round.ensures.wrote

pub returns-in_err-make_round-clause-wrote : goal.returns-in_err-make_round-clause-wrote
returns-in_err-make_round-clause-wrote g c =
    let line = c.args.line in
    let asked = best_search (order_in c.args.model) c.args.model.problem.now line.log.now (settings_of line.options) in
    let room = room_is asked (record { problem = c.requires.model.problem; order = c.requires.model.order }) _ _ _ _ c.loop-self.invariant (c.done.ensures.room c.loop-self-test.true) in
    let still = sym c.done.ensures.done ∙ c.loop-self-test.true in
    let within = within_is asked _ _ _ _ c.loop-self.invariant room still in
    turn_stopped asked c.loop-self.self.rounds c.loop-self.self _ _ _ c.loop-self.invariant within _ c.from_residual.ensures c.in_err-make_round.ensures.wrote

pub returns-clause-wrote : goal.returns-clause-wrote
returns-clause-wrote g c =
    let line = c.args.line in
    let asked = best_search (order_in c.args.model) c.args.model.problem.now line.log.now (settings_of line.options) in
    let over = sym c.done.ensures.done ∙ c.loop-self-test.false in
    (last_turn asked c.loop-self.self.rounds c.loop-self.self _ _ c.loop-self.invariant c.done.ensures.few over).0

pub returns-clause-made : goal.returns-clause-made
returns-clause-made g c =
    let line = c.args.line in
    let asked = best_search (order_in c.args.model) c.args.model.problem.now line.log.now (settings_of line.options) in
    let over = sym c.done.ensures.done ∙ c.loop-self-test.false in
    (last_turn asked c.loop-self.self.rounds c.loop-self.self _ _ c.loop-self.invariant c.done.ensures.few over).1
