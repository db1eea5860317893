use Rattle.std.proofs.Common.{rules, ◌∙◌, sym, ap, to_z-of_z, w64, SFits}
use Rattle.abt_session.specs.Sessions.{run_script}
use Rattle.abt_session.proofs.Pieces.{wrote_as}
use Rattle.abt_session.specs.Ordering.{order_in}
use Rattle.line_replay.specs.Settings.{settings_of}
use Rattle.line_solve.proofs.Making.{fits_narrowed, next_is, numbers_as, problem_next, tells_as, whole_next}
use Rattle.line_solve.proofs.runner.SearchRunner.run_next.Goals as goal

pub returns-in-None-clause-wrote : goal.returns-in-None-clause-wrote
returns-in-None-clause-wrote g c =
    let line = c.args.line in
    let own = c.args.self.now in
    let whole = whole_next c.args.model.problem.now own.search (sym c.better.ensures.better ∙ c.in-None.is) in
    wrote_as (ap run_script (next_is (order_in c.args.model) c.args.model.problem.now c.args.model.problem.now line.log.now (settings_of line.options) own.search own.rounds whole c.requires.rounds)) c.run_on.ensures.wrote

pub returns-in-None-clause-tells : goal.returns-in-None-clause-tells
returns-in-None-clause-tells g c =
    let line = c.args.line in
    let own = c.args.self.now in
    let whole = whole_next c.args.model.problem.now own.search (sym c.better.ensures.better ∙ c.in-None.is) in
    tells_as c.run_on.result (next_is (order_in c.args.model) c.args.model.problem.now c.args.model.problem.now line.log.now (settings_of line.options) own.search own.rounds whole c.requires.rounds) c.run_on.ensures.tells

pub returns-in-None-clause-numbers : goal.returns-in-None-clause-numbers
returns-in-None-clause-numbers g c =
    let line = c.args.line in
    let own = c.args.self.now in
    let whole = whole_next c.args.model.problem.now own.search (sym c.better.ensures.better ∙ c.in-None.is) in
    numbers_as line.options.record_file own.rounds c.run_on.result (next_is (order_in c.args.model) c.args.model.problem.now c.args.model.problem.now line.log.now (settings_of line.options) own.search own.rounds whole c.requires.rounds) c.run_on.ensures.numbers

pub returns-in-Ok-clause-wrote : goal.returns-in-Ok-clause-wrote
returns-in-Ok-clause-wrote g c =
    let line = c.args.line in
    let own = c.args.self.now in
    let fits : SFits w64 c.in-Some.better = search rules in
    let narrow = simp to_z-of_z at c.in-Ok.ensures in
    let next = problem_next c.args.model.problem.now c.in-Ok.narrowed own.search c.in-Some.better (sym c.better.ensures.better ∙ c.in-Some.is) narrow in
    wrote_as (ap run_script (next_is (order_in c.args.model) c.args.model.problem.now c.in-Ok.narrowed line.log.now (settings_of line.options) own.search own.rounds next c.requires.rounds)) c.run_on-in-Some.ensures.wrote

pub returns-in-Ok-clause-tells : goal.returns-in-Ok-clause-tells
returns-in-Ok-clause-tells g c =
    let line = c.args.line in
    let own = c.args.self.now in
    let fits : SFits w64 c.in-Some.better = search rules in
    let narrow = simp to_z-of_z at c.in-Ok.ensures in
    let next = problem_next c.args.model.problem.now c.in-Ok.narrowed own.search c.in-Some.better (sym c.better.ensures.better ∙ c.in-Some.is) narrow in
    tells_as c.run_on-in-Some.result (next_is (order_in c.args.model) c.args.model.problem.now c.in-Ok.narrowed line.log.now (settings_of line.options) own.search own.rounds next c.requires.rounds) c.run_on-in-Some.ensures.tells

pub returns-in-Ok-clause-numbers : goal.returns-in-Ok-clause-numbers
returns-in-Ok-clause-numbers g c =
    let line = c.args.line in
    let own = c.args.self.now in
    let fits : SFits w64 c.in-Some.better = search rules in
    let narrow = simp to_z-of_z at c.in-Ok.ensures in
    let next = problem_next c.args.model.problem.now c.in-Ok.narrowed own.search c.in-Some.better (sym c.better.ensures.better ∙ c.in-Some.is) narrow in
    numbers_as line.options.record_file own.rounds c.run_on-in-Some.result (next_is (order_in c.args.model) c.args.model.problem.now c.in-Ok.narrowed line.log.now (settings_of line.options) own.search own.rounds next c.requires.rounds) c.run_on-in-Some.ensures.numbers

pub run_on-requires-in-Some-clause-fits : goal.run_on-requires-in-Some-clause-fits
run_on-requires-in-Some-clause-fits g c =
    let fits : SFits w64 c.in-Some.better = search rules in
    let narrow = simp to_z-of_z at c.in-Ok.ensures in
    fits_narrowed (order_in c.args.model) c.args.model.problem.now c.in-Ok.narrowed c.in-Some.better narrow c.requires.model.order
