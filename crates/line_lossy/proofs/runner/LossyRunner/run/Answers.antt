use Rattle.std.proofs.Common.{[], ◌∷◌, codes, map, ap, subst, ◌∙◌, arith}
use Rattle.dcsp_defs.specs.Words.{below}
use Rattle.dcsp_script.specs.Scripts.{Append}
use Rattle.dcsp_rule.specs.Problems.{csp_of}
use Rattle.dcsp_problem.proofs.OwnerLists.{length-map_below}
use Rattle.law_runs.specs.Worlds.{begin}
use Rattle.abt_schedule.specs.Answers.{word_at}
use Rattle.abt_session.proofs.Pieces.{wrote_as}
use Rattle.abt_session.proofs.Whole.{on_ok}
use Rattle.line_lossy.specs.Asked.{seeded_words}
use Rattle.line_lossy.specs.Runners.{order_of, HasMade}
use Rattle.line_lossy.proofs.Counting.{used_short}
use Rattle.line_lossy.proofs.Endings.{seed_same, calm_same, words_same, start_stopped, seed_part_stopped, calm_part_stopped, run_written}
use Rattle.line_lossy.proofs.runner.LossyRunner.run.Goals as goal

pub returns-in_err-begin-clause-wrote : goal.returns-in_err-begin-clause-wrote
returns-in_err-begin-clause-wrote g c = λ out. start_stopped (order_of c.args.self.now) c.args.self.now.medium.problem c.args.self.now.log.now (seeded_words c.args.seed c.args.events) c.args.most c.from_residual.result c.from_residual.ensures (c.in_err-begin.ensures.wrote out)

pub returns-in_err-make_seeded-clause-wrote : goal.returns-in_err-make_seeded-clause-wrote
returns-in_err-make_seeded-clause-wrote g c = λ out.
    let old = c.args.self.now in
    let begun = c.in_ok-begin.ensures in
    let given = seeded_words c.args.seed c.args.events in
    let seeds = rw c.new.ensures at c.in_err-make_seeded.ensures.wrote in
    seed_part_stopped (order_of old) old.medium.problem old.log.now given c.args.most c.from_residual-in_err-make_seeded.result c.from_residual-in_err-make_seeded.ensures (begun.wrote out)
    (wrote_as (seed_same (order_of old) (order_of c.begin.new.self) old.medium.problem c.begin.new.self.medium.problem old.log.now c.begin.new.self.log.now given begun.same.order begun.same.problem begun.same.log) (seeds out))

pub make_calm-requires-clause-few : goal.make_calm-requires-clause-few
make_calm-requires-clause-few g c =
    let p = csp_of c.begin.new.self.medium.problem in
    let given = map (word_at c.new.result) (below c.args.events) in
    let short = used_short p given (begin p) in
    let long = length-map_below (word_at c.new.result) c.args.events in
    let made = c.in_ok-make_seeded.ensures.made.after.events in
    let fits = c.ranges.events.fits in
    let few = c.requires.few in
    omega (arith, short, long, made, fits, few)

pub returns-in_err-make_calm-clause-wrote : goal.returns-in_err-make_calm-clause-wrote
returns-in_err-make_calm-clause-wrote g c = λ out.
    let old = c.args.self.now in
    let begun = c.in_ok-begin.ensures in
    let given = seeded_words c.args.seed c.args.events in
    let seeds = rw c.new.ensures at c.in_ok-make_seeded.ensures.wrote in
    let made = rw c.new.ensures at c.in_ok-make_seeded.ensures.made in
    let same = c.in_ok-make_seeded.ensures.same in
    calm_part_stopped (order_of old) old.medium.problem old.log.now given c.args.most c.from_residual-in_err-make_calm.result c.from_residual-in_err-make_calm.ensures (begun.wrote out)
    (wrote_as (seed_same (order_of old) (order_of c.begin.new.self) old.medium.problem c.begin.new.self.medium.problem old.log.now c.begin.new.self.log.now given begun.same.order begun.same.problem begun.same.log) (seeds out))
    (wrote_as (calm_same (order_of old) (order_of c.make_seeded.new.self) old.medium.problem c.begin.new.self.medium.problem c.make_seeded.new.self.medium.problem old.log.now c.make_seeded.new.self.log.now given c.args.most (same.order ∙ begun.same.order) begun.same.problem (same.problem ∙ begun.same.problem) (same.log ∙ begun.same.log)) (c.in_err-make_calm.ensures.wrote _ out made))

pub returns-clause-wrote : goal.returns-clause-wrote
returns-clause-wrote g c = λ out.
    let old = c.args.self.now in
    let begun = c.in_ok-begin.ensures in
    let given = seeded_words c.args.seed c.args.events in
    let seeds = rw c.new.ensures at c.in_ok-make_seeded.ensures.wrote in
    let made = rw c.new.ensures at c.in_ok-make_seeded.ensures.made in
    let same = c.in_ok-make_seeded.ensures.same in
    let last = c.in_ok-make_calm.ensures.same in
    run_written (order_of old) old.medium.problem old.log.now given c.args.most c.append.result (begun.wrote out)
    (wrote_as (seed_same (order_of old) (order_of c.begin.new.self) old.medium.problem c.begin.new.self.medium.problem old.log.now c.begin.new.self.log.now given begun.same.order begun.same.problem begun.same.log) (seeds out))
    (wrote_as (calm_same (order_of old) (order_of c.make_seeded.new.self) old.medium.problem c.begin.new.self.medium.problem c.make_seeded.new.self.medium.problem old.log.now c.make_seeded.new.self.log.now given c.args.most (same.order ∙ begun.same.order) begun.same.problem (same.problem ∙ begun.same.problem) (same.log ∙ begun.same.log)) (c.in_ok-make_calm.ensures.wrote _ out made))
    (wrote_as (ap (λ l. Append l (codes "end\n") ∷ []) (last.log ∙ same.log ∙ begun.same.log)) (c.append.ensures.wrote out))

pub returns-clause-made : goal.returns-clause-made
returns-clause-made g c =
    let old = c.args.self.now in
    let begun = c.in_ok-begin.ensures in
    let given = seeded_words c.args.seed c.args.events in
    let made = rw c.new.ensures at c.in_ok-make_seeded.ensures.made in
    let same = c.in_ok-make_seeded.ensures.same in
    let words = words_same old.medium.problem c.begin.new.self.medium.problem c.make_seeded.new.self.medium.problem given c.args.most begun.same.problem (same.problem ∙ begun.same.problem) in
    on_ok c.append.result (subst (λ l. HasMade l c.make_calm.new.self) words (c.in_ok-make_calm.ensures.made _ made))
