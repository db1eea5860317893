use Rattle.std.proofs.Common.{drop, ◌+◌, false}
use Rattle.std.proofs.lemmas.List.{drop_more, drop_all}
use Rattle.std.proofs.lemmas.Result.{err_from_is_err_and}
use Rattle.fzn_scope.specs.Arguments.{arguments_in}
use Rattle.fzn_scope.specs.declared.form.Place.TheVariants.{Scalar}
use Rattle.fzn_scope.proofs.LentSteps.{arguments_end, argument_begins, argument_refused, argument_comma, argument_last}
use Rattle.fzn_scope.proofs.place.Context.put_arguments.Goals as goal
use Rattle.fzn_scope.proofs.place.Context.put_arguments.Goals.{in-Some, in-None}

pub argument_at-requires : goal.argument_at-requires
argument_at-requires c =
    let some = drop_more c.args.places.now c.loop-place.place-index (Scalar false) c.loop-place-test.true in
    argument_begins c.args.self.text.now c.args.self.names.now c.args.places.now c.args.arguments (arguments_in c.loop-place.done) _ _ (drop (c.loop-place.place-index + 1) c.args.places.now) c.loop-place.rest.now some c.loop-place.invariant

pub returns-in_err-behind : goal.returns-in_err-behind
returns-in_err-behind c = λ exprs are.
    let p = err_from_is_err_and c.from_residual.result c.from_residual.ensures.1 in
    let some = drop_more c.args.places.now c.loop-place.place-index (Scalar false) c.loop-place-test.true in
    let begins = argument_begins c.args.self.text.now c.args.self.names.now c.args.places.now c.args.arguments (arguments_in c.loop-place.done) _ _ (drop (c.loop-place.place-index + 1) c.args.places.now) c.loop-place.rest.now some c.loop-place.invariant in
    rw (p.1, p.2) (argument_refused c.args.self.text.now c.args.self.names.now c.args.places.now c.args.arguments (arguments_in c.loop-place.done) _ _ (drop (c.loop-place.place-index + 1) c.args.places.now) c.loop-place.rest.now some c.loop-place.invariant _ (c.in_err-behind.ensures begins.0 begins.1 begins.2) exprs are)

pub loop-place-preserved : goal.loop-place-preserved
loop-place-preserved c =
    let some = drop_more c.args.places.now c.loop-place.place-index (Scalar false) c.loop-place-test.true in
    let begins = argument_begins c.args.self.text.now c.args.self.names.now c.args.places.now c.args.arguments (arguments_in c.loop-place.done) _ _ (drop (c.loop-place.place-index + 1) c.args.places.now) c.loop-place.rest.now some c.loop-place.invariant in
    let given = c.in_ok-behind.ensures begins.0 begins.1 begins.2 in
    elim c.match-after_mark.branch [
      | in-Some w ↦ rw w.rest-is (argument_comma c.args.self.text.now c.args.self.names.now c.args.places.now c.args.arguments (arguments_in c.loop-place.done) _ _ (drop (c.loop-place.place-index + 1) c.args.places.now) c.loop-place.rest.now some c.loop-place.invariant (arguments_in c.argument_at.new.done) c.in_ok-behind.behind.now given.0 given.1 w.in-Some.next.now w.in-Some.ensures.reads)
      | in-None w ↦ rw w.rest-is (argument_last c.args.self.text.now c.args.self.names.now c.args.places.now c.args.arguments (arguments_in c.loop-place.done) _ _ (drop (c.loop-place.place-index + 1) c.args.places.now) c.loop-place.rest.now some c.loop-place.invariant (arguments_in c.argument_at.new.done) c.in_ok-behind.behind.now given.0 given.1 w.in-None.ensures.reads)
    ]

pub returns : goal.returns
returns c = λ exprs are. arguments_end c.args.self.text.now c.args.self.names.now c.args.places.now c.args.arguments (arguments_in c.loop-place.done) _ c.loop-place.rest.now c.loop-place.invariant (drop_all c.loop-place.place-index c.args.places.now c.loop-place-test.false) exprs are
