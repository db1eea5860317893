use Rattle.std.proofs.Common.{length}
use Rattle.ngd_rewrite.specs.Marks.{has_mark}
use Rattle.ngd_rewrite.proofs.Choosing.{marked_below, marked_steps}
use Rattle.ngd_rewrite.proofs.trim.Trimmed.of.Goals as goal

pub invariant_of-result : goal.invariant_of-result
invariant_of-result c = marked_below (has_mark c.args.needed.now) (length c.args.needed.now) (length c.args.steps.now) c.in_ok-places.places c.requires.as_many c.in_ok-places.ensures

pub returns : goal.returns
returns c = marked_steps c.args.steps.now c.args.needed.now c.in_ok-numbers.numbers.items c.requires.back c.requires.as_many c.in_ok-numbers.ensures c.in_ok-places.places c.in_ok-places.ensures
