use Rattle.ngd_rewrite.specs.Endings.{steps_in}
use Rattle.ngd_rewrite.proofs.GroupLaws.{within_ends}
use Rattle.ngd_rewrite.proofs.endings.Endings.of_log.Goals as goal

pub chains_of-requires : goal.chains_of-requires
chains_of-requires c = rw c.deref.ensures.value (within_ends c.in_ok-ends.ends.items (steps_in c.args.text.now) c.in_ok-ends.ensures.1)
