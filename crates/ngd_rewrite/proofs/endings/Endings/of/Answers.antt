use Rattle.std.proofs.Common.{List, subst}
use Rattle.dcsp_defs.specs.declared.Step.{Step}
use Rattle.ngd_rewrite.specs.Endings.{AreEnds}
use Rattle.ngd_rewrite.proofs.GroupLaws.{within_ends}
use Rattle.ngd_rewrite.proofs.endings.Endings.of.Goals as goal

pub chains_of-requires : goal.chains_of-requires
chains_of-requires c = rw c.deref.ensures.value (within_ends c.in_ok-ends.ends.items c.steps.result.now c.in_ok-ends.ensures)

pub returns : goal.returns
returns c = c.chains_of.ensures c.args.derivation.now (rw c.deref.ensures.value (subst (λ (ss : List Step). AreEnds ss c.in_ok-ends.ends.items) c.steps.ensures c.in_ok-ends.ensures))
