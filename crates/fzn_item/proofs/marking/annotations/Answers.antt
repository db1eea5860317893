use Rattle.std.proofs.Common.{refl}
use Rattle.fzn_item.specs.Marks.{AreAnnotations}
use Rattle.fzn_item.proofs.marking.annotations.Goals as goal

pub returns-in-None-clause-reads : goal.returns-in-None-clause-reads
returns-in-None-clause-reads c = AreAnnotations.none refl (refl, c.in-None.ensures.reads)
