use Rattle.dcsp_defs.proofs.Determined.{values_determine}
use Rattle.dcsp_defs.proofs.nogood.values_determine.Goals as goal

pub returns : goal.returns
returns c = values_determine
