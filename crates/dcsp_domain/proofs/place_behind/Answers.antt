use Rattle.std.proofs.Common.{to_z-of_z, w64, SFits}
use Rattle.dcsp_domain.proofs.Parts.{rest_found, rest_missing}
use Rattle.dcsp_domain.proofs.place_behind.Goals as goal

pub returns-in-Ok-clause-above : goal.returns-in-Ok-clause-above
returns-in-Ok-clause-above c =
    let fits : SFits w64 c.args.bound = c.ranges.bound in
    let found = simp to_z-of_z at c.in-Ok.ensures.position in
    rest_found c.args.numbers.now c.args.bound c.in-Ok.place c.requires c.in-Ok.ensures.bound found

pub returns-in-Err-clause-above : goal.returns-in-Err-clause-above
returns-in-Err-clause-above c =
    let fits : SFits w64 c.args.bound = c.ranges.bound in
    let found = simp to_z-of_z at c.in-Err.ensures.position in
    rest_missing c.args.numbers.now c.args.bound c.in-Err.place c.requires found
