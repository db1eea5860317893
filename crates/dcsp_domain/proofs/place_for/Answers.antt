use Rattle.std.proofs.Common.{to_z-of_z, w64, SFits}
use Rattle.dcsp_domain.proofs.Parts.{front_found, front_missing}
use Rattle.dcsp_domain.proofs.place_for.Goals as goal

pub returns-in-Ok-clause-below : goal.returns-in-Ok-clause-below
returns-in-Ok-clause-below c =
    let fits : SFits w64 c.args.bound = c.ranges.bound in
    let found = simp to_z-of_z at c.in-Ok.ensures.position in
    front_found c.args.numbers.now c.args.bound c.in-Ok.place c.requires c.in-Ok.ensures.bound found

pub returns-in-Err-clause-below : goal.returns-in-Err-clause-below
returns-in-Err-clause-below c =
    let fits : SFits w64 c.args.bound = c.ranges.bound in
    let found = simp to_z-of_z at c.in-Err.ensures.position in
    front_missing c.args.numbers.now c.args.bound c.in-Err.place c.requires found
