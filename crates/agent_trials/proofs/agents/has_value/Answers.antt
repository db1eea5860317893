use Rattle.std.proofs.Common.{◌≡◌, subst, List, ℤ, Some, rules, w64, SFits, slice_get}
use Rattle.std.proofs.lemmas.Int.{to_z-of_z}
use Rattle.dcsp_defs.specs.Words.{In}
use Rattle.dcsp_defs.proofs.Lists.{get-In}
use Rattle.agent_trials.proofs.agents.has_value.Goals as goal

pub returns-in-Some : goal.returns-in-Some
returns-in-Some c = λ yes.
    let in_range : SFits w64 c.args.value = search rules in
    let found = subst (λ (z : ℤ). slice_get c.domain.result.now c.in-Some.field-0 ≡ Some z) (to_z-of_z w64 c.args.value in_range) c.in-Some.ensures.found in
    subst (λ (values : List ℤ). In c.args.value values) c.domain.ensures (get-In c.domain.result.now c.in-Some.field-0 c.args.value found)
