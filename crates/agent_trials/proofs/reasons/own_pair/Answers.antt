use Rattle.std.proofs.Common.{◌≡◌, ap, ◌∙◌, sym, rules, w64, SFits}
use Rattle.std.specs.Prelude.{pos}
use Rattle.std.proofs.lemmas.Int.{to_z-of_z}
use Rattle.dcsp_defs.specs.Pairs.{pair_of}
use Rattle.abt_reason.specs.Kept.{own_at}
use Rattle.abt_reason.proofs.Loops.{get_or_found}
use Rattle.agent_trials.proofs.reasons.own_pair.Goals as goal

pub returns : goal.returns
returns c =
    let is : own_at c.args.domain.now c.args.place ≡ c.value.result = get_or_found c.args.domain.now c.args.place c.value.result (pos 0) c.value.ensures in
    let in_range : SFits w64 c.value.result = search rules in
    ap (pair_of c.args.agent) (to_z-of_z w64 c.value.result in_range ∙ sym is)
