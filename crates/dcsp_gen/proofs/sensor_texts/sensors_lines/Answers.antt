use Rattle.std.proofs.Common.{◌≡◌, ◌*◌, List, ℕ, Vec, Global, true, length, arith, ◌∙◌, ap}
use Rattle.abt_schedule.specs.Answers.{word_at}
use Rattle.dcsp_gen.proofs.Selecting.{lists_count}
use Rattle.dcsp_gen.proofs.sensor_texts.sensors_lines.Goals as goal

pub tracking-requires-clause-targets : goal.tracking-requires-clause-targets
tracking-requires-clause-targets c =
    let sizes = c.args.sizes in
    let many : length c.deref.result.now ≡ sizes.targets =
    ap (λ (z : List (Vec ℕ Global)). length z) c.deref.ensures.value
    ∙ lists_count c.in_ok-seen.seen.items true (word_at c.args.words.now) sizes.sees (sizes.side * sizes.side) sizes.targets c.in_ok-seen.ensures.lists
    in
    omega (arith, many, c.requires.targets)
