use Rattle.std.proofs.Common.{ℕ, ◌++◌, List, ap, sym, ◌∙◌, arith}
use Rattle.dcsp_gen.proofs.Ranges.{flat_map_more}
use Rattle.dcsp_gen.specs.Binary.{values_with}
use Rattle.dcsp_gen.proofs.binary_texts.value_pairs.Goals as goal

pub loop-first-preserved : goal.loop-first-preserved
loop-first-preserved c =
    let first = c.loop-first.first in
    c.in_ok-push_values_with.ensures
    ∙ ap (λ (z : List (ℕ × ℕ)). z ++ values_with c.args.count first) c.loop-first.invariant
    ∙ sym (flat_map_more (values_with c.args.count) 0 first first (omega arith))
