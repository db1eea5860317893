use Rattle.std.proofs.Common.{pos, slice_index_or}
use Rattle.line_replay.proofs.SolutionTexts.{made_more}
use Rattle.line_replay.specs.Solutions.{output_line}
use Rattle.line_replay.proofs.solution.push_outputs.Goals as goal

pub loop-place-preserved : goal.loop-place-preserved
loop-place-preserved c =
    made_more (output_line (λ var. slice_index_or c.args.values.now var (pos 0))) c.args.problem.now.outputs c.loop-place.place c.output.result.now
    c.args.into.now.items _ _ c.output.ensures c.loop-place.invariant c.in_ok-push_output.ensures
