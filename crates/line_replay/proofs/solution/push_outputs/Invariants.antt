use Rattle.std.proofs.Common.{◌≡◌, ◌++◌, pos, take, flat_map, slice_index_or}
use Rattle.line_replay.specs.Solutions.{output_line}
use Rattle.line_replay.proofs.solution.push_outputs.Given as goal

abbrev pub invariant-loop-place : goal.invariant-loop-place
invariant-loop-place l = l.into.items ≡ l.initial.into.items ++ flat_map (output_line (λ var. slice_index_or l.values var (pos 0))) (take l.place l.problem.outputs)
