use Rattle.std.specs.Prelude.{◌≡◌, ◌+◌, length}
use Rattle.abt_trials.proofs.logs.read_in_pieces.Given as goal

-- what was fed and what is left are the text
abbrev pub invariant-loop-rest : goal.invariant-loop-rest
invariant-loop-rest l = l.reader.fed + length l.rest ≡ length l.text

abbrev pub decreases-loop-rest : goal.decreases-loop-rest
decreases-loop-rest l = length l.rest
