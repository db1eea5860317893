use Rattle.std.proofs.Common.{◌≡◌, ◌++◌, ℕ, take}
use Rattle.std.specs.Prelude.{codes, flat_map, decimal}
use Rattle.ngd_log.proofs.deletion.line_of.Given as goal

-- the numbers so far are written, each after a space
abbrev pub invariant-loop-number : goal.invariant-loop-number
invariant-loop-number l = l.line.items ≡ codes "d" ++ flat_map (λ (k : ℕ). codes " " ++ decimal k) (take l.number-index l.numbers)
