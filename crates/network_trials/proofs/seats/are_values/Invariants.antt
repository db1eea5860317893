use Rattle.std.proofs.Common.{take}
use Rattle.std.specs.Prelude.{All}
use Rattle.dcsp_defs.specs.declared.nogood.Pair.{Pair}
use Rattle.dcsp_defs.specs.Words.{In}
use Rattle.dcsp_defs.specs.Csp.{domain}
use Rattle.dcsp_rule.specs.Problems.{csp_of}
use Rattle.network_trials.proofs.seats.are_values.Given as goal

abbrev pub invariant-loop-pair : goal.invariant-loop-pair
invariant-loop-pair l = All (λ (pair : Pair). In pair.value (domain (csp_of l.problem) pair.var)) (take l.pair-index l.pairs)
