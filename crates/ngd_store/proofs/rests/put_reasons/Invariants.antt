use Rattle.std.proofs.Common.{take}
use Rattle.ngd_store.specs.Rests.{HasAdded}
use Rattle.ngd_store.proofs.rests.put_reasons.Given as goal

-- the words of the reasons so far were added
abbrev pub invariant-loop-reason : goal.invariant-loop-reason
invariant-loop-reason l = HasAdded l.fn.words.items l.words.items (take l.reason-index l.reasons)
