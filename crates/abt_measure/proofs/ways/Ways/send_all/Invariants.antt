use Rattle.std.proofs.Common.{◌≡◌, ℕ, ◌++◌, length, drop}
use Rattle.abt_measure.specs.Carrying.{clocks_on, receivers_of, sent_with}
use Rattle.abt_measure.proofs.ways.Ways.send_all.Given as goal

abbrev pub invariant-loop-message : goal.invariant-loop-message
invariant-loop-message l = (length l.self ≡ length l.initial.self)
    × ((a b : ℕ) → clocks_on l.self a b ++ sent_with l.from l.clock (receivers_of (drop l.message-index l.sent)) a b ≡ clocks_on l.initial.self a b ++ sent_with l.from l.clock (receivers_of l.sent) a b)
