use Rattle.std.proofs.Common.{◌≡◌, ℕ}
use Rattle.abt_links.specs.OpenPairs.{number_in}
use Rattle.abt_links.proofs.receivers.Receivers.make_slots.Given as goal

abbrev pub invariant-loop-near : goal.invariant-loop-near
invariant-loop-near l = (i : ℕ) → number_in l.self i ≡ number_in l.initial.self i
