use Rattle.std.proofs.Common.{◌≡◌, ◌++◌, map, take}
use Rattle.rup_check.specs.Stored.{place_of}
use Rattle.rup_check.proofs.places.add_places.Given as goal

abbrev pub invariant-loop-number : goal.invariant-loop-number
invariant-loop-number l = l.places.items ≡ l.initial.places.items ++ map place_of (take l.number-index l.numbers)
