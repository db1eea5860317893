use Rattle.std.proofs.Common.{◌≡◌, ◌++◌, drop, string_bytes, flat_map}
use Rattle.dcsp_gen.specs.Lists.{later_number}
use Rattle.dcsp_gen.proofs.lists.push_listed.Given as goal

abbrev pub invariant-loop-number : goal.invariant-loop-number
invariant-loop-number l = string_bytes l.text ++ flat_map later_number (drop l.number-index l.later) ≡ string_bytes l.initial.text ++ flat_map later_number l.later
