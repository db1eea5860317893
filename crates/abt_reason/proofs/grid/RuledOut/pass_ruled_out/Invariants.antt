use Rattle.std.proofs.Common.{◌≡◌, ◌<◌, ◌≤◌, ◌-◌, ℕ, length, get_or, true, None}
use Rattle.std.specs.Prelude.{is_some}
use Rattle.abt_reason.proofs.grid.RuledOut.pass_ruled_out.Given as goal

abbrev pub invariant-loop-value : goal.invariant-loop-value
invariant-loop-value l = record {
  later : l.from ≤ l.value;
  passed : (k : ℕ) → l.from ≤ k → k < l.value → is_some (get_or l.self.firsts.items k None) ≡ true;
}

abbrev pub decreases-loop-value : goal.decreases-loop-value
decreases-loop-value l = length l.self.firsts.items - l.value
