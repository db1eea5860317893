use Rattle.std.proofs.Common.{◌≡◌, ◌<◌, ◌≤◌, ◌+◌, ◌*◌, ◌==◌, not, ◌&&◌, ℕ, length, get_or}
use Rattle.dcsp_order.specs.Taken.{flag_at}
use Rattle.dcsp_order.specs.Turns.{gain}
use Rattle.dcsp_order.specs.declared.by_rule.OrderRule.TheVariants.{Links}
use Rattle.dcsp_order.proofs.by_rule.add_links.Given as goal

-- the first ones are counted, the others are as they were
abbrev pub invariant-loop-var : goal.invariant-loop-var
invariant-loop-var l = record {
  as_many : length l.linked.items ≡ length l.fn.linked.items;
  counted : (k : ℕ) → k < l.var → get_or l.linked.items k 0 ≡ get_or l.fn.linked.items k 0 + gain Links (not (l.number == k) && flag_at l.shared (l.number * length l.fn.linked.items + k));
  kept : (k : ℕ) → l.var ≤ k → get_or l.linked.items k 0 ≡ get_or l.fn.linked.items k 0;
}
