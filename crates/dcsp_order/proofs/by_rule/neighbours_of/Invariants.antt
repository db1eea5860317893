use Rattle.std.proofs.Common.{◌≡◌, ◌≤◌, ◌+◌, ◌*◌, ◌==◌, not, ◌&&◌}
use Rattle.std.specs.List.{count_by}
use Rattle.dcsp_defs.specs.Words.{below}
use Rattle.dcsp_order.specs.Taken.{flag_at}
use Rattle.dcsp_order.proofs.by_rule.neighbours_of.Given as goal

abbrev pub invariant-loop-other : goal.invariant-loop-other
invariant-loop-other l = record {
  counted : l.count ≡ count_by (λ k. not (l.var == k) && flag_at l.shared (l.var * l.vars + k)) (below l.other);
  few : l.count ≤ l.other;
}
