use Rattle.std.proofs.Common.{◌≡◌, ◌+◌, ◌≤◌, ltb, ◌++◌, drop, length}
use Rattle.std.specs.List.{filter}
use Rattle.ngd_rewrite.specs.Upgrade.{end_of, numbers, upgraded_from, upgraded, deleted_count}
use Rattle.ngd_rewrite.proofs.append.append_all.Given as goal

-- what was appended, and the entries of the steps that are left, are all entries
abbrev pub invariant-loop-place : goal.invariant-loop-place
invariant-loop-place l = record {
  entries : l.into ++ upgraded_from l.steps (l.place + 1) (drop l.place l.steps) ≡ l.fn.into ++ upgraded l.steps;
  deleted : l.deleted + deleted_count (upgraded_from l.steps (l.place + 1) (drop l.place l.steps)) ≡ deleted_count (upgraded l.steps);
  few : l.deleted ≤ length (filter (λ number. ltb (end_of l.steps number) (l.place + 1)) (numbers (length l.steps)));
}
