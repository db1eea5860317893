use Rattle.std.proofs.Common.{◌≡◌, drop}
use Rattle.abt_measure.specs.Rows.{as_kinds, kinds_sent, more_kinds}
use Rattle.abt_measure.proofs.row.Kinds.add_all.Given as goal

abbrev pub invariant-loop-message : goal.invariant-loop-message
invariant-loop-message l = more_kinds (as_kinds l.self) (kinds_sent (drop l.message-index l.sent)) ≡ more_kinds (as_kinds l.initial.self) (kinds_sent l.sent)
