use Rattle.std.proofs.Common.{◌≡◌, drop}
use Rattle.std.specs.List.{list_any}
use Rattle.dcsp_defs.specs.Csp.{names}
use Rattle.abt_marks.specs.Links.{is_unlinked}
use Rattle.abt_marks.proofs.link_table.LinkTable.names_unlinked.Given as goal

abbrev pub invariant-loop-pair : goal.invariant-loop-pair
invariant-loop-pair l = list_any (is_unlinked l.self) (names (drop l.pair-index l.pairs)) ≡ list_any (is_unlinked l.self) (names l.pairs)
