-- Who is asked for a link, as the code finds it.
use Rattle.std.specs.Prelude.{ℕ, Bool, List, filter}
use Rattle.dcsp_defs.specs.declared.nogood.Pair.{Pair}
use Rattle.dcsp_defs.specs.Csp.{names}
use Rattle.abt_marks.specs.Links.{is_unlinked}

-- those that the pairs name, in their order
abbrev pub unlinked_names : List Bool → List Pair → List ℕ
unlinked_names linked pairs = filter (is_unlinked linked) (names pairs)
