use Rattle.std.proofs.Common.{◌&&◌}
use Rattle.std.specs.Prelude.{length, nat_lt}
use Rattle.abt_defs.specs.Steps.{is_named}
use Rattle.abt_marks.proofs.Links.{still_linked}
use Rattle.abt_marks.proofs.link_table.LinkTable.mark_pairs.Goals as goal

pub first_unmarked-self-inside-requires : goal.first_unmarked-self-inside-requires
first_unmarked-self-inside-requires c =
    let marks = c.self.inside.marks in
    still_linked c.self.inside.all_before marks c.mark_pairs.new.marks (λ k. nat_lt k (length marks) && is_named k c.args.pairs.now) c.mark_pairs.ensures.size c.mark_pairs.ensures.marks c.self.invariant
