use Rattle.std.proofs.Common.{◌≤◌, ◌∙◌, sym, ap, arith, length}
use Rattle.std.specs.List.{list_any}
use Rattle.dcsp_defs.specs.Csp.{names}
use Rattle.abt_marks.specs.Links.{is_unlinked}
use Rattle.abt_marks.proofs.Links.{none_unlinked}
use Rattle.abt_marks.proofs.link_table.LinkTable.wants_link.Goals as goal

pub returns-then-self-len : goal.returns-then-self-len
returns-then-self-len c =
    let marks = c.self.inside.marks in
    let size : length marks ≤ c.self.inside.all_before = omega (arith, c.if-self-len.true, c.len.ensures) in
    sym (ap (λ linked. list_any (is_unlinked linked) (names c.args.pairs.now)) (sym c.self.view_is) ∙ none_unlinked marks c.self.inside.all_before c.self.invariant size (names c.args.pairs.now))
