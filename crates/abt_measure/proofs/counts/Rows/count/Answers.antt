use Rattle.std.proofs.Common.{◌≡◌, ◌∙◌, List, Option, get_or, set, ap}
use Rattle.std.proofs.lemmas.List.{get_or_default}
use Rattle.abt_parts.specs.declared.message.MessageKind.{MessageKind}
use Rattle.abt_parts.specs.Checked.{as_checks}
use Rattle.abt_measure.specs.declared.row.Row.{Row}
use Rattle.abt_measure.specs.Rows.{as_row, came_kinds, kinds_sent, row_after, blank_row}
use Rattle.abt_measure.specs.Counting.{row_at}
use Rattle.abt_measure.proofs.ClockLaws.{on_ok}
use Rattle.abt_measure.proofs.CountLaws.{rows_more}
use Rattle.abt_measure.proofs.counts.Rows.count.Goals as goal

pub returns-clause-counts : goal.returns-clause-counts
returns-clause-counts c = λ p acts a h act.
    let old = c.args.self.now in
    let i = c.args.deed.agent in
    let row = c.index_mut-row.result.now in
    let here : row ≡ row_at old i = c.index_mut-row.ensures.value ∙ ap (λ (l : List Row). get_or l i row) c.self.view_is ∙ get_or_default old i row blank_row c.requires in
    on_ok c.act.result c.act.ensures
    (λ (does : as_row c.act.new.self ≡ row_after (as_row row) (came_kinds c.kind_of.result) (as_checks c.args.deed.checks) c.args.deed.recorded (kinds_sent c.args.deed.sent.now)).
    rows_more p acts a i c.args.deed.came c.args.deed.checks c.args.deed.recorded c.args.deed.sent.now act old _ c.act.new.self h c.requires
    (does ∙ ap (λ r. row_after r (came_kinds c.kind_of.result) (as_checks c.args.deed.checks) c.args.deed.recorded (kinds_sent c.args.deed.sent.now)) (ap as_row here)
    ∙ ap (λ (k : Option MessageKind). row_after (as_row (row_at old i)) (came_kinds k) (as_checks c.args.deed.checks) c.args.deed.recorded (kinds_sent c.args.deed.sent.now)) c.kind_of.ensures)
    (ap (λ (l : List Row). set l i c.act.new.self) c.self.view_is))
