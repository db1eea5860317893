use Rattle.std.proofs.Common.{◌<◌, length, ap, sym, ◌∙◌, SFits, w64, rules}
use Rattle.std.specs.Prelude.{pos, false, slice_index_or, if◌then◌else◌}
use Rattle.std.proofs.lemmas.Int.{to_z-of_z}
use Rattle.std.proofs.lemmas.Option.{slice_get_within}
use Rattle.dcsp_row.specs.Rows.{own_at}
use Rattle.dcsp_row.specs.declared.tables.Fit.{Fit}
use Rattle.dcsp_row.specs.Tables.{fits}
use Rattle.dcsp_row.proofs.Domains.{get_or_found}
use Rattle.dcsp_row.proofs.FitLaws.{one_put}
use Rattle.dcsp_row.proofs.tables.put_where.Goals as goal

pub returns-in-Some-clause-marks : goal.returns-in-Some-clause-marks
returns-in-Some-clause-marks c = λ k within.
    let values = c.args.domain.now in
    let marks = c.args.marks.now in
    let place = c.in-Some.place in
    let value = c.in-At.value in
    let whole : SFits w64 value = search rules in
    let found = simp to_z-of_z at c.in-Some.ensures.found in
    let inside : place < length values = slice_get_within values place value found in
    one_put values marks c.put.new.self place value c.args.mark c.len-places.ensures.rising c.requires inside (get_or_found values place value (pos 0) found) c.put.ensures k within
    ∙ ap (λ (f : Fit). if fits f (own_at values k) then c.args.mark else slice_index_or marks k false) (sym c.in-At.is)
