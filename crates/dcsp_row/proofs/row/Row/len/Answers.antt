use Rattle.std.proofs.Common.{◌∙◌, ap, sym, length}
use Rattle.dcsp_row.proofs.BitLaws.{size_of_marks}
use Rattle.dcsp_row.proofs.row.Row.len.Goals as goal

pub returns : goal.returns
returns c = sym (size_of_marks c.self.inside.size c.self.inside.words.items) ∙ ap length c.self.view_is
