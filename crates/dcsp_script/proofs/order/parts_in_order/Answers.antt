use Rattle.dcsp_script.proofs.Parts.{put_of_part, part_leaves, left_alone}
use Rattle.dcsp_script.proofs.Texts.{holds_part}
use Rattle.dcsp_script.proofs.order.parts_in_order.Goals as goal

pub returns-clause-text : goal.returns-clause-text
returns-clause-text c = λ part script is. put_of_part part script is

pub returns-clause-others : goal.returns-clause-others
returns-clause-others c = λ part script name file is alone. left_alone part name file (part_leaves part script name is alone)

pub returns-clause-log : goal.returns-clause-log
returns-clause-log c = λ part before later name file alone only is. holds_part part before later name file alone only is
