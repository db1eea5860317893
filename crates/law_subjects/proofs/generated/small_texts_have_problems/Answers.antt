use Rattle.law_subjects.proofs.Texts.{six_queens, five_pigeons, five_hundred_nodes}
use Rattle.law_subjects.proofs.generated.small_texts_have_problems.Goals as goal

pub returns : goal.returns
returns c = record { queens = six_queens; pigeons = five_pigeons; sparse = five_hundred_nodes }
