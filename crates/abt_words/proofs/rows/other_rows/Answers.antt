use Rattle.std.proofs.Common.{refl}
use Rattle.abt_words.specs.Rows.{other_rows}
use Rattle.abt_words.proofs.rows.other_rows.Goals as goal

pub returns-clause-rows : goal.returns-clause-rows
unfolding other_rows
returns-clause-rows c = refl

pub returns-clause-room : goal.returns-clause-room
unfolding other_rows
returns-clause-room c = refl
