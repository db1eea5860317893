use Rattle.std.proofs.Common.{refl}
use Rattle.abt_words.specs.Rows.{run_rows}
use Rattle.abt_words.proofs.rows.run_rows.Goals as goal

pub returns-clause-rows : goal.returns-clause-rows
unfolding run_rows
returns-clause-rows c = refl

pub returns-clause-room : goal.returns-clause-room
unfolding run_rows
returns-clause-room c = refl
