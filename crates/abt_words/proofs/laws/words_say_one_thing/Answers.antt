use Rattle.abt_words.proofs.Once.{one_said, rows_are_apart}
use Rattle.abt_words.proofs.laws.words_say_one_thing.Goals as goal

pub returns-clause-one : goal.returns-clause-one
returns-clause-one c = λ rows apart words said other h k. one_said rows apart words said other h k

pub returns-clause-apart : goal.returns-clause-apart
returns-clause-apart c = rows_are_apart
