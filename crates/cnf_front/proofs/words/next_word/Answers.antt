use Rattle.cnf_front.proofs.WordLaws.{next_is}
use Rattle.cnf_front.proofs.words.next_word.Goals as goal

pub returns-clause-next : goal.returns-clause-next
returns-clause-next c =
    next_is c.skip-here.result.stand c.skip-here.result.at c.word_length-count.result c.skip-here.result.bytes.now c.split_at.result.0.now c.split_at.result.1.now _ c.skip-here.ensures.same c.skip-here.ensures.word c.word_length-count.ensures.value c.split_at.ensures.front c.split_at.ensures.back
