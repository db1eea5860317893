use Rattle.std.proofs.Common.{refl, sym}
use Rattle.fzn_token.proofs.LongestNames.{word_longest, name_longest}
use Rattle.fzn_token.proofs.name.name_token.Goals as goal

pub returns-in-Some-clause-reads : goal.returns-in-Some-clause-reads
returns-in-Some-clause-reads c = (refl, record { longest = word_longest c.args.text.now c.args.at c.name_end-end.result c.name_end-end.ensures c.requires.letter c.requires.within c.in-Some.word (sym c.in-Some.ensures); in_range = tt })

pub returns-in-None-clause-reads : goal.returns-in-None-clause-reads
returns-in-None-clause-reads c = (refl, record { longest = name_longest c.args.text.now c.args.at c.name_end-end.result c.name_end-end.ensures c.requires.letter c.requires.within (sym c.in-None.ensures); in_range = tt })
