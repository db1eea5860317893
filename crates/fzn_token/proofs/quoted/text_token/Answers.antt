use Rattle.std.proofs.Common.{refl}
use Rattle.fzn_token.proofs.LongestTexts.{text_longest, text_missing}
use Rattle.fzn_token.proofs.quoted.text_token.Goals as goal

pub returns-in-Some : goal.returns-in-Some
returns-in-Some c = (refl, record { longest = text_longest c.args.text.now c.args.at c.requires.within c.requires.quote c.in-Some.ensures; in_range = tt })

pub returns-in-None : goal.returns-in-None
returns-in-None c = (refl, text_missing c.args.text.now c.args.at c.requires.within c.requires.quote c.in-None.ensures)
