use Rattle.fzn_token.specs.declared.token.Mark.TheVariants as mark
use Rattle.fzn_token.specs.Reading.{IsOpenAt}
use Rattle.fzn_token.proofs.Kept.{none_kept, token_kept}
use Rattle.fzn_token.proofs.reader.TokenReader.begun.Goals as goal

pub returns-in_ok-to-in-Some-clause-opens : goal.returns-in_ok-to-in-Some-clause-opens
returns-in_ok-to-in-Some-clause-opens c =
    let none : IsOpenAt c.args.self.now c.clear.new.self.items c.args.self.now.at = rw c.clear.ensures.items (none_kept c.args.self.now) in
    token_kept c.args.self.now c.clear.new.self.items c.args.self.now.at c.kept.new.tokens.items c.in-Some.token c.in_ok-to-in-Some.to none c.in-Some.ensures.reads.0 c.in-Some.ensures.reads.1 c.in_ok-to-in-Some.ensures.added c.in_ok-to-in-Some.ensures.to (c.in-Some.ensures.no_mark mark.Semicolon)

pub returns-in-None-clause-opens : goal.returns-in-None-clause-opens
returns-in-None-clause-opens c = rw c.clear.ensures.items (none_kept c.args.self.now)
