use Rattle.std.proofs.Common.{refl, sym, subst, ◌+◌, get_or}
use Rattle.fzn_token.specs.Tokens.{IsLongest}
use Rattle.fzn_token.specs.declared.class.Class.TheVariants as class
use Rattle.fzn_token.specs.declared.token.TokenKind.TheVariants as kind
use Rattle.fzn_token.proofs.ByteClasses.{told}
use Rattle.fzn_token.proofs.LongestMarks.{mark_longest, mark_missing}
use Rattle.fzn_token.proofs.mark.twin_token.Goals as goal

pub mark_in-requires : goal.mark_in-requires
mark_in-requires c = (told _ class.Twin (sym c.requires.twin)).either

pub returns-in-Some : goal.returns-in-Some
returns-in-Some c =
    let twin = told (get_or c.args.text.now c.args.at 0) class.Twin (sym c.requires.twin) in
    let found = mark_longest c.args.text.now c.args.at twin.last c.is_twice.result c.is_twice.ensures.1 c.requires.within c.is_twice.ensures.0 c.in-Some.mark (sym c.in-Some.ensures) in
    (refl, record { longest = subst (λ n. IsLongest (kind.Mark c.in-Some.mark) c.args.text.now c.args.at (c.args.at + n)) (sym c.mark_len.ensures.value) found; in_range = tt })

pub returns-in-None : goal.returns-in-None
returns-in-None c =
    let twin = told (get_or c.args.text.now c.args.at 0) class.Twin (sym c.requires.twin) in
    (refl, mark_missing c.args.text.now c.args.at twin.last c.is_twice.result c.is_twice.ensures.1 (sym c.in-None.ensures))
