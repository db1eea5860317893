use Rattle.std.proofs.Common.{refl}
use Rattle.fzn_token.specs.Numbers.{decimal, hexadecimal, octal}
use Rattle.fzn_token.proofs.LongestNumbers.{number_class, whole_longest, float_longest}
use Rattle.fzn_token.proofs.NumberForms.{hex_most, octal_most, plain_at_most, float_at_most}
use Rattle.fzn_token.proofs.Extents.{tail_goes_on}
use Rattle.fzn_token.proofs.number.unsigned_token.Goals as goal

pub integer_token-requires-clause-longest : goal.integer_token-requires-clause-longest
integer_token-requires-clause-longest c =
    let q = c.requires in let text = c.args.text.now in let start = c.args.digits.0 in let found = c.in-Some.ensures in
    whole_longest text c.args.sign.at start c.args.digits.1 c.args.sign.minus q.sign q.whole q.some (number_class text c.args.sign.at start c.args.digits.1 c.args.sign.minus q.sign q.whole q.some) c.in-Some.to
    (hex_most text start c.args.digits.1 q.whole c.in-Some.to found) _ (hexadecimal _ found.0 refl)

pub integer_token-requires-in-Some-prefixed_end-clause-longest : goal.integer_token-requires-in-Some-prefixed_end-clause-longest
integer_token-requires-in-Some-prefixed_end-clause-longest c =
    let q = c.requires in let text = c.args.text.now in let start = c.args.digits.0 in let found = c.in-Some-prefixed_end.ensures in
    whole_longest text c.args.sign.at start c.args.digits.1 c.args.sign.minus q.sign q.whole q.some (number_class text c.args.sign.at start c.args.digits.1 c.args.sign.minus q.sign q.whole q.some) c.in-Some-prefixed_end.to
    (octal_most text start c.args.digits.1 q.whole c.in-None.ensures c.in-Some-prefixed_end.to found) _ (octal _ found.0 refl)

pub integer_token-requires-in-None-tail_end-clause-longest : goal.integer_token-requires-in-None-tail_end-clause-longest
integer_token-requires-in-None-tail_end-clause-longest c =
    let q = c.requires in let text = c.args.text.now in let start = c.args.digits.0 in
    whole_longest text c.args.sign.at start c.args.digits.1 c.args.sign.minus q.sign q.whole q.some (number_class text c.args.sign.at start c.args.digits.1 c.args.sign.minus q.sign q.whole q.some) c.args.digits.1
    (plain_at_most text start c.args.digits.1 q.whole c.in-None.ensures c.in-None-prefixed_end.ensures c.in-None-tail_end.ensures) _ (decimal (record { some = q.some; run = q.whole.run }) refl)

pub returns-in-Some-tail_end : goal.returns-in-Some-tail_end
returns-in-Some-tail_end c =
    let q = c.requires in let text = c.args.text.now in let start = c.args.digits.0 in let found = c.in-Some-tail_end.ensures in (
      refl,
      record {
        longest = float_longest text c.args.sign.at start c.args.digits.1 c.args.sign.minus q.sign q.whole q.some (number_class text c.args.sign.at start c.args.digits.1 c.args.sign.minus q.sign q.whole q.some) c.in-Some-tail_end.to
            (float_at_most text start c.args.digits.1 q.whole c.in-Some-tail_end.to (tail_goes_on found.0) c.in-None.ensures c.in-None-prefixed_end.ensures found.1) found.0;
        in_range = tt;
      },
    )
