use Rattle.std.proofs.Common.{inl, inr, rules, arith}
use Rattle.std.specs.Prelude.{slice_index}
use Rattle.std.proofs.lemmas.Result.{err_from_is_err_and}
use Rattle.fzn_token.specs.declared.token.Mark.TheVariants as mark
use Rattle.fzn_token.specs.declared.refusal.ModelError.TheVariants as errors
use Rattle.fzn_token.specs.Reading.{refusal_of}
use Rattle.fzn_token.proofs.ByteClasses.{number_byte, gap_byte, no_semicolon, digit_other, twin_other, digit_stands, twin_stands}
use Rattle.fzn_token.proofs.GapLaws.{gap_moves}
use Rattle.fzn_token.proofs.Kept.{gap_kept, token_kept, token_closes, open_refuses, at_end}
use Rattle.fzn_token.proofs.reader.TokenReader.next_piece.Goals as goal

pub returns-then-eq-clause-takes : goal.returns-then-eq-clause-takes
returns-then-eq-clause-takes c = (token_closes c.args.self.now c.tokens.tokens.items c.tokens.at c.kept.new.tokens.items c.mark_token-token.result c.in_ok-at-in-Mark.at c.behind.result c.tokens.invariant.opens c.tokens-test.true c.mark_token-token.ensures.reads c.in_ok-at-in-Mark.ensures.added c.in_ok-at-in-Mark.ensures.to (search rules) c.behind.ensures.text c.behind.ensures.gap).read

pub returns-then-eq-clause-ends : goal.returns-then-eq-clause-ends
returns-then-eq-clause-ends c = inl (token_closes c.args.self.now c.tokens.tokens.items c.tokens.at c.kept.new.tokens.items c.mark_token-token.result c.in_ok-at-in-Mark.at c.behind.result c.tokens.invariant.opens c.tokens-test.true c.mark_token-token.ensures.reads c.in_ok-at-in-Mark.ensures.added c.in_ok-at-in-Mark.ensures.to (search rules) c.behind.ensures.text c.behind.ensures.gap).piece

pub returns-then-eq-clause-fewer : goal.returns-then-eq-clause-fewer
returns-then-eq-clause-fewer c = λ _. (token_closes c.args.self.now c.tokens.tokens.items c.tokens.at c.kept.new.tokens.items c.mark_token-token.result c.in_ok-at-in-Mark.at c.behind.result c.tokens.invariant.opens c.tokens-test.true c.mark_token-token.ensures.reads c.in_ok-at-in-Mark.ensures.added c.in_ok-at-in-Mark.ensures.to (search rules) c.behind.ensures.text c.behind.ensures.gap).fewer

pub tokens-preserved-else-eq : goal.tokens-preserved-else-eq
tokens-preserved-else-eq c = record {
  opens = token_kept c.args.self.now c.tokens.tokens.items c.tokens.at c.kept.new.tokens.items c.mark_token-token.result c.in_ok-at-in-Mark.at c.tokens.invariant.opens c.tokens-test.true c.mark_token-token.ensures.reads c.in_ok-at-in-Mark.ensures.added c.in_ok-at-in-Mark.ensures.to (search rules);
  within = c.in_ok-at-in-Mark.ensures.within;
}

pub tokens-preserved-in-Letter : goal.tokens-preserved-in-Letter
tokens-preserved-in-Letter c = record {
  opens = token_kept c.args.self.now c.tokens.tokens.items c.tokens.at c.kept-in-Letter.new.tokens.items c.name_token-token.result c.in_ok-at-in-Letter.at c.tokens.invariant.opens c.tokens-test.true c.name_token-token.ensures.reads c.in_ok-at-in-Letter.ensures.added c.in_ok-at-in-Letter.ensures.to (c.name_token-token.ensures.no_mark mark.Semicolon);
  within = c.in_ok-at-in-Letter.ensures.within;
}

pub number_token-requires-clause-number : goal.number_token-requires-clause-number
number_token-requires-clause-number c = number_byte (slice_index c.args.self.now.text.now c.tokens.at) c.class_of.result c.class_of.ensures c.in-Digit.is

pub returns-in_err-token-in-Digit-clause-takes : goal.returns-in_err-token-in-Digit-clause-takes
returns-in_err-token-in-Digit-clause-takes c =
    let p = err_from_is_err_and c.from_residual-in_err-token-in-Digit.result c.from_residual-in_err-token-in-Digit.ensures.1 in
    let e = errors.Refused (refusal_of c.in_err-token-in-Digit.field-0.0) in
    rw (p.1, p.2) (open_refuses c.args.self.now c.tokens.tokens.items c.tokens.at e c.tokens.invariant.opens c.tokens-test.true (digit_stands c.args.self.now.text.now c.tokens.at c.class_of.result c.tokens-test.true c.class_of.ensures c.in-Digit.is) c.in_err-token-in-Digit.ensures)

pub tokens-preserved-in-Digit : goal.tokens-preserved-in-Digit
tokens-preserved-in-Digit c = record {
  opens = token_kept c.args.self.now c.tokens.tokens.items c.tokens.at c.kept-in-Digit.new.tokens.items c.in_ok-token-in-Digit.token c.in_ok-at-in-Digit.at c.tokens.invariant.opens c.tokens-test.true c.in_ok-token-in-Digit.ensures c.in_ok-at-in-Digit.ensures.added c.in_ok-at-in-Digit.ensures.to (no_semicolon c.args.self.now.text.now c.in_ok-token-in-Digit.token c.class_of.result c.in_ok-token-in-Digit.ensures.1 (rw c.in_ok-token-in-Digit.ensures.0 c.class_of.ensures) (digit_other c.class_of.result c.in-Digit.is));
  within = c.in_ok-at-in-Digit.ensures.within;
}

pub tokens-smaller-in-Blank : goal.tokens-smaller-in-Blank
tokens-smaller-in-Blank c =
    let moves = gap_moves c.gap_end-at.ensures c.tokens-test.true (gap_byte (slice_index c.args.self.now.text.now c.tokens.at) c.class_of.result c.class_of.ensures c.in-Blank.is) in
    omega (arith, moves, c.gap_end-at.ensures.within)

pub tokens-preserved-in-Blank : goal.tokens-preserved-in-Blank
tokens-preserved-in-Blank c = record {
  opens = gap_kept c.args.self.now c.tokens.tokens.items c.tokens.at c.gap_end-at.result c.tokens.invariant.opens c.gap_end-at.ensures;
  within = c.gap_end-at.ensures.within;
}

pub returns-in_err-token-in-Twin-clause-takes : goal.returns-in_err-token-in-Twin-clause-takes
returns-in_err-token-in-Twin-clause-takes c =
    let p = err_from_is_err_and c.from_residual-in_err-token-in-Twin.result c.from_residual-in_err-token-in-Twin.ensures.1 in
    let e = errors.Refused (refusal_of c.in_err-token-in-Twin.field-0.0) in
    rw (p.1, p.2) (open_refuses c.args.self.now c.tokens.tokens.items c.tokens.at e c.tokens.invariant.opens c.tokens-test.true (twin_stands c.args.self.now.text.now c.tokens.at c.class_of.result c.tokens-test.true c.class_of.ensures c.in-Twin.is) c.in_err-token-in-Twin.ensures)

pub tokens-preserved : goal.tokens-preserved
tokens-preserved c = record {
  opens = token_kept c.args.self.now c.tokens.tokens.items c.tokens.at c.kept-in-Twin.new.tokens.items c.in_ok-token-in-Twin.token c.in_ok-at-in-Twin.at c.tokens.invariant.opens c.tokens-test.true c.in_ok-token-in-Twin.ensures c.in_ok-at-in-Twin.ensures.added c.in_ok-at-in-Twin.ensures.to (no_semicolon c.args.self.now.text.now c.in_ok-token-in-Twin.token c.class_of.result c.in_ok-token-in-Twin.ensures.1 (rw c.in_ok-token-in-Twin.ensures.0 c.class_of.ensures) (twin_other c.class_of.result c.in-Twin.is));
  within = c.in_ok-at-in-Twin.ensures.within;
}

pub returns-clause-takes : goal.returns-clause-takes
returns-clause-takes c = (c.tokens.invariant.opens c.behind-2.result c.behind-2.ensures.text c.behind-2.ensures.gap).read

pub returns-clause-ends : goal.returns-clause-ends
returns-clause-ends c = inr ((c.tokens.invariant.opens c.behind-2.result c.behind-2.ensures.text c.behind-2.ensures.gap).no_semicolon, at_end c.args.self.now c.tokens.at c.behind-2.result c.tokens-test.false c.behind-2.ensures.text c.behind-2.ensures.gap)

pub returns-clause-fewer : goal.returns-clause-fewer
returns-clause-fewer c = (c.tokens.invariant.opens c.behind-2.result c.behind-2.ensures.text c.behind-2.ensures.gap).fewer
