use Rattle.std.proofs.Common.{arith}
use Rattle.fzn_token.proofs.TextEnds.{end_here, end_plain, end_escaped, after_plain, after_slash, not_at_feed, not_past, is_plain_byte}
use Rattle.fzn_token.proofs.quoted.text_end.Goals.{then-at-text-via-then-at-text, then-at-text-via-else-at-text+then-text-at-eq10}
use Rattle.fzn_token.proofs.quoted.text_end.Goals as goal

pub returns-then-b-eq34 : goal.returns-then-b-eq34
returns-then-b-eq34 c = c.loop-at.invariant.1 _ (end_here c.loop-at-test.true c.if-b-eq34.true)

pub returns-then-b-eq10 : goal.returns-then-b-eq10
returns-then-b-eq10 c = λ j e. not_at_feed c.if-b-eq10.true (c.loop-at.invariant.2 j e)

pub returns-then-at-text : goal.returns-then-at-text
returns-then-at-text c = λ j e. let after = after_slash c.if-b-eq92.true (c.loop-at.invariant.2 j e) in
    elim c.then-at-text.branch [ then-at-text-via-then-at-text w ↦ omega arith | then-at-text-via-else-at-text+then-text-at-eq10 w ↦ after.1 w.if-text-at-eq10.true ]

pub loop-at-preserved-then-b-eq92 : goal.loop-at-preserved-then-b-eq92
loop-at-preserved-then-b-eq92 c = (omega arith, (λ j e. c.loop-at.invariant.1 j (end_escaped (omega arith) c.if-b-eq92.true c.if-text-at-eq10.false e)), λ j e. (after_slash c.if-b-eq92.true (c.loop-at.invariant.2 j e)).2)

pub loop-at-preserved : goal.loop-at-preserved
loop-at-preserved c =
    let passes = is_plain_byte _ c.if-b-eq34.false c.if-b-eq92.false c.if-b-eq10.false in
    (omega arith, (λ j e. c.loop-at.invariant.1 j (end_plain c.loop-at-test.true passes e)), λ j e. after_plain passes (c.loop-at.invariant.2 j e))

pub returns : goal.returns
returns c = λ j e. not_past c.loop-at-test.false (c.loop-at.invariant.2 j e)
