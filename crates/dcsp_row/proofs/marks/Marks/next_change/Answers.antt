use Rattle.std.proofs.Common.{◌≤◌, ◌+◌, ◌*◌, ◌/◌, arith, inl, inr, refl}
use Rattle.std.proofs.lemmas.Bool.{cases_eq}
use Rattle.dcsp_row.specs.Marks.{is_marked}
use Rattle.dcsp_row.proofs.WordLaws.{same_in_block, found_after, differs_there}
use Rattle.dcsp_row.proofs.marks.Marks.next_change.Goals as goal

pub returns-in-Some-clause-within : goal.returns-in-Some-clause-within
returns-in-Some-clause-within c =
    let block = c.loop-block.block in
    let after : c.args.from ≤ block * 64 + c.in-Some.bit = omega (arith, c.first_bit.ensures.from, c.in-Some.ensures.within.0) in
    found_after c.within.result (block * 64 + c.in-Some.bit) c.args.size c.args.from c.args.size after refl c.within.ensures.is

pub returns-in-Some-clause-same : goal.returns-in-Some-clause-same
returns-in-Some-clause-same c = λ k l m.
    let block = c.loop-block.block in
    let before = c.within.ensures.before k m in
    elim (cases_eq (k / 64) block) [
      | inl at ↦ same_in_block (is_marked c.args.self.now) (is_marked c.args.other.now) c.args.size block c.word-mine.result c.word-theirs.result c.first_bit.result c.in-Some.bit c.args.from c.word-mine.ensures c.word-theirs.ensures c.in-Some.ensures.same c.first_bit.ensures.first k l before.0 at (omega (arith, at, before.1))
      | inr other ↦ c.loop-block.invariant k l before.0 (omega (arith, other, before.1, c.in-Some.ensures.within.1))
    ]

pub loop-block-preserved : goal.loop-block-preserved
loop-block-preserved c = λ k l within below.
    let block = c.loop-block.block in
    elim (cases_eq (k / 64) block) [
      | inl at ↦ same_in_block (is_marked c.args.self.now) (is_marked c.args.other.now) c.args.size block c.word-mine.result c.word-theirs.result c.first_bit.result 64 c.args.from c.word-mine.ensures c.word-theirs.ensures c.in_default-next_bit.ensures.same c.first_bit.ensures.first k l within at (omega arith)
      | inr other ↦ c.loop-block.invariant k l within (omega (arith, below, other))
    ]

pub returns-clause-same : goal.returns-clause-same
returns-clause-same c = λ k l m. c.loop-block.invariant k l m (omega (arith, m, c.loop-block-test.false))

pub returns-in-Some-clause-differs : goal.returns-in-Some-clause-differs
returns-in-Some-clause-differs c =
    let within = c.in-Some.ensures.within.1 in
    differs_there (is_marked c.args.self.now) (is_marked c.args.other.now) c.within.result (c.loop-block.block * 64 + c.in-Some.bit) c.args.size c.word-mine.result c.word-theirs.result c.in-Some.bit
    (c.word-mine.ensures c.in-Some.bit within) (c.word-theirs.ensures c.in-Some.bit within) c.in-Some.ensures.differs c.within.ensures.is
