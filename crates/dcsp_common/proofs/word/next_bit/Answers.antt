use Rattle.std.proofs.Common.{◌<◌, ◌/◌, ◌^◌, refl, arith}
use Rattle.std.specs.Int.RustNames.{bit_xor}
use Rattle.std.proofs.lemmas.Nat.{xor_lt}
use Rattle.dcsp_common.proofs.WordLaws.{none_left, left_from, left_differs, bit_left, rest_fits}
use Rattle.dcsp_common.proofs.word.next_bit.Goals as goal

pub returns-then-rest-eq0-clause-same : goal.returns-then-rest-eq0-clause-same
returns-then-rest-eq0-clause-same c = λ bit l m. none_left c.args.one c.args.other c.args.from bit c.if-rest-eq0.true l

pub returns-else-rest-eq0-clause-within : goal.returns-else-rest-eq0-clause-within
returns-else-rest-eq0-clause-within c =
    let a = c.args.one in
    let b = c.args.other in
    let some : 0 < bit_xor a b / 2 ^ c.args.from = omega (arith, c.if-rest-eq0.false) in
    let fits = rest_fits a b c.args.from (omega arith) (omega arith) in
    (omega arith, bit_left (bit_xor a b) c.args.from _ _ refl refl some fits (xor_lt 64 a b (omega arith) (omega arith)))

pub returns-else-rest-eq0-clause-same : goal.returns-else-rest-eq0-clause-same
returns-else-rest-eq0-clause-same c = λ bit l m.
    let a = c.args.one in
    let b = c.args.other in
    let some : 0 < bit_xor a b / 2 ^ c.args.from = omega (arith, c.if-rest-eq0.false) in
    left_from a b c.args.from _ _ bit refl refl some (rest_fits a b c.args.from (omega arith) (omega arith)) l m

pub returns-else-rest-eq0-clause-differs : goal.returns-else-rest-eq0-clause-differs
returns-else-rest-eq0-clause-differs c =
    let some : 0 < bit_xor c.args.one c.args.other / 2 ^ c.args.from = omega (arith, c.if-rest-eq0.false) in
    left_differs c.args.one c.args.other c.args.from _ _ refl refl some (rest_fits c.args.one c.args.other c.args.from (omega arith) (omega arith))
