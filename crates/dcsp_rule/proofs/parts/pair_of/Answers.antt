use Rattle.std.proofs.Common.{◌≡◌, ◌∙◌, ◌||◌, ap, sym, arith, true, false}
use Rattle.dcsp_defs.specs.Words.{is_number}
use Rattle.dcsp_rule.specs.Rules.{variable_of}
use Rattle.dcsp_rule.specs.Lent.{lent_rule}
use Rattle.dcsp_rule.specs.Pairs.{IsPairOf}
use Rattle.dcsp_rule.specs.Parts.{is_of_parts, AreOfSum, IsPairFrom}
use Rattle.dcsp_rule.proofs.PartLaws.{if_some_weaker, none_there, sum_pair}
use Rattle.dcsp_rule.proofs.SmallLaws.{first_there, small_sum}
use Rattle.dcsp_rule.proofs.parts.pair_of.Goals as goal

pub returns-in_ok-parts-in-Sum-2-clause-pair : goal.returns-in_ok-parts-in-Sum-2-clause-pair
returns-in_ok-parts-in-Sum-2-clause-pair c =
    let coefs = c.in-Sum.coefs.now in
    let terms = c.in-Sum.terms.now in
    let parts = c.in_ok-parts-in-Sum.parts in
    let next = c.in_ok-parts-in-Sum-2.parts in
    let told = none_there c.in-Sum.truth (sym c.is_some.ensures ∙ c.if-is_some.false) in
    let sum : AreOfSum coefs terms parts = c.in_ok-parts-in-Sum.ensures.sum in
    if_some_weaker c.pair_of_parts.result (IsPairFrom c.in-Sum.rel next) (λ pair. IsPairOf pair (lent_rule c.args.rule))
    (λ pair from. rw c.in-Sum.is (sum_pair pair c.in-Sum.rel coefs terms c.in-Sum.total c.in-Sum.truth parts next told sum c.in_ok-parts-in-Sum-2.ensures.adds from)) c.pair_of_parts.ensures.pair

pub returns-in_err-parts-in-Sum-clause-summed : goal.returns-in_err-parts-in-Sum-clause-summed
returns-in_err-parts-in-Sum-clause-summed c = λ v w small.
    let told = none_there c.in-Sum.truth (sym c.is_some.ensures ∙ c.if-is_some.false) in
    let given = small_sum v w (lent_rule c.args.rule) c.in-Sum.rel c.in-Sum.coefs.now c.in-Sum.terms.now c.in-Sum.total c.in-Sum.truth (ap lent_rule c.in-Sum.is) told small in
    let made = c.in_err-parts-in-Sum.ensures.small in
    let clash : false ≡ true = (made.room v w given.over (omega (arith, given.few)) (omega (arith, given.low))).0 in
    absurd (cc)

pub returns-in_ok-parts-in-Sum-2-clause-summed : goal.returns-in_ok-parts-in-Sum-2-clause-summed
returns-in_ok-parts-in-Sum-2-clause-summed c = λ v w small.
    let coefs = c.in-Sum.coefs.now in
    let terms = c.in-Sum.terms.now in
    let parts = c.in_ok-parts-in-Sum.parts in
    let next = c.in_ok-parts-in-Sum-2.parts in
    let told = none_there c.in-Sum.truth (sym c.is_some.ensures ∙ c.if-is_some.false) in
    let given = small_sum v w (lent_rule c.args.rule) c.in-Sum.rel coefs terms c.in-Sum.total c.in-Sum.truth (ap lent_rule c.in-Sum.is) told small in
    let made = c.in_ok-parts-in-Sum.ensures.small in
    let room = made.room v w given.over (omega (arith, given.few)) (omega (arith, given.low)) in
    let last = c.in_ok-parts-in-Sum-2.ensures.small in
    let over = (last.room v w room.1 given.last (omega (arith, given.few, made.sizes.coefs)) (omega (arith, given.low, made.sizes.constants))).1 in
    let sum : AreOfSum coefs terms parts = c.in_ok-parts-in-Sum.ensures.sum in
    let there : is_of_parts next v ≡ true = c.in_ok-parts-in-Sum-2.ensures.adds.variables v ∙ ap (λ b. b || is_number (variable_of c.in-Sum.total) v) (sum.variables v) ∙ given.mentioned in
    c.pair_of_parts.ensures.some (first_there v w next v over there) (omega (arith, last.sizes.coefs, made.sizes.coefs, given.few)) (omega (arith, last.sizes.constants, made.sizes.constants, given.low))
