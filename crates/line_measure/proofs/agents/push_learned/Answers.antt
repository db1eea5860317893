use Rattle.std.proofs.Common.{◌≡◌, ◌∙◌, ◌++◌, ℕ, List, length, ap, arith, option_copied}
use Rattle.dcsp_defs.specs.declared.nogood.Pair.{Pair}
use Rattle.dcsp_rule.specs.Problems.{csp_of}
use Rattle.dcsp_order.specs.Told.{place_told}
use Rattle.abt_measure.specs.Learning.{pairs_at}
use Rattle.line_measure.specs.Texts.{learner_lines, learner_text}
use Rattle.line_measure.proofs.Growing.{text_all, text_more, texts_alike}
use Rattle.line_measure.proofs.Placed.{among, agent_there}
use Rattle.line_measure.proofs.agents.push_learned.Goals as goal

pub place_of-requires : goal.place_of-requires
place_of-requires c = among _ c.args.problem.now c.loop-number.number c.requires.order (omega arith)

pub pairs-pairs-requires : goal.pairs-pairs-requires
pairs-pairs-requires c =
    let inside = agent_there (option_copied c.args.order) c.args.problem.now c.loop-number.number c.requires.order (omega arith) in
    let place = c.place_of.ensures in
    let lists = c.requires.lists in
    omega (arith, place, inside, lists)

pub loop-number-preserved : goal.loop-number-preserved
loop-number-preserved c =
    let p = csp_of c.args.problem.now in
    let order = option_copied c.args.order in
    let number = c.loop-number.number in
    let pairs = c.pairs-pairs.ensures ∙ ap (pairs_at c.args.learned.now) c.place_of.ensures in
    let more = c.in_ok-push_learner.ensures ∙ ap (λ (l : List Pair). c.loop-number.into.items ++ learner_lines order p number l) pairs in
    text_more (λ i. learner_lines order p i (pairs_at c.args.learned.now (place_told order i))) number c.args.into.now.items _ _ c.loop-number.invariant more

pub returns : goal.returns
returns c = λ done h.
    let p = csp_of c.args.problem.now in
    let order = option_copied c.args.order in
    let old = c.args.into.now.items in
    let lines = λ (i : ℕ). learner_lines order p i (pairs_at c.args.learned.now (place_told order i)) in
    let end : c.loop-number.number ≡ length c.args.problem.now.domains = omega arith in
    let all = text_all lines _ _ old _ end c.loop-number.invariant in
    all ∙ ap (λ (t : List ℕ). old ++ t) (texts_alike lines (learner_text order p done) (length c.args.problem.now.domains) (λ i l. ap (λ (pairs : List Pair). learner_lines order p i pairs) (h.each (place_told order i))))
