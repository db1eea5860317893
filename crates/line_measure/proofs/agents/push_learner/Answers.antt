use Rattle.std.proofs.Common.{◌≡◌, ◌∙◌, ◌==◌, ℕ, filter, length, ap, arith, option_copied}
use Rattle.dcsp_defs.specs.declared.nogood.Pair.{Pair}
use Rattle.dcsp_defs.specs.Csp.{domain}
use Rattle.dcsp_order.specs.Told.{place_told}
use Rattle.dcsp_rule.specs.Problems.{csp_of}
use Rattle.line_measure.specs.Texts.{learned_line}
use Rattle.line_measure.proofs.Growing.{text_all, text_more}
use Rattle.line_measure.proofs.LearnedLines.{learned_same}
use Rattle.line_measure.proofs.Placed.{among, agent_there}
use Rattle.line_measure.proofs.agents.push_learner.Goals as goal

pub place_of-place-requires : goal.place_of-place-requires
place_of-place-requires c = among _ c.args.problem.now c.loop-owner.owner c.requires (omega arith)

pub domain-requires : goal.domain-requires
domain-requires c =
    let inside = agent_there (option_copied c.args.order) c.args.problem.now c.loop-owner.owner c.requires (omega arith) in
    let place = c.place_of-place.ensures in
    omega (arith, place, inside)

pub loop-owner-preserved : goal.loop-owner-preserved
loop-owner-preserved c =
    let p = csp_of c.args.problem.now in
    let order = option_copied c.args.order in
    let owner = c.loop-owner.owner in
    let place : c.place_of-place.result ≡ place_told order owner = c.place_of-place.ensures in
    let line = λ (k : ℕ). learned_line c.args.number k (length (filter (λ (y : Pair). y.var == place_told order k) c.args.pairs.now)) (length (domain p (place_told order k))) in
    let count = c.count_of.ensures ∙ ap (λ x. length (filter (λ (y : Pair). y.var == x) c.args.pairs.now)) place in
    let size = c.len-size.ensures.len ∙ ap length c.domain.ensures ∙ ap (λ x. length (domain p x)) place in
    let more = learned_same c.args.number owner _ _ _ _ _ _ count size c.in_ok-push_pair.ensures in
    text_more line owner c.args.into.now.items _ _ c.loop-owner.invariant more

pub returns : goal.returns
returns c =
    let end : c.loop-owner.owner ≡ length c.args.problem.now.domains = omega arith in
    text_all _ _ _ c.args.into.now.items _ end c.loop-owner.invariant
