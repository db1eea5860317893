use Rattle.std.proofs.Common.{◌≡◌, ◌∙◌, ◌<◌, ◌++◌, ℕ, List, length, ap, subst, sym, arith, option_copied}
use Rattle.dcsp_rule.specs.Problems.{Contents, csp_of}
use Rattle.dcsp_order.specs.Told.{place_told}
use Rattle.abt_defs.specs.Agents.{Agent}
use Rattle.abt_defs.specs.Measures as measures
use Rattle.abt_defs.specs.Measures.{row}
use Rattle.abt_agent.specs.States.{State}
use Rattle.abt_network.specs.Standing.{state_at}
use Rattle.abt_measure.specs.declared.row.Row.{Row}
use Rattle.abt_measure.specs.Counting.{row_at}
use Rattle.abt_measure.specs.Rows.{as_row}
use Rattle.line_measure.specs.Texts.{agent_line}
use Rattle.line_measure.proofs.Growing.{text_all, text_more, texts_alike}
use Rattle.line_measure.proofs.Placed.{among, agent_there}
use Rattle.line_measure.proofs.agents.push_agents.Goals as goal

pub place_of-place-requires : goal.place_of-place-requires
place_of-place-requires c = among _ c.args.problem.now c.loop-number.number c.requires.order (omega arith)

pub bounds-rows-place : goal.bounds-rows-place
bounds-rows-place c =
    let inside = agent_there (option_copied c.args.order) c.args.problem.now c.loop-number.number c.requires.order (omega arith) in
    let place = c.place_of-place.ensures in
    let long = ap length c.rows.ensures in
    let rows = c.requires.rows in
    omega (arith, place, inside, long, rows)

pub agent-requires : goal.agent-requires
agent-requires c =
    let inside = agent_there (option_copied c.args.order) c.args.problem.now c.loop-number.number c.requires.order (omega arith) in
    let place = c.place_of-place.ensures in
    subst (λ (q : Contents). c.place_of-place.result < length q.domains) (sym c.requires.problem) (omega (arith, place, inside))

pub loop-number-preserved : goal.loop-number-preserved
loop-number-preserved c =
    let order = option_copied c.args.order in
    let line = λ (i : ℕ). agent_line i (as_row (row_at c.args.run.now.measures.rows (place_told order i))) (state_at c.args.run.now.network.agents (place_told order i)).stamp in
    let number = c.loop-number.number in
    let now = c.loop-number.into.items in
    let place : c.place_of-place.result ≡ place_told order number = c.place_of-place.ensures in
    let row = ap (λ (rows : List Row). now ++ agent_line number (as_row (row_at rows c.place_of-place.result)) c.stamp.result) c.rows.ensures in
    let values = c.stamp.ensures ∙ ap (λ (s : State). s.stamp) c.agent.ensures.agent in
    let more : c.push_agent.new.into.items ≡ now ++ line number =
    c.in_ok-push_agent.ensures ∙ row ∙ ap (λ v. now ++ agent_line number (as_row (row_at c.args.run.now.measures.rows c.place_of-place.result)) v) values
    ∙ ap (λ x. now ++ agent_line number (as_row (row_at c.args.run.now.measures.rows x)) (state_at c.args.run.now.network.agents x).stamp) place
    in
    text_more line number c.args.into.now.items _ _ c.loop-number.invariant more

pub returns : goal.returns
returns c = λ done net rows stands.
    let p = csp_of c.args.problem.now in
    let order = option_copied c.args.order in
    let old = c.args.into.now.items in
    let lines = λ (i : ℕ). agent_line i (as_row (row_at c.args.run.now.measures.rows (place_told order i))) (state_at c.args.run.now.network.agents (place_told order i)).stamp in
    let told = λ (i : ℕ). agent_line i (row p done (place_told order i)) (net.agents (place_told order i)).stamp in
    let end : c.loop-number.number ≡ length c.args.problem.now.domains = omega arith in
    let all = text_all lines _ _ old _ end c.loop-number.invariant in
    all ∙ ap (λ (t : List ℕ). old ++ t) (texts_alike lines told (length c.args.problem.now.domains) (λ i l.
    let at = place_told order i in
    let inside : at < length c.args.problem.now.domains = agent_there order c.args.problem.now i c.requires.order l in
    ap (λ (r : measures.Row). agent_line i r (state_at c.args.run.now.network.agents at).stamp) (rows.each at inside)
    ∙ ap (λ (a : Agent). agent_line i (row p done at) a.stamp) (stands.parts.states at (subst (λ (q : Contents). at < length q.domains) (sym c.requires.problem) inside))))
