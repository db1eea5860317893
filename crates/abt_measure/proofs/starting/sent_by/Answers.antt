use Rattle.std.proofs.Common.{◌∙◌, ◌+◌, ◌≤◌, ◌++◌, ◌∷◌, [], drop, map, length, ap, sym, subst, append-nil, append_assoc}
use Rattle.dcsp_rule.specs.Problems.{csp_of}
use Rattle.abt_defs.specs.Network.{ready}
use Rattle.abt_measure.specs.Starting.{leading, tell_to}
use Rattle.abt_measure.proofs.StartLaws.{lead_end, lead_more, lead_stop}
use Rattle.abt_measure.proofs.starting.sent_by.Goals as goal

pub returns-then-from-agent : goal.returns-then-from-agent
returns-then-from-agent c = λ net st.
    let pairs = ready (csp_of c.args.network.now.problem) net in
    let stop = lead_stop pairs c.loop-number.number c.ready_pair-from.result c.args.agent (c.ready_pair-from.ensures.machine net st c.requires.sound) c.if-from-agent.true in
    sym (append-nil c.loop-number.sent.items) ∙ ap (λ l. c.loop-number.sent.items ++ map tell_to l) (sym stop) ∙ c.loop-number.invariant net st

pub loop-number-preserved : goal.loop-number-preserved
loop-number-preserved c = λ net st.
    let pairs = ready (csp_of c.args.network.now.problem) net in
    let more = lead_more pairs c.loop-number.number c.ready_pair-from.result c.args.agent (c.ready_pair-from.ensures.machine net st c.requires.sound) c.if-from-agent.false in
    ap (λ l. l ++ map tell_to (leading c.args.agent (drop (c.loop-number.number + 1) pairs))) c.in_ok-add_told.ensures
    ∙ append_assoc c.loop-number.sent.items (tell_to c.ready_pair-from.result.1 ∷ []) (map tell_to (leading c.args.agent (drop (c.loop-number.number + 1) pairs)))
    ∙ ap (λ l. c.loop-number.sent.items ++ map tell_to l) (sym more) ∙ c.loop-number.invariant net st

pub returns : goal.returns
returns c = λ net st.
    let pairs = ready (csp_of c.args.network.now.problem) net in
    let all : length pairs ≤ c.loop-number.number = subst (λ n. n ≤ c.loop-number.number) (c.requires.machine net st) c.loop-number-test.false in
    sym (append-nil c.loop-number.sent.items) ∙ ap (λ l. c.loop-number.sent.items ++ map tell_to l) (sym (lead_end pairs c.loop-number.number c.args.agent all)) ∙ c.loop-number.invariant net st
