use Rattle.std.proofs.Common.{◌≡◌, ◌∙◌, ◌+◌, ◌<◌, List, length, map, ap, arith}
use Rattle.std.proofs.lemmas.List.{length-map}
use Rattle.dcsp_defs.specs.Words.{below}
use Rattle.dcsp_defs.specs.Csp.{count}
use Rattle.dcsp_rule.specs.Problems.{csp_of}
use Rattle.abt_defs.specs.Network.{ready, start}
use Rattle.abt_parts.specs.declared.message.SentTo.{SentTo}
use Rattle.law_runs.specs.Starts.{first_act}
use Rattle.abt_measure.specs.Starting.{tell_to}
use Rattle.abt_measure.proofs.StartLaws.{counted_all, counted_more, ends, fits, is_first, leads, receivers, same_events, within}
use Rattle.abt_measure.proofs.starting.count_settlings.Goals as goal

pub overflow_cast-place : goal.overflow_cast-place
overflow_cast-place c =
    let p = csp_of c.args.network.now.problem in
    let i = c.loop-agent.agent in
    let few = c.requires.starts.few in
    let lt : i < count p = omega arith in
    let sent = c.in_ok-sent.ensures (start p) c.requires.stands ∙ ap (map tell_to) (leads p i c.loop-agent.place lt c.loop-agent.invariant.place) in
    let has = c.in_ok-sent.sent.ok.0 in
    let all = ap (λ (l : List SentTo). length l) sent ∙ length-map (receivers p i) tell_to in
    let long : c.len.result ≡ length (receivers p i) = omega arith in
    let f = fits p i c.loop-agent.place lt c.loop-agent.invariant.place in
    let r : c.ready-ready.result ≡ length (ready p (start p)) = c.ready-ready.ensures.machine (start p) c.requires.stands c.requires.sound in
    omega arith

pub overflow_add-place : goal.overflow_add-place
overflow_add-place c =
    let p = csp_of c.args.network.now.problem in
    let i = c.loop-agent.agent in
    let few = c.requires.starts.few in
    let lt : i < count p = omega arith in
    let sent = c.in_ok-sent.ensures (start p) c.requires.stands ∙ ap (map tell_to) (leads p i c.loop-agent.place lt c.loop-agent.invariant.place) in
    let has = c.in_ok-sent.sent.ok.0 in
    let all = ap (λ (l : List SentTo). length l) sent ∙ length-map (receivers p i) tell_to in
    let long : c.len.result ≡ length (receivers p i) = omega arith in
    let f = fits p i c.loop-agent.place lt c.loop-agent.invariant.place in
    let r : c.ready-ready.result ≡ length (ready p (start p)) = c.ready-ready.ensures.machine (start p) c.requires.stands c.requires.sound in
    omega arith

pub count_settling-requires-clause-exists : goal.count_settling-requires-clause-exists
count_settling-requires-clause-exists c = let few = c.requires.starts.few in omega arith

pub count_settling-requires-clause-long : goal.count_settling-requires-clause-long
count_settling-requires-clause-long c = c.loop-agent.invariant.long ∙ c.requires.long

pub count_settling-requires-clause-receivers : goal.count_settling-requires-clause-receivers
count_settling-requires-clause-receivers c =
    let p = csp_of c.args.network.now.problem in
    let i = c.loop-agent.agent in
    let few = c.requires.starts.few in
    let lt : i < count p = omega arith in
    let sent = c.in_ok-sent.ensures (start p) c.requires.stands ∙ ap (map tell_to) (leads p i c.loop-agent.place lt c.loop-agent.invariant.place) in
    within p c.args.settled c.requires.starts c.requires.csp i c.deref.result.now (length c.loop-agent.measures.rows) (c.loop-agent.invariant.long ∙ c.requires.long) c.loop-agent-test.true (c.deref.ensures.value ∙ sent)

pub loop-agent-preserved : goal.loop-agent-preserved
loop-agent-preserved c =
    let p = csp_of c.args.network.now.problem in
    let i = c.loop-agent.agent in
    let few = c.requires.starts.few in
    let lt : i < count p = omega arith in
    let sent = c.in_ok-sent.ensures (start p) c.requires.stands ∙ ap (map tell_to) (leads p i c.loop-agent.place lt c.loop-agent.invariant.place) in
    let has = c.in_ok-sent.sent.ok.0 in
    let all = ap (λ (l : List SentTo). length l) sent ∙ length-map (receivers p i) tell_to in
    let long : c.len.result ≡ length (receivers p i) = omega arith in
    let act = is_first p c.args.settled c.requires.starts i c.deref.result.now c.loop-agent-test.true (c.deref.ensures.value ∙ sent) in
    record {
      counted = λ z. counted_more p c.args.settled c.requires.starts i c.count_settling.new.measures (c.in_ok-count_settling.ensures.counts (map (first_act p) (below i)) (first_act p i) (start p) c.requires.stands (c.loop-agent.invariant.counted z) act);
      events = same_events c.args.measures.now c.loop-agent.measures c.count_settling.new.measures c.loop-agent.invariant.events c.in_ok-count_settling.ensures.events;
      long = c.in_ok-count_settling.ensures.long ∙ c.loop-agent.invariant.long;
      place = ap (λ n. c.loop-agent.place + n) long ∙ ends p i c.loop-agent.place c.loop-agent.invariant.place;
    }

pub returns-clause-counted : goal.returns-clause-counted
returns-clause-counted c = λ z.
    let p = csp_of c.args.network.now.problem in
    let last : c.loop-agent.agent ≡ c.args.settled = let l = c.loop-agent-test.false in let m = c.loop-agent.auto.agent-end in omega arith in
    counted_all p c.args.settled c.requires.starts c.loop-agent.agent c.loop-agent.measures last (c.loop-agent.invariant.counted z)
