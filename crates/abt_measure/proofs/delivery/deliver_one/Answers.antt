use Rattle.std.proofs.Common.{◌∙◌, length, ap, sym, subst, arith}
use Rattle.std.specs.Prelude.{OnOk}
use Rattle.dcsp_defs.specs.Words.{In}
use Rattle.dcsp_defs.specs.Csp.{domain}
use Rattle.dcsp_rule.specs.Problems.{Contents, csp_of}
use Rattle.abt_defs.specs.Events.{Act, acts}
use Rattle.abt_defs.specs.Network.{deliver}
use Rattle.abt_network.specs.Standing.{reached}
use Rattle.abt_network.proofs.Quiet.{is_open}
use Rattle.abt_measure.specs.Measuring.{CountsNext, IsCounted, IsNext}
use Rattle.abt_measure.proofs.DeliveryLaws.{receiver, some, receivers, measured_ok, a}
use Rattle.abt_measure.proofs.delivery.deliver_one.Goals as goal

pub look-coming-requires-clause-receiver : goal.look-coming-requires-clause-receiver
look-coming-requires-clause-receiver c =
    let s = c.args.network.now in
    let r = c.requires.on_run in
    let net = reached s r.choices in
    receiver s r.choices r.stands c.args.choice c.ready.result c.ready_pair-from.result.0 c.ready_pair-from.result.1 (c.ready.ensures.machine net r.stands c.requires.sound) (c.ready_pair-from.ensures.machine net r.stands c.requires.sound)

pub look-coming-requires-clause-some : goal.look-coming-requires-clause-some
look-coming-requires-clause-some c =
    let s = c.args.network.now in
    let r = c.requires.on_run in
    let net = reached s r.choices in
    some s r.choices r.stands c.args.choice c.ready.result c.ready_pair-from.result.0 c.ready_pair-from.result.1 (c.ready.ensures.machine net r.stands c.requires.sound) (c.ready_pair-from.ensures.machine net r.stands c.requires.sound)

pub count_delivery-requires-clause-receiver : goal.count_delivery-requires-clause-receiver
count_delivery-requires-clause-receiver c =
    let s = c.args.network.now in
    let r = c.requires.on_run in
    let net = reached s r.choices in
    let l = receiver s r.choices r.stands c.args.choice c.ready.result c.ready_pair-from.result.0 c.ready_pair-from.result.1 (c.ready.ensures.machine net r.stands c.requires.sound) (c.ready_pair-from.ensures.machine net r.stands c.requires.sound) in
    let e = ap (λ (q : Contents). length q.domains) c.in_ok-_delivery.ensures.problem in omega (arith, l, e)

pub count_delivery-requires-clause-own : goal.count_delivery-requires-clause-own
count_delivery-requires-clause-own c = λ v e.
    subst (λ (q : Contents). In v (domain (csp_of q) c.ready_pair-from.result.1)) (sym c.in_ok-_delivery.ensures.problem) (c.look-coming.ensures.own v e)

pub count_delivery-requires-clause-receivers : goal.count_delivery-requires-clause-receivers
count_delivery-requires-clause-receivers c =
    let s = c.args.network.now in
    let r = c.requires.on_run in
    let net = reached s r.choices in
    receivers s r.choices r.stands c.args.choice c.ready.result c.ready_pair-from.result.0 c.ready_pair-from.result.1 (c.ready.ensures.machine net r.stands c.requires.sound) (c.ready_pair-from.ensures.machine net r.stands c.requires.sound)
    (sym r.stands.refuted ∙ (is_open s c.requires.can.open_).0) c.requires.csp c.deliver.new.self.sent (length c.args.measures.now.rows) c.requires.long (c.in_ok-_delivery.ensures.sends net r.stands)

pub returns-clause-measured : goal.returns-clause-measured
returns-clause-measured c = λ choices st h.
    let s = c.args.network.now in
    let net = reached s choices in
    let k = c.ready_pair-from.result.0 in
    let i = c.ready_pair-from.result.1 in
    let n_is = c.ready.ensures.machine net st c.requires.sound in
    let pair = c.ready_pair-from.ensures.machine net st c.requires.sound in
    let coming = c.look-coming.result in
    let told = c.deliver.new.self.sent in
    let p = csp_of s.problem in
    let act : Act = a s choices st c.args.choice c.ready.result k i n_is pair in
    measured_ok s choices st c.args.choice c.ready.result k i n_is pair (sym st.refuted ∙ (is_open s c.requires.can.open_).0) c.count_delivery.result coming told c.args.measures.now c.count_delivery.new.measures
    (λ m rest e. c.look-coming.ensures.coming net m rest st e) (c.in_ok-_delivery.ensures.sends net st) h
    (λ (next : IsNext act i coming told (deliver p c.args.choice net)).
    (subst (λ (q : Contents). IsCounted (csp_of q) (acts p choices) c.args.measures.now → OnOk c.count_delivery.result (CountsNext (csp_of q) (acts p choices) act coming.before c.args.measures.now c.count_delivery.new.measures)) c.in_ok-_delivery.ensures.problem
    (λ z. c.count_delivery.ensures.counts (acts p choices) act (deliver p c.args.choice net) (c.in_ok-_delivery.ensures.delivers net st).stands z next)) h.counted)
