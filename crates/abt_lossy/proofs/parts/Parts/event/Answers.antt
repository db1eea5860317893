use Rattle.std.proofs.Common.{◌<◌, refl, sym, subst}
use Rattle.abt_lossy.specs.declared.carrier.Arrival.{Arrival}
use Rattle.abt_lossy.specs.Carries.{Changes, Comes}
use Rattle.abt_lossy.proofs.Events.{comes_done, happens_as}
use Rattle.abt_lossy.proofs.HandingUp.{fit_of, fit_same, fit_counted, fit_next, counted_inside, next_inside, waits_here, can_deliver, counted_case, next_case}
use Rattle.abt_lossy.proofs.parts.Parts.event.Goals as goal

pub send-requires-clause-fit : goal.send-requires-clause-fit
send-requires-clause-fit c = fit_of c.args.self.now c.requires.reached

pub come-requires-clause-fit : goal.come-requires-clause-fit
come-requires-clause-fit c = fit_of c.args.self.now c.requires.reached

pub mark-requires-clause-fit : goal.mark-requires-clause-fit
mark-requires-clause-fit c = fit_counted c.in-Counted.sender c.in-Counted.receiver c.in-Counted.number c.args.self.now c.come.new.self c.requires.reached (subst (λ (a : Arrival). Changes a c.args.self.now.carrier c.come.new.self) c.in-Counted.is c.in_ok-come.ensures.changes)

pub mark-requires-clause-sender : goal.mark-requires-clause-sender
mark-requires-clause-sender c = subst (λ n. c.in-Counted.sender < n) (sym c.requires.reached.stands.senders)
    (counted_inside c.args.word c.in-Counted.sender c.in-Counted.receiver c.in-Counted.number c.args.self.now c.come.new.self c.requires.reached (subst (λ (a : Arrival). Comes c.args.word a c.args.self.now.carrier c.come.new.self) c.in-Counted.is c.in_ok-come.ensures.comes)).0

pub mark-requires-clause-receiver : goal.mark-requires-clause-receiver
mark-requires-clause-receiver c = subst (λ n. c.in-Counted.receiver < n) (sym c.requires.reached.stands.senders)
    (counted_inside c.args.word c.in-Counted.sender c.in-Counted.receiver c.in-Counted.number c.args.self.now c.come.new.self c.requires.reached (subst (λ (a : Arrival). Comes c.args.word a c.args.self.now.carrier c.come.new.self) c.in-Counted.is c.in_ok-come.ensures.comes)).1

pub number-choice-requires : goal.number-choice-requires
number-choice-requires c = waits_here c.args.word c.in-Next.sender c.in-Next.receiver c.in-Next.number c.args.self.now c.come.new.self c.requires.reached (subst (λ (a : Arrival). Comes c.args.word a c.args.self.now.carrier c.come.new.self) c.in-Next.is c.in_ok-come.ensures.comes)

pub deliver-requires : goal.deliver-requires
deliver-requires c = λ sound. can_deliver c.args.self.now c.requires.reached c.number-choice.result (c.in-Next.sender, c.in-Next.receiver) c.number-choice.ensures

pub hand_up-requires : goal.hand_up-requires
hand_up-requires c = fit_same c.args.self.now.carrier c.come.new.self (fit_of c.args.self.now c.requires.reached) (subst (λ (a : Arrival). Changes a c.args.self.now.carrier c.come.new.self) c.in-Next.is c.in_ok-come.ensures.changes)

pub mark_all-requires-clause-fit : goal.mark_all-requires-clause-fit
mark_all-requires-clause-fit c = fit_next c.in-Next.sender c.in-Next.receiver c.args.self.now c.come.new.self c.hand_up.new.self c.requires.reached (subst (λ (a : Arrival). Changes a c.args.self.now.carrier c.come.new.self) c.in-Next.is c.in_ok-come.ensures.changes) c.in_ok-hand_up-in-Next.ensures.handed_up c.in_ok-hand_up-in-Next.ensures.acknowledged

pub mark_all-requires-clause-sender : goal.mark_all-requires-clause-sender
mark_all-requires-clause-sender c = (next_inside c.args.word c.in-Next.sender c.in-Next.receiver c.in-Next.number c.args.self.now c.come.new.self c.requires.reached (subst (λ (a : Arrival). Comes c.args.word a c.args.self.now.carrier c.come.new.self) c.in-Next.is c.in_ok-come.ensures.comes)).1

pub returns-in-Done-clause-does : goal.returns-in-Done-clause-does
returns-in-Done-clause-does c = happens_as (sym c.nothing-in-Done.ensures) (comes_done c.args.word c.args.self.now (record { agents = c.args.self.now.agents; network = c.args.self.now.network; carrier = c.come.new.self; senders = c.args.self.now.senders })
    (subst (λ (a : Arrival). Comes c.args.word a c.args.self.now.carrier c.come.new.self) c.in-Done.is c.in_ok-come.ensures.comes)
    (subst (λ (a : Arrival). Changes a c.args.self.now.carrier c.come.new.self) c.in-Done.is c.in_ok-come.ensures.changes) refl refl refl)

pub returns-in-Counted-clause-does : goal.returns-in-Counted-clause-does
returns-in-Counted-clause-does c = happens_as (sym c.nothing-in-Counted.ensures) (counted_case c.args.word c.in-Counted.sender c.in-Counted.receiver c.in-Counted.number c.args.self.now c.mark.new.self c.come.new.self
    (subst (λ (a : Arrival). Comes c.args.word a c.args.self.now.carrier c.come.new.self) c.in-Counted.is c.in_ok-come.ensures.comes)
    (subst (λ (a : Arrival). Changes a c.args.self.now.carrier c.come.new.self) c.in-Counted.is c.in_ok-come.ensures.changes)
    c.mark.ensures.network c.mark.ensures.carrier c.mark.ensures.count c.mark.ensures.agents c.mark.ensures.marks)

pub returns-in_ok-hand_up-in-Next-clause-does : goal.returns-in_ok-hand_up-in-Next-clause-does
returns-in_ok-hand_up-in-Next-clause-does c = next_case c.args.word c.in-Next.sender c.in-Next.receiver c.in-Next.number c.number-choice.result c.ready-ready.result c.is_refuted-refuted.result c.state.result c.in_ok-delivery-in-Next.delivery c.args.self.now c.mark_all.new.self c.come.new.self c.hand_up.new.self c.deliver.new.self
    c.if-word-eq0.false
    (subst (λ (a : Arrival). Comes c.args.word a c.args.self.now.carrier c.come.new.self) c.in-Next.is c.in_ok-come.ensures.comes)
    c.requires.reached.stands.sound c.ready-ready.ensures.ready c.ready-ready.ensures.machine c.number-choice.ensures
    c.in_ok-delivery-in-Next.ensures.delivers c.in_ok-delivery-in-Next.ensures.leads c.deliver.ensures.problem c.in_ok-delivery-in-Next.ensures.begun c.in_ok-delivery-in-Next.ensures.sound
    c.state.ensures.standing c.is_refuted-refuted.ensures c.in_ok-hand_up-in-Next.ensures.hands_up
    c.mark_all.ensures.network c.mark_all.ensures.carrier c.mark_all.ensures.count c.mark_all.ensures.agents c.mark_all.ensures.marks
