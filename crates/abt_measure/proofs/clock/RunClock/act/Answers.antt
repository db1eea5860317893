use Rattle.std.proofs.Common.{◌≡◌, ◌∙◌, ◌+◌, ◌++◌, ℕ, List, set, max, ap}
use Rattle.abt_defs.specs.Clocks.{Event}
use Rattle.abt_measure.specs.declared.carried.Carried.{Carried}
use Rattle.abt_measure.specs.Carrying.{clocks_on, receivers_of, sent_with}
use Rattle.abt_measure.specs.Clocks.{ClockState}
use Rattle.abt_measure.proofs.ClockLaws.{ticked, on_ok}
use Rattle.abt_measure.proofs.clock.RunClock.act.Goals as goal

pub returns-clause-ticks : goal.returns-clause-ticks
returns-clause-ticks c =
    let old = c.args.self.now in
    let i = c.args.agent in
    let clock = c.in_ok-clock.clock in
    let e : Event = record { agent = i; sender = c.args.sender; work = c.args.work; receivers = receivers_of c.args.sent.now } in
    let taken = c.in_ok-reached.ensures.taken in
    let agents : c.self.inside.agents.items ≡ old.agents = ap (λ (s : ClockState). s.agents) c.self.view_is ∙ taken.agents in
    let greatest : c.self.inside.greatest ≡ old.greatest = ap (λ (s : ClockState). s.greatest) c.self.view_is ∙ taken.greatest in
    let new : ClockState = record { weights = old.weights; agents = set c.self.inside.agents.items i clock; lists = c.send_all.new.self; greatest = c.greater-self-inside.result } in
    let lists : c.self.inside.ways ≡ c.reach.new.self.lists = ap (λ (s : ClockState). s.lists) c.self.view_is in
    on_ok c.send_all.result c.send_all.ensures.added (λ (sent : (a b : ℕ) → clocks_on c.send_all.new.self a b ≡ clocks_on c.self.inside.ways a b ++ sent_with i clock (receivers_of c.args.sent.now) a b).
    ticked old new c.reach.new.self.lists old.weights.latency e clock c.requires.exists (c.in_ok-clock.ensures ∙ ap (λ n. n + c.args.work) c.in_ok-reached.ensures.reached)
    (ap (λ (l : List ℕ). set l i clock) agents) (c.greater-self-inside.ensures ∙ ap (λ n. max n clock) greatest) taken.lists
    (λ a b. sent a b ∙ ap (λ (l : List (List Carried)). clocks_on l a b ++ sent_with i clock (receivers_of c.args.sent.now) a b) lists))
