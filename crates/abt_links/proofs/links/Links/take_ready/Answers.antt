use Rattle.std.proofs.Common.{subst, ◌∙◌, ap, sym, ◌≡◌}
use Rattle.std.specs.Prelude.{slice_get, Some, ◌<◌, ◌+◌}
use Rattle.abt_links.specs.Transit.{Transit, Takes, ready_pairs, message_count}
use Rattle.abt_links.proofs.LinkLaws.{taken-whole, taken-lists, taken-count, ready_open, ready_some, same_ready}
use Rattle.abt_links.proofs.links.Links.take_ready.Goals as goal

pub place_of-place-requires : goal.place_of-place-requires
place_of-place-requires c = ready_open (record { agents = c.self.inside.agents; opened = c.self.inside.opened; lists = c.self.inside.queues }) c.self.inside.ready c.args.number c.nth-from.result c.self.invariant c.nth-from.ensures

pub pop-message-requires : goal.pop-message-requires
pop-message-requires c = ready_some (record { agents = c.self.inside.agents; opened = c.self.inside.opened; lists = c.self.inside.queues }) c.self.inside.ready c.args.number c.place_of-place.result c.nth-from.result c.self.invariant c.nth-from.ensures c.place_of-place.ensures

pub invariant_of-self : goal.invariant_of-self
invariant_of-self c = taken-whole (record { agents = c.self.inside.agents; opened = c.self.inside.opened; lists = c.self.inside.queues }) c.pop-message.new.self c.self.inside.ready c.leave.new.self c.place_of-place.result c.nth-from.result.0 c.nth-from.result.1 c.is_empty-is_last.result c.self.invariant c.place_of-place.ensures c.pop-message.ensures.others c.is_empty-is_last.ensures c.leave.ensures.agents c.leave.ensures.pairs

pub returns-clause-pair : goal.returns-clause-pair
returns-clause-pair c = subst (λ (t : Transit). slice_get (ready_pairs t) c.args.number ≡ Some c.nth-from.result) c.self.view_is
    (ap (λ (l : _). slice_get l c.args.number) (sym (same_ready (record { agents = c.self.inside.agents; opened = c.self.inside.opened; lists = c.self.inside.queues }) c.self.inside.ready c.self.invariant)) ∙ c.nth-from.ensures)

pub returns-clause-takes : goal.returns-clause-takes
returns-clause-takes c = subst (λ (t : Transit). Takes t (record { agents = c.self.inside.agents; opened = c.self.inside.opened; lists = c.pop-message.new.self }) c.nth-from.result.0 c.nth-from.result.1 c.pop-message.result) c.self.view_is
    (taken-lists (record { agents = c.self.inside.agents; opened = c.self.inside.opened; lists = c.self.inside.queues }) c.pop-message.new.self c.self.inside.ready c.place_of-place.result c.nth-from.result.0 c.nth-from.result.1 c.pop-message.result c.self.invariant c.place_of-place.ensures c.pop-message.ensures.first c.pop-message.ensures.others)

pub returns-clause-sender : goal.returns-clause-sender
returns-clause-sender c = subst (λ (t : Transit). c.nth-from.result.0 < t.agents) c.self.view_is (c.self.invariant.inside c.nth-from.result.0 c.nth-from.result.1 (ready_open (record { agents = c.self.inside.agents; opened = c.self.inside.opened; lists = c.self.inside.queues }) c.self.inside.ready c.args.number c.nth-from.result c.self.invariant c.nth-from.ensures)).0

pub returns-clause-receiver : goal.returns-clause-receiver
returns-clause-receiver c = subst (λ (t : Transit). c.nth-from.result.1 < t.agents) c.self.view_is (c.self.invariant.inside c.nth-from.result.0 c.nth-from.result.1 (ready_open (record { agents = c.self.inside.agents; opened = c.self.inside.opened; lists = c.self.inside.queues }) c.self.inside.ready c.args.number c.nth-from.result c.self.invariant c.nth-from.ensures)).1

pub returns-clause-falls : goal.returns-clause-falls
returns-clause-falls c = subst (λ (t : Transit). message_count (record { agents = c.self.inside.agents; opened = c.self.inside.opened; lists = c.pop-message.new.self }) + 1 ≡ message_count t) c.self.view_is
    (taken-count (record { agents = c.self.inside.agents; opened = c.self.inside.opened; lists = c.self.inside.queues }) c.pop-message.new.self c.self.inside.ready c.place_of-place.result c.nth-from.result.0 c.nth-from.result.1 c.pop-message.result c.self.invariant c.place_of-place.ensures c.pop-message.ensures.first c.pop-message.ensures.others)
