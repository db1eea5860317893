use Rattle.std.proofs.Common.{◌≡◌, ◌+◌, ℕ, List, Some, subst, sym}
use Rattle.std.specs.List.{position}
use Rattle.abt_parts.specs.declared.message.Message.{Message}
use Rattle.abt_links.specs.Transit.{Transit, is_pair, Sends, message_count}
use Rattle.abt_links.proofs.LinkLaws.{sent-whole, sent-lists, sent-count}
use Rattle.abt_links.proofs.links.Links.put_last.Goals as goal

-- the list's number, by the parts
at : (agents : ℕ) (opened : List (ℕ × ℕ)) (lists : List (List Message)) (t : Transit) (from to list : ℕ) → record { agents = agents; opened = opened; lists = lists } ≡ t → position (is_pair from to) t.opened ≡ Some list
    → position (is_pair from to) opened ≡ Some list
at agents opened lists t from to list shown is = subst (λ (t : Transit). position (is_pair from to) t.opened ≡ Some list) (sym shown) is

pub invariant_of-self-2 : goal.invariant_of-self-2
invariant_of-self-2 c = sent-whole (record { agents = c.self.inside.agents; opened = c.self.inside.opened; lists = c.self.inside.queues }) c.push.new.self c.self.inside.ready c.enter.new.self c.args.list c.args.from c.args.to c.args.message c.self.invariant (at c.self.inside.agents c.self.inside.opened c.self.inside.queues c.args.self.now c.args.from c.args.to c.args.list c.self.view_is c.requires) c.in_default.ensures.ok c.enter.ensures.agents c.enter.ensures.pairs

pub returns-clause-ok : goal.returns-clause-ok
returns-clause-ok c = subst (λ (t : Transit). Sends t (record { agents = c.self.inside.agents; opened = c.self.inside.opened; lists = c.push.new.self }) c.args.from c.args.to c.args.message) c.self.view_is
    (sent-lists (record { agents = c.self.inside.agents; opened = c.self.inside.opened; lists = c.self.inside.queues }) c.push.new.self c.self.inside.ready c.args.list c.args.from c.args.to c.args.message c.self.invariant (at c.self.inside.agents c.self.inside.opened c.self.inside.queues c.args.self.now c.args.from c.args.to c.args.list c.self.view_is c.requires) c.in_default.ensures.ok)

pub returns-clause-rises : goal.returns-clause-rises
returns-clause-rises c = subst (λ (t : Transit). message_count (record { agents = c.self.inside.agents; opened = c.self.inside.opened; lists = c.push.new.self }) ≡ message_count t + 1) c.self.view_is
    (sent-count (record { agents = c.self.inside.agents; opened = c.self.inside.opened; lists = c.self.inside.queues }) c.push.new.self c.self.inside.ready c.args.list c.args.from c.args.to c.args.message c.self.invariant (at c.self.inside.agents c.self.inside.opened c.self.inside.queues c.args.self.now c.args.from c.args.to c.args.list c.self.view_is c.requires) c.in_default.ensures.ok)
