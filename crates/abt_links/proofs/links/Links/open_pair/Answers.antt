use Rattle.std.proofs.Common.{subst, sym, ℕ, List, [], ◌∷◌, ◌++◌}
use Rattle.abt_parts.specs.declared.message.Message.{Message}
use Rattle.abt_links.specs.Transit.{Transit, Opens}
use Rattle.abt_links.proofs.LinkLaws.{pair-opens}
use Rattle.abt_links.proofs.links.Links.open_pair.Goals as goal

pub returns-clause-ok : goal.returns-clause-ok
returns-clause-ok c =
    subst (λ (t : Transit). Opens t (record { agents = c.self.inside.agents; opened = c.add.new.self; lists = c.open.new.self }) c.args.from c.args.to) c.self.view_is
    (subst (λ (o : List (ℕ × ℕ)). Opens (record { agents = c.self.inside.agents; opened = c.self.inside.opened; lists = c.self.inside.queues }) (record { agents = c.self.inside.agents; opened = o; lists = c.open.new.self }) c.args.from c.args.to) (sym c.in_default.ensures.ok)
    (subst (λ (l : List (List Message)). Opens (record { agents = c.self.inside.agents; opened = c.self.inside.opened; lists = c.self.inside.queues }) (record { agents = c.self.inside.agents; opened = c.self.inside.opened ++ (c.args.from, c.args.to) ∷ []; lists = l }) c.args.from c.args.to) (sym c.in_ok-open.ensures.ok)
    (pair-opens (record { agents = c.self.inside.agents; opened = c.self.inside.opened; lists = c.self.inside.queues }) c.args.from c.args.to c.self.invariant.long)))
