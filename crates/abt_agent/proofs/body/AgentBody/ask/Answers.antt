use Rattle.std.proofs.Common.{List, ℕ, sym, subst, ◌∙◌}
use Rattle.dcsp_defs.specs.Csp.{names}
use Rattle.abt_defs.specs.Agents.{AddLink, is_among}
use Rattle.abt_defs.specs.Steps as steps
use Rattle.abt_parts.specs.Views.{view_of}
use Rattle.abt_parts.specs.Stores.{records_of}
use Rattle.abt_parts.specs.Outgoing.{Posts}
use Rattle.abt_agent.proofs.Asks.{asked_is, none_asked, none_marked}
use Rattle.abt_parts.proofs.Posting.{posts_none}
use Rattle.abt_agent.proofs.body.AgentBody.ask.Goals as goal

pub returns-clause-sent : goal.returns-clause-sent
returns-clause-sent c =
    let b = c.args.self.now in
    subst (λ (ks : List ℕ). Posts c.args.out.now c.ask_each.new.out (steps.to_each AddLink ks)) (sym (asked_is b.linked b.known.me c.args.pairs.now c.requires.sized.linked c.requires.rising))
    c.in_ok-ask_each.ensures

pub returns-then-not-wants_link-clause-agent : goal.returns-then-not-wants_link-clause-agent
returns-then-not-wants_link-clause-agent c =
    let b = c.args.self.now in
    let same = none_marked b.linked b.known.me c.args.pairs.now c.requires.sized.linked (sym c.wants_link.ensures ∙ c.if-not-wants_link.true) in
    λ x. record { value = b.value; stamp = b.stamp; waits = b.waits; view = view_of b.known.view; recorded = records_of b.known.store; tells = λ k. is_among k b.tells.items; linked = λ k. same k x }

pub returns-then-not-wants_link-clause-sent : goal.returns-then-not-wants_link-clause-sent
returns-then-not-wants_link-clause-sent c =
    let b = c.args.self.now in
    let none = none_asked b.linked (names c.args.pairs.now) (sym c.wants_link.ensures ∙ c.if-not-wants_link.true) in
    subst (λ (ks : List ℕ). Posts c.args.out.now c.args.out.now (steps.to_each AddLink ks)) (sym (asked_is b.linked b.known.me c.args.pairs.now c.requires.sized.linked c.requires.rising ∙ none)) (posts_none c.args.out.now)
