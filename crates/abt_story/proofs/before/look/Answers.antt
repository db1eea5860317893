use Rattle.std.proofs.Common.{◌≡◌, ◌≢◌, ◌<◌, ◌∙◌, ℕ, ℤ, List, length, subst, [], ◌∷◌, map, slice_get, option_map, Option, Some, None, IsSome, Bor, refl, sym, ap}
use Rattle.std.specs.Option.{option_copied}
use Rattle.dcsp_defs.specs.Csp.{domain}
use Rattle.dcsp_rule.specs.Problems.{Contents, csp_of}
use Rattle.abt_defs.specs.Agents.{Agent, Message}
use Rattle.abt_parts.specs.declared.message.Message.{Message as TheMessage}
use Rattle.abt_parts.specs.Messages.{message_of}
use Rattle.abt_agent.specs.States.{State, stands_for}
use Rattle.abt_story.specs.Telling.{named_by, reason}
use Rattle.abt_story.specs.Looking.{known_at, reason_in}
use Rattle.abt_story.proofs.Deeds.{steps_are}
use Rattle.abt_story.proofs.before.look.Goals as goal

some_first : (first : Option (Bor TheMessage)) (l : List TheMessage) → option_copied first ≡ slice_get l 0 → l ≢ [] → IsSome first
some_first (Some m) l e h = refl
some_first None [] e h = absurd (h refl)
some_first None (m ∷ rest) e h = absurd (let z = e in cc)

its_message : (first : Option (Bor TheMessage)) (m : Bor TheMessage) (l : List Message) (x : Message) (rest : List Message) → first ≡ Some m → slice_get l 0 ≡ option_map message_of (option_copied first) → l ≡ x ∷ rest → message_of m.now ≡ x
its_message first m l x rest e f g =
    let same : Some (message_of m.now) ≡ Some x = sym (f ∙ ap (λ r. option_map message_of (option_copied r)) e) ∙ ap (λ (y : List Message). slice_get y 0) g in cc

its_reasons : (s : State) (p : Contents) (i : ℕ) (a : Agent) (values : List ℤ) → s.problem ≡ p → s.me ≡ i → stands_for s ≡ a → map (reason_in s) values ≡ map (reason (csp_of p) i a) values
its_reasons s p i a values e f g =
    ap (λ (b : Agent). map (reason (csp_of s.problem) s.me b) values) g ∙ ap (λ q. map (reason (csp_of q) s.me a) values) e ∙ ap (λ j. map (reason (csp_of p) j a) values) f

pub unwrap-message-requires : goal.unwrap-message-requires
unwrap-message-requires c = some_first c.first.result _ c.first.ensures.first c.requires.some

pub domain-requires : goal.domain-requires
domain-requires c = subst (λ (q : Contents). c.args.to < length q.domains) c.requires.problem c.requires.receiver

pub reasons_of-requires-clause-domain : goal.reasons_of-requires-clause-domain
reasons_of-requires-clause-domain c =
    let seat = c.agent-agent.ensures.seat c.requires.sound in
    c.domain.ensures ∙ ap (λ (q : Contents). domain (csp_of q) c.args.to) (sym (seat.problem ∙ c.requires.problem)) ∙ ap (domain (csp_of c.agent-agent.result.now.problem)) (sym seat.me)

pub returns-clause-seen : goal.returns-clause-seen
returns-clause-seen c net m rest st waiting =
    let order = option_copied c.args.model.order in
    let s = c.agent-agent.result.now in
    let p = c.args.network.now.problem in
    let to = c.args.to in
    let a = net.agents to in
    let stands : stands_for s ≡ a = c.agent-agent.ensures.machine net st in
    let seat = c.agent-agent.ensures.seat c.requires.sound in
    let values = c.domain.ensures ∙ ap (λ (q : Contents). domain (csp_of q) to) (sym c.requires.problem) in
    let message = its_message c.first.result c.unwrap-message.result _ m rest c.unwrap-message.ensures (c.first.ensures.machine net st) waiting in
    record {
      known =
          c.in_ok-known.ensures ∙ ap (λ (b : Agent). map (known_at b.view) (named_by order c.args.from (message_of c.unwrap-message.result.now))) stands
          ∙ ap (λ (x : Message). map (known_at a.view) (named_by order c.args.from x)) message;
      kept = c.in_ok-kept.ensures ∙ steps_are c.nogoods.result.now a (c.nogoods.ensures ∙ ap (λ (b : Agent). b.recorded) stands);
      reasons = c.in_ok-reasons.ensures ∙ its_reasons s p to a c.domain.result.now seat.problem seat.me stands ∙ ap (map (reason (csp_of p) to a)) values;
      stamp = c.stamp.ensures ∙ ap (λ (b : Agent). b.stamp) stands;
    }
