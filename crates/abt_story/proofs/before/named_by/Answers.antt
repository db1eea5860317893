use Rattle.std.proofs.Common.{◌≡◌, ◌∙◌, ℕ, List, [], ◌∷◌, ◌++◌, map, sym, ap}
use Rattle.dcsp_defs.specs.declared.nogood.Pair.{Pair}
use Rattle.std.specs.Prelude.{option_copied}
use Rattle.abt_parts.specs.declared.message.Message.{Message}
use Rattle.abt_parts.specs.Messages.{message_of}
use Rattle.abt_agent.specs.States.{stands_for}
use Rattle.abt_story.specs.Telling.{by_numbers, named_by}
use Rattle.abt_story.specs.declared.before.Known.{Known}
use Rattle.abt_story.specs.Looking.{known_at}
use Rattle.abt_story.proofs.Named.{agents_of}
use Rattle.abt_story.proofs.before.named_by.Goals.{in-Tell+in_ok-add_known-in-Tell, in-Refuse+in_ok-add_nogood-in-Refuse, in-AddLink}
use Rattle.abt_story.proofs.before.named_by.Goals as goal

pub returns : goal.returns
returns c =
    let view = (stands_for c.args.agent.now).view in
    let order = option_copied c.args.order in
    let now = λ (m : Message). map (known_at view) (named_by order c.args.from (message_of m)) in
    elim c.match-message.branch as (λ z. c.match-message.known.items ≡ now c.args.message.now) [
      | in-Tell+in_ok-add_known-in-Tell w ↦
          rw w.known-is (w.in_ok-add_known-in-Tell.ensures ∙ ap (λ (l : List Known). l ++ known_at view c.args.from ∷ []) c.new-known.ensures.items ∙ sym (ap now w.in-Tell.is))
      | in-Refuse+in_ok-add_nogood-in-Refuse w ↦
          rw w.known-is (w.in_ok-add_nogood-in-Refuse.ensures ∙ ap (λ (l : List Known). l ++ map (known_at view) (by_numbers order (map (λ (y : Pair). y.var) w.in-Refuse.nogood))) c.new-known.ensures.items
          ∙ ap (λ (l : List ℕ). map (known_at view) (by_numbers order l)) (agents_of w.in-Refuse.nogood w.in-Refuse.stamps) ∙ sym (ap now w.in-Refuse.is))
      | in-AddLink w ↦ rw w.known-is (c.new-known.ensures.items ∙ sym (ap now w.in-AddLink.is))
    ]
