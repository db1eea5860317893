use Rattle.std.proofs.Common.{◌≡◌, ◌-◌, ◌<◌, List, [], length, get_or, sym, ap, ◌∙◌, arith}
use Rattle.std.proofs.lemmas.List.{length-map, get_or-map}
use Rattle.abt_parts.specs.declared.message.Message.{Message}
use Rattle.abt_links.specs.Chains.{ends_at, no_ends, messages_of}
use Rattle.abt_links.proofs.Walks.{length-messages}
use Rattle.abt_links.proofs.Shorter.{sound_shorter}
use Rattle.abt_links.proofs.queues.Queues.close_last.Goals as goal

pub invariant_of-self : goal.invariant_of-self
invariant_of-self c =
    let ends = c.self.inside.ends.items in
    let s = c.self.inside.cells.slots in
    let long : length c.args.self.now ≡ length ends = sym (ap (λ (ms : List (List Message)). length ms) c.self.view_is) ∙ length-map ends (messages_of s) in
    let some : 0 < length ends = omega (arith, long, c.requires.some) in
    let n = length ends - 1 in
    let e = ends_at ends n in
    let none : messages_of s e ≡ [] =
    sym (get_or-map (messages_of s) ends n no_ends [] (omega (arith, some))) ∙ ap (λ (ms : List (List Message)). get_or ms n []) c.self.view_is ∙ ap (λ k. get_or c.args.self.now (k - 1) []) (sym long) ∙ c.requires.empty in
    let empty : e.count ≡ 0 = sym (length-messages s e.count e.first) ∙ ap (λ (ms : List Message). length ms) none in
    let all = c.self.inside.ends.ok in
    let last : c.self.inside.ends.len - 1 ≡ n = omega (arith, all) in
    rw c.pop.ensures.rest (rw last (sound_shorter s ends n (omega (arith, some)) empty c.self.invariant))
