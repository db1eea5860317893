use Rattle.std.proofs.Common.{◌≢◌, List, [], ◌∷◌, Option, Some, None, slice_get, sym, subst, refl, IsSome}
use Rattle.std.specs.Option.{option_copied}
use Rattle.abt_parts.specs.declared.message.Message.{Message}
use Rattle.abt_links.specs.Transit.{link_of}
use Rattle.abt_measure.proofs.delivery.look.Goals as goal

has_first : (l : List Message) → l ≢ [] → IsSome (slice_get l 0)
has_first [] h = absurd (h refl)
has_first (x ∷ xs) h = refl

pub unwrap-message-requires : goal.unwrap-message-requires
unwrap-message-requires c =
    let there : IsSome (option_copied c.first.result) = subst (λ (o : Option Message). IsSome o) (sym c.first.ensures.first) (has_first (link_of c.args.network.now.links c.args.from c.args.to) c.requires.some) in
    elim c.first.result as (λ o. IsSome (option_copied o) → IsSome o) [
      | None ↦ λ h. h
      | Some x ↦ λ h. refl
    ] there
