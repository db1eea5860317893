-- The start, as the code counts it.
use Rattle.std.specs.Prelude.{◌≡◌, ℕ, List, [], ◌∷◌, ◌==◌, map, None, if◌then◌else◌}
use Rattle.abt_defs.specs.Network.{Network}
use Rattle.abt_defs.specs.Events.{Act}
use Rattle.abt_parts.specs.declared.message.SentTo.{SentTo}
use Rattle.abt_parts.specs.declared.message.MessageKind.TheVariants.{Tell}
use Rattle.abt_parts.specs.Messages.{told_sent}

-- the receivers of the first pairs, as long as these have this sender
abbrev pub leading : ℕ → List (ℕ × ℕ) → List ℕ
leading a [] = []
leading a (x ∷ xs) = if x.0 == a then x.1 ∷ leading a xs else []

-- it is told a value
abbrev pub tell_to : ℕ → SentTo
tell_to k = record { to = k; kind = Tell }

-- agent i has settled by this act, before which it had no value, and sent this; nothing is recorded
pub record IsFirst (a : Act) (i : ℕ) (sent : List SentTo) (net : Network) : Type 0 where
  pub agent : a.agent ≡ i
  pub came : a.came ≡ None
  pub own : a.before.value ≡ None
  pub after : net.agents i ≡ a.after
  pub recorded : a.after.recorded ≡ []
  pub sent_is : sent ≡ map told_sent a.sent
