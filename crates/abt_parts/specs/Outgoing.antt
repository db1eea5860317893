-- What an agent sends.
use Rattle.std.specs.Prelude.{◌≡◌, ℕ, ◌<◌, All, List, ◌++◌, length, Some}
use Rattle.dcsp_defs.specs.declared.nogood.Pair.{Pair}
use Rattle.abt_defs.specs.Agents as agents
use Rattle.abt_defs.specs.Agents.{Stamped, View}
use Rattle.abt_parts.specs.declared.message.Message.{Message}
use Rattle.abt_parts.specs.declared.message.Message.TheVariants.{Tell, Refuse, AddLink}
use Rattle.abt_parts.specs.declared.message.Sent.{Sent}
use Rattle.abt_parts.specs.Messages.{messages_of}

-- each stamp is above 0
abbrev pub ArePositive : List ℕ → Type 0
ArePositive stamps = All (λ (stamp : ℕ). 0 < stamp) stamps

-- the nogood has as many stamps as pairs, each above 0
pub record AreStampsOf (nogood : List Pair) (stamps : List ℕ) : Type 0 where
  pub many : length stamps ≡ length nogood
  pub positive : ArePositive stamps

-- what is asked of a message alone: its value has a stamp above 0, or each pair of its nogood has one
abbrev pub IsStamped : Message → Type 0
IsStamped (Tell value stamp) = 0 < stamp
IsStamped (Refuse nogood stamps step) = AreStampsOf nogood stamps
IsStamped AddLink = Unit {0}

-- what stood in the outbox stays, and behind it stand new messages of this meaning, each with its stamps
pub record Posts (out went : List Sent) (sent : List (ℕ × agents.Message)) : Type 0 where
  pub new : List Sent
  pub kept : went ≡ out ++ new
  pub meaning : messages_of new ≡ sent
  pub stamped : All (λ (x : Sent). IsStamped x.message) new

-- each value in the view has a stamp above 0
abbrev pub IsStampedView : View → Type 0
IsStampedView view = (k : ℕ) (s : Stamped) → view k ≡ Some s → 0 < s.stamp
