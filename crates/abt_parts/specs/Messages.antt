-- Which messages of the definitions the code's messages are.
use Rattle.std.specs.Prelude.{ℕ, List, [], ◌∷◌, map}
use Rattle.dcsp_defs.specs.declared.nogood.Pair.{Pair}
use Rattle.abt_defs.specs.Agents as agents
use Rattle.abt_defs.specs.Agents.{StampedNogood}
use Rattle.abt_parts.specs.declared.message.Message.{Message}
use Rattle.abt_parts.specs.declared.message.Message.TheVariants.{Tell, Refuse, AddLink}
use Rattle.abt_parts.specs.declared.message.Sent.{Sent}
use Rattle.abt_parts.specs.declared.message.SentTo.{SentTo}
use Rattle.abt_parts.specs.declared.message.MessageKind.{MessageKind}
use Rattle.abt_parts.specs.declared.message.MessageKind.TheVariants as kinds

-- the pairs with their stamps; a pair past the last stamp has the stamp 0
abbrev pub with_stamps : List Pair → List ℕ → StampedNogood
with_stamps [] stamps = []
with_stamps (pair ∷ pairs) [] = (pair.var, record { value = pair.value; stamp = 0 }) ∷ with_stamps pairs []
with_stamps (pair ∷ pairs) (stamp ∷ stamps) = (pair.var, record { value = pair.value; stamp = stamp }) ∷ with_stamps pairs stamps

-- the message of the definitions
abbrev pub message_of : Message → agents.Message
message_of (Tell value stamp) = agents.Tell (record { value = value; stamp = stamp })
message_of (Refuse nogood stamps step) = agents.Refuse step (with_stamps nogood stamps)
message_of AddLink = agents.AddLink

-- the message of the definitions, with its receiver
abbrev pub sent_of : Sent → ℕ × agents.Message
sent_of sent = (sent.to, message_of sent.message)

-- all of them, in order
abbrev pub messages_of : List Sent → List (ℕ × agents.Message)
messages_of sent = map sent_of sent

-- the kind of a message
abbrev pub kind_of : agents.Message → MessageKind
kind_of (agents.Tell told) = kinds.Tell
kind_of (agents.Refuse step pairs) = kinds.Refuse
kind_of agents.AddLink = kinds.AddLink

-- what is told of a message that was sent
abbrev pub told_sent : ℕ × agents.Message → SentTo
told_sent x = record { to = x.0; kind = kind_of x.1 }
