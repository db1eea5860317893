-- What an outbox gains.
use Rattle.std.proofs.Common.{ℕ, List, [], ◌++◌, refl, sym, ap, ◌∙◌, arith, append-nil, append_assoc}
use Rattle.std.proofs.lemmas.List.{map-append}
use Rattle.std.proofs.lemmas.List.Elements.{All-append}
use Rattle.abt_defs.specs.Agents as agents
use Rattle.abt_parts.specs.declared.message.Sent.{Sent}
use Rattle.abt_parts.specs.Messages.{messages_of, sent_of}
use Rattle.abt_parts.specs.Outgoing.{IsStamped, Posts}

-- nothing is sent
pub posts_none : (out : List Sent) → Posts out out []
posts_none out = record { new = []; kept = sym (append-nil out); meaning = refl; stamped = λ k d l. absurd (omega arith) }

-- some messages are sent, and then others
pub posts_then : (out mid went : List Sent) (first second : List (ℕ × agents.Message)) → Posts out mid first → Posts mid went second → Posts out went (first ++ second)
posts_then out mid went first second a b = record {
  new = a.new ++ b.new;
  kept = b.kept ∙ ap (λ z. z ++ b.new) a.kept ∙ append_assoc out a.new b.new;
  meaning = map-append sent_of a.new b.new ∙ ap (λ z. z ++ messages_of b.new) a.meaning ∙ ap (λ z. first ++ z) b.meaning;
  stamped = All-append (λ (x : Sent). IsStamped x.message) a.new b.new a.stamped b.stamped;
}
