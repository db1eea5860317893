-- Part of an outbox is sent.
use Rattle.std.proofs.Common.{◌≡◌, ℕ, suc, ◌<◌, List, [], ◌∷◌, ◌++◌, cond, eqb, eq-eqb, drop, map, arith, Option, Some, refl, inl, inr, slice_get, sym, ◌∙◌, ap, subst, append_assoc, Bool, true, false, ◌&&◌}
use Rattle.std.specs.Prelude.{All, IfSome}
use Rattle.std.proofs.lemmas.Bool.{cases_eq, ne_eqb}
use Rattle.dcsp_defs.specs.Words.{In}
use Rattle.dcsp_defs.proofs.Lists.{In-split}
use Rattle.abt_defs.specs.Agents as machine
use Rattle.abt_defs.specs.Network.{sent_to}
use Rattle.abt_parts.specs.Messages.{message_of, messages_of, sent_of, told_sent}
use Rattle.abt_parts.specs.declared.message.Message.{Message}
use Rattle.abt_parts.specs.declared.message.Sent.{Sent}
use Rattle.abt_parts.specs.Outgoing.{IsStamped}
use Rattle.abt_links.specs.Transit.{Transit, link_of, Posts}
use Rattle.abt_parts.specs.declared.message.SentTo.{SentTo}
use Rattle.abt_network.specs.Standing.{messages_on}
use Rattle.abt_network.specs.Bodies.{AreStamped}

-- ---- stamps

either : (b : Bool) (old : List Message) (m x : Message) → In x (cond b (old ++ m ∷ []) old) → ((y : Message) → In y old → IsStamped y) → IsStamped m → IsStamped x
either true old m x u h g = elim (In-split x old (m ∷ []) u) [
  | inl v ↦ h x v
  | inr v ↦ elim v [ inl e ↦ subst IsStamped (sym e) g | inr w ↦ absurd w ]
]
either false old m x u h g = h x u

-- a message with its stamps is sent where each has its stamps
pub stamped_sent : (before after : Transit) (from to : ℕ) (m : Message) → Posts before after from to m → AreStamped before → IsStamped m → AreStamped after
stamped_sent before after from to m posts h g k i x u = either (eqb k from && eqb i to) (link_of before k i) m x (subst (In x) (posts.lists k i) u) (h k i) g

pub first_stamped : (rest : List Sent) (sent : Sent) → All (λ (x : Sent). IsStamped x.message) rest → Some sent ≡ slice_get rest 0 → IsStamped sent.message
first_stamped [] sent h e = cc
first_stamped (x ∷ xs) sent h e = let same : sent ≡ x = cc in subst (λ (y : Sent). IsStamped y.message) (sym same) (h 0 x (omega arith))

-- ---- lists

-- what was sent and told, and what is left, is all that was to be sent
pub record HasPosted (before now : Transit) (from : ℕ) (all rest : List Sent) (old told : List SentTo) : Type 0 where
  pub tells : told ++ map told_sent (messages_of rest) ≡ old ++ map told_sent (messages_of all)
  pub agents : now.agents ≡ before.agents
  pub links : (k i : ℕ) → messages_on now k i ++ cond (eqb k from) (sent_to i (messages_of rest)) [] ≡ messages_on before k i ++ cond (eqb k from) (sent_to i (messages_of all)) []
  pub receivers : All (λ (sent : Sent). sent.to < before.agents) rest
  pub stamps : All (λ (sent : Sent). IsStamped sent.message) rest
  pub stamped : AreStamped now

step : (b c d : Bool) → c ≡ d → (n n' s r : List machine.Message) (m : machine.Message) → n' ≡ cond (b && c) (n ++ m ∷ []) n → n ++ cond b (cond d (m ∷ s) s) [] ≡ r → n' ++ cond b s [] ≡ r
step false c d e n n' s r m new old = ap (λ l. l ++ []) new ∙ old
step true true true e n n' s r m new old = ap (λ l. l ++ s) new ∙ append_assoc n (m ∷ []) s ∙ old
step true false false e n n' s r m new old = ap (λ l. l ++ s) new ∙ old
step true true false e n n' s r m new old = cc
step true false true e n n' s r m new old = cc

pub eqb_comm : (a b : ℕ) → eqb a b ≡ eqb b a
eqb_comm a b = elim (cases_eq a b) [
  | inl same ↦ eq-eqb a b same ∙ sym (eq-eqb b a (sym same))
  | inr other ↦ ne_eqb a b other ∙ sym (ne_eqb b a (λ e. other (sym e)))
]

pub post_step : (before now now' : Transit) (from : ℕ) (all rest rest' : List Sent) (old told told' : List SentTo) (sent : Sent) → HasPosted before now from all rest old told → told' ≡ told ++ told_sent (sent_of sent) ∷ [] → Some sent ≡ slice_get rest 0 → rest' ≡ drop 1 rest
    → now'.agents ≡ now.agents → ((k i : ℕ) → messages_on now' k i ≡ cond (eqb k from && eqb i sent.to) (messages_on now k i ++ message_of sent.message ∷ []) (messages_on now k i))
    → AreStamped now' → HasPosted before now' from all rest' old told'
post_step before now now' from all [] rest' old told told' sent h tells first left agents links stamped = cc
post_step before now now' from all (x ∷ xs) rest' old told told' sent h tells first left agents links stamped = record {
  tells =
      let same : sent ≡ x = cc in
      ap (λ l. l ++ map told_sent (messages_of rest')) (tells ∙ ap (λ (y : Sent). told ++ told_sent (sent_of y) ∷ []) same)
      ∙ ap (λ (l : List Sent). (told ++ told_sent (sent_of x) ∷ []) ++ map told_sent (messages_of l)) left
      ∙ append_assoc told (told_sent (sent_of x) ∷ []) (map told_sent (messages_of xs))
      ∙ h.tells;
  agents = agents ∙ h.agents;
  links = λ k i.
      let same : sent ≡ x = cc in
      subst (λ (l : List Sent). messages_on now' k i ++ cond (eqb k from) (sent_to i (messages_of l)) [] ≡ messages_on before k i ++ cond (eqb k from) (sent_to i (messages_of all)) []) (sym left)
      (step (eqb k from) (eqb i x.to) (eqb x.to i) (eqb_comm i x.to) (messages_on now k i) (messages_on now' k i) (sent_to i (messages_of xs)) (messages_on before k i ++ cond (eqb k from) (sent_to i (messages_of all)) []) (message_of x.message)
      (subst (λ (y : Sent). messages_on now' k i ≡ cond (eqb k from && eqb i y.to) (messages_on now k i ++ message_of y.message ∷ []) (messages_on now k i)) same (links k i))
      (h.links k i));
  receivers = subst (λ (l : List Sent). All (λ (y : Sent). y.to < before.agents) l) (sym left) (λ k d inside. h.receivers (suc k) d (omega arith));
  stamps = subst (λ (l : List Sent). All (λ (y : Sent). IsStamped y.message) l) (sym left) (λ k d inside. h.stamps (suc k) d (omega arith));
  stamped = stamped;
}

-- ---- the first message of a list

-- it has its stamps where each has
pub head_stamped : (l : List Message) (o : Option Message) → o ≡ slice_get l 0 → ((m : Message) → In m l → IsStamped m) → IfSome o IsStamped
head_stamped [] o e h = subst (λ (z : Option Message). IfSome z IsStamped) (sym e) tt
head_stamped (x ∷ xs) o e h = subst (λ (z : Option Message). IfSome z IsStamped) (sym e) (h x (inl refl))
