-- A delivery, as the code tells it.
use Rattle.std.proofs.Common.{◌≡◌, ◌≢◌, ◌∙◌, ℕ, ◌%◌, ◌<◌, true, false, not, List, [], ◌∷◌, ◌++◌, length, length-append, map, slice_get, Option, Some, None, IsSome, option_to_list, refl, sym, ap, subst, append-nil}
use Rattle.std.specs.List.{flat_map}
use Rattle.dcsp_defs.specs.declared.Step.{Step}
use Rattle.dcsp_defs.specs.Words.{below}
use Rattle.dcsp_defs.specs.Csp.{Csp, count}
use Rattle.dcsp_defs.proofs.Lists.{In-below, get-In, filter-from}
use Rattle.dcsp_rule.specs.Problems.{csp_of}
use Rattle.abt_defs.specs.Agents.{Message}
use Rattle.abt_defs.specs.Network.{Network, deliver, is_empty, next_number, pairs, ready}
use Rattle.abt_defs.specs.Events.{Act}
use Rattle.abt_defs.specs.Runs as runs
use Rattle.abt_defs.specs.Runs.{cargo_of, delivery_at, head_on}
use Rattle.law_agent.proofs.Runs.{In-pairs}
use Rattle.law_runs.proofs.NextActs.{after_is, choice_is, has_head, next_act}
use Rattle.dcsp_order.specs.Told.{number_told}
use Rattle.abt_story.specs.Numbers.{facts_told, lines_told}
use Rattle.abt_story.specs.Telling.{delivery_lines, facts, sends, step_between}
use Rattle.abt_story.proofs.Runs.{Chosen, lines_are, none_between, some_between, steps_are, o as outcome_of}
use Rattle.abt_parts.specs.declared.message.Message.{Message as TheMessage}
use Rattle.abt_parts.specs.declared.message.SentTo.{SentTo}
use Rattle.abt_parts.specs.Messages.{message_of, told_sent}
use Rattle.abt_links.specs.Transit.{link_of}
use Rattle.abt_network.specs.declared.Delivery.{Delivery}
use Rattle.abt_network.specs.Standing.{cargo_in, delivery_of, reached, NetworkState, StandsAt, TellsSent}
use Rattle.abt_story.specs.Texts.{facts_text, lines_text}
use Rattle.abt_story.specs.Looking.{sent_facts, IsMade}
use Rattle.abt_story.proofs.Carrying.{numbered, receive_carries}
use Rattle.abt_story.proofs.Growing.{lines_are_facts}

pub record Head (l : List Message) : Type 0 where
  pub message : Message
  pub rest : List Message
  pub is : l ≡ message ∷ rest

head_of : (l : List Message) → is_empty l ≡ false → Head l
head_of [] h = absurd (let z = h in cc)
head_of (x ∷ xs) h = record { message = x; rest = xs; is = refl }

one_item : (x y : runs.Delivery) → x ∷ [] ≡ y ∷ [] → x ≡ y
one_item x y e = cc

pub has_first : (l : List TheMessage) → l ≢ [] → IsSome (slice_get l 0)
has_first [] h = absurd (h refl)
has_first (x ∷ xs) h = refl

module _ (s : NetworkState) (choices : List ℕ) (st : StandsAt s (reached s choices)) (c n k i : ℕ) (n_is : n ≡ length (ready (csp_of s.problem) (reached s choices))) (pair : slice_get (ready (csp_of s.problem) (reached s choices)) (c % n) ≡ Some (k, i)) where
  abbrev pub p : Csp
  p = csp_of s.problem

  abbrev pub net : Network
  net = reached s choices

  abbrev pub next : Network
  next = deliver p c net

  pub chosen : slice_get (ready p net) (c % length (ready p net)) ≡ Some (k, i)
  chosen = subst (λ z. slice_get (ready p net) (c % z) ≡ Some (k, i)) n_is pair

  pub receiver : i < length s.problem.domains
  receiver = In-below (count p) i (In-pairs (count p) (k, i) (below (count p)) (filter-from (λ (y : ℕ × ℕ). not (is_empty (net.links y.0 y.1))) (k, i) (pairs (count p)) (get-In (ready p net) (c % length (ready p net)) (k, i) chosen)).0).0

  waiting : is_empty (net.links k i) ≡ false
  waiting = has_head p net (c % length (ready p net)) (k, i) chosen

  pub some : link_of s.links k i ≢ []
  some e = let z : true ≡ false = ap is_empty (ap (map message_of) (sym e) ∙ st.parts.lists k i) ∙ waiting in cc

  pub head : Head (net.links k i)
  head = head_of (net.links k i) waiting

  abbrev pub seat : Chosen p c net
  seat = record { sender = k; receiver = i; message = head.message; rest = head.rest; chosen = chosen; head = head.is }

  abbrev pub a : Act
  a = next_act p net c k i head.message head.rest chosen head.is

  pub told : (order : Option (List ℕ)) → lines_text (delivery_lines order p c net) ≡ facts_text next.deliveries (number_told order i) (facts_told order (facts order p (step_between net next) a))
  told order = ap (λ l. lines_text (lines_told order l)) (lines_are p c net seat order) ∙ lines_are_facts order next.deliveries i (facts order p (step_between net next) a)

  step_is : (x : Option Step) → (outcome_of p c net seat).step ≡ x → numbered (next_number net) x ≡ step_between net next
  step_is None e = sym (none_between p c net seat e)
  step_is (Some z) e =
      let more : length next.steps ≡ next_number net = ap length (steps_are p c net seat ∙ ap (λ y. net.steps ++ option_to_list y) e) ∙ length-append net.steps (z ∷ []) in
      ap Some (sym more) ∙ sym (some_between p c net seat z e)

  carries : sent_facts (map told_sent a.sent) a.after.value (step_between net next) ≡ sends a.sent
  carries =
      ap (sent_facts (map told_sent a.sent) a.after.value) (sym (step_is (outcome_of p c net seat).step refl)) ∙ receive_carries p i (next_number net) (net.agents i) k head.message

  made_is : runs.delivery p c net ≡ record { sender = k; receiver = i; cargo = cargo_of head.message } ∷ []
  made_is = ap (λ x. delivery_at x net) chosen ∙ ap (head_on k i) head.is

  same_sender : (d : Delivery) → runs.delivery p c net ≡ delivery_of d ∷ [] → d.from ≡ k
  same_sender d e = ap (λ (x : runs.Delivery). x.sender) (sym (one_item _ _ (sym made_is ∙ e)))

  pub same_receiver : (d : Delivery) → runs.delivery p c net ≡ delivery_of d ∷ [] → d.to ≡ i
  same_receiver d e = ap (λ (x : runs.Delivery). x.receiver) (sym (one_item _ _ (sym made_is ∙ e)))

  same_cargo : (d : Delivery) → runs.delivery p c net ≡ delivery_of d ∷ [] → cargo_in d.cargo ≡ cargo_of head.message
  same_cargo d e = ap (λ (x : runs.Delivery). x.cargo) (sym (one_item _ _ (sym made_is ∙ e)))

  pub is_made : (d : Delivery) (steps : ℕ) (sent : List SentTo) → runs.delivery p c net ≡ delivery_of d ∷ [] → steps ≡ s.steps → TellsSent s.problem sent net c → IsMade a d steps sent net next
  is_made d steps sent e f g = record {
    agent = sym (same_receiver d e);
    came = ap (λ x. Some (k, x)) (sym (same_cargo d e)) ∙ ap (λ x. Some (x, cargo_in d.cargo)) (sym (same_sender d e));
    after = ap (λ j. next.agents j) (same_receiver d e) ∙ after_is p net c k i head.message head.rest chosen head.is;
    steps_is = f ∙ st.steps;
    told_is = g ∙ ap (λ (l : List Act). map told_sent (flat_map (λ (x : Act). x.sent) l)) (choice_is p net c k i head.message head.rest chosen head.is) ∙ ap (map told_sent) (append-nil a.sent);
    carries = carries;
  }
