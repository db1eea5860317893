-- The code's delivery is that of the definitions.
use Rattle.std.proofs.Common.{◌≡◌, ◌≢◌, ℕ, ◌+◌, ◌<◌, ◌%◌, List, [], ◌∷◌, ◌++◌, length, map, filter, cond, eqb, eq-eqb, refl, sym, ◌∙◌, ap, subst, Bool, true, false, not, ◌&&◌, ◌⊎◌, inl, inr, Option, Some, slice_get, option_to_list, append-nil}
use Rattle.std.specs.List.{flat_map}
use Rattle.std.proofs.lemmas.Bool.{cases_eq, cases_Bool, eqb-true, ne_eqb, cond-true, cond-false, and_from}
use Rattle.std.proofs.lemmas.List.Elements.{filter_agree}
use Rattle.dcsp_defs.specs.Words.{In}
use Rattle.dcsp_defs.specs.declared.Step.{Step}
use Rattle.abt_defs.specs.Agents.{Agent}
use Rattle.abt_defs.specs.Steps.{Outcome, receive}
use Rattle.abt_defs.specs.Network.{Network, is_empty, refutes, sent_to, acted, left, next_number, deliver_head, deliver_at, deliver, ready, pairs}
use Rattle.abt_defs.specs.Runs as runs
use Rattle.abt_defs.specs.Events.{Act, act_of, acts_at, choice_acts, head_acts}
use Rattle.dcsp_rule.specs.Problems.{Contents, csp_of}
use Rattle.abt_parts.specs.declared.message.Message.{Message as TheMessage}
use Rattle.abt_parts.specs.declared.message.Sent.{Sent}
use Rattle.abt_parts.specs.Messages.{message_of, messages_of, told_sent}
use Rattle.abt_agent.specs.declared.Turn.{Turn}
use Rattle.abt_agent.specs.declared.Turn.TheVariants.{Quiet, Announced, Derived, Empty}
use Rattle.abt_agent.specs.Turns.{IsTurn}
use Rattle.abt_agent.specs.States.{State, stands_for}
use Rattle.abt_links.specs.Transit.{Transit, link_of, ready_pairs, Takes}
use Rattle.abt_network.specs.declared.Delivery.{Delivery}
use Rattle.abt_parts.specs.declared.message.SentTo.{SentTo}
use Rattle.abt_network.specs.Standing.{messages_on, state_at, Stands, TellsSent, delivery_of, cargo_in}
use Rattle.abt_network.specs.Bodies.{IsSeated, Expects, ExpectsAll, AreStamped}
use Rattle.abt_network.specs.Passing.{step_in, PassesOn}

-- ---- the message that is taken

pub taken_head : (t mid : Transit) (from to : ℕ) (m : TheMessage) → Takes t mid from to m → link_of t from to ≡ m ∷ link_of mid from to
taken_head t mid from to m takes =
    takes.lists from to
    ∙ cond-true (eqb from from && eqb to to) (m ∷ link_of mid from to) (link_of mid from to) (and_from (eqb from from) (eqb to to) (eq-eqb from from refl) (eq-eqb to to refl))

pub expected_here : (p : Contents) (agents : List State) (t mid : Transit) (next from to : ℕ) (m : TheMessage) → ExpectsAll p agents t next → from < length p.domains → to < length p.domains → Takes t mid from to m → Expects p agents next from to m
expected_here p agents t mid next from to m all sender receiver takes = all from to m (link_of mid from to) sender receiver (taken_head t mid from to m takes)

-- those that are left have their stamps
either : (b : Bool) (m x : TheMessage) (rest old : List TheMessage) → old ≡ cond b (m ∷ rest) rest → In x rest → In x old
either true m x rest old e u = subst (In x) (sym e) (inr u)
either false m x rest old e u = subst (In x) (sym e) u

pub left_stamped : (t mid : Transit) (from to : ℕ) (m : TheMessage) → Takes t mid from to m → AreStamped t → AreStamped mid
left_stamped t mid from to m takes h k i x u = h k i x (either (eqb k from && eqb i to) m x (link_of mid k i) (link_of t k i) (takes.lists k i) u)

-- ---- what the receiver does is what the definitions' agent does

-- the same outcome
abbrev pub outcome : Contents → List State → ℕ → ℕ → ℕ → TheMessage → Outcome
outcome p agents next from to m = receive (csp_of p) to next (stands_for (state_at agents to)) from (message_of m)

pub same_outcome : (p : Contents) (agents : List State) (next from to : ℕ) (m : TheMessage) → IsSeated p agents → to < length p.domains
    → receive (csp_of (state_at agents to).problem) (state_at agents to).me next (stands_for (state_at agents to)) from (message_of m) ≡ outcome p agents next from to m
same_outcome p agents next from to m seated receiver =
    ap (λ (q : Contents). receive (csp_of q) (state_at agents to).me next (stands_for (state_at agents to)) from (message_of m)) (seated.problems to receiver)
    ∙ ap (λ i. receive (csp_of p) i next (stands_for (state_at agents to)) from (message_of m)) (seated.seats to receiver)

-- ---- the turn

pub turn_step : (a : Agent) (o : Outcome) (turn : Turn) → IsTurn a o turn → o.step ≡ step_in turn
turn_step a o Quiet h = h.0
turn_step a o Announced h = h.0
turn_step a o (Derived s) h = h.0
turn_step a o (Empty s) h = h.0

-- ---- the pairs that are ready

same_empty : (l : List TheMessage) → is_empty (map message_of l) ≡ is_empty l
same_empty [] = refl
same_empty (x ∷ xs) = refl

pub same_ready : (p : Contents) (agents : List State) (t : Transit) (net : Network) → Stands p agents t net → t.agents ≡ length p.domains → ready (csp_of p) net ≡ ready_pairs t
same_ready p agents t net stands linked =
    filter_agree (λ (x : ℕ × ℕ). not (is_empty (net.links x.0 x.1))) (λ (x : ℕ × ℕ). not (is_empty (link_of t x.0 x.1)))
    (λ x. ap (λ l. not (is_empty l)) (sym (stands.lists x.0 x.1)) ∙ ap not (same_empty (link_of t x.0 x.1))) (pairs (length p.domains))
    ∙ ap (λ n. filter (λ (x : ℕ × ℕ). not (is_empty (link_of t x.0 x.1))) (pairs n)) (sym linked)

module _ (p : Contents) (agents agents' : List State) (t mid t' : Transit) (net : Network) (next choice n : ℕ) (m : TheMessage) (went : List Sent) (o : Outcome) (turn : Turn) (d : Delivery)
    (stands : Stands p agents t net) (counted : next ≡ length net.steps + 1) (linked : t.agents ≡ length p.domains)
    (some : n ≡ length (ready_pairs t)) (pair : slice_get (ready_pairs t) (choice % n) ≡ Some (d.from, d.to)) (receiver : d.to < length p.domains) (numbered : d.number ≡ choice % n)
    (takes : Takes t mid d.from d.to m)
    (does : o ≡ outcome p agents next d.from d.to m) (agent : stands_for (state_at agents' d.to) ≡ o.agent) (sent : messages_of went ≡ o.sent) (is_turn : IsTurn (stands_for (state_at agents d.to)) o turn)
    (is_cargo : cargo_in d.cargo ≡ runs.cargo_of (message_of m)) (is_step : d.step ≡ step_in turn)
    (others : (k : ℕ) → k ≢ d.to → state_at agents' k ≡ state_at agents k)
    (posts : (k i : ℕ) → messages_on t' k i ≡ cond (eqb k d.to) (messages_on mid k i ++ sent_to i (messages_of went)) (messages_on mid k i)) where
  abbrev pub there : Outcome → Network
  there x = acted d.to x (left d.from d.to (messages_on mid d.from d.to) net)

  outcome_is : receive (csp_of p) d.to (next_number net) (net.agents d.to) d.from (message_of m) ≡ o
  outcome_is =
      ap (λ k. receive (csp_of p) d.to k (net.agents d.to) d.from (message_of m)) (sym counted)
      ∙ ap (λ (a : Agent). receive (csp_of p) d.to next a d.from (message_of m)) (sym (stands.states d.to receiver))
      ∙ sym does

  head_is : net.links d.from d.to ≡ message_of m ∷ messages_on mid d.from d.to
  head_is = sym (stands.lists d.from d.to) ∙ ap (map message_of) (taken_head t mid d.from d.to m takes)

  chosen_is : slice_get (ready (csp_of p) net) (choice % length (ready (csp_of p) net)) ≡ Some (d.from, d.to)
  chosen_is =
      ap (λ (l : List (ℕ × ℕ)). slice_get l (choice % length l)) (same_ready p agents t net stands linked)
      ∙ ap (λ k. slice_get (ready_pairs t) (choice % k)) (sym some)
      ∙ pair

  pub leads : deliver (csp_of p) choice net ≡ there o
  leads =
      ap (λ x. deliver_at (csp_of p) x net) chosen_is
      ∙ ap (λ l. deliver_head (csp_of p) d.from d.to l net) head_is
      ∙ ap there outcome_is

  told_is : runs.delivery (csp_of p) choice net ≡ delivery_of d ∷ []
  told_is =
      ap (λ x. runs.delivery_at x net) chosen_is
      ∙ ap (runs.head_on d.from d.to) head_is
      ∙ ap (λ (c : runs.Cargo). record { sender = d.from; receiver = d.to; cargo = c } ∷ []) (sym is_cargo)

  -- the lists after the message is taken
  mid_lists : (k i : ℕ) → messages_on mid k i ≡ (left d.from d.to (messages_on mid d.from d.to) net).links k i
  mid_lists k i = at (cases_Bool (eqb k d.from)) (cases_Bool (eqb i d.to))
    where
      before : (k i : ℕ) → map message_of (cond (eqb k d.from && eqb i d.to) (m ∷ link_of mid k i) (link_of mid k i)) ≡ net.links k i
      before k i = ap (map message_of) (sym (takes.lists k i)) ∙ stands.lists k i

      at : ((eqb k d.from ≡ true) ⊎ (eqb k d.from ≡ false)) → ((eqb i d.to ≡ true) ⊎ (eqb i d.to ≡ false)) → messages_on mid k i ≡ (left d.from d.to (messages_on mid d.from d.to) net).links k i
      at (inl same) (inl also) = rw (same, also) (ap (λ x. messages_on mid x i) (eqb-true k d.from same) ∙ ap (λ x. messages_on mid d.from x) (eqb-true i d.to also))
      at (inl same) (inr other) =
          rw (same, other) (let h : map message_of (cond (eqb k d.from && eqb i d.to) (m ∷ link_of mid k i) (link_of mid k i)) ≡ net.links k i = before k i in (rw (same, other) at h) ∙ ap (λ x. net.links x i) (eqb-true k d.from same))
      at (inr other) also = rw other (let h : map message_of (cond (eqb k d.from && eqb i d.to) (m ∷ link_of mid k i) (link_of mid k i)) ≡ net.links k i = before k i in rw other at h)

  new_lists : (k i : ℕ) → messages_on t' k i ≡ (there o).links k i
  new_lists k i =
      posts k i
      ∙ ap (λ l. cond (eqb k d.to) (l ++ sent_to i (messages_of went)) l) (mid_lists k i)
      ∙ ap (λ s. cond (eqb k d.to) ((left d.from d.to (messages_on mid d.from d.to) net).links k i ++ sent_to i s) ((left d.from d.to (messages_on mid d.from d.to) net).links k i)) sent

  new_states : (i : ℕ) → i < length p.domains → stands_for (state_at agents' i) ≡ (there o).agents i
  new_states i within = elim (cases_eq i d.to) [
    | inl here ↦ ap (λ k. stands_for (state_at agents' k)) here ∙ agent ∙ sym (cond-true (eqb i d.to) o.agent (net.agents i) (eq-eqb i d.to here))
    | inr other ↦ ap stands_for (others i other) ∙ stands.states i within ∙ sym (cond-false (eqb i d.to) o.agent (net.agents i) (ne_eqb i d.to other))
  ]

  made : o.step ≡ d.step
  made = turn_step (stands_for (state_at agents d.to)) o turn is_turn ∙ sym is_step

  pub passes : PassesOn p agents' t' net choice d
  passes = record {
    stands = subst (λ (x : Network). Stands p agents' t' x) (sym leads) (record { states = new_states; lists = new_lists });
    number = numbered ∙ ap (λ k. choice % k) some ∙ ap (λ (l : List (ℕ × ℕ)). choice % length l) (sym (same_ready p agents t net stands linked));
    told = told_is;
    steps = ap (λ (x : Network). x.steps) leads ∙ ap (λ (s : Option Step). net.steps ++ option_to_list s) made;
    refuted = ap (λ (x : Network). x.refuted) leads ∙ ap refutes made;
    deliveries = ap (λ (x : Network). x.deliveries) leads;
  }

  -- ---- what the receiver sends

  acts_are : choice_acts (csp_of p) choice net ≡ act_of d.to (Some (d.from, message_of m)) (net.agents d.to) o ∷ []
  acts_are =
      ap (λ x. acts_at (csp_of p) x net) chosen_is
      ∙ ap (λ l. head_acts (csp_of p) d.from d.to l net) head_is
      ∙ ap (λ (x : Outcome). act_of d.to (Some (d.from, message_of m)) (net.agents d.to) x ∷ []) outcome_is

  pub sends : (told : List SentTo) → told ≡ map told_sent (messages_of went) → TellsSent p told net choice
  sends told e =
      e ∙ ap (map told_sent) (sent ∙ sym (append-nil o.sent))
      ∙ ap (λ (acts : List Act). map told_sent (flat_map (λ (a : Act). a.sent) acts)) (sym acts_are)
