-- The acts of a run make the run.
use Rattle.std.proofs.Common.{◌≡◌, ℕ, zero, suc, ◌%◌, Bool, true, false, cond, inl, inr, List, [], ◌∷◌, ◌++◌, ◌==◌, find, length, slice_get, Option, Some, None, refl, sym, ap, ◌∙◌, arith, append_assoc, append-nil, subst, length-append}
use Rattle.std.specs.List.{flat_map, enumerate_from}
use Rattle.std.proofs.lemmas.Grind.{flat_map-append}
use Rattle.std.proofs.lemmas.Bool.Decides.{eqb_tells}
use Rattle.dcsp_defs.specs.Csp.{Csp, Constraint, count}
use Rattle.abt_defs.specs.Agents.{Agent, Message, fresh}
use Rattle.abt_defs.specs.Steps.{Outcome, settle, receive}
use Rattle.abt_defs.specs.Network.{Network, acted, left, empty_network, settle_below, next_number, deliver, deliver_at, deliver_head, ready, run, start, start_by, is_false, sent_to}
use Rattle.abt_defs.specs.Events.{Act, act_of, acts_at, head_acts, choice_acts, later_acts, settlings_below, start_acts, start_acts_by}
use Rattle.abt_defs.specs.Measures.{messages_got}
use Rattle.law_runs.specs.ActRuns.{agent_after, sends, gets, Make, ActsMakeRuns}

after-append : (a : Agent) (i : ℕ) (xs ys : List Act) → agent_after a i (xs ++ ys) ≡ agent_after (agent_after a i xs) i ys
after-append a i [] ys = refl
after-append a i (x ∷ xs) ys = after-append (cond (i == x.agent) x.after a) i xs ys

-- ---- one act more

-- the agent that acts is as the outcome has it, the others are as they were, and what is sent goes behind
pub settled : (p : Csp) (done : List Act) (net : Network) (i : ℕ) (o : Outcome) → Make p done net → Make p (done ++ act_of i None (net.agents i) o ∷ []) (acted i o net)
settled p done net i o h =
    let x = act_of i None (net.agents i) o in
    record {
      agents = λ k. ap (λ (a : Agent). cond (k == i) o.agent a) (h.agents k) ∙ sym (after-append (fresh p k) k done (x ∷ []));
      links = λ a b.
          flat_map-append (sends a b) done (x ∷ []) ∙ ap (λ l. l ++ (sends a b x ++ [])) (h.links a b)
          ∙ by_test (a == i) (flat_map (gets a b) done) (net.links a b) (sent_to b o.sent)
          ∙ ap (λ l. l ++ (acted i o net).links a b) (sym (flat_map-append (gets a b) done (x ∷ []) ∙ append-nil (flat_map (gets a b) done)));
      deliveries = ap length (flat_map-append messages_got done (x ∷ []) ∙ append-nil (flat_map messages_got done)) ∙ h.deliveries;
    }
  where
    by_test : (c : Bool) (got links went : List Message) → (got ++ links) ++ (cond c went [] ++ []) ≡ got ++ cond c (links ++ went) links
    by_test true got links went = ap (λ l. (got ++ links) ++ l) (append-nil went) ∙ append_assoc got links went
    by_test false got links went = append-nil (got ++ links)

received : (p : Csp) (done : List Act) (net : Network) (k i : ℕ) (m : Message) (rest : List Message) (o : Outcome) → net.links k i ≡ m ∷ rest → Make p done net
    → Make p (done ++ act_of i (Some (k, m)) (net.agents i) o ∷ []) (acted i o (left k i rest net))
received p done net k i m rest o e h =
    let x = act_of i (Some (k, m)) (net.agents i) o in
    record {
      agents = λ j. ap (λ (a : Agent). cond (j == i) o.agent a) (h.agents j) ∙ sym (after-append (fresh p j) j done (x ∷ []));
      links = λ a b.
          flat_map-append (sends a b) done (x ∷ []) ∙ ap (λ l. l ++ (sends a b x ++ [])) (h.links a b)
          ∙ by_tests a b (flat_map (gets a b) done)
          ∙ ap (λ l. l ++ (acted i o (left k i rest net)).links a b) (sym (flat_map-append (gets a b) done (x ∷ [])));
      deliveries = ap length (flat_map-append messages_got done (x ∷ [])) ∙ length-append (flat_map messages_got done) (m ∷ []) ∙ (let d = h.deliveries in omega arith);
    }
  where
    put : (c : Bool) (got links w : List Message) → (got ++ links) ++ (cond c w [] ++ []) ≡ got ++ cond c (links ++ w) links
    put true got links w = ap (λ l. (got ++ links) ++ l) (append-nil w) ∙ append_assoc got links w
    put false got links w = append-nil (got ++ links)

    moved : (got w : List Message) (c : Bool) → (got ++ m ∷ rest) ++ (cond c w [] ++ []) ≡ (got ++ m ∷ []) ++ cond c (rest ++ w) rest
    moved got w c = ap (λ l. l ++ (cond c w [] ++ [])) (sym (append_assoc got (m ∷ []) rest)) ∙ put c (got ++ m ∷ []) rest w

    stays : (got old new w : List Message) (c : Bool) → old ≡ new → (got ++ old) ++ (cond c w [] ++ []) ≡ (got ++ []) ++ cond c (new ++ w) new
    stays got old new w c f = put c got old w ∙ ap (λ l. got ++ cond c (l ++ w) l) f ∙ ap (λ g. g ++ cond c (new ++ w) new) (sym (append-nil got))

    by_tests : (a b : ℕ) (got : List Message) → (got ++ net.links a b) ++ (sends a b (act_of i (Some (k, m)) (net.agents i) o) ++ [])
        ≡ (got ++ (gets a b (act_of i (Some (k, m)) (net.agents i) o) ++ [])) ++ (acted i o (left k i rest net)).links a b
    by_tests a b got = elim (eqb_tells a k) [
      | inl t ↦ elim (eqb_tells b i) [
        | inl u ↦
            let here : net.links a b ≡ m ∷ rest = ap (λ z. net.links z b) t.1 ∙ ap (net.links k) u.1 ∙ e in
            rw (t.0, u.0, here) (moved got (sent_to b o.sent) (a == i))
        | inr u ↦ rw (t.0, u.0) (stays got (net.links a b) (net.links k b) (sent_to b o.sent) (a == i) (ap (λ z. net.links z b) t.1))
      ]
      | inr t ↦ rw t.0 (stays got (net.links a b) (net.links a b) (sent_to b o.sent) (a == i) refl)
    ]

-- ---- the start

pub settled_below : (p : Csp) (i : ℕ) → Make p (settlings_below p i) (settle_below p i (empty_network p))
settled_below p zero = record { agents = λ k. refl; links = λ a b. refl; deliveries = refl }
settled_below p (suc i) = elim (settle_below p i (empty_network p)).refuted as (λ b. let before = settle_below p i (empty_network p) in
    Make p (settlings_below p i ++ cond b [] (act_of i None (before.agents i) (settle p i (next_number before) (before.agents i)) ∷ [])) (cond b before (acted i (settle p i (next_number before) (before.agents i)) before))) [
      | true ↦ subst (λ (l : List Act). Make p l (settle_below p i (empty_network p))) (sym (append-nil (settlings_below p i))) (settled_below p i)
      | false ↦ let before = settle_below p i (empty_network p) in settled p (settlings_below p i) before i (settle p i (next_number before) (before.agents i)) (settled_below p i)
    ]

pub started_by : (p : Csp) (o : Option (ℕ × Constraint)) → Make p (start_acts_by p o) (start_by p o)
started_by p None = settled_below p (count p)
started_by p (Some x) = record { agents = λ k. refl; links = λ a b. refl; deliveries = refl }

-- ---- a run

pub delivered : (p : Csp) (done : List Act) (net : Network) (k i : ℕ) (ms : List Message) → net.links k i ≡ ms → Make p done net → Make p (done ++ head_acts p k i ms net) (deliver_head p k i ms net)
delivered p done net k i [] e h = subst (λ (l : List Act). Make p l net) (sym (append-nil done)) h
delivered p done net k i (m ∷ rest) e h = received p done net k i m rest (receive p i (next_number net) (net.agents i) k m) e h

pub at_pair : (p : Csp) (done : List Act) (net : Network) (o : Option (ℕ × ℕ)) → Make p done net → Make p (done ++ acts_at p o net) (deliver_at p o net)
at_pair p done net None h = subst (λ (l : List Act). Make p l net) (sym (append-nil done)) h
at_pair p done net (Some x) h = delivered p done net x.0 x.1 (net.links x.0 x.1) refl h

went_on : (p : Csp) (cs : List ℕ) (done : List Act) (net : Network) → Make p done net → Make p (done ++ later_acts p cs net) (run p cs net)
went_on p [] done net h = subst (λ (l : List Act). Make p l net) (sym (append-nil done)) h
went_on p (c ∷ cs) done net h = elim net.refuted as (λ b. Make p (done ++ cond b [] (choice_acts p c net ++ later_acts p cs (deliver p c net))) (cond b net (run p cs (deliver p c net)))) [
  | true ↦ subst (λ (l : List Act). Make p l net) (sym (append-nil done)) h
  | false ↦ subst (λ (l : List Act). Make p l (run p cs (deliver p c net))) (append_assoc done (choice_acts p c net) (later_acts p cs (deliver p c net))) (went_on p cs (done ++ choice_acts p c net) (deliver p c net) (at_pair p done net (slice_get (ready p net) (c % length (ready p net))) h))
]

pub acts_make_runs : (p : Csp) → ActsMakeRuns p
acts_make_runs p choices = went_on p choices (start_acts p) (start p) (started_by p (find (λ (x : ℕ × Constraint). is_false x.1) (enumerate_from 0 p.constraints)))
