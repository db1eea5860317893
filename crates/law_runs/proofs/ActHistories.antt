-- In a run each message that is received was sent before, so its clocks are weights of chains.
use Rattle.std.proofs.Common.{◌≡◌, ℕ, zero, suc, ◌+◌, ◌%◌, ◌<◌, ◌≤◌, Bool, true, false, cond, ◌&&◌, inl, inr, List, [], ◌∷◌, ◌++◌, ◌==◌, filter, find, length, map, take, slice_get, Option, Some, None, refl, sym, ap, ◌∙◌, arith, subst, append_assoc, append-nil, length-append}
use Rattle.std.specs.List.{flat_map, enumerate_from}
use Rattle.std.proofs.lemmas.List.{map-append, take-append-le}
use Rattle.dcsp_defs.specs.Csp.{Csp, Constraint, count}
use Rattle.abt_defs.specs.Agents.{Message}
use Rattle.abt_defs.specs.Steps.{settle, receive}
use Rattle.abt_defs.specs.Network.{Network, empty_network, settle_below, next_number, deliver, deliver_at, deliver_head, ready, run, start, start_by, is_false, sent_to}
use Rattle.abt_defs.specs.Events.{Act, act_of, acts, acts_at, head_acts, choice_acts, later_acts, settlings_below, start_acts, start_acts_by}
use Rattle.abt_defs.specs.Clocks.{Event, Weights, copies, is_from, sender_of, event_of}
use Rattle.abt_defs.specs.Measures.{messages_got}
use Rattle.law_runs.specs.ActRuns.{sends, gets, Make}
use Rattle.law_runs.specs.Chains.{sendings, receipts, ClocksAreWeights}
use Rattle.law_runs.proofs.ActsMaking.{settled_below, delivered, started_by}
use Rattle.law_runs.proofs.ChainWeights.{IsHistory, clocks_weigh, get-split, get-within}

module _ (p : Csp) (w : Weights) where
  abbrev ev : Act → Event
  ev = event_of p w

  copies-long : (n b : ℕ) (xs : List (ℕ × Message)) → length (copies n b (map (λ (x : ℕ × Message). x.0) xs)) ≡ length (sent_to b xs)
  copies-long n b [] = refl
  copies-long n b (x ∷ xs) = elim (x.0 == b) as (λ t. length (cond t (n ∷ copies n b (map (λ (y : ℕ × Message). y.0) xs)) (copies n b (map (λ (y : ℕ × Message). y.0) xs))) ≡ length (cond t (x.1 ∷ sent_to b xs) (sent_to b xs))) [
    | true ↦ ap suc (copies-long n b xs)
    | false ↦ copies-long n b xs
  ]

  sendings-long : (a b n : ℕ) (xs : List Act) → length (sendings a b n (map ev xs)) ≡ length (flat_map (sends a b) xs)
  sendings-long a b n [] = refl
  sendings-long a b n (x ∷ xs) =
      let here = cond (a == x.agent) (copies n b (map (λ (y : ℕ × Message). y.0) x.sent)) [] in
      let l : length here ≡ length (sends a b x) = by_test (a == x.agent) in
      length-append here (sendings a b (n + 1) (map ev xs)) ∙ ap (λ k. length here + k) (sendings-long a b (n + 1) xs) ∙ ap (λ k. k + length (flat_map (sends a b) xs)) l ∙ sym (length-append (sends a b x) (flat_map (sends a b) xs))
    where
      by_test : (t : Bool) → length (cond t (copies n b (map (λ (y : ℕ × Message). y.0) x.sent)) []) ≡ length (cond t (sent_to b x.sent) [])
      by_test true = copies-long n b x.sent
      by_test false = refl

  receipts-long : (a b : ℕ) (xs : List Act) → receipts a b (map ev xs) ≡ length (flat_map (gets a b) xs)
  receipts-long a b [] = refl
  receipts-long a b (x ∷ xs) =
      by_came (receipts-long a b xs) x.came
      ∙ sym (length-append (gets a b x) (flat_map (gets a b) xs))
    where
      by_test : receipts a b (map ev xs) ≡ length (flat_map (gets a b) xs) → (t : Bool) (m : Message)
          → length (cond t (ev x ∷ filter (λ (z : Event). is_from a z.sender && b == z.agent) (map ev xs)) (filter (λ (z : Event). is_from a z.sender && b == z.agent) (map ev xs))) ≡ length (cond t (m ∷ []) []) + length (flat_map (gets a b) xs)
      by_test h true m = omega arith
      by_test h false m = omega arith

      by_came : receipts a b (map ev xs) ≡ length (flat_map (gets a b) xs) → (o : Option (ℕ × Message)) → length (cond (is_from a (sender_of o) && b == x.agent) (ev x ∷ filter (λ (z : Event). is_from a z.sender && b == z.agent) (map ev xs)) (filter (λ (z : Event). is_from a z.sender && b == z.agent) (map ev xs)))
          ≡ length (cond (is_from a (sender_of o) && b == x.agent) (messages_got (record x { came = o })) []) + length (flat_map (gets a b) xs)
      by_came h None = omega arith
      by_came h (Some y) = by_test h (a == y.0 && b == x.agent) y.1

  -- one act more
  history-more : (es : List Event) (y : Event) → IsHistory es → ((k : ℕ) → y.sender ≡ Some k → receipts k y.agent es < length (sendings k y.agent 0 es)) → IsHistory (es ++ y ∷ [])
  history-more es y h new = record {
    has = λ e x k is f. elim (get-split es y x e is) [
      | inl o ↦
          let l : e ≤ length es = (let b = get-within es x e o in omega arith) in
          subst (λ t. receipts k x.agent t < length (sendings k x.agent 0 t)) (sym (take-append-le e es (y ∷ []) l)) (h.has e x k o f)
      | inr o ↦
          let t : take e (es ++ y ∷ []) ≡ es = ap (λ z. take z (es ++ y ∷ [])) o.0 ∙ all es in
          let g : y.sender ≡ Some k = sym (ap (λ (q : Event). q.sender) o.1) ∙ f in
          subst (λ z. receipts k x.agent z < length (sendings k x.agent 0 z)) (sym t) (subst (λ (q : Event). receipts k q.agent es < length (sendings k q.agent 0 es)) (sym o.1) (new k g))
    ];
  }
    where
      all : (xs : List Event) → take (length xs) (xs ++ y ∷ []) ≡ xs
      all [] = refl
      all (x ∷ xs) = ap (λ l. x ∷ l) (all xs)

  record Dated (done : List Act) (net : Network) : Type 0 where
    make : Make p done net
    history : IsHistory (map ev done)

  -- without a message
  alone : (done : List Act) (x : Act) → x.came ≡ None → IsHistory (map ev done) → IsHistory (map ev (done ++ x ∷ []))
  alone done x e h = subst IsHistory (sym (map-append ev done (x ∷ []))) (history-more (map ev done) (ev x) h (λ k f. absurd (let g : sender_of x.came ≡ None = ap sender_of e in cc)))

  -- with a message that is in transit
  with_message : (done : List Act) (net : Network) (x : Act) (k : ℕ) (m : Message) (rest : List Message) → x.came ≡ Some (k, m) → net.links k x.agent ≡ m ∷ rest → Make p done net → IsHistory (map ev done) → IsHistory (map ev (done ++ x ∷ []))
  with_message done net x k m rest e l h g =
      subst IsHistory (sym (map-append ev done (x ∷ []))) (history-more (map ev done) (ev x) g (λ j f.
      let is : j ≡ k = (let q : sender_of x.came ≡ Some k = ap sender_of e in cc) in
      let a : receipts j x.agent (map ev done) ≡ length (flat_map (gets j x.agent) done) = receipts-long j x.agent done in
      let b : length (sendings j x.agent 0 (map ev done)) ≡ length (flat_map (sends j x.agent) done) = sendings-long j x.agent 0 done in
      let c : length (flat_map (sends j x.agent) done) ≡ length (flat_map (gets j x.agent) done) + length (net.links j x.agent) = ap length (h.links j x.agent) ∙ length-append (flat_map (gets j x.agent) done) (net.links j x.agent) in
      let d : length (net.links j x.agent) ≡ suc (length rest) = ap length (ap (λ z. net.links z x.agent) is ∙ l) in
      omega arith))

  dated_below : (i : ℕ) → Dated (settlings_below p i) (settle_below p i (empty_network p))
  dated_below zero = record { make = settled_below p 0; history = record { has = λ e x k is f. absurd (let b = get-within [] x e is in omega arith) } }
  dated_below (suc i) = record {
    make = settled_below p (suc i);
    history = elim (settle_below p i (empty_network p)).refuted as (λ b. let before = settle_below p i (empty_network p) in
        IsHistory (map ev (settlings_below p i ++ cond b [] (act_of i None (before.agents i) (settle p i (next_number before) (before.agents i)) ∷ [])))) [
          | true ↦ subst (λ (l : List Act). IsHistory (map ev l)) (sym (append-nil (settlings_below p i))) (dated_below i).history
          | false ↦ alone (settlings_below p i) _ refl (dated_below i).history
        ];
  }

  dated_start : (o : Option (ℕ × Constraint)) → Dated (start_acts_by p o) (start_by p o)
  dated_start None = dated_below (count p)
  dated_start (Some x) = record { make = started_by p (Some x); history = record { has = λ e y k is f. absurd (let b = get-within [] y e is in omega arith) } }

  dated_head : (done : List Act) (net : Network) (k i : ℕ) (ms : List Message) → net.links k i ≡ ms → Dated done net → Dated (done ++ head_acts p k i ms net) (deliver_head p k i ms net)
  dated_head done net k i [] e h = subst (λ (l : List Act). Dated l net) (sym (append-nil done)) h
  dated_head done net k i (m ∷ rest) e h = record {
    make = delivered p done net k i (m ∷ rest) e h.make;
    history = with_message done net (act_of i (Some (k, m)) (net.agents i) (receive p i (next_number net) (net.agents i) k m)) k m rest refl e h.make h.history;
  }

  dated_at : (done : List Act) (net : Network) (o : Option (ℕ × ℕ)) → Dated done net → Dated (done ++ acts_at p o net) (deliver_at p o net)
  dated_at done net None h = subst (λ (l : List Act). Dated l net) (sym (append-nil done)) h
  dated_at done net (Some x) h = dated_head done net x.0 x.1 (net.links x.0 x.1) refl h

  dated_run : (cs : List ℕ) (done : List Act) (net : Network) → Dated done net → Dated (done ++ later_acts p cs net) (run p cs net)
  dated_run [] done net h = subst (λ (l : List Act). Dated l net) (sym (append-nil done)) h
  dated_run (c ∷ cs) done net h = elim net.refuted as (λ b. Dated (done ++ cond b [] (choice_acts p c net ++ later_acts p cs (deliver p c net))) (cond b net (run p cs (deliver p c net)))) [
    | true ↦ subst (λ (l : List Act). Dated l net) (sym (append-nil done)) h
    | false ↦ subst (λ (l : List Act). Dated l (run p cs (deliver p c net))) (append_assoc done (choice_acts p c net) (later_acts p cs (deliver p c net))) (dated_run cs (done ++ choice_acts p c net) (deliver p c net) (dated_at done net (slice_get (ready p net) (c % length (ready p net))) h))
  ]

  pub run_history : (choices : List ℕ) → IsHistory (map ev (acts p choices))
  run_history choices = (dated_run choices (start_acts p) (start p) (dated_start (find (λ (x : ℕ × Constraint). is_false x.1) (enumerate_from 0 p.constraints)))).history

pub clocks_are_weights : (p : Csp) → ClocksAreWeights p
clocks_are_weights p choices w = clocks_weigh (map (event_of p w) (acts p choices)) w.latency (run_history p w choices)
