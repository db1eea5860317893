-- One act more.
use Rattle.std.proofs.Common.{◌≡◌, ◌∙◌, ℕ, zero, suc, ◌+◌, ◌*◌, ◌<◌, ◌==◌, true, false, cond, inl, inr, List, [], ◌∷◌, ◌++◌, filter, map, length, set, Option, Some, None, refl, sym, ap, subst, arith, append-nil, length-append}
use Rattle.std.specs.List.{flat_map, sum_by}
use Rattle.std.proofs.lemmas.Bool.Decides.{eqb_tells}
use Rattle.std.proofs.lemmas.Grind.{flat_map-append}
use Rattle.std.proofs.lemmas.List.{map-append, get_or-set_same, get_or-set_other, length-set}
use Rattle.std.proofs.lemmas.List.Elements.{filter-append}
use Rattle.std.proofs.lemmas.List.Sums.{sum_by-append}
use Rattle.dcsp_defs.specs.Csp.{Csp}
use Rattle.abt_defs.specs.Agents.{Message, Tell, Refuse, AddLink}
use Rattle.abt_defs.specs.Events.{Act}
use Rattle.abt_defs.specs.Checks.{checks_of}
use Rattle.abt_defs.specs.Clocks as clocks
use Rattle.abt_defs.specs.Clocks.{Clocks, Event, event_of, no_clocks, sender_of, tick, ticks, work_of}
use Rattle.abt_defs.specs.Measures as measures
use Rattle.abt_defs.specs.Measures.{acts_by, greatest_by, is_link, is_nogood, is_ok, kinds_of, message_in, messages_got, messages_sent, row, row_of}
use Rattle.abt_parts.specs.declared.message.SentTo.{SentTo}
use Rattle.abt_parts.specs.Messages.{kind_of, told_sent}
use Rattle.law_runs.proofs.ActsGoing.{ticks-more, greatest-more}
use Rattle.abt_parts.specs.declared.checks.Checks.{Checks}
use Rattle.abt_parts.specs.Checked.{as_checks}
use Rattle.abt_measure.specs.declared.row.Row.{Row}
use Rattle.abt_measure.specs.declared.counts.Came.{Came}
use Rattle.abt_measure.specs.Carrying.{receivers_of}
use Rattle.abt_measure.specs.Clocks.{ClockState, as_weights, clocks_of}
use Rattle.abt_measure.specs.Rows.{as_row, came_kinds, kind_counts, kinds_sent, more_kinds, no_row, row_after}
use Rattle.abt_measure.specs.Measuring.{received_in}
use Rattle.abt_measure.specs.Counting.{kind_in, row_at, sender_in, told_came, AreRows, IsAct, IsClock}
use Rattle.abt_measure.proofs.RowLaws.{same_kinds, kinds_none}

-- ---- kinds

pub one_kind : (m : Message) (ms : List Message) → kinds_of (m ∷ ms) ≡ more_kinds (kind_counts (kind_of m)) (kinds_of ms)
one_kind (Tell s) ms = same_kinds _ _ (omega arith) (omega arith) (omega arith)
one_kind (Refuse step pairs) ms = same_kinds _ _ (omega arith) (omega arith) (omega arith)
one_kind AddLink ms = same_kinds _ _ (omega arith) (omega arith) (omega arith)

pub kinds_told : (sent : List (ℕ × Message)) → kinds_sent (map told_sent sent) ≡ kinds_of (map (λ (x : ℕ × Message). x.1) sent)
kinds_told [] = refl
kinds_told (x ∷ xs) = ap (more_kinds (kind_counts (kind_of x.1))) (kinds_told xs) ∙ sym (one_kind x.1 (map (λ (y : ℕ × Message). y.1) xs))

kinds_came : (o : Option (ℕ × Message)) → came_kinds (kind_in (told_came o)) ≡ kinds_of (message_in o)
kinds_came None = refl
kinds_came (Some x) = sym (one_kind x.1 [] ∙ kinds_none (kind_counts (kind_of x.1)))

kinds_append : (xs ys : List Message) → kinds_of (xs ++ ys) ≡ more_kinds (kinds_of xs) (kinds_of ys)
kinds_append xs ys = same_kinds _ _
    (ap length (filter-append is_ok xs ys) ∙ length-append (filter is_ok xs) (filter is_ok ys))
    (ap length (filter-append is_nogood xs ys) ∙ length-append (filter is_nogood xs) (filter is_nogood ys))
    (ap length (filter-append is_link xs ys) ∙ length-append (filter is_link xs) (filter is_link ys))

sender_told : (o : Option (ℕ × Message)) → sender_in (told_came o) ≡ sender_of o
sender_told None = refl
sender_told (Some x) = refl

receivers_told : (sent : List (ℕ × Message)) → receivers_of (map told_sent sent) ≡ map (λ (x : ℕ × Message). x.0) sent
receivers_told [] = refl
receivers_told (x ∷ xs) = ap (λ l. x.0 ∷ l) (receivers_told xs)

-- ---- rows

same_row : (a b : measures.Row) → a.sent ≡ b.sent → a.got ≡ b.got → a.constraints ≡ b.constraints → a.nogoods ≡ b.nogoods → a.recorded ≡ b.recorded → a ≡ b
same_row a b e f g h k =
    let mk = λ (s t : measures.Kinds) (x y z : ℕ). (let r : measures.Row = record { sent = s; got = t; constraints = x; nogoods = y; recorded = z } in r) in
    let one : mk a.sent a.got a.constraints a.nogoods a.recorded ≡ mk b.sent a.got a.constraints a.nogoods a.recorded = ap (λ s. mk s a.got a.constraints a.nogoods a.recorded) e in
    let two : mk b.sent a.got a.constraints a.nogoods a.recorded ≡ mk b.sent b.got a.constraints a.nogoods a.recorded = ap (λ s. mk b.sent s a.constraints a.nogoods a.recorded) f in
    let three : mk b.sent b.got a.constraints a.nogoods a.recorded ≡ mk b.sent b.got b.constraints a.nogoods a.recorded = ap (λ s. mk b.sent b.got s a.nogoods a.recorded) g in
    let four : mk b.sent b.got b.constraints a.nogoods a.recorded ≡ mk b.sent b.got b.constraints b.nogoods a.recorded = ap (λ s. mk b.sent b.got b.constraints s a.recorded) h in
    let five : mk b.sent b.got b.constraints b.nogoods a.recorded ≡ mk b.sent b.got b.constraints b.nogoods b.recorded = ap (mk b.sent b.got b.constraints b.nogoods) k in
    one ∙ two ∙ three ∙ four ∙ five

one_sum : (f : Act → ℕ) (list : List Act) (a : Act) → sum_by f (list ++ a ∷ []) ≡ sum_by f list + f a
one_sum f list a = sum_by-append f list (a ∷ []) ∙ (let z : sum_by f (a ∷ []) ≡ f a = omega arith in omega arith)

row-more : (p : Csp) (list : List Act) (a : Act) → row_of p (list ++ a ∷ []) ≡ row_after (row_of p list) (kinds_of (messages_got a)) (checks_of p a) (length a.after.recorded) (kinds_of (messages_sent a))
row-more p list a = same_row _ _
    (ap kinds_of (flat_map-append messages_sent list (a ∷ []) ∙ ap (λ l. flat_map messages_sent list ++ l) (append-nil (messages_sent a))) ∙ kinds_append (flat_map messages_sent list) (messages_sent a))
    (ap kinds_of (flat_map-append messages_got list (a ∷ []) ∙ ap (λ l. flat_map messages_got list ++ l) (append-nil (messages_got a))) ∙ kinds_append (flat_map messages_got list) (messages_got a))
    (one_sum (λ (x : Act). (checks_of p x).constraints) list a)
    (one_sum (λ (x : Act). (checks_of p x).nogoods) list a)
    (greatest-more (λ (x : Act). length x.after.recorded) list a)

row_here : (p : Csp) (acts : List Act) (a : Act) (i : ℕ) → a.agent ≡ i → row p (acts ++ a ∷ []) i ≡ row_after (row p acts i) (kinds_of (messages_got a)) (checks_of p a) (length a.after.recorded) (kinds_of (messages_sent a))
row_here p acts a i e =
    let t : (a.agent == i) ≡ true = elim (eqb_tells a.agent i) [ inl u ↦ u.0 | inr u ↦ absurd (u.1 e) ] in
    ap (row_of p) (filter-append (λ (x : Act). x.agent == i) acts (a ∷ []) ∙ ap (λ b. acts_by i acts ++ cond b (a ∷ []) []) t) ∙ row-more p (acts_by i acts) a

row_elsewhere : (p : Csp) (acts : List Act) (a : Act) (i : ℕ) → (a.agent ≡ i → ⊥) → row p (acts ++ a ∷ []) i ≡ row p acts i
row_elsewhere p acts a i ne =
    let t : (a.agent == i) ≡ false = elim (eqb_tells a.agent i) [ inl u ↦ absurd (ne u.1) | inr u ↦ u.0 ] in
    ap (row_of p) (filter-append (λ (x : Act). x.agent == i) acts (a ∷ []) ∙ ap (λ b. acts_by i acts ++ cond b (a ∷ []) []) t ∙ append-nil (acts_by i acts))

module _ (p : Csp) (acts : List Act) (a : Act) (agent : ℕ) (came : Option Came) (checks : Checks) (recorded : ℕ) (sent : List SentTo) (act : IsAct p a agent came checks recorded sent) where
  pub rows_more : (old new : List Row) (after : Row) → AreRows p acts old → agent < length old → as_row after ≡ row_after (as_row (row_at old agent)) (came_kinds (kind_in came)) (as_checks checks) recorded (kinds_sent sent) → new ≡ set old agent after
      → AreRows p (acts ++ a ∷ []) new
  rows_more old new after h inside is e = record {
    long = ap length e ∙ length-set old agent after ∙ h.long;
    each = λ i l. elim (eqb_tells i agent) [
      | inl t ↦
          ap (λ z. as_row (row_at z i)) e ∙ ap (λ k. as_row (row_at (set old agent after) k)) t.1 ∙ ap as_row (get_or-set_same old agent after _ inside) ∙ is
          ∙ ap (λ r. row_after r (came_kinds (kind_in came)) (as_checks checks) recorded (kinds_sent sent)) (ap (λ k. as_row (row_at old k)) (sym t.1) ∙ h.each i l)
          ∙ ap (λ k. row_after (row p acts i) k (as_checks checks) recorded (kinds_sent sent)) (ap (λ o. came_kinds (kind_in o)) act.came_is ∙ kinds_came a.came)
          ∙ ap (λ k. row_after (row p acts i) (kinds_of (messages_got a)) k recorded (kinds_sent sent)) act.checks_are
          ∙ ap (λ k. row_after (row p acts i) (kinds_of (messages_got a)) (checks_of p a) k (kinds_sent sent)) act.recorded_is
          ∙ ap (λ k. row_after (row p acts i) (kinds_of (messages_got a)) (checks_of p a) (length a.after.recorded) k) (ap kinds_sent act.sent_is ∙ kinds_told a.sent)
          ∙ sym (row_here p acts a i (sym act.agent_is ∙ sym t.1))
      | inr t ↦
          ap (λ z. as_row (row_at z i)) e ∙ ap as_row (get_or-set_other old agent i after _ t.1) ∙ h.each i l
          ∙ sym (row_elsewhere p acts a i (λ q. t.1 (sym q ∙ sym act.agent_is)))
    ];
  }

  -- ---- clocks

  pub clock_more : (old new : ClockState) (work : ℕ) → IsClock p (as_weights old.weights) acts old → work ≡ old.weights.constraint * checks.constraints + old.weights.nogood * checks.nogoods
      → clocks_of new ≡ tick old.weights.latency (record { agent = agent; sender = sender_in came; work = work; receivers = receivers_of sent }) (clocks_of old) → new.weights ≡ old.weights → length new.agents ≡ length old.agents
      → IsClock p (as_weights old.weights) (acts ++ a ∷ []) new
  clock_more old new work h is ticked weights long = record {
    weights = ap as_weights weights;
    long = long ∙ h.long;
    clocks =
        let w = as_weights old.weights in
        let e : Event = record { agent = agent; sender = sender_in came; work = work; receivers = receivers_of sent } in
        let same : e ≡ event_of p w a = event_is e (event_of p w a) act.agent_is (ap sender_in act.came_is ∙ sender_told a.came) (is ∙ ap (work_of w) act.checks_are) (ap receivers_of act.sent_is ∙ receivers_told a.sent) in
        ticked ∙ ap (λ (x : Event). tick w.latency x (clocks_of old)) same ∙ ap (tick w.latency (event_of p w a)) h.clocks
        ∙ sym (ap (λ l. ticks w.latency l no_clocks) (map-append (event_of p w) acts (a ∷ [])) ∙ ticks-more w.latency (map (event_of p w) acts) (event_of p w a) no_clocks);
  }
    where
      event_is : (x y : Event) → x.agent ≡ y.agent → x.sender ≡ y.sender → x.work ≡ y.work → x.receivers ≡ y.receivers → x ≡ y
      event_is x y e f g h =
          let mk = λ (i : ℕ) (s : Option ℕ) (k : ℕ) (r : List ℕ). (let z : Event = record { agent = i; sender = s; work = k; receivers = r } in z) in
          let one : mk x.agent x.sender x.work x.receivers ≡ mk y.agent x.sender x.work x.receivers = ap (λ z. mk z x.sender x.work x.receivers) e in
          let two : mk y.agent x.sender x.work x.receivers ≡ mk y.agent y.sender x.work x.receivers = ap (λ z. mk y.agent z x.work x.receivers) f in
          let three : mk y.agent y.sender x.work x.receivers ≡ mk y.agent y.sender y.work x.receivers = ap (λ z. mk y.agent y.sender z x.receivers) g in
          let four : mk y.agent y.sender y.work x.receivers ≡ mk y.agent y.sender y.work y.receivers = ap (mk y.agent y.sender y.work) h in
          one ∙ two ∙ three ∙ four

-- ---- before the start

pub none_counted : (rows : List Row) (after : Row) → as_row after ≡ no_row → ((k : ℕ) → as_row (row_at rows k) ≡ no_row) → (k : ℕ) → as_row (row_at (rows ++ after ∷ []) k) ≡ no_row
none_counted [] after e h zero = e
none_counted [] after e h (suc k) = refl
none_counted (x ∷ xs) after e h zero = h 0
none_counted (x ∷ xs) after e h (suc k) = none_counted xs after e (λ j. h (suc j)) k

-- ---- messages

pub received_told : (o : Option (ℕ × Message)) → received_in (told_came o) ≡ length (message_in o)
received_told None = refl
received_told (Some x) = refl

length-told : (sent : List (ℕ × Message)) → length (map told_sent sent) ≡ length sent
length-told [] = refl
length-told (x ∷ xs) = ap suc (length-told xs)

pub sent_more : (acts : List Act) (a : Act) (old new : ℕ) (sent : List SentTo) → new ≡ old + length sent → sent ≡ map told_sent a.sent → old ≡ sum_by (λ (x : Act). length x.sent) acts → new ≡ sum_by (λ (x : Act). length x.sent) (acts ++ a ∷ [])
sent_more acts a old new sent e f h =
    let l = ap (λ (z : List SentTo). length z) f ∙ length-told a.sent in
    let o = one_sum (λ (x : Act). length x.sent) acts a in omega arith

pub got_more : (acts : List Act) (a : Act) (old new got : ℕ) (came : Option Came) → new ≡ old + got → got ≡ received_in came → came ≡ told_came a.came → old ≡ sum_by (λ (x : Act). length (messages_got x)) acts → new ≡ sum_by (λ (x : Act). length (messages_got x)) (acts ++ a ∷ [])
got_more acts a old new got came e g f h =
    let l = ap received_in f ∙ received_told a.came in
    let o = one_sum (λ (x : Act). length (messages_got x)) acts a in omega arith

-- the clock with its weights by name
pub by_weights : (p : Csp) (w : clocks.Weights) (acts more : List Act) (old new : ClockState) → IsClock p w acts old → (IsClock p (as_weights old.weights) acts old → IsClock p (as_weights old.weights) more new) → IsClock p w more new
by_weights p w acts more old new h f = subst (λ (x : clocks.Weights). IsClock p x more new) h.weights (f (subst (λ (x : clocks.Weights). IsClock p x acts old) (sym h.weights) h))
