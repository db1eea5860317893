-- What the lines of the start and of each delivery tell.
use Rattle.std.proofs.Common.{◌≡◌, ◌≢◌, ◌∙◌, ℕ, zero, suc, ℤ, ◌+◌, ◌%◌, ◌<◌, ◌≤◌, Bool, true, false, cond, ◌&&◌, inl, inr, List, [], ◌∷◌, ◌++◌, ◌==◌, drop, length, map, slice_get, slice_index, take, Option, Some, None, option_to_list, refl, sym, ap, subst, arith, append-nil, append_assoc, length-append}
use Rattle.std.specs.List.{flat_map}
use Rattle.std.proofs.lemmas.Bool.Decides.{eqb_tells}
use Rattle.std.proofs.lemmas.Grind.{flat_map-append}
use Rattle.std.proofs.lemmas.List.{get_or_past, map-append}
use Rattle.std.proofs.lemmas.Option.{get_or_from_slice_get}
use Rattle.dcsp_defs.specs.declared.Step.{Step}
use Rattle.dcsp_defs.specs.Words.{In, below, update}
use Rattle.dcsp_defs.specs.Derivation.{step_at}
use Rattle.dcsp_defs.specs.Pairs.{pair_of}
use Rattle.dcsp_defs.proofs.Lists.{In-map}
use Rattle.dcsp_order.proofs.Mapped.{from_map}
use Rattle.dcsp_defs.specs.Csp.{Csp, IsCsp, count, domain}
use Rattle.abt_defs.specs.Agents.{Agent, Tell, Refuse, AddLink, Message, Record, Stamped, View, fresh, known}
use Rattle.abt_defs.specs.Events.{Act}
use Rattle.abt_defs.specs.Steps.{Outcome}
use Rattle.abt_defs.specs.Network.{Network, acted, deliver, deliver_at, deliver_head, left, ready, refutes, run, sent_to, start}
use Rattle.abt_defs.specs.Runs.{Cargo, Delivery, cargo_of, delivery, delivery_at, head_on, whole}
use Rattle.law_runs.specs.Starts.{first_act, first_outcome, settled_in, StartsWith}
use Rattle.law_runs.specs.Stops.{after, Stops}
use Rattle.law_runs.proofs.Next.{run_more}
use Rattle.law_runs.proofs.NextActs.{after_is, choice_is, next_act, outcome}
use Rattle.law_runs.proofs.SizeRuns.{sizes_hold}
use Rattle.law_runs.proofs.Starting.{starts_in_order}
use Rattle.law_runs.proofs.Stopping.{stops}
use Rattle.law_runs.proofs.Takes.{all_deliverable}
use Rattle.law_runs.specs.Deliverable.{Deliverable, IsDeliverable}
use Rattle.abt_story.specs.Facts.{Fact, Line}
use Rattle.abt_story.specs.Numbers.{lines_told, IsOrderOn}
use Rattle.abt_story.specs.Telling.{agentless, delivery_facts, facts, first_step, lines, lines_at, made_by_none, named_by, reason, ruled_out, start_facts, start_lines, step_between, steps_of}
use Rattle.abt_story.specs.Retelling.{fold, known_after, lines_so_far, list_told, recorded_after, retold, ruled_after, value_after, waits_after, NothingIsHidden, Shows}
use Rattle.abt_story.proofs.Numbers.{lines_append, named_too, shows_told}
use Rattle.abt_story.proofs.Folds.{list_append, list_lines, retold_append, retold_other, retold_own}
use Rattle.abt_story.proofs.Outcomes.{Moves, receive_enters, receive_moves, settle_moves, settle_view, weaken}
use Rattle.abt_story.proofs.Records.{none_told, recorded_told, settle_keeps, Clear, HasNew}
use Rattle.abt_story.proofs.Once.{lt_or_ge, once_holds, steps_in, Once}
use Rattle.abt_story.proofs.Retold.{known_told, list_told_by, none_ruled, ruled_told, shorter, value_told, waits_told, MadeFits}

flat_mapped : {X Y Z : Type 0} (f : Y → List Z) (g : X → Y) (xs : List X) → flat_map f (map g xs) ≡ flat_map (λ x. f (g x)) xs
flat_mapped f g [] = refl
flat_mapped f g (x ∷ xs) = ap (λ l. f (g x) ++ l) (flat_mapped f g xs)

flat_last : {Z : Type 0} (f : ℕ → List Z) (n : ℕ) → flat_map f (below (suc n)) ≡ flat_map f (below n) ++ f n
flat_last f n = flat_map-append f (below n) (n ∷ []) ∙ ap (λ l. flat_map f (below n) ++ l) (append-nil (f n))

-- ---- the start

module _ {X : Type 0} (change : Fact → X → X) (i : ℕ) (x : X) (told : ℕ → List Fact) where
  not_yet : (n : ℕ) → n ≤ i → retold change i x (flat_map (λ j. lines 0 j (told j)) (below n)) ≡ x
  not_yet zero l = refl
  not_yet (suc n) l =
      ap (retold change i x) (flat_last (λ j. lines 0 j (told j)) n) ∙ retold_append change i x (flat_map (λ j. lines 0 j (told j)) (below n)) (lines 0 n (told n))
      ∙ ap (λ y. retold change i y (lines 0 n (told n))) (not_yet n (omega arith)) ∙ retold_other change i n (λ e. let d = e in omega arith) x 0 (told n)

  there : (n : ℕ) → i < n → retold change i x (flat_map (λ j. lines 0 j (told j)) (below n)) ≡ fold change x (told i)
  there zero l = absurd (omega arith)
  there (suc n) l =
      ap (retold change i x) (flat_last (λ j. lines 0 j (told j)) n) ∙ retold_append change i x (flat_map (λ j. lines 0 j (told j)) (below n)) (lines 0 n (told n)) ∙ elim (eqb_tells i n) [
        | inl t ↦
            let e : i ≡ n = t.1 in
            ap (λ y. retold change i y (lines 0 n (told n))) (not_yet n (omega arith)) ∙ ap (λ m. retold change i x (lines 0 m (told m))) (sym e) ∙ retold_own change i x 0 (told i)
        | inr t ↦
            let ne : i ≢ n = t.1 in
            retold_other change i n ne _ 0 (told n) ∙ there n (omega arith)
      ]

pass_agentless : {X : Type 0} (change : Fact → X → X) (i : ℕ) (x : X) (steps : List Step) → retold change i x (agentless steps) ≡ x
pass_agentless change i x [] = refl
pass_agentless change i x (s ∷ steps) = by_variable s.variable
  where
    by_variable : (o : Option ℕ) → retold change i x (made_by_none o) ≡ x
    by_variable None = refl
    by_variable (Some j) = refl

list_agentless : (k j : ℕ) (x : List Cargo) (steps : List Step) → list_told k j x (agentless steps) ≡ x
list_agentless k j x [] = refl
list_agentless k j x (s ∷ steps) = by_variable s.variable
  where
    by_variable : (o : Option ℕ) → list_told k j x (made_by_none o) ≡ x
    by_variable None = refl
    by_variable (Some i) = refl

module _ (order : Option (List ℕ)) (p : Csp) where
  abbrev settled : ℕ
  settled = settled_in (count p) (start p).steps

  h : StartsWith p settled
  h = starts_in_order p

  abbrev first_facts : ℕ → List Fact
  first_facts i = facts order p (first_step (first_outcome p i).agent) (first_act p i)

  abbrev settlings : List Line
  settlings = flat_map (λ i. lines 0 i (first_facts i)) (below settled)

  start_is : start_facts order p ≡ agentless (start p).steps ++ settlings
  start_is = ap (λ l. agentless (start p).steps ++ l) (ap (flat_map (λ (a : Act). lines 0 a.agent (facts order p (first_step a.after) a))) h.acts ∙ flat_mapped (λ (a : Act). lines 0 a.agent (facts order p (first_step a.after) a)) (first_act p) (below settled))

  first_told : {X : Type 0} (change : Fact → X → X) (i : ℕ) (x : X) → i < settled → retold change i x (start_facts order p) ≡ fold change x (first_facts i)
  first_told change i x l =
      ap (retold change i x) start_is ∙ retold_append change i x (agentless (start p).steps) settlings ∙ ap (λ y. retold change i y settlings) (pass_agentless change i x (start p).steps)
      ∙ there change i x first_facts settled l

  not_told : {X : Type 0} (change : Fact → X → X) (i : ℕ) (x : X) → settled ≤ i → retold change i x (start_facts order p) ≡ x
  not_told change i x l =
      ap (retold change i x) start_is ∙ retold_append change i x (agentless (start p).steps) settlings ∙ ap (λ y. retold change i y settlings) (pass_agentless change i x (start p).steps)
      ∙ not_yet change i x first_facts settled l

  -- lists
  own_list : (k j n : ℕ) (x : List Cargo) → list_told k j x (lines 0 n (first_facts n)) ≡ cond (k == n) (x ++ map cargo_of (sent_to j (first_outcome p n).sent)) x
  own_list k j n x = list_lines k j x 0 n (first_facts n) ∙ list_told_by order p (first_step (first_outcome p n).agent) n None (fresh p n) (first_outcome p n) k j x

  list_not_yet : (k j n : ℕ) → n ≤ k → list_told k j [] (flat_map (λ i. lines 0 i (first_facts i)) (below n)) ≡ []
  list_not_yet k j zero l = refl
  list_not_yet k j (suc n) l =
      ap (list_told k j []) (flat_last (λ i. lines 0 i (first_facts i)) n) ∙ list_append k j [] (flat_map (λ i. lines 0 i (first_facts i)) (below n)) (lines 0 n (first_facts n))
      ∙ ap (λ y. list_told k j y (lines 0 n (first_facts n))) (list_not_yet k j n (omega arith)) ∙ own_list k j n [] ∙ elim (eqb_tells k n) [
        | inl t ↦ absurd (let e = t.1 in omega arith)
        | inr t ↦ ap (λ (b : Bool). cond b ([] ++ map cargo_of (sent_to j (first_outcome p n).sent)) []) t.0
      ]

  list_there : (k j n : ℕ) → k < n → list_told k j [] (flat_map (λ i. lines 0 i (first_facts i)) (below n)) ≡ map cargo_of (sent_to j (first_outcome p k).sent)
  list_there k j zero l = absurd (omega arith)
  list_there k j (suc n) l =
      ap (list_told k j []) (flat_last (λ i. lines 0 i (first_facts i)) n) ∙ list_append k j [] (flat_map (λ i. lines 0 i (first_facts i)) (below n)) (lines 0 n (first_facts n)) ∙ elim (eqb_tells k n) [
        | inl t ↦
            let e : k ≡ n = t.1 in
            ap (λ y. list_told k j y (lines 0 n (first_facts n))) (list_not_yet k j n (omega arith)) ∙ own_list k j n [] ∙ ap (λ (b : Bool). cond b ([] ++ map cargo_of (sent_to j (first_outcome p n).sent)) []) t.0
            ∙ ap (λ i. map cargo_of (sent_to j (first_outcome p i).sent)) (sym e)
        | inr t ↦
            let ne : k ≢ n = t.1 in
            ap (λ y. list_told k j y (lines 0 n (first_facts n))) (list_there k j n (omega arith)) ∙ own_list k j n (map cargo_of (sent_to j (first_outcome p k).sent))
            ∙ ap (λ (b : Bool). cond b (map cargo_of (sent_to j (first_outcome p k).sent) ++ map cargo_of (sent_to j (first_outcome p n).sent)) (map cargo_of (sent_to j (first_outcome p k).sent))) t.0
      ]

  first_lists : (k j : ℕ) → list_told k j [] (start_facts order p) ≡ map cargo_of ((start p).links k j)
  first_lists k j =
      ap (list_told k j []) start_is ∙ list_append k j [] (agentless (start p).steps) settlings ∙ ap (λ y. list_told k j y settlings) (list_agentless k j [] (start p).steps) ∙ by_order
    where
      by_order : list_told k j [] settlings ≡ map cargo_of ((start p).links k j)
      by_order = elim (lt_or_ge k settled) [
        | inl l ↦ list_there k j settled l ∙ ap (map cargo_of) (sym (h.sent k j l))
        | inr l ↦ list_not_yet k j settled l ∙ ap (map cargo_of) (sym (h.others k j l))
      ]

  -- marks
  first_fits : (start p).refuted ≡ false → IsCsp p → (i : ℕ) → i < settled → MadeFits (first_step (first_outcome p i).agent) (first_outcome p i)
  first_fits alive ok i l = record { none = λ e. none; some = λ s e. absurd (by_move s e (settle_moves p i 1 (fresh p i))) }
    where
      value : (v : ℤ) × ((first_outcome p i).agent.value ≡ Some v)
      value =
          let few = h.few in
          let z = (sizes_hold p ok []).values alive i (omega arith) in
          (z.0, ap (λ (a : Agent). a.value) (sym (h.agents i l)) ∙ z.1)

      none : first_step (first_outcome p i).agent ≡ None
      none = first_none (first_outcome p i).agent value.0 value.1
        where
          first_none : (a : Agent) (v : ℤ) → a.value ≡ Some v → first_step a ≡ None
          first_none a v e = rw e refl

      by_move : (s : Step) → (first_outcome p i).step ≡ Some s → Moves (fresh p i) (first_outcome p i) → ⊥
      by_move s e (inl m) = let f = m.step in cc
      by_move s e (inr (inl m)) = let f = m.step in cc
      by_move s e (inr (inr m)) = let f = m.value in let g = value.1 in cc

  start_shows : IsCsp p → Shows None p (start_facts order p) (start p)
  start_shows ok = record {
    lists = first_lists;
    values = λ i l. first_told value_after i None l ∙ value_told order p (first_step (first_outcome p i).agent) i None (fresh p i) (first_outcome p i) (settle_moves p i 1 (fresh p i)) ∙ ap (λ (a : Agent). a.value) (sym (h.agents i l));
    waits = λ alive i l.
        first_told waits_after i false l ∙ waits_told order p (first_step (first_outcome p i).agent) i None (fresh p i) (first_outcome p i) (settle_moves p i 1 (fresh p i)) (first_fits alive ok i l)
        ∙ ap (λ (a : Agent). a.waits) (sym (h.agents i l));
    known_is = λ i k l.
        first_told (known_after k) i None l
        ∙ known_told order p (first_step (first_outcome p i).agent) i None (fresh p i) (first_outcome p i) k (inl (ap (λ (v : View). v k) (settle_view p i 1 (fresh p i)))) ∙ ap (λ (a : Agent). known a k) (sym (h.agents i l));
    recorded = λ i. elim (lt_or_ge i settled) [
      | inl l ↦ first_told recorded_after i [] l ∙ none_told order p (first_step (first_outcome p i).agent) i (fresh p i) (first_outcome p i) refl (settle_keeps p i 1 (fresh p i)) ∙ nothing i
      | inr l ↦ not_told recorded_after i [] l ∙ nothing i
    ];
    ruled = λ i l.
        first_told ruled_after i [] l ∙ ruled_told order p (first_step (first_outcome p i).agent) i None (fresh p i) (first_outcome p i) [] (sym (none_ruled (domain p i)))
        ∙ ap (λ (a : Agent). ruled_out (domain p i) (reason p i a)) (sym (h.agents i l));
  }
    where
      nothing : (i : ℕ) → [] ≡ steps_of ((start p).agents i)
      nothing i = sym (ap (λ l. map (λ (x : Record). x.step) l) (h.recorded i))

-- ---- a delivery

pub record Chosen (p : Csp) (c : ℕ) (net : Network) : Type 0 where
  pub sender : ℕ
  pub receiver : ℕ
  pub message : Message
  pub rest : List Message
  pub chosen : slice_get (ready p net) (c % length (ready p net)) ≡ Some (sender, receiver)
  pub head : net.links sender receiver ≡ message ∷ rest

pub find_chosen : (p : Csp) (c : ℕ) (net : Network) (d : Delivery) → delivery p c net ≡ d ∷ [] → Chosen p c net
find_chosen p c net d e = by_pair (slice_get (ready p net) (c % length (ready p net))) refl e
  where
    by_list : (k i : ℕ) → slice_get (ready p net) (c % length (ready p net)) ≡ Some (k, i) → (l : List Message) → net.links k i ≡ l → head_on k i l ≡ d ∷ [] → Chosen p c net
    by_list k i f [] g x = cc
    by_list k i f (m ∷ rest) g x = record { sender = k; receiver = i; message = m; rest = rest; chosen = f; head = g }

    by_pair : (o : Option (ℕ × ℕ)) → slice_get (ready p net) (c % length (ready p net)) ≡ o → delivery_at o net ≡ d ∷ [] → Chosen p c net
    by_pair None f x = cc
    by_pair (Some (k, i)) f x = by_list k i f (net.links k i) refl x

module _ (p : Csp) (c : ℕ) (net : Network) (s : Chosen p c net) where
  abbrev pub i : ℕ
  i = s.receiver

  abbrev pub k : ℕ
  k = s.sender

  abbrev pub o : Outcome
  o = outcome p net c k i s.message s.rest s.chosen s.head

  abbrev pub act : Act
  act = next_act p net c k i s.message s.rest s.chosen s.head

  abbrev pub next : Network
  next = deliver p c net

  deliver_is : next ≡ acted i o (left k i s.rest net)
  deliver_is = ap (λ x. deliver_at p x net) s.chosen ∙ ap (λ l. deliver_head p k i l net) s.head

  own_is : next.agents i ≡ o.agent
  own_is = after_is p net c k i s.message s.rest s.chosen s.head

  others_are : (j : ℕ) → j ≢ i → next.agents j ≡ net.agents j
  others_are j ne = ap (λ (n : Network). n.agents j) deliver_is ∙ elim (eqb_tells j i) [ inl t ↦ absurd (ne t.1) | inr t ↦ rw t.0 refl ]

  pub steps_are : next.steps ≡ net.steps ++ option_to_list o.step
  steps_are = ap (λ (n : Network). n.steps) deliver_is

  pub none_between : o.step ≡ None → step_between net next ≡ None
  none_between e =
      let same : length next.steps ≡ length net.steps = ap length (steps_are ∙ ap (λ z. net.steps ++ option_to_list z) e ∙ append-nil net.steps) in
      elim (eqb_tells (length next.steps) (length net.steps)) [ inl t ↦ ap (λ (b : Bool). cond b None (Some (length next.steps))) t.0 | inr t ↦ absurd (t.1 same) ]

  pub some_between : (z : Step) → o.step ≡ Some z → step_between net next ≡ Some (length next.steps)
  some_between z e =
      let more : length next.steps ≡ length net.steps + 1 = ap length (steps_are ∙ ap (λ y. net.steps ++ option_to_list y) e) ∙ length-append net.steps (z ∷ []) in
      elim (eqb_tells (length next.steps) (length net.steps)) [ inl t ↦ absurd (let d = t.1 in omega arith) | inr t ↦ ap (λ (b : Bool). cond b None (Some (length next.steps))) t.0 ]

  fits : next.refuted ≡ false → MadeFits (step_between net next) o
  fits alive = record {
    none = none_between;
    some = λ z e. (length next.steps, some_between z e, ap refutes (sym e) ∙ sym (ap (λ (n : Network). n.refuted) deliver_is) ∙ alive);
  }

  moves : Moves (net.agents i) o
  moves = receive_moves p i (length net.steps + 1) (net.agents i) k s.message

  left_is : (k' j : ℕ) → shorter k' j i (Some (k, s.message)) (map cargo_of (net.links k' j)) ≡ map cargo_of ((left k i s.rest net).links k' j)
  left_is k' j = elim (eqb_tells k' k) [
    | inl t ↦ elim (eqb_tells j i) [
      | inl u ↦ rw t.1 (rw u.1 (ap (λ (b : Bool). cond (b && (i == i)) (drop 1 (map cargo_of (net.links k i))) (map cargo_of (net.links k i))) (eqb-refl k) ∙ ap (λ (b : Bool). cond b (drop 1 (map cargo_of (net.links k i))) (map cargo_of (net.links k i))) (eqb-refl i)
          ∙ ap (λ l. drop 1 (map cargo_of l)) s.head ∙ sym (ap (λ (b : Bool). map cargo_of (cond b (update (net.links k) i s.rest) (net.links k) i)) (eqb-refl k) ∙ ap (λ (b : Bool). map cargo_of (cond b s.rest (net.links k i))) (eqb-refl i))))
      | inr u ↦ rw t.1 (ap (λ (b : Bool). cond ((k == k) && b) (drop 1 (map cargo_of (net.links k j))) (map cargo_of (net.links k j))) u.0 ∙ both_false (k == k) (drop 1 (map cargo_of (net.links k j))) (map cargo_of (net.links k j))
          ∙ sym (ap (λ (b : Bool). map cargo_of (cond b (update (net.links k) i s.rest) (net.links k) j)) (eqb-refl k) ∙ ap (λ (b : Bool). map cargo_of (cond b s.rest (net.links k j))) u.0))
    ]
    | inr t ↦
        ap (λ (b : Bool). cond (b && (j == i)) (drop 1 (map cargo_of (net.links k' j))) (map cargo_of (net.links k' j))) t.0
        ∙ sym (ap (λ (b : Bool). map cargo_of (cond b (update (net.links k) i s.rest) (net.links k') j)) t.0)
  ]
    where
      eqb-refl : (n : ℕ) → (n == n) ≡ true
      eqb-refl n = elim (eqb_tells n n) [ inl t ↦ t.0 | inr t ↦ absurd (t.1 refl) ]

      both_false : {A : Type 0} (b : Bool) (x y : A) → cond (b && false) x y ≡ y
      both_false true x y = refl
      both_false false x y = refl

  module _ (order : Option (List ℕ)) where
    abbrev pub mine : List Line
    mine = lines next.deliveries i (facts order p (step_between net next) act)

    pub lines_are : delivery_facts order p c net ≡ mine
    lines_are = ap (flat_map (λ (a : Act). lines next.deliveries a.agent (facts order p (step_between net next) a))) (choice_is p net c k i s.message s.rest s.chosen s.head) ∙ append-nil mine

    agent_told : {X : Type 0} (change : Fact → X → X) (x : X) (g : ℕ → Agent → X) → fold change (g i (net.agents i)) (facts order p (step_between net next) act) ≡ g i o.agent
        → (ls : List Line) (j : ℕ) → retold change j x ls ≡ g j (net.agents j) → retold change j x (ls ++ delivery_facts order p c net) ≡ g j (next.agents j)
    agent_told change x g law ls j e =
        ap (λ l. retold change j x (ls ++ l)) lines_are ∙ retold_append change j x ls mine ∙ ap (λ y. retold change j y mine) e ∙ elim (eqb_tells j i) [
          | inl t ↦ rw t.1 (retold_own change i (g i (net.agents i)) next.deliveries (facts order p (step_between net next) act) ∙ law ∙ ap (g i) (sym own_is))
          | inr t ↦ retold_other change j i t.1 (g j (net.agents j)) next.deliveries (facts order p (step_between net next) act) ∙ ap (g j) (sym (others_are j t.1))
        ]

    lists_told : (ls : List Line) (k' j : ℕ) → list_told k' j [] ls ≡ map cargo_of (net.links k' j) → list_told k' j [] (ls ++ delivery_facts order p c net) ≡ map cargo_of (next.links k' j)
    lists_told ls k' j e =
        ap (λ l. list_told k' j [] (ls ++ l)) lines_are ∙ list_append k' j [] ls mine ∙ ap (λ y. list_told k' j y mine) e
        ∙ list_lines k' j (map cargo_of (net.links k' j)) next.deliveries i (facts order p (step_between net next) act)
        ∙ list_told_by order p (step_between net next) i (Some (k, s.message)) (net.agents i) o k' j (map cargo_of (net.links k' j))
        ∙ ap (λ y. cond (k' == i) (y ++ map cargo_of (sent_to j o.sent)) y) (left_is k' j) ∙ joined (k' == i) ((left k i s.rest net).links k' j) (sent_to j o.sent)
        ∙ sym (ap (λ (n : Network). map cargo_of (n.links k' j)) deliver_is)
      where
        joined : (b : Bool) (l m : List Message) → cond b (map cargo_of l ++ map cargo_of m) (map cargo_of l) ≡ map cargo_of (cond b (l ++ m) l)
        joined true l m = sym (map-append cargo_of l m)
        joined false l m = refl

    shows_next : net.refuted ≡ false → Clear s.message (net.agents i).recorded → ((q : ℕ) → In q (named_by None k s.message) → In q (named_by order k s.message)) → (ls : List Line) → Shows None p ls net → Shows None p (ls ++ delivery_facts order p c net) next
    shows_next alive clear named ls h = record {
      lists = λ k' j. lists_told ls k' j (h.lists k' j);
      values = λ j l. agent_told value_after None (λ n (a : Agent). a.value) (value_told order p (step_between net next) i (Some (k, s.message)) (net.agents i) o moves) ls j (h.values j l);
      waits = λ on j l. agent_told waits_after false (λ n (a : Agent). a.waits) (waits_told order p (step_between net next) i (Some (k, s.message)) (net.agents i) o moves (fits on)) ls j (h.waits alive j l);
      known_is = λ j q l.
          agent_told (known_after q) None (λ n (a : Agent). known a q)
          (known_told order p (step_between net next) i (Some (k, s.message)) (net.agents i) o q (weaken (In q (named_by None k s.message)) (In q (named_by order k s.message)) _ _ (named q) (receive_enters p i (length net.steps + 1) (net.agents i) k s.message q))) ls j (h.known_is j q l);
      recorded = λ j. agent_told recorded_after [] (λ n (a : Agent). steps_of a) (recorded_told order p (step_between net next) i (length net.steps + 1) (net.agents i) k s.message clear) ls j (h.recorded j);
      ruled = λ j l.
          agent_told ruled_after [] (λ n (a : Agent). ruled_out (domain p n) (reason p n a))
          (ruled_told order p (step_between net next) i (Some (k, s.message)) (net.agents i) o (ruled_out (domain p i) (reason p i (net.agents i))) refl) ls j (h.ruled j l);
    }

-- ---- a run

-- the message that is delivered next is no nogood of a step of which the receiver has recorded one
next_clear : (p : Csp) → IsCsp p → (c : ℕ) (cs : List ℕ) → (run p cs (start p)).refuted ≡ false → (s : Chosen p c (run p cs (start p))) → Clear s.message ((run p cs (start p)).agents s.receiver).recorded
next_clear p ok c cs alive s = record {
  one = λ x y u v e.
      let m = d.recorded s.receiver x u in
      let n = d.recorded s.receiver y v in
      let same : m.0 ≡ n.0 = one_step (sym m.1 ∙ ap (step_at (run p cs (start p)).steps) e ∙ n.1) in
      sym m.2 ∙ ap (λ (z : Step). z.nogood) same ∙ n.2;
  new = λ n h u. once.unrecorded s.sender s.receiver n (subst (λ l. In n (steps_in l)) (sym s.head) (came s.message n h)) u;
}
  where
    d : Deliverable p (run p cs (start p))
    d = all_deliverable p ok cs alive

    once : Once (run p cs (start p))
    once = once_holds p cs

    one_step : {x y : Step} → Some x ≡ Some y → x ≡ y
    one_step e = cc

    came : (m : Message) (n : ℕ) → HasNew m n → In n (steps_in (m ∷ s.rest))
    came (Tell told) n h = absurd h
    came (Refuse step pairs) n h = inl h
    came AddLink n h = absurd h

-- an agent that the message names is one of the problem, and so it is named where all go by their numbers
value_low : (p : Csp) (i : ℕ) (v : ℤ) → In v (domain p i) → i < count p
value_low p i v h = elim (lt_or_ge i (count p)) [ inl l ↦ l | inr l ↦ absurd (subst (In v) (get_or_past p.domains i [] l) h) ]

next_named : (order : Option (List ℕ)) (p : Csp) → IsCsp p → IsOrderOn order p → (c : ℕ) (cs : List ℕ) → (run p cs (start p)).refuted ≡ false → (s : Chosen p c (run p cs (start p)))
    → (q : ℕ) → In q (named_by None s.sender s.message) → In q (named_by order s.sender s.message)
next_named order p ok in_order c cs alive s = by_message s.message refl
  where
    by_message : (m : Message) → s.message ≡ m → (q : ℕ) → In q (named_by None s.sender m) → In q (named_by order s.sender m)
    by_message (Tell told) e q h = h
    by_message AddLink e q h = h
    by_message (Refuse step pairs) e q h =
        let there : In s.message ((run p cs (start p)).links s.sender s.receiver) = subst (In s.message) (sym s.head) (inl refl) in
        let can : IsDeliverable p (run p cs (start p)).steps s.sender s.receiver (Refuse step pairs) =
        subst (IsDeliverable p (run p cs (start p)).steps s.sender s.receiver) e ((all_deliverable p ok cs alive).messages s.sender s.receiver s.message there) in
        let y = from_map (λ (z : ℕ × Stamped). z.0) q pairs h in
        let low = value_low p y.0.0 y.0.1.value (can.values (pair_of y.0.0 y.0.1.value) (In-map (λ (z : ℕ × Stamped). pair_of z.0 z.1.value) y.0 pairs y.1)) in
        named_too order p in_order (map (λ (z : ℕ × Stamped). z.0) pairs) q (subst (λ k. k < count p) y.2 low) h

module _ (p : Csp) (most : ℕ) (choices : List ℕ) where
  law : Stops p most choices (whole p most choices)
  law = stops p most choices

  -- what delivery k is
  pub record NextOf (k : ℕ) : Type 0 where
    pub made : Delivery
    pub is_made : delivery p (slice_index choices k) (after p choices k) ≡ made ∷ []
    pub traced : slice_get (whole p most choices).trace k ≡ Some made
    pub alive : (after p choices k).refuted ≡ false
    pub after_is : after p choices (suc k) ≡ deliver p (slice_index choices k) (after p choices k)

  pub next_is : (k : ℕ) → k < (whole p most choices).net.deliveries → NextOf k
  next_is k l =
      let few = law.chosen in
      let some = some_at choices k (omega arith) in
      let index : slice_index choices k ≡ some.0 = get_or_from_slice_get choices k some.0 0 some.1 in
      let d = law.delivers k some.0 l some.1 in
      let alive = (law.open_before k l).alive in
      record {
        made = d.made;
        is_made = ap (λ c. delivery p c (after p choices k)) index ∙ d.is_made;
        traced = d.traced;
        alive = alive;
        after_is =
            ap (λ l. run p l (start p)) (take_more choices k some.0 some.1) ∙ run_more p (take k choices) some.0 (start p) ∙ ap (λ b. cond b (after p choices k) (deliver p some.0 (after p choices k))) alive
            ∙ ap (λ c. deliver p c (after p choices k)) (sym index);
      }
    where
      some_at : {X : Type 0} (xs : List X) (k : ℕ) → k < length xs → (x : X) × (slice_get xs k ≡ Some x)
      some_at [] k l = absurd (omega arith)
      some_at (x ∷ xs) zero l = (x, refl)
      some_at (x ∷ xs) (suc k) l = some_at xs k (omega arith)

      take_more : (xs : List ℕ) (k c : ℕ) → slice_get xs k ≡ Some c → take (suc k) xs ≡ take k xs ++ c ∷ []
      take_more [] k c h = cc
      take_more (y ∷ ys) zero c h = let e : y ≡ c = cc in ap (λ z. z ∷ []) e
      take_more (y ∷ ys) (suc k) c h = ap (λ l. y ∷ l) (take_more ys k c h)

  module _ (order : Option (List ℕ)) where
    so_far_more : (k : ℕ) → lines_so_far order p choices (suc k) ≡ lines_so_far order p choices k ++ lines_at order p choices k
    so_far_more k =
        ap (λ l. start_lines order p ++ flat_map (λ x. x) l) (map-append (lines_at order p choices) (below k) (k ∷ []))
        ∙ ap (λ l. start_lines order p ++ l) (flat_map-append (λ x. x) (map (lines_at order p choices) (below k)) (lines_at order p choices k ∷ []) ∙ ap (λ l. flat_map (λ x. x) (map (lines_at order p choices) (below k)) ++ l) (append-nil (lines_at order p choices k)))
        ∙ sym (append_assoc (start_lines order p) (flat_map (λ x. x) (map (lines_at order p choices) (below k))) (lines_at order p choices k))

    -- what happens in a delivery, and all that happens so far, with agents told by their places
    abbrev pub facts_at : ℕ → List Line
    facts_at k = delivery_facts order p (slice_index choices k) (after p choices k)

    abbrev pub facts_so_far : ℕ → List Line
    facts_so_far k = start_facts order p ++ flat_map facts_at (below k)

    pub facts_more : (k : ℕ) → facts_so_far (suc k) ≡ facts_so_far k ++ facts_at k
    facts_more k = ap (λ l. start_facts order p ++ l) (flat_last facts_at k) ∙ sym (append_assoc (start_facts order p) (flat_map facts_at (below k)) (facts_at k))

    -- the lines so far tell it
    pub lines_tell : (k : ℕ) → lines_so_far order p choices k ≡ lines_told order (facts_so_far k)
    lines_tell zero = append-nil (start_lines order p) ∙ ap (lines_told order) (sym (append-nil (start_facts order p)))
    lines_tell (suc k) =
        so_far_more k ∙ ap (λ l. l ++ lines_at order p choices k) (lines_tell k) ∙ sym (lines_append order (facts_so_far k) (facts_at k)) ∙ ap (lines_told order) (sym (facts_more k))

    shown : IsCsp p → IsOrderOn order p → (k : ℕ) → k ≤ (whole p most choices).net.deliveries → Shows None p (facts_so_far k) (after p choices k)
    shown ok in_order zero l = subst (λ ls. Shows None p ls (after p choices 0)) (sym (append-nil (start_facts order p))) (start_shows order p ok)
    shown ok in_order (suc k) l =
        let n = next_is k (omega arith) in
        let c = slice_index choices k in
        let net = after p choices k in
        let seat = find_chosen p c net n.made n.is_made in
        subst (λ ls. Shows None p ls (after p choices (suc k))) (sym (facts_more k))
        (subst (Shows None p (facts_so_far k ++ facts_at k)) (sym n.after_is)
        (shows_next p c net seat order n.alive (next_clear p ok c (take k choices) n.alive seat) (next_named order p ok in_order c (take k choices) n.alive seat) (facts_so_far k) (shown ok in_order k (omega arith))))

pub nothing_is_hidden : (order : Option (List ℕ)) (p : Csp) → NothingIsHidden order p
nothing_is_hidden order p ok in_order most choices k l =
    subst (λ ls. Shows order p ls (after p choices k)) (sym (lines_tell p most choices order k))
    (shows_told order p in_order (facts_so_far p most choices order k) (after p choices k) (shown p most choices order ok in_order k l))
