-- What an event does: it hands up nothing, or one message, which is one delivery over reliable links.
use Rattle.std.proofs.Common.{◌≡◌, ℕ, suc, ◌+◌, ◌-◌, ◌/◌, ◌%◌, ◌<◌, ◌≤◌, Bool, true, false, cond, not, ◌&&◌, ◌⊎◌, inl, inr, List, [], ◌∷◌, ◌++◌, map, flat_map, length, drop, slice_get, Option, Some, None, ◌==◌, refl, sym, ap, ◌∙◌, subst, arith}
use Rattle.std.specs.Prelude.{nat_le}
use Rattle.std.proofs.Math.Nat.{mod-eq_of_lt}
use Rattle.std.proofs.Math.Path.{fun_ext}
use Rattle.std.proofs.lemmas.List.{drop-append-le}
use Rattle.std.proofs.lemmas.Bool.Decides.{nat_tests, eqb_tells}
use Rattle.dcsp_defs.specs.Words.{In, below}
use Rattle.dcsp_defs.specs.Csp.{Csp, count}
use Rattle.dcsp_defs.proofs.Lists.{In-left, In-right, In-map, In-filter, below-In, and_left, and_right, and_both}
use Rattle.abt_defs.specs.Agents.{Message}
use Rattle.abt_defs.specs.Steps.{receive}
use Rattle.abt_defs.specs.Network.{Network, acted, next_number, pairs, ready, sent_to, left, deliver, deliver_at, deliver_head, is_empty}
use Rattle.law_runs.specs.Packets.{Packet, coming, staying, Data, Acknowledgement}
use Rattle.law_runs.specs.Worlds.{World, reliable, raised, unacknowledged, add_packet, send_first, send_on, send, acknowledge, hand_up, come, event}
use Rattle.law_runs.specs.Deliveries.{pair_of_packet, pair_of_event, number_of}
use Rattle.law_runs.specs.WorldFacts.{IsRightData, Facts}
use Rattle.law_runs.proofs.PacketLists.{coming-In, drop_get, raised_tells, first_place}
use Rattle.law_runs.proofs.WorldFacts.{facts_up}

-- nothing is handed up
pub record HandsUpNone (w : World) (pair : Option (ℕ × ℕ)) (v : World) : Type 0 where
  pub network : v.network ≡ w.network
  pub handed_up : v.handed_up ≡ w.handed_up
  pub pair_none : pair ≡ None

-- one message is handed up
pub record HandsUpOne (p : Csp) (w : World) (pair : Option (ℕ × ℕ)) (packet : Option Packet) (v : World) : Type 0 where
  pub k : ℕ
  pub i : ℕ
  pub n : ℕ
  pub m : Message
  pub packet_is : packet ≡ Some (Data k i n m)
  pub next : n ≡ w.handed_up k i + 1
  pub pair_is : pair ≡ Some (k, i)
  pub network : v.network ≡ (hand_up p k i m w).network
  pub handed_up : v.handed_up ≡ raised w.handed_up k i

pub acknowledge_network : (k i n : ℕ) (w : World) → (acknowledge k i n w).network ≡ w.network
acknowledge_network k i n w = elim w.network.refuted as (λ b. (cond b w (add_packet (Acknowledgement k i n) w)).network ≡ w.network) [ true ↦ refl | false ↦ refl ]

pub acknowledge_handed_up : (k i n : ℕ) (w : World) → (acknowledge k i n w).handed_up ≡ w.handed_up
acknowledge_handed_up k i n w = elim w.network.refuted as (λ b. (cond b w (add_packet (Acknowledgement k i n) w)).handed_up ≡ w.handed_up) [ true ↦ refl | false ↦ refl ]

effect_come : (p : Csp) (w : World) (pool : List Packet) (c : Option Packet) → HandsUpNone w (pair_of_packet w c) (come p c (record w { pool = pool })) ⊎ HandsUpOne p w (pair_of_packet w c) c (come p c (record w { pool = pool }))
effect_come p w pool None = inl (record { network = refl; handed_up = refl; pair_none = refl })
effect_come p w pool (Some (Acknowledgement k i n)) =
    let r : World = record w { pool = pool } in
    inl (record {
      network = elim (n == w.acknowledged k i + 1) as (λ b. (cond b (record r { acknowledged = raised r.acknowledged k i }) r).network ≡ w.network) [ true ↦ refl | false ↦ refl ];
      handed_up = elim (n == w.acknowledged k i + 1) as (λ b. (cond b (record r { acknowledged = raised r.acknowledged k i }) r).handed_up ≡ w.handed_up) [ true ↦ refl | false ↦ refl ];
      pair_none = refl;
    })
effect_come p w pool (Some (Data k i n m)) =
    let r : World = record w { pool = pool } in
    elim (eqb_tells n (w.handed_up k i + 1)) [
      | inl t ↦ rw t.0 (inr (record {
        k = k;
        i = i;
        n = n;
        m = m;
        packet_is = refl;
        next = t.1;
        pair_is = refl;
        network = acknowledge_network k i n (hand_up p k i m r);
        handed_up = acknowledge_handed_up k i n (hand_up p k i m r);
      }))
      | inr t ↦ rw t.0 (inl (record {
        network = elim (nat_le n (w.handed_up k i)) as (λ b. (cond b (acknowledge k i n r) r).network ≡ w.network) [ true ↦ acknowledge_network k i n r | false ↦ refl ];
        handed_up = elim (nat_le n (w.handed_up k i)) as (λ b. (cond b (acknowledge k i n r) r).handed_up ≡ w.handed_up) [ true ↦ acknowledge_handed_up k i n r | false ↦ refl ];
        pair_none = refl;
      }))
    ]

effect_send : (w : World) (x : Option (ℕ × ℕ)) → HandsUpNone w None (send_on x w)
effect_send w None = record { network = refl; handed_up = refl; pair_none = refl }
effect_send w (Some x) = by_message (slice_get (w.network.links x.0 x.1) (w.acknowledged x.0 x.1))
  where
    by_message : (o : Option Message) → HandsUpNone w None (send_first x.0 x.1 o w)
    by_message None = record { network = refl; handed_up = refl; pair_none = refl }
    by_message (Some m) = record { network = refl; handed_up = refl; pair_none = refl }

pub effect : (p : Csp) (word : ℕ) (w : World) → HandsUpNone w (pair_of_event word w) (event p word w) ⊎ HandsUpOne p w (pair_of_event word w) (coming word w.pool) (event p word w)
effect p word w =
    let r : World = record w { pool = staying word w.pool } in
    elim (word % 4 == 0) as (λ b. let pair = cond b None (pair_of_packet w (coming word w.pool)) in let v = cond b (send p (word / 4) w) (come p (coming word w.pool) r) in HandsUpNone w pair v ⊎ HandsUpOne p w pair (coming word w.pool) v) [
      | true ↦ inl (effect_send w (slice_get (unacknowledged p w) ((word / 4) % length (unacknowledged p w))))
      | false ↦ effect_come p w (staying word w.pool) (coming word w.pool)
    ]

-- ---- one message handed up is one delivery

-- the lists that a delivery leaves
links_left : (w : World) (k i : ℕ) (a b : ℕ) → drop (raised w.handed_up k i a b) (w.network.links a b) ≡ (left k i (drop (suc (w.handed_up k i)) (w.network.links k i)) (reliable w)).links a b
links_left w k i a b = elim (eqb_tells a k) [
  | inl t ↦ elim (eqb_tells b i) [
    | inl u ↦
        let s : w.network.links a b ≡ w.network.links k i = ap (λ c. w.network.links c b) t.1 ∙ ap (w.network.links k) u.1 in
        rw (t.0, u.0) (ap (λ (l : List Message). drop (w.handed_up k i + 1) l) s ∙ ap (λ n. drop n (w.network.links k i)) (let e : w.handed_up k i + 1 ≡ suc (w.handed_up k i) = omega arith in e))
    | inr u ↦ rw (t.0, u.0) (ap (λ c. drop (w.handed_up k b) (w.network.links c b)) t.1)
  ]
  | inr t ↦ rw t.0 refl
]

-- no more is handed up than was sent
pub raised_within : (p : Csp) (w : World) (k i n : ℕ) (m : Message) → Facts p w → n ≡ w.handed_up k i + 1 → IsRightData p w k i n m → (a b : ℕ) → raised w.handed_up k i a b ≤ length (w.network.links a b)
raised_within p w k i n m h e d a b = elim (raised_tells w.handed_up k i a b) [
  | inl t ↦ let s : length (w.network.links a b) ≡ length (w.network.links k i) = ap (λ c. length (w.network.links c b)) t.0 ∙ ap (λ c. length (w.network.links k c)) t.1 in let x = d.sent in let y = t.2 in omega arith
  | inr t ↦ let x = h.handed_up a b in omega arith
]

handing_up : (p : Csp) (w : World) (k i n : ℕ) (m : Message) → Facts p w → n ≡ w.handed_up k i + 1 → IsRightData p w k i n m → reliable (hand_up p k i m w) ≡ deliver_at p (Some (k, i)) (reliable w)
handing_up p w k i n m h e d =
    let o = receive p i (next_number w.network) (w.network.agents i) k m in
    let rest = drop (suc (w.handed_up k i)) (w.network.links k i) in
    let at : n - 1 ≡ w.handed_up k i = omega arith in
    let head : drop (w.handed_up k i) (w.network.links k i) ≡ m ∷ rest = drop_get (w.network.links k i) (w.handed_up k i) m (ap (slice_get (w.network.links k i)) (sym at) ∙ d.message) in
    let now = facts_up p w k i n m h e d in
    let same : (a b : ℕ) → (reliable (hand_up p k i m w)).links a b ≡ (acted i o (left k i rest (reliable w))).links a b = λ a b.
    elim (a == i) as (λ c. drop (raised w.handed_up k i a b) (cond c (w.network.links a b ++ sent_to b o.sent) (w.network.links a b)) ≡ cond c ((left k i rest (reliable w)).links a b ++ sent_to b o.sent) ((left k i rest (reliable w)).links a b)) [
      | true ↦ drop-append-le (raised w.handed_up k i a b) (w.network.links a b) (sent_to b o.sent) (raised_within p w k i n m h e d a b) ∙ ap (λ l. l ++ sent_to b o.sent) (links_left w k i a b)
      | false ↦ links_left w k i a b
    ] in
    ap (λ (l : ℕ → ℕ → List Message). record (acted i o (left k i rest (reliable w))) { links = l }) (fun_ext (λ a. fun_ext (λ b. same a b)))
    ∙ sym (ap (λ (ms : List Message). deliver_head p k i ms (reliable w)) head)

In-flat_map : {X Y : Type 0} → (f : X → List Y) (x : X) (y : Y) (xs : List X) → In x xs → In y (f x) → In y (flat_map f xs)
In-flat_map f x y [] h u = absurd h
In-flat_map {X = X} f x y (z ∷ zs) (inl e) u = In-left y (f z) (flat_map f zs) (let P : X → Type 0 = λ w. In y (f w) in subst P e u)
In-flat_map f x y (z ∷ zs) (inr h) u = In-right y (f z) (flat_map f zs) (In-flat_map f x y zs h u)

pub pairs-In : (n k i : ℕ) → k < n → i < n → In (k, i) (pairs n)
pairs-In n k i lk li = In-flat_map (λ k. map (λ i. (k, i)) (below n)) k (k, i) (below n) (below-In n k lk) (In-map (λ (i : ℕ). (k, i)) i (below n) (below-In n i li))

-- the choice that delivers from the pair
choice_of : (p : Csp) (net : Network) (k i : ℕ) → k < count p → i < count p → is_empty (net.links k i) ≡ false → (c : ℕ) × (number_of p net (Some (k, i)) ≡ Some c) × (deliver p c net ≡ deliver_at p (Some (k, i)) net) × (c < length (ready p net))
choice_of p net k i lk li e =
    let here : In (k, i) (ready p net) = In-filter (λ (x : ℕ × ℕ). not (is_empty (net.links x.0 x.1))) (k, i) (pairs (count p)) (pairs-In (count p) k i lk li) (ap not e) in
    let t : ℕ × ℕ → Bool = λ x. k == x.0 && i == x.1 in
    let r = first_place t (k, i) (ready p net) here (and_both (k == k) (i == i) (grind (arith, nat_tests)) (grind (arith, nat_tests))) in
    let a : k ≡ r.1.0 = alike k r.1.0 (and_left _ _ r.4) in
    let b : i ≡ r.1.1 = alike i r.1.1 (and_right _ _ r.4) in
    let same : r.1 ≡ (k, i) = λ z. (sym a z, sym b z) in
    let small : r.0 % length (ready p net) ≡ r.0 = mod-eq_of_lt r.5 in
    (r.0, r.2, ap (λ (o : Option (ℕ × ℕ)). deliver_at p o net) (ap (slice_get (ready p net)) small ∙ r.3 ∙ ap Some same), r.5)
  where
    alike : (x y : ℕ) → (x == y) ≡ true → x ≡ y
    alike x y h = grind (arith, nat_tests)

-- one delivery
pub record Delivers (p : Csp) (w : World) (pair : Option (ℕ × ℕ)) (packet : Option Packet) (v : World) : Type 0 where
  pub up : HandsUpOne p w pair packet v
  pub data_is : IsRightData p w up.k up.i up.n up.m
  pub choice : ℕ
  pub number : number_of p (reliable w) pair ≡ Some choice
  pub small : choice < length (ready p (reliable w))
  pub waiting : is_empty ((reliable w).links up.k up.i) ≡ false
  pub next : reliable v ≡ deliver p choice (reliable w)
  pub counted : v.network.deliveries ≡ w.network.deliveries + 1

abbrev left_after : Network → (ℕ → ℕ → ℕ) → Network
left_after net counts = record net { links = λ k i. drop (counts k i) (net.links k i) }

delivers : (p : Csp) (w : World) (pair : Option (ℕ × ℕ)) (packet : Option Packet) (v : World) → Facts p w → ((x : Packet) → packet ≡ Some x → In x w.pool) → HandsUpOne p w pair packet v → Delivers p w pair packet v
delivers p w pair packet v h inside u =
    let d : IsRightData p w u.k u.i u.n u.m = h.packets (Data u.k u.i u.n u.m) (inside (Data u.k u.i u.n u.m) u.packet_is) in
    let at : u.n - 1 ≡ w.handed_up u.k u.i = let e = u.next in omega arith in
    let head = drop_get (w.network.links u.k u.i) (w.handed_up u.k u.i) u.m (ap (slice_get (w.network.links u.k u.i)) (sym at) ∙ d.message) in
    let c = choice_of p (reliable w) u.k u.i d.sender d.receiver (ap is_empty head) in
    record {
      up = u;
      data_is = d;
      choice = c.0;
      number = ap (number_of p (reliable w)) u.pair_is ∙ c.1;
      small = c.3;
      waiting = ap is_empty head;
      next = ap (λ (a : Network). left_after a v.handed_up) u.network ∙ ap (left_after (hand_up p u.k u.i u.m w).network) u.handed_up ∙ handing_up p w u.k u.i u.n u.m h u.next d ∙ sym c.2;
      counted = ap (λ (a : Network). a.deliveries) u.network;
    }

pub same_reliable : (w : World) (pair : Option (ℕ × ℕ)) (v : World) → HandsUpNone w pair v → reliable v ≡ reliable w
same_reliable w pair v n = ap (λ (a : Network). left_after a v.handed_up) n.network ∙ ap (left_after w.network) n.handed_up

pub moves : (p : Csp) (word : ℕ) (w : World) → Facts p w → HandsUpNone w (pair_of_event word w) (event p word w) ⊎ Delivers p w (pair_of_event word w) (coming word w.pool) (event p word w)
moves p word w h = elim (effect p word w) [ inl n ↦ inl n | inr u ↦ inr (delivers p w (pair_of_event word w) (coming word w.pool) (event p word w) h (λ x e. coming-In word x w.pool e) u) ]
