-- Each event keeps the facts on counts and packets.
use Rattle.std.proofs.Common.{◌≡◌, ℕ, ◌+◌, ◌-◌, ◌/◌, ◌%◌, ◌<◌, ◌≤◌, true, false, cond, inl, inr, List, [], ◌∷◌, ◌++◌, length, length-append, slice_get, Option, Some, None, ◌==◌, refl, sym, ap, ◌∙◌, subst, arith}
use Rattle.std.specs.Prelude.{nat_lt}
use Rattle.std.proofs.lemmas.Bool.Decides.{nat_tests, eqb_tells, leb_tells}
use Rattle.std.proofs.lemmas.Option.{slice_get_within}
use Rattle.dcsp_common.proofs.Items.{get_front}
use Rattle.dcsp_defs.specs.Words.{In, below}
use Rattle.dcsp_defs.specs.Csp.{Csp, count}
use Rattle.dcsp_defs.proofs.Lists.{In-split, In-below, filter-from, get-In}
use Rattle.law_agent.proofs.Runs.{In-pairs}
use Rattle.abt_defs.specs.Agents.{Message}
use Rattle.abt_defs.specs.Steps.{receive}
use Rattle.abt_defs.specs.Network.{next_number, pairs, sent_to}
use Rattle.law_runs.specs.Packets.{Packet, coming, staying, Data, Acknowledgement}
use Rattle.law_runs.specs.Worlds.{World, begin, raised, unacknowledged, add_packet, send_first, send_on, send, acknowledge, hand_up, arrive, come, event, after}
use Rattle.law_runs.specs.WorldFacts.{IsRightData, IsRightAcknowledgement, IsRight, Facts}
use Rattle.law_runs.specs.LossyLinks.{FactsHold}
use Rattle.law_runs.proofs.PacketLists.{In-staying, coming-In, raised_tells, raised_up, raised_here}

-- the lists keep their messages, and no count of what was handed up falls
record Grows (w v : World) : Type 0 where
  kept : (k i n : ℕ) (m : Message) → slice_get (w.network.links k i) n ≡ Some m → slice_get (v.network.links k i) n ≡ Some m
  longer : (k i : ℕ) → length (w.network.links k i) ≤ length (v.network.links k i)
  handed_up : (k i : ℕ) → w.handed_up k i ≤ v.handed_up k i

right_still : (p : Csp) (w v : World) → Grows w v → (x : Packet) → IsRight p w x → IsRight p v x
right_still p w v g (Data k i n m) h = record {
  sender = h.sender;
  receiver = h.receiver;
  from_one = h.from_one;
  sent = let a = h.sent in let b = g.longer k i in omega arith;
  not_later = let a = h.not_later in let b = g.handed_up k i in omega arith;
  message = g.kept k i (n - 1) m h.message;
}
right_still p w v g (Acknowledgement k i n) h = record { sender = h.sender; receiver = h.receiver; from_one = h.from_one; handed_up = let a = h.handed_up in let b = g.handed_up k i in omega arith }

-- other packets, and other counts of what is acknowledged, change no list
grows_beside : (w : World) (counts : ℕ → ℕ → ℕ) (pool : List Packet) → Grows w (record w { acknowledged = counts; pool = pool })
grows_beside w counts pool = record { kept = λ k i n m e. e; longer = λ k i. omega arith; handed_up = λ k i. omega arith }

-- with other packets, all of which are right
pub with_pool : (p : Csp) (w : World) (pool : List Packet) → Facts p w → ((x : Packet) → In x pool → IsRight p w x) → Facts p (record w { pool = pool })
with_pool p w pool h t = record { acknowledged = h.acknowledged; handed_up = h.handed_up; packets = λ x u. right_still p w (record w { pool = pool }) (grows_beside w w.acknowledged pool) x (t x u) }

pub facts_add_packet : (p : Csp) (w : World) (x : Packet) → Facts p w → IsRight p w x → Facts p (add_packet x w)
facts_add_packet p w x h t = with_pool p w (w.pool ++ x ∷ []) h (λ y u. elim (In-split y w.pool (x ∷ []) u) [
  | inl v ↦ h.packets y v
  | inr v ↦ elim v [ inl e ↦ subst (IsRight p w) (sym e) t | inr z ↦ absurd z ]
])

pub facts_acknowledge : (p : Csp) (w : World) (k i n : ℕ) → Facts p w → IsRightAcknowledgement p w k i n → Facts p (acknowledge k i n w)
facts_acknowledge p w k i n h t = elim w.network.refuted as (λ b. Facts p (cond b w (add_packet (Acknowledgement k i n) w))) [ true ↦ h | false ↦ facts_add_packet p w (Acknowledgement k i n) h t ]

grows_up : (p : Csp) (w : World) (k i : ℕ) (m : Message) → Grows w (hand_up p k i m w)
grows_up p w k i m =
    let o = receive p i (next_number w.network) (w.network.agents i) k m in
    record {
      kept = λ a b n x e. elim (a == i) as (λ c. slice_get (cond c (w.network.links a b ++ sent_to b o.sent) (w.network.links a b)) n ≡ Some x) [ true ↦ get_front (w.network.links a b) (sent_to b o.sent) n x e | false ↦ e ];
      longer = λ a b. elim (a == i) as (λ c. length (w.network.links a b) ≤ length (cond c (w.network.links a b ++ sent_to b o.sent) (w.network.links a b))) [ true ↦ let e = length-append (w.network.links a b) (sent_to b o.sent) in omega arith | false ↦ omega arith ];
      handed_up = λ a b. raised_up w.handed_up k i a b;
    }

pub facts_up : (p : Csp) (w : World) (k i n : ℕ) (m : Message) → Facts p w → n ≡ w.handed_up k i + 1 → IsRightData p w k i n m → Facts p (hand_up p k i m w)
facts_up p w k i n m h e d =
    let g = grows_up p w k i m in
    record {
      acknowledged = λ a b. let x = h.acknowledged a b in let y = g.handed_up a b in omega arith;
      handed_up = λ a b. elim (raised_tells w.handed_up k i a b) [
        | inl t ↦
            let x = d.sent in let y = g.longer k i in let z = t.2 in
            let s : length ((hand_up p k i m w).network.links a b) ≡ length ((hand_up p k i m w).network.links k i) = ap (λ c. length ((hand_up p k i m w).network.links c b)) t.0 ∙ ap (λ c. length ((hand_up p k i m w).network.links k c)) t.1 in
            omega arith
        | inr t ↦ let x = h.handed_up a b in let y = g.longer a b in omega arith
      ];
      packets = λ x u. right_still p w (hand_up p k i m w) g x (h.packets x u);
    }

facts_acknowledged : (p : Csp) (w : World) (k i n : ℕ) → Facts p w → n ≡ w.acknowledged k i + 1 → IsRightAcknowledgement p w k i n → Facts p (record w { acknowledged = raised w.acknowledged k i })
facts_acknowledged p w k i n h e d = record {
  acknowledged = λ a b. elim (raised_tells w.acknowledged k i a b) [
    | inl t ↦ let x = d.handed_up in let z = t.2 in let s : w.handed_up a b ≡ w.handed_up k i = ap (λ c. w.handed_up c b) t.0 ∙ ap (w.handed_up k) t.1 in omega arith
    | inr t ↦ let x = h.acknowledged a b in omega arith
  ];
  handed_up = h.handed_up;
  packets = λ x u. right_still p w (record w { acknowledged = raised w.acknowledged k i }) (grows_beside w (raised w.acknowledged k i) w.pool) x (h.packets x u);
}

pub facts_arrive : (p : Csp) (w : World) (x : Packet) → Facts p w → IsRight p w x → Facts p (arrive p x w)
facts_arrive p w (Data k i n m) h d = elim (eqb_tells n (w.handed_up k i + 1)) [
  | inl t ↦ rw t.0 (facts_acknowledge p (hand_up p k i m w) k i n (facts_up p w k i n m h t.1 d) (record { sender = d.sender; receiver = d.receiver; from_one = d.from_one; handed_up = let e = raised_here w.handed_up k i in let f : n ≡ w.handed_up k i + 1 = t.1 in omega arith }))
  | inr t ↦ rw t.0 (elim (leb_tells n (w.handed_up k i)) [
    | inl u ↦ rw u.0 (facts_acknowledge p w k i n h (record { sender = d.sender; receiver = d.receiver; from_one = d.from_one; handed_up = u.1 }))
    | inr u ↦ rw u.0 h
  ])
]
facts_arrive p w (Acknowledgement k i n) h d = elim (eqb_tells n (w.acknowledged k i + 1)) [
  | inl t ↦ rw t.0 (facts_acknowledged p w k i n h t.1 d)
  | inr t ↦ rw t.0 h
]

facts_come : (p : Csp) (w : World) (o : Option Packet) → Facts p w → ((x : Packet) → o ≡ Some x → IsRight p w x) → Facts p (come p o w)
facts_come p w None h t = h
facts_come p w (Some x) h t = facts_arrive p w x h (t x refl)

-- such a pair is of two agents of the problem, and has a message that is not acknowledged
pub is_unacknowledged : (p : Csp) (w : World) (x : ℕ × ℕ) → In x (unacknowledged p w) → (x.0 < count p) × (x.1 < count p) × (w.acknowledged x.0 x.1 < length (w.network.links x.0 x.1))
is_unacknowledged p w x u =
    let r = filter-from (λ (x : ℕ × ℕ). nat_lt (w.acknowledged x.0 x.1) (length (w.network.links x.0 x.1))) x (pairs (count p)) u in
    let q = In-pairs (count p) x (below (count p)) r.0 in
    let l : nat_lt (w.acknowledged x.0 x.1) (length (w.network.links x.0 x.1)) ≡ true = r.1 in
    (In-below (count p) x.0 q.1, In-below (count p) x.1 q.0, grind (arith, nat_tests))

-- data that is sent is right
pub sent_right : (p : Csp) (w : World) (k i : ℕ) (m : Message) → Facts p w → k < count p → i < count p → slice_get (w.network.links k i) (w.acknowledged k i) ≡ Some m → IsRightData p w k i (w.acknowledged k i + 1) m
sent_right p w k i m h lk li e =
    let l = slice_get_within (w.network.links k i) (w.acknowledged k i) m e in
    let s : w.acknowledged k i + 1 - 1 ≡ w.acknowledged k i = omega arith in
    record { sender = lk; receiver = li; from_one = omega arith; sent = omega arith; not_later = let a = h.acknowledged k i in omega arith; message = ap (slice_get (w.network.links k i)) s ∙ e }

facts_first : (p : Csp) (w : World) (k i : ℕ) (o : Option Message) → k < count p → i < count p → slice_get (w.network.links k i) (w.acknowledged k i) ≡ o → Facts p w → Facts p (send_first k i o w)
facts_first p w k i None lk li e h = h
facts_first p w k i (Some m) lk li e h = facts_add_packet p w (Data k i (w.acknowledged k i + 1) m) h (sent_right p w k i m h lk li e)

facts_on : (p : Csp) (w : World) (o : Option (ℕ × ℕ)) → ((x : ℕ × ℕ) → o ≡ Some x → In x (unacknowledged p w)) → Facts p w → Facts p (send_on o w)
facts_on p w None u h = h
facts_on p w (Some x) u h = let q = is_unacknowledged p w x (u x refl) in facts_first p w x.0 x.1 (slice_get (w.network.links x.0 x.1) (w.acknowledged x.0 x.1)) q.0 q.1 refl h

pub facts_event : (p : Csp) (word : ℕ) (w : World) → Facts p w → Facts p (event p word w)
facts_event p word w h = elim (word % 4 == 0) as (λ b. Facts p (cond b (send p (word / 4) w) (come p (coming word w.pool) (record w { pool = staying word w.pool })))) [
  | true ↦ facts_on p w (slice_get (unacknowledged p w) ((word / 4) % length (unacknowledged p w))) (λ x e. get-In (unacknowledged p w) _ x e) h
  | false ↦
      let rest : Facts p (record w { pool = staying word w.pool }) = with_pool p w (staying word w.pool) h (λ x u. h.packets x (In-staying word x w.pool u)) in
      facts_come p (record w { pool = staying word w.pool }) (coming word w.pool) rest (λ x e. right_still p w (record w { pool = staying word w.pool }) (grows_beside w w.acknowledged (staying word w.pool)) x (h.packets x (coming-In word x w.pool e)))
]

pub facts_after : (p : Csp) (words : List ℕ) (w : World) → Facts p w → Facts p (after p words w)
facts_after p [] w h = h
facts_after p (word ∷ words) w h = elim w.network.refuted as (λ b. Facts p (cond b w (after p words (event p word w)))) [
  | true ↦ h
  | false ↦ facts_after p words (event p word w) (facts_event p word w h)
]

pub facts_begin : (p : Csp) → Facts p (begin p)
facts_begin p = record { acknowledged = λ k i. omega arith; handed_up = λ k i. omega arith; packets = λ x u. absurd u }

pub facts_hold : (p : Csp) → FactsHold p
facts_hold p words = facts_after p words (begin p) (facts_begin p)
