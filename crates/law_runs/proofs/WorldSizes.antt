-- No count passes the number of events; calm events are the events of their words.
use Rattle.std.proofs.Common.{◌≡◌, ℕ, zero, suc, ◌+◌, ◌*◌, ◌/◌, ◌%◌, ◌≤◌, Bool, true, false, cond, ◌||◌, inl, inr, List, [], ◌∷◌, ◌++◌, length, length-append, take, drop, length-take, length-drop, slice_get, Option, Some, None, ◌==◌, refl, sym, ap, ◌∙◌, arith}
use Rattle.std.specs.Prelude.{nat_le}
use Rattle.std.specs.List.{remove}
use Rattle.std.proofs.lemmas.Bool.{cases_lt}
use Rattle.abt_defs.specs.Bound.{message_bound}
use Rattle.law_runs.proofs.CalmEvents.{calm_budget}
use Rattle.dcsp_defs.specs.Csp.{Csp}
use Rattle.abt_defs.specs.Agents.{Message}
use Rattle.abt_defs.specs.Network.{Network}
use Rattle.law_runs.specs.Packets.{Packet, place, coming, staying, Data, Acknowledgement}
use Rattle.law_runs.specs.Worlds.{World, begin, raised, unacknowledged, add_packet, send_first, send_on, send, acknowledge, hand_up, come, event, after}
use Rattle.law_runs.specs.LossyEnds.{is_quiet, has_verdict, calm_word, calm_words, calm}
use Rattle.law_runs.specs.WorldFacts.{Facts}
use Rattle.law_runs.specs.LossyLinks.{WorldIsSmall}
use Rattle.law_runs.specs.CalmEvents.{NoVerdictYet, CalmEvents}
use Rattle.law_runs.proofs.WorldFacts.{facts_event, facts_begin}
use Rattle.law_runs.proofs.Events.{moves}
use Rattle.law_runs.proofs.WorldRuns.{no_start}
use Rattle.law_runs.proofs.PacketLists.{raised_tells}

-- ---- the pool

one_more : (pool : List Packet) (x : Packet) → length (pool ++ x ∷ []) ≤ length pool + 1
one_more pool x = let e = length-append pool (x ∷ []) in omega arith

pool_acknowledge : (k i n : ℕ) (w : World) → length (acknowledge k i n w).pool ≤ length w.pool + 1
pool_acknowledge k i n w = elim w.network.refuted as (λ b. length (cond b w (add_packet (Acknowledgement k i n) w)).pool ≤ length w.pool + 1) [ true ↦ omega arith | false ↦ one_more w.pool (Acknowledgement k i n) ]

pool_come : (p : Csp) (o : Option Packet) (w : World) → length (come p o w).pool ≤ length w.pool + 1
pool_come p None w = omega arith
pool_come p (Some (Data k i n m)) w = elim (n == w.handed_up k i + 1) as (λ b. length (cond b (acknowledge k i n (hand_up p k i m w)) (cond (nat_le n (w.handed_up k i)) (acknowledge k i n w) w)).pool ≤ length w.pool + 1) [
  | true ↦ pool_acknowledge k i n (hand_up p k i m w)
  | false ↦ elim (nat_le n (w.handed_up k i)) as (λ b. length (cond b (acknowledge k i n w) w).pool ≤ length w.pool + 1) [ true ↦ pool_acknowledge k i n w | false ↦ omega arith ]
]
pool_come p (Some (Acknowledgement k i n)) w = elim (n == w.acknowledged k i + 1) as (λ b. length (cond b (record w { acknowledged = raised w.acknowledged k i }) w).pool ≤ length w.pool + 1) [ true ↦ omega arith | false ↦ omega arith ]

pool_send : (x : Option (ℕ × ℕ)) (w : World) → length (send_on x w).pool ≤ length w.pool + 1
pool_send None w = omega arith
pool_send (Some x) w = by_message (slice_get (w.network.links x.0 x.1) (w.acknowledged x.0 x.1))
  where
    by_message : (o : Option Message) → length (send_first x.0 x.1 o w).pool ≤ length w.pool + 1
    by_message None = omega arith
    by_message (Some m) = one_more w.pool (Data x.0 x.1 (w.acknowledged x.0 x.1 + 1) m)

removed : (pool : List Packet) (n : ℕ) → length (remove pool n) ≤ length pool
removed pool n = let a = length-append (take n pool) (drop (suc n) pool) in let b = length-take n pool in let c = length-drop (suc n) pool in omega arith

pool_event : (p : Csp) (word : ℕ) (w : World) → length (event p word w).pool ≤ length w.pool + 1
pool_event p word w = elim (word % 4 == 0) as (λ b. length (cond b (send p (word / 4) w) (come p (coming word w.pool) (record w { pool = staying word w.pool }))).pool ≤ length w.pool + 1) [
  | true ↦ pool_send (slice_get (unacknowledged p w) ((word / 4) % length (unacknowledged p w))) w
  | false ↦
      let c = pool_come p (coming word w.pool) (record w { pool = staying word w.pool }) in
      let s : length (staying word w.pool) ≤ length w.pool = elim (word % 4 == 2) as (λ b. length (cond b w.pool (remove w.pool (place word w.pool))) ≤ length w.pool) [ true ↦ omega arith | false ↦ removed w.pool (place word w.pool) ] in
      omega arith
]

pool_after : (p : Csp) (words : List ℕ) (w : World) → length (after p words w).pool ≤ length w.pool + length words
pool_after p [] w = omega arith
pool_after p (word ∷ words) w = let h = pool_after p words (event p word w) in let e = pool_event p word w in elim w.network.refuted as (λ b. length (cond b w (after p words (event p word w))).pool ≤ length w.pool + suc (length words)) [ true ↦ omega arith | false ↦ omega arith ]

-- ---- the counts

record SmallCounts (w : World) (n : ℕ) : Type 0 where
  deliveries : w.network.deliveries ≤ n
  handed_up : (k i : ℕ) → w.handed_up k i ≤ w.network.deliveries

small_counts_event : (p : Csp) (word n : ℕ) (w : World) → Facts p w → SmallCounts w n → SmallCounts (event p word w) (n + 1)
small_counts_event p word n w h m = elim (moves p word w h) [
  | inl o ↦ let d : (event p word w).network.deliveries ≡ w.network.deliveries = ap (λ (a : Network). a.deliveries) o.network in record {
    deliveries = let x = m.deliveries in omega arith;
    handed_up = λ k i. let e : (event p word w).handed_up k i ≡ w.handed_up k i = ap (λ (f : ℕ → ℕ → ℕ). f k i) o.handed_up in let x = m.handed_up k i in omega arith;
  }
  | inr o ↦ let d = o.counted in record {
    deliveries = let x = m.deliveries in omega arith;
    handed_up = λ k i.
        let e : (event p word w).handed_up k i ≡ raised w.handed_up o.up.k o.up.i k i = ap (λ (f : ℕ → ℕ → ℕ). f k i) o.up.handed_up in
        let x = m.handed_up k i in let y = m.handed_up o.up.k o.up.i in
        elim (raised_tells w.handed_up o.up.k o.up.i k i) [ inl t ↦ let z = t.2 in omega arith | inr t ↦ omega arith ];
  }
]

more_counts : (w : World) (m n : ℕ) → m ≤ n → SmallCounts w m → SmallCounts w n
more_counts w m n l h = record { deliveries = let x = h.deliveries in omega arith; handed_up = h.handed_up }

small_counts_after : (p : Csp) (words : List ℕ) (n : ℕ) (w : World) → Facts p w → SmallCounts w n → SmallCounts (after p words w) (n + length words)
small_counts_after p [] n w h m = more_counts w n (n + 0) (omega arith) m
small_counts_after p (word ∷ words) n w h m = elim w.network.refuted as (λ b. SmallCounts (cond b w (after p words (event p word w))) (n + suc (length words))) [
  | true ↦ more_counts w n (n + suc (length words)) (omega arith) m
  | false ↦ more_counts (after p words (event p word w)) (n + 1 + length words) (n + suc (length words)) (omega arith) (small_counts_after p words (n + 1) (event p word w) (facts_event p word w h) (small_counts_event p word n w h m))
]

pub world_is_small : (p : Csp) → WorldIsSmall p
world_is_small p words =
    let h = pool_after p words (begin p) in
    let z = no_start p in
    let m = small_counts_after p words 0 (begin p) (facts_begin p) (record { deliveries = omega arith; handed_up = λ k i. omega arith }) in
    record { pool = omega arith; deliveries = let x = m.deliveries in omega arith; handed_up = m.handed_up }

-- ---- calm events

no_refutation : (a b : Bool) → (a || b) ≡ false → a ≡ false
no_refutation true b h = cc
no_refutation false b h = refl

calm_after : (p : Csp) (n : ℕ) (w : World) → calm p n w ≡ after p (calm_words p n w) w
calm_after p zero w = refl
calm_after p (suc n) w =
    (elim (has_verdict p w) as (λ v. has_verdict p w ≡ v → cond v w (calm p n (event p (calm_word w) w)) ≡ after p (cond v [] (calm_word w ∷ calm_words p n (event p (calm_word w) w))) w) [
      | true ↦ λ e. refl
      | false ↦ λ e.
          calm_after p n (event p (calm_word w) w)
          ∙ sym (ap (λ b. cond b w (after p (calm_words p n (event p (calm_word w) w)) (event p (calm_word w) w))) (no_refutation w.network.refuted (is_quiet p w) e))
    ]) refl

calm_at_most : (p : Csp) (n : ℕ) (w : World) → length (calm_words p n w) ≤ n
calm_at_most p zero w = omega arith
calm_at_most p (suc n) w = let h = calm_at_most p n (event p (calm_word w) w) in elim (has_verdict p w) as (λ v. length (cond v [] (calm_word w ∷ calm_words p n (event p (calm_word w) w))) ≤ suc n) [ true ↦ omega arith | false ↦ omega arith ]

calm_more : (p : Csp) (n : ℕ) (w : World) → calm p (suc n) w ≡ cond (has_verdict p (calm p n w)) (calm p n w) (event p (calm_word (calm p n w)) (calm p n w))
calm_more p zero w = refl
calm_more p (suc n) w =
    (elim (has_verdict p w) as (λ v. has_verdict p w ≡ v → cond v w (calm p (suc n) (event p (calm_word w) w)) ≡ (let c = cond v w (calm p n (event p (calm_word w) w)) in cond (has_verdict p c) c (event p (calm_word c) c))) [
      | true ↦ λ e. sym (ap (λ b. cond b w (event p (calm_word w) w)) e)
      | false ↦ λ e. calm_more p n (event p (calm_word w) w)
    ]) refl

calm_all : (p : Csp) (n : ℕ) (w : World) → has_verdict p (calm p n w) ≡ false → length (calm_words p n w) ≡ n
calm_all p zero w h = refl
calm_all p (suc n) w h =
    (elim (has_verdict p w) as (λ v. has_verdict p w ≡ v → has_verdict p (cond v w (calm p n (event p (calm_word w) w))) ≡ false → length (cond v [] (calm_word w ∷ calm_words p n (event p (calm_word w) w))) ≡ suc n) [
      | true ↦ λ e g. let z : true ≡ false = sym e ∙ g in cc
      | false ↦ λ e g. ap suc (calm_all p n (event p (calm_word w) w) g)
    ]) refl h

pub calm_events : (p : Csp) → CalmEvents p
calm_events p n w = record { same = calm_after p n w; at_most = calm_at_most p n w; more = calm_more p n w; all_made = calm_all p n w }

-- ---- without a verdict

pub no_verdict_yet : (p : Csp) → NoVerdictYet p
no_verdict_yet p ok words n none =
    let small = (world_is_small p words).pool in
    let budget = calm_budget p ok words n in
    elim (cases_lt n (2 * length words + 3 * message_bound p)) [
      | inl l ↦ l
      | inr l ↦ let y : true ≡ false = sym (budget (omega arith)) ∙ none in cc
    ]
