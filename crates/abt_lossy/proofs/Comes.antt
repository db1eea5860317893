-- What comes by a word, in a pool with messages and in one without.
use Rattle.std.proofs.Common.{◌≡◌, ◌≢◌, ℕ, suc, ◌+◌, ◌/◌, ◌%◌, true, false, cond, inl, inr, List, ◌++◌, map, take, drop, slice_get, Option, Some, None, Result, Ok, Err, IfOk, ◌==◌, refl, sym, ap, ◌∙◌, subst}
use Rattle.std.specs.Option.{option_map}
use Rattle.std.specs.List.{remove}
use Rattle.std.proofs.lemmas.List.{length-map, take-map, drop-map, map-append}
use Rattle.std.proofs.lemmas.Option.{slice_get-map}
use Rattle.std.proofs.lemmas.Bool.Decides.{eqb_tells}
use Rattle.dcsp_defs.specs.Csp.{Csp}
use Rattle.law_runs.specs.Packets as packets
use Rattle.law_runs.specs.Packets.{place, coming, staying}
use Rattle.law_runs.specs.Worlds.{World, send, come, event}
use Rattle.law_runs.specs.Deliveries.{pair_of_packet, pair_of_event}
use Rattle.abt_lossy.specs.declared.pool.Packet.{Packet}
use Rattle.abt_lossy.specs.declared.pool.Packet.TheVariants.{Data, Acknowledgement}
use Rattle.abt_lossy.specs.declared.carrier.Carrier.{Carrier}
use Rattle.abt_lossy.specs.declared.carrier.Arrival.{Arrival}
use Rattle.abt_lossy.specs.declared.carrier.Arrival.TheVariants.{Done, Counted, Next}
use Rattle.abt_lossy.specs.Carries.{shape, handed_up_of, acknowledged_of, Carries, Arrives, IsArrival, Comes, IsComing}

coming-map : {X Y : Type 0} → (f : X → Y) (word : ℕ) (xs : List X) → coming word (map f xs) ≡ option_map f (coming word xs)
coming-map {Y = Y} f word xs =
    ap (λ n. cond {A = Option Y} (word % 4 == 3) None (slice_get (map f xs) ((word / 4) % n))) (length-map xs f)
    ∙ elim (word % 4 == 3) as (λ b. cond b None (slice_get (map f xs) (place word xs)) ≡ option_map f (cond b None (slice_get xs (place word xs)))) [
      | true ↦ refl
      | false ↦ slice_get-map f xs (place word xs)
    ]

remove-map : {X Y : Type 0} → (f : X → Y) (n : ℕ) (xs : List X) → remove (map f xs) n ≡ map f (remove xs n)
remove-map f n xs =
    ap (λ l. l ++ drop (suc n) (map f xs)) (take-map f n xs) ∙ ap (λ l. map f (take n xs) ++ l) (drop-map f (suc n) xs) ∙ sym (map-append f (take n xs) (drop (suc n) xs))

staying-map : {X Y : Type 0} → (f : X → Y) (word : ℕ) (xs : List X) → staying word (map f xs) ≡ map f (staying word xs)
staying-map f word xs =
    ap (λ n. cond (word % 4 == 2) (map f xs) (remove (map f xs) ((word / 4) % n))) (length-map xs f)
    ∙ elim (word % 4 == 2) as (λ b. cond b (map f xs) (remove (map f xs) (place word xs)) ≡ map f (cond b xs (remove xs (place word xs)))) [
      | true ↦ refl
      | false ↦ remove-map f (place word xs) xs
    ]

-- the carrier without the packet that leaves
stays : (w : World) (word : ℕ) (old new : Carrier) → Carries w old → new.counts ≡ old.counts → new.pool ≡ staying word old.pool → Carries (record w { pool = staying word w.pool }) new
stays w word old new h same e = record {
  handed_up = ap handed_up_of same ∙ h.handed_up;
  acknowledged = ap acknowledged_of same ∙ h.acknowledged;
  pool = e ∙ ap (staying word) h.pool ∙ staying-map shape word w.pool;
}

not_sent : (word : ℕ) → word % 4 ≢ 0 → (word % 4 == 0) ≡ false
not_sent word ne = elim (eqb_tells (word % 4) 0) [ inl t ↦ absurd (ne t.1) | inr t ↦ t.0 ]

none_of : {X Y : Type 0} → (f : X → Y) (o : Option X) → option_map f o ≡ None → o ≡ None
none_of f None h = refl
none_of f (Some x) h = cc

some_of : {X Y : Type 0} → (f : X → Y) (o : Option X) (y : Y) → option_map f o ≡ Some y → (x : X) × (o ≡ Some x) × (f x ≡ y)
some_of f None y h = cc
some_of f (Some x) y h = let e : f x ≡ y = cc in (x, refl, e)

-- the event by what comes
pub event_is : (p : Csp) (w : World) (word : ℕ) → word % 4 ≢ 0 → event p word w ≡ come p (coming word w.pool) (record w { pool = staying word w.pool })
event_is p w word ne = ap (λ b. cond b (send p (word / 4) w) (come p (coming word w.pool) (record w { pool = staying word w.pool }))) (not_sent word ne)

pair_is : (w : World) (word : ℕ) → word % 4 ≢ 0 → pair_of_event word w ≡ pair_of_packet w (coming word w.pool)
pair_is w word ne = ap (λ b. cond b None (pair_of_packet w (coming word w.pool))) (not_sent word ne)

same_pair : (w : World) (pool : List packets.Packet) (x : packets.Packet) → pair_of_packet w (Some x) ≡ pair_of_packet (record w { pool = pool }) (Some x)
same_pair w pool (packets.Data k i n m) = refl
same_pair w pool (packets.Acknowledgement k i n) = refl

next_number : (w : World) (x : packets.Packet) (k i n : ℕ) → pair_of_packet w (Some x) ≡ Some (k, i) → shape x ≡ Data k i n → n ≡ w.handed_up k i + 1
next_number w (packets.Data a b c m) k i n t s =
    let ea : a ≡ k = cc in let eb : b ≡ i = cc in let ec : c ≡ n = cc in
    elim (eqb_tells c (w.handed_up a b + 1)) [
      | inl u ↦ sym ec ∙ u.1 ∙ ap (λ z. w.handed_up z b + 1) ea ∙ ap (λ z. w.handed_up k z + 1) eb
      | inr u ↦ absurd (no_pair a b (k, i) (sym (ap (λ t. cond t (Some (a, b)) None) u.0) ∙ t))
    ]
  where
    no_pair : (a b : ℕ) (x : ℕ × ℕ) → None ≡ Some x → ⊥
    no_pair a b x e = cc
next_number w (packets.Acknowledgement a b c) k i n t s = cc

acknowledgement_of : (x : packets.Packet) (k i n : ℕ) → shape x ≡ Acknowledgement k i n → x ≡ packets.Acknowledgement k i n
acknowledgement_of (packets.Data a b c m) k i n s = cc
acknowledgement_of (packets.Acknowledgement a b c) k i n s =
    let ea : a ≡ k = cc in let eb : b ≡ i = cc in let ec : c ≡ n = cc in
    ap (λ z. packets.Acknowledgement z b c) ea ∙ ap (λ z. packets.Acknowledgement k z c) eb ∙ ap (λ z. packets.Acknowledgement k i z) ec

-- nothing comes
pub none_comes : (word : ℕ) (old new : Carrier) → word % 4 ≢ 0 → coming word old.pool ≡ None → new.counts ≡ old.counts → new.pool ≡ staying word old.pool → Comes word Done old new
none_comes word old new ne c same e p w f h =
    let n : coming word w.pool ≡ None = none_of shape (coming word w.pool) (sym (ap (coming word) h.pool ∙ coming-map shape word w.pool) ∙ c) in
    (pair_is w word ne ∙ ap (pair_of_packet w) n, subst (λ (v : World). Carries v new) (sym (event_is p w word ne ∙ ap (λ (o : Option packets.Packet). come p o (record w { pool = staying word w.pool })) n)) (stays w word old new h same e))

-- a packet comes
pub one_comes : (word : ℕ) (old mid new : Carrier) (packet : Packet) (arrival : Arrival) → word % 4 ≢ 0 → coming word old.pool ≡ Some packet → mid.counts ≡ old.counts → mid.pool ≡ staying word old.pool
    → Arrives packet arrival mid new → Comes word arrival old new
one_comes word old mid new packet arrival ne c same e a p w f h =
    let x = some_of shape (coming word w.pool) packet (sym (ap (coming word) h.pool ∙ coming-map shape word w.pool) ∙ c) in
    by_arrival x.0 x.1 arrival (a p (record w { pool = staying word w.pool }) x.0 x.2 f (stays w word old mid h same e))
  where
    by_arrival : (x : packets.Packet) → coming word w.pool ≡ Some x → (b : Arrival) → IsArrival p (record w { pool = staying word w.pool }) x b new → IsComing p w word b new
    by_arrival x e Done r = (pair_is w word ne ∙ ap (pair_of_packet w) e ∙ same_pair w (staying word w.pool) x ∙ r.0, subst (λ (v : World). Carries v new) (sym (event_is p w word ne ∙ ap (λ (o : Option packets.Packet). come p o (record w { pool = staying word w.pool })) e)) r.1)
    by_arrival x e (Counted k i n) r = (
      pair_is w word ne ∙ ap (pair_of_packet w) e ∙ same_pair w (staying word w.pool) x ∙ r.0,
      e ∙ ap Some (acknowledgement_of x k i n r.1),
      subst (λ (v : World). Carries v new) (sym (event_is p w word ne ∙ ap (λ (o : Option packets.Packet). come p o (record w { pool = staying word w.pool })) e)) r.2,
    )
    by_arrival x e (Next k i n) r =
        let t : pair_of_packet w (Some x) ≡ Some (k, i) = same_pair w (staying word w.pool) x ∙ r.0 in
        (pair_is w word ne ∙ ap (pair_of_packet w) e ∙ t, next_number w x k i n t r.1, r.2)

pub if_ok : {T E : Type 0} → (r : Result T E) (P Q : T → Type 0) → ((x : T) → P x → Q x) → IfOk r P → IfOk r Q
if_ok (Ok x) P Q g h = g x h
if_ok (Err x) P Q g h = tt
